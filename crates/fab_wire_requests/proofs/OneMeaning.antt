-- A request means one thing at most.
use Rattle.std.proofs.Common.{ℕ, ◌≡◌, List, refl, sym, ap, ◌∙◌, inl, inr}
use Rattle.fab_names.specs.Names.{SpellsName}
use Rattle.fab_names.proofs.Unique.{one_fabric, one_wwn}
use Rattle.fab_inventory.specs.declared.holder.Volume.{Volume}
use Rattle.fab_plans_base.proofs.Unique.{one_plan}
use Rattle.fab_wire_requests.specs.Bodies.{SpellsVolume, SpellsNoHolder, SpellsNoVolume}
use Rattle.fab_wire_requests.proofs.ReadLemmas.{one-body}
use Rattle.fab_wire_requests.proofs.RecordLemmas.{one_listing}
use Rattle.fab_wire_requests.proofs.FaultLemmas.{no-fault, one_fault}
use Rattle.fab_wire_base.specs.Parts.{part_at}
use Rattle.fab_wire_base.specs.declared.kinds.Kind.{Kind}
use Rattle.fab_wire_base.specs.declared.kinds.Form.{Form}
use Rattle.fab_wire_base.specs.declared.kinds.Form.TheVariants as form
use Rattle.fab_wire_requests.specs.Subjects.{subject_of}
use Rattle.fab_wire_requests.specs.Commands.{Order}
use Rattle.fab_wire_requests.specs.Meanings.{Meaning, asks, unnamed, bad_body, MeansBoth, MeansPath, GivesPlan, IsBadPlanAt, GivesHolder, NamesPorts, NamesInFabric, MeansByPath, MeansByForm}
use Rattle.fab_wire_requests.specs.declared.paths.Subject.{Subject}
use Rattle.fab_wire_requests.specs.declared.paths.Subject.TheVariants as subject
use Rattle.fab_wire_requests.proofs.LineFaults.{no-plan-fault, one-plan-fault}

-- of this predicate there is one value at most
abbrev pub IsOne : {B : Type 0} → (B → Type 0) → Type 0
IsOne {B} P = (b c : B) → P b → P c → b ≡ c

-- what has a fault gives nothing
abbrev pub Excludes : {B : Type 0} → (ℕ → Type 0) → (B → Type 0) → Type 0
Excludes {B} Bad Gives = (line : ℕ) (b : B) → Bad line → Gives b → ⊥

-- a body and a path mean one thing, where each gives one
one-both : {B P : Type 0} (Bad : ℕ → Type 0) (Gives : B → Type 0) (Names : P → Type 0) (make : B → P → Order) → IsOne Bad → Excludes Bad Gives → IsOne Gives → IsOne Names
    → (m n : Meaning) → MeansBoth Bad Gives Names make m → MeansBoth Bad Gives Names make n → m ≡ n
one-both Bad Gives Names make line apart given named (asks o) (asks u) (b, p, g, h, e) (c, q, k, l, f) =
    let x : b ≡ c = given b c g k in
    let y : p ≡ q = named p q h l in
    ap asks (e ∙ (λ i. make (x i) (y i)) ∙ sym f)
one-both Bad Gives Names make line apart given named (asks o) unnamed (b, p, g, h, e) (k, none) = absurd (none p h)
one-both Bad Gives Names make line apart given named (asks o) (bad_body n) (b, p, g, h, e) k = absurd (apart n b k g)
one-both Bad Gives Names make line apart given named unnamed (asks u) (k, none) (b, p, g, h, e) = absurd (none p h)
one-both Bad Gives Names make line apart given named unnamed unnamed h k = refl
one-both Bad Gives Names make line apart given named unnamed (bad_body n) h k = absurd (apart n h.0.0 k h.0.1)
one-both Bad Gives Names make line apart given named (bad_body m) (asks u) h (b, p, g, k, e) = absurd (apart m b h g)
one-both Bad Gives Names make line apart given named (bad_body m) unnamed h k = absurd (apart m k.0.0 h k.0.1)
one-both Bad Gives Names make line apart given named (bad_body m) (bad_body n) h k = ap bad_body (line m n h k)

-- a path means one thing, where it names one
one-path : {P : Type 0} (Names : P → Type 0) (make : P → Order) → IsOne Names → (m n : Meaning) → MeansPath Names make m → MeansPath Names make n → m ≡ n
one-path Names make named (asks o) (asks u) (p, h, e) (q, k, f) = ap asks (e ∙ ap make (named p q h k) ∙ sym f)
one-path Names make named (asks o) unnamed (p, h, e) none = absurd (none p h)
one-path Names make named (asks o) (bad_body n) h k = absurd k
one-path Names make named unnamed (asks u) none (p, h, e) = absurd (none p h)
one-path Names make named unnamed unnamed h k = refl
one-path Names make named unnamed (bad_body n) h k = absurd k
one-path Names make named (bad_body m) n h k = absurd h

-- a text is one name at most
one-name : (text : List ℕ) → IsOne (SpellsName text)
one-name text n m h k = h.0 ∙ sym k.0

one-port-pair : (target : List ℕ) → IsOne (NamesPorts target)
one-port-pair target (p, q) (r, s) h k = let x : p ≡ r = one_wwn (part_at 2 target) p r h.0 k.0 in let y : q ≡ s = one_wwn (part_at 3 target) q s h.1 k.1 in λ i. (x i, y i)

one-in-fabric : (target : List ℕ) → IsOne (NamesInFabric target)
one-in-fabric target (f, n) (g, m) h k = let x : f ≡ g = one_fabric (part_at 2 target) f g h.0 k.0 in let y : n ≡ m = one-name (part_at 3 target) n m h.1 k.1 in λ i. (x i, y i)

-- the body of a plan
one-bad-plan : (body : List ℕ) → IsOne (IsBadPlanAt body)
one-bad-plan body m n (inl h) (inl k) = h.0 ∙ sym k.0
one-bad-plan body m n (inl h) (inr (g, text, k, e)) = absurd (h.1 text)
one-bad-plan body m n (inr (f, text, h, e)) (inl k) = absurd (k.1 text)
one-bad-plan body m n (inr (f, text, h, e)) (inr (g, text', k, e')) = e ∙ one-plan-fault body f g h k ∙ sym e'

no-bad-plan : (body : List ℕ) → Excludes (IsBadPlanAt body) (GivesPlan body)
no-bad-plan body line steps (inl h) k = h.1 k.0
no-bad-plan body line steps (inr (f, text, h, e)) k = no-plan-fault body steps f k.1 h

one-given-plan : (body : List ℕ) → IsOne (GivesPlan body)
one-given-plan body steps others h k = one_plan _ steps others h.1.lines k.1.lines

-- the body of a host or an array
one-given-holder : (body : List ℕ) → IsOne (GivesHolder body)
one-given-holder body (p, t) (q, u) h k = let same = one-body body p q t u h k in λ i. (same.0 i, same.1 i)

no-bad-holder : (body : List ℕ) → Excludes (λ line. (line ≡ 0) × SpellsNoHolder body) (GivesHolder body)
no-bad-holder body line (p, t) h k = h.1 p t k

-- a body without lines has a fault at none
one-whole : (Q : Type 0) → IsOne (λ (line : ℕ). (line ≡ 0) × Q)
one-whole Q m n h k = h.0 ∙ sym k.0

-- by what the path names
one-by-path : (s : Subject) (k : Kind) (target : List ℕ) (m n : Meaning) → MeansByPath s k target m → MeansByPath s k target n → m ≡ n
one-by-path subject.Fabric k target m n h l = one-path _ _ (one_fabric (part_at 2 target)) m n h l
one-by-path subject.Port k target m n h l = one-path _ _ (one_wwn (part_at 2 target)) m n h l
one-by-path subject.Ports k target m n h l = one-path _ _ (one-port-pair target) m n h l
one-by-path subject.InFabric k target m n h l = one-path _ _ (one-in-fabric target) m n h l
one-by-path subject.Named k target m n h l = one-path _ _ (one-name (part_at 2 target)) m n h l

-- by the form of the body
pub one-by-form : ((text : List ℕ) (volume other : Volume) → SpellsVolume text volume → SpellsVolume text other → volume ≡ other)
    → (f : Form) (k : Kind) (target body : List ℕ) (m n : Meaning) → MeansByForm f k target body m → MeansByForm f k target body n → m ≡ n
one-by-form volume form.Nothing k target body m n h l = one-by-path (subject_of k) k target m n h l
one-by-form volume form.PortList k target body m n h l =
    one-both _ _ _ _ (one_fault body) (λ line rows bad given. no-fault body rows line given bad) (one_listing body) (one_fabric (part_at 2 target)) m n h l
one-by-form volume form.PlanText k target body m n h l = one-both _ _ _ _ (one-bad-plan body) (no-bad-plan body) (one-given-plan body) (one-name (part_at 2 target)) m n h l
one-by-form volume form.Holder k target body m n h l =
    one-both _ _ _ _ (one-whole (SpellsNoHolder body)) (no-bad-holder body) (one-given-holder body) (one-name (part_at 2 target)) m n h l
one-by-form volume form.Volume k target body m n h l =
    one-both _ _ _ _ (one-whole (SpellsNoVolume body)) (λ line v bad given. bad.1 v given) (volume body) (one-name (part_at 2 target)) m n h l
