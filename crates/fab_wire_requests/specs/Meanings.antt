-- What a request means: its body has a fault, or its path names nothing, or it is a command.
use Rattle.std.specs.Prelude.{ℕ, ◌≡◌, ◌⊎◌, List, IsUtf8}
use Rattle.fab_names.specs.Fabrics.{SpellsFabric}
use Rattle.fab_names.specs.Names.{SpellsName}
use Rattle.fab_names.specs.WorldWideNames.{SpellsWwn}
use Rattle.fab_names.specs.declared.fabric.Fabric.{Fabric}
use Rattle.fab_plans_base.specs.Steps.{PlanStep}
use Rattle.fab_plans_base.specs.Plans.{Spells}
use Rattle.fab_plans_text.specs.Faults.{IsPlanFault}
use Rattle.fab_plans_text.specs.declared.fault.PlanFault.{PlanFault}
use Rattle.fab_wire_requests.specs.Bodies.{SpellsHolder, SpellsVolume, SpellsNoHolder, SpellsNoVolume}
use Rattle.fab_wire_requests.specs.PortLists.{ListsPorts, IsFaultAt}
use Rattle.fab_desk_base.specs.declared.command.Query.TheVariants as query
use Rattle.fab_wire_base.specs.Parts.{part_at}
use Rattle.fab_wire_base.specs.Table.{form_of}
use Rattle.fab_wire_base.specs.declared.kinds.Kind.{Kind}
use Rattle.fab_wire_base.specs.declared.kinds.Form.{Form}
use Rattle.fab_wire_base.specs.declared.kinds.Form.TheVariants as form
use Rattle.fab_wire_requests.specs.Subjects.{subject_of, holder_of}
use Rattle.fab_wire_requests.specs.Commands.{Order, imports, puts_holder, puts_volume, stages, shows, order_of, order_at, query_in}
use Rattle.fab_wire_requests.specs.declared.paths.Subject.{Subject}
use Rattle.fab_wire_requests.specs.declared.paths.Subject.TheVariants as subject
use Rattle.fab_wire_requests.specs.declared.meant.Meant.{Meant}
use Rattle.fab_wire_requests.specs.declared.meant.Meant.TheVariants as meant

-- a command, a path that names nothing, or a bad body with the line of its first fault
pub data Meaning : Type 0 where
  asks : Order → Meaning
  unnamed : Meaning
  bad_body : ℕ → Meaning

-- ---- a body, and then a path

-- the body has its first fault at a line; or it gives something, and the path names nothing; or the command is made of what the body gives and what the path names
abbrev pub MeansBoth : {B P : Type 0} → (ℕ → Type 0) → (B → Type 0) → (P → Type 0) → (B → P → Order) → Meaning → Type 0
MeansBoth {B} {P} IsBadAt Gives Names make (asks order) = (b : B) × (p : P) × Gives b × Names p × (order ≡ make b p)
MeansBoth {B} {P} IsBadAt Gives Names make unnamed = ((b : B) × Gives b) × ((p : P) → ¬ (Names p))
MeansBoth {B} {P} IsBadAt Gives Names make (bad_body line) = IsBadAt line

-- the port list of a fabric
abbrev pub MeansImport : List ℕ → List ℕ → Meaning → Type 0
MeansImport target body = MeansBoth (IsFaultAt body) (ListsPorts body) (SpellsFabric (part_at 2 target)) (λ rows f. imports f rows)

-- the body is text, and spells the steps of a plan
abbrev pub GivesPlan : List ℕ → List PlanStep → Type 0
GivesPlan body steps = IsUtf8 body × Spells body steps

-- the body is no text, or its first fault as a plan is at the line
abbrev pub IsBadPlanAt : List ℕ → ℕ → Type 0
IsBadPlanAt body line = ((line ≡ 0) × ¬ (IsUtf8 body)) ⊎ ((fault : PlanFault) × IsUtf8 body × IsPlanFault body fault × (line ≡ fault.line))

-- the steps of a plan
abbrev pub MeansPlan : List ℕ → List ℕ → Meaning → Type 0
MeansPlan target body = MeansBoth (IsBadPlanAt body) (GivesPlan body) (SpellsName (part_at 2 target)) (λ steps n. stages n steps)

-- the ports and the tenant of a host or an array
abbrev pub GivesHolder : List ℕ → List ℕ × List ℕ → Type 0
GivesHolder body (ports, tenant) = SpellsHolder body ports tenant

-- the body of a host or an array, which has no lines
abbrev pub MeansHolder : Kind → List ℕ → List ℕ → Meaning → Type 0
MeansHolder k target body =
    MeansBoth (λ line. (line ≡ 0) × SpellsNoHolder body) (GivesHolder body) (SpellsName (part_at 2 target)) (λ b n. puts_holder (holder_of k) n b.1 b.0)

-- the body of a volume, which has no lines
abbrev pub MeansVolume : List ℕ → List ℕ → Meaning → Type 0
MeansVolume target body =
    MeansBoth (λ line. (line ≡ 0) × SpellsNoVolume body) (SpellsVolume body) (SpellsName (part_at 2 target)) (λ v n. puts_volume n v)

-- ---- a path alone

-- the path names nothing, or the command is made of what it names
abbrev pub MeansPath : {P : Type 0} → (P → Type 0) → (P → Order) → Meaning → Type 0
MeansPath {P} Names make (asks order) = (p : P) × Names p × (order ≡ make p)
MeansPath {P} Names make unnamed = (p : P) → ¬ (Names p)
MeansPath {P} Names make (bad_body line) = ⊥

-- the active zone set of a fabric
abbrev pub MeansFabric : List ℕ → Meaning → Type 0
MeansFabric target = MeansPath (SpellsFabric (part_at 2 target)) (λ f. shows (query.Active f))

-- a port
abbrev pub MeansPort : List ℕ → Meaning → Type 0
MeansPort target = MeansPath (SpellsWwn (part_at 2 target)) (λ p. shows (query.Port p))

-- the path names two ports
abbrev pub NamesPorts : List ℕ → ℕ × ℕ → Type 0
NamesPorts target (p, q) = SpellsWwn (part_at 2 target) p × SpellsWwn (part_at 3 target) q

-- whether two ports may communicate
abbrev pub MeansPorts : List ℕ → Meaning → Type 0
MeansPorts target = MeansPath (NamesPorts target) (λ p. shows (query.Joined p.0 p.1))

-- the path has a fabric and a name in it
abbrev pub NamesInFabric : List ℕ → Fabric × List ℕ → Type 0
NamesInFabric target (f, n) = SpellsFabric (part_at 2 target) f × SpellsName (part_at 3 target) n

-- an alias, a zone or a zone set
abbrev pub MeansInFabric : Kind → List ℕ → Meaning → Type 0
MeansInFabric k target = MeansPath (NamesInFabric target) (λ p. shows (query_in k p.0 p.1))

-- what has a name of its own
abbrev pub MeansNamed : Kind → List ℕ → Meaning → Type 0
MeansNamed k target = MeansPath (SpellsName (part_at 2 target)) (order_at k)

-- what a path alone means, by what it names
abbrev pub MeansByPath : Subject → Kind → List ℕ → Meaning → Type 0
MeansByPath subject.Fabric k target = MeansFabric target
MeansByPath subject.Port k target = MeansPort target
MeansByPath subject.Ports k target = MeansPorts target
MeansByPath subject.InFabric k target = MeansInFabric k target
MeansByPath subject.Named k target = MeansNamed k target

-- ---- a request

-- by the form of its body
abbrev pub MeansByForm : Form → Kind → List ℕ → List ℕ → Meaning → Type 0
MeansByForm form.Nothing k target body = MeansByPath (subject_of k) k target
MeansByForm form.PortList k target body = MeansImport target body
MeansByForm form.PlanText k target body = MeansPlan target body
MeansByForm form.Holder k target body = MeansHolder k target body
MeansByForm form.Volume k target body = MeansVolume target body

-- what a kind of request, its target and its body mean
abbrev pub Means : Kind → List ℕ → List ℕ → Meaning → Type 0
Means k target body = MeansByForm (form_of k) k target body

-- what is answered is what is meant, or there was no memory
abbrev pub IsMeantAs : {A : Type 0} → (Meaning → Type 0) → Meant A → Type 0
IsMeantAs IsMeaning (meant.Asks command) = IsMeaning (asks (order_of command))
IsMeantAs IsMeaning meant.Unnamed = IsMeaning unnamed
IsMeantAs IsMeaning (meant.BadBody line) = IsMeaning (bad_body line)
IsMeantAs IsMeaning meant.Memory = Unit {0}

-- the same of a kind, a target and a body
abbrev pub IsMeant : {A : Type 0} → Kind → List ℕ → List ℕ → Meant A → Type 0
IsMeant k target body answer = IsMeantAs (Means k target body) answer
