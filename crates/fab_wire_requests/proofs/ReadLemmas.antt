-- What values spell, and which members an object has.
use Rattle.std.proofs.Common.{◌≡◌, ◌≢◌, ℕ, zero, suc, ◌+◌, ◌<◌, ◌≤◌, List, [], ◌∷◌, ◌++◌, length, get_or, drop, refl, sym, ap, ◌∙◌, subst, append_assoc, add-one, arith}
use Rattle.std.specs.Prelude.{codes, Result, Ok, Err, IfErr, Some, None, slice_get, string_bytes, String, ◌-◌, option_and_then}
use Rattle.std.proofs.Common.{Global}
use Rattle.serde_json.specs.Data.{Data, unsigned, negative, float, null, boolean, number, string, array, object, Items, no_items, item, Members, no_members, member}
use Rattle.serde_json.specs.Find.{get, as_str, as_array, as_object, as_u64, as_number}
use Rattle.std.proofs.Common.{Ordering, Less, Equal, Greater, is_eq, nat_cmp}
use Rattle.std.specs.Ordering.{match_ordering}
use Rattle.std.specs.Cmp.Lexicographic.{slice_cmp}
use Rattle.std.proofs.lemmas.Map.Text.{is_eq-slice_cmp}
use Rattle.std.proofs.lemmas.Slice.Eq.{bytes_eq-Decides}
use Rattle.fab_names.specs.Names.{IsNameText}
use Rattle.fab_names.specs.WorldWideNames.{SpellsWwn}
use Rattle.serde_json.specs.Read.{read}
use Rattle.json.specs.Json as json
use Rattle.json.specs.Lex as lex
use Rattle.serde_json.specs.View.{view, items_view, members_view}
use Rattle.serde_json.specs.declared.value.Value.{Value}
use Rattle.fab_inventory.specs.Limits.{most_ports_of_holder}
use Rattle.fab_names.proofs.Unique.{one_wwn}
use Rattle.fab_wire_requests.specs.declared.fault.BodyFault.{BodyFault}
use Rattle.fab_wire_requests.specs.declared.fault.BodyFault.TheVariants.{Bad, Memory}
use Rattle.fab_wire_requests.specs.Bodies.{IsFault, HasValue, SpellsHolder, SpellsNoHolder}
use Rattle.fab_wire_requests.specs.Values.{IsPort, SpellsPorts, ArePorts, IsName}

-- what was read of the values, and what is left
pub record ReadSoFar (values : List Value) (i : ℕ) (ports : List ℕ) : Type 0 where
  pub onward : (rest : List ℕ) → SpellsPorts (items_view (drop i values)) rest → SpellsPorts (items_view values) (ports ++ rest)
  pub back : (all : List ℕ) → SpellsPorts (items_view values) all → (rest : List ℕ) × SpellsPorts (items_view (drop i values)) rest

pub none-read : (values : List Value) → ReadSoFar values 0 []
none-read values = record { onward = λ rest h. h; back = λ all h. (all, h) }

cut-suc : (values : List Value) (i : ℕ) (d : Value) → i < length values → items_view (drop i values) ≡ item (view (get_or values i d)) (items_view (drop (suc i) values))
cut-suc [] i d h = absurd (omega arith)
cut-suc (x ∷ values) zero d h = refl
cut-suc (x ∷ values) (suc i) d h = cut-suc values i d (omega arith)

pub cut : (values : List Value) (i : ℕ) (d : Value) → i < length values → items_view (drop i values) ≡ item (view (get_or values i d)) (items_view (drop (i + 1) values))
cut values i d h = rw add-one (cut-suc values i d h)

tail-of : (d : Data) (ds : Items) (rest : List ℕ) → SpellsPorts (item d ds) rest → (more : List ℕ) × SpellsPorts ds more
tail-of d ds [] h = absurd h
tail-of d ds (p ∷ ps) h = (ps, h.1)

head-of : (d : Data) (ds : Items) (rest : List ℕ) → SpellsPorts (item d ds) rest → (p : ℕ) × IsPort d p
head-of d ds [] h = absurd h
head-of d ds (p ∷ ps) h = (p, h.0)

pub one-more : (values : List Value) (i : ℕ) (d : Value) (ports : List ℕ) (p : ℕ) → i < length values → IsPort (view (get_or values i d)) p → ReadSoFar values i ports → ReadSoFar values (i + 1) (ports ++ p ∷ [])
one-more values i d ports p h k r = record {
  onward = λ rest s. subst (λ (t : List ℕ). SpellsPorts (items_view values) t) (sym (append_assoc ports (p ∷ []) rest))
      (r.onward (p ∷ rest) (subst (λ (t : Items). SpellsPorts t (p ∷ rest)) (sym (cut values i d h)) (k, s)));
  back = λ all s. let b = r.back all s in tail-of (view (get_or values i d)) (items_view (drop (i + 1) values)) b.0 (subst (λ (t : Items). SpellsPorts t b.0) (cut values i d h) b.1);
}

pub none-spelled : (values : List Value) (i : ℕ) (d : Value) (ports all : List ℕ) → i < length values → ((p : ℕ) → ¬ (IsPort (view (get_or values i d)) p)) → ReadSoFar values i ports → ¬ (SpellsPorts (items_view values) all)
none-spelled values i d ports all h k r s =
    let b = r.back all s in
    let f = head-of (view (get_or values i d)) (items_view (drop (i + 1) values)) b.0 (subst (λ (t : Items). SpellsPorts t b.0) (cut values i d h) b.1) in
    k f.0 f.1

drop-all : (i : ℕ) (values : List Value) → length values ≤ i → drop i values ≡ []
drop-all zero [] h = refl
drop-all (suc i) [] h = refl
drop-all zero (x ∷ xs) h = absurd (omega arith)
drop-all (suc i) (x ∷ xs) h = drop-all i xs (omega arith)

pub all-read : (values : List Value) (i : ℕ) (ports : List ℕ) → length values ≤ i → ReadSoFar values i ports → SpellsPorts (items_view values) (ports ++ [])
all-read values i ports h r = r.onward [] (rw (drop-all i values h) tt)

pub string-is : (d : Data) (t : List ℕ) → Some t ≡ as_str d → d ≡ string t
string-is null t e = cc
string-is (boolean b) t e = cc
string-is (number n) t e = cc
string-is (string s) t e = cc
string-is (array ds) t e = cc
string-is (object ms) t e = cc

pub whole-is : (d : Data) (n : ℕ) → Some n ≡ option_and_then as_u64 (as_number d) → d ≡ number (unsigned n)
whole-is null n e = cc
whole-is (boolean b) n e = cc
whole-is (number (unsigned m)) n e = cc
whole-is (number (negative z)) n e = cc
whole-is (number (float x)) n e = cc
whole-is (string s) n e = cc
whole-is (array ds) n e = cc
whole-is (object ms) n e = cc

-- a string has one text, and a whole number one value
pub one-text : (d : Data) (t u : List ℕ) → Some t ≡ as_str d → d ≡ string u → t ≡ u
one-text d t u e h = let k : Some t ≡ Some u = e ∙ ap as_str h in cc

pub one-whole : (d : Data) (n m : ℕ) → Some n ≡ option_and_then as_u64 (as_number d) → d ≡ number (unsigned m) → n ≡ m
one-whole d n m e h = let k : Some n ≡ Some m = e ∙ ap (λ (x : Data). option_and_then as_u64 (as_number x)) h in cc

pub none-whole : (d : Data) (m : ℕ) → None ≡ option_and_then as_u64 (as_number d) → ¬ (d ≡ number (unsigned m))
none-whole d m e h = let k : None ≡ Some m = e ∙ ap (λ (x : Data). option_and_then as_u64 (as_number x)) h in cc

pub none-text : (d : Data) (u : List ℕ) → None ≡ as_str d → ¬ (d ≡ string u)
none-text d u e h = let k : None ≡ Some u = e ∙ ap as_str h in cc

-- a text that spells no world-wide name is none, and one that is no name is none
pub not-port : (d : Data) (t : List ℕ) → Some t ≡ as_str d → ((n : ℕ) → ¬ (SpellsWwn t n)) → (p : ℕ) → ¬ (IsPort d p)
not-port d t e none p h = none p (subst (λ (x : List ℕ). SpellsWwn x p) (sym (one-text d t h.text e h.is)) h.spells)

pub not-name : (d : Data) (t : List ℕ) → Some t ≡ as_str d → ¬ (IsNameText t) → (n : List ℕ) → ¬ (IsName d n)
not-name d t e none n h = none (subst (λ (x : List ℕ). IsNameText x) (sym (one-text d t n e h.is)) h.text)

pub array-is : (d : Data) (items : Items) → Some items ≡ as_array d → d ≡ array items
array-is null items e = cc
array-is (boolean b) items e = cc
array-is (number n) items e = cc
array-is (string s) items e = cc
array-is (array ds) items e = cc
array-is (object ms) items e = cc

pub object-is : (d : Data) (ms : Members) → Some ms ≡ as_object d → d ≡ object ms
object-is null ms e = cc
object-is (boolean b) ms e = cc
object-is (number n) ms e = cc
object-is (string s) ms e = cc
object-is (array ds) ms e = cc
object-is (object os) ms e = cc

pub ports-length : (vs : List Value) (ps : List ℕ) → SpellsPorts (items_view vs) ps → length ps ≡ length vs
ports-length [] [] h = refl
ports-length [] (p ∷ ps) h = absurd h
ports-length (v ∷ vs) [] h = absurd h
ports-length (v ∷ vs) (p ∷ ps) h = ap suc (ports-length vs ps h.1)

-- a list that is too long spells no ports
pub too-many : (d : Data) (vs : List Value) → Some (items_view vs) ≡ as_array d → most_ports_of_holder < length vs → (ps : List ℕ) → ¬ (ArePorts d ps)
too-many d vs e long ps h =
    let is : d ≡ array (items_view vs) = array-is d (items_view vs) e in
    let same : h.items ≡ items_view vs = let k = h.is in cc in
    let n : length ps ≡ length vs = ports-length vs ps (subst (λ (t : Items). SpellsPorts t ps) same h.spells) in
    omega (arith, h.few)

pub are-ports : (d : Data) (vs : List Value) (ps : List ℕ) → Some (items_view vs) ≡ as_array d → length vs ≤ most_ports_of_holder → SpellsPorts (items_view vs) ps → ArePorts d ps
are-ports d vs ps e short h =
    let n = ports-length vs ps h in
    record { items = items_view vs; is = array-is d (items_view vs) e; spells = h; few = omega arith }

pub not-ports : (d : Data) (vs : List Value) → Some (items_view vs) ≡ as_array d → ((ps : List ℕ) → ¬ (SpellsPorts (items_view vs) ps)) → (ps : List ℕ) → ¬ (ArePorts d ps)
not-ports d vs e none ps h =
    let is : d ≡ array (items_view vs) = array-is d (items_view vs) e in
    let same : h.items ≡ items_view vs = let k = h.is in cc in
    none ps (subst (λ (t : Items). SpellsPorts t ps) same h.spells)

abbrev Entry : Type 0
Entry = String Global × Value

count : (es : List Entry) (f s : List ℕ) (a b : Data) → members_view es ≡ member f a (member s b no_members) → length es ≡ 2
count [] f s a b h = cc
count (x ∷ []) f s a b h = cc
count (x ∷ y ∷ []) f s a b h = refl
count (x ∷ y ∷ z ∷ es) f s a b h = cc

-- an object of two members has two entries
pub two-entries : (d : Data) (es : List Entry) (f s : List ℕ) → Some (members_view es) ≡ as_object d → (a b : Data) → d ≡ object (member f a (member s b no_members)) → length es ≡ 2
two-entries d es f s e a b h =
    let k : Some (members_view es) ≡ Some (member f a (member s b no_members)) = e ∙ ap as_object h in
    count es f s a b (let m : members_view es ≡ member f a (member s b no_members) = cc in m)

-- the first and the last of two entries are the members
pub members-are : (d : Data) (es : List Entry) (p q : Entry) → Some (members_view es) ≡ as_object d → length es ≡ 2 → slice_get es 0 ≡ Some p → slice_get es (length es - 1) ≡ Some q
    → d ≡ object (member (string_bytes p.0) (view p.1) (member (string_bytes q.0) (view q.1) no_members))
members-are d [] p q e n h k = absurd (omega arith)
members-are d (x ∷ []) p q e n h k = absurd (omega arith)
members-are d (x ∷ y ∷ []) p q e n h k =
    let f : x ≡ p = cc in
    let g : y ≡ q = cc in
    object-is d (members_view (x ∷ y ∷ [])) e ∙ ap (λ (t : Entry). object (member (string_bytes t.0) (view t.1) (member (string_bytes y.0) (view y.1) no_members))) f
    ∙ ap (λ (t : Entry). object (member (string_bytes p.0) (view p.1) (member (string_bytes t.0) (view t.1) no_members))) g
members-are d (x ∷ y ∷ z ∷ es) p q e n h k = absurd (omega arith)

pub fault-then : {V : Type 0} (r : Result V BodyFault) (P Q : Type 0) → (P → Q) → IfErr r (IsFault P) → IfErr r (IsFault Q)
fault-then (Ok v) P Q f h = tt
fault-then (Err Bad) P Q f h = f h
fault-then (Err Memory) P Q f h = tt

-- the keys of two entries are those of the members
pub keys-are : (d : Data) (es : List Entry) (p q : Entry) (f s : List ℕ) (a b : Data) → Some (members_view es) ≡ as_object d → length es ≡ 2 → slice_get es 0 ≡ Some p → slice_get es (length es - 1) ≡ Some q
    → d ≡ object (member f a (member s b no_members)) → (string_bytes p.0 ≡ f) × (string_bytes q.0 ≡ s)
keys-are d es p q f s a b e n h k is =
    let m : object (member (string_bytes p.0) (view p.1) (member (string_bytes q.0) (view q.1) no_members)) ≡ object (member f a (member s b no_members)) = sym (members-are d es p q e n h k) ∙ is in
    (cc, cc)

pub three-entries : (d : Data) (es : List Entry) (f g h : List ℕ) → Some (members_view es) ≡ as_object d → (a b c : Data) → d ≡ object (member f a (member g b (member h c no_members))) → length es ≡ 3
three-entries d es f g h e a b c is =
    let k : Some (members_view es) ≡ Some (member f a (member g b (member h c no_members))) = e ∙ ap as_object is in
    count-three es f g h a b c (let m : members_view es ≡ member f a (member g b (member h c no_members)) = cc in m)
  where
    count-three : (es : List Entry) (f g h : List ℕ) (a b c : Data) → members_view es ≡ member f a (member g b (member h c no_members)) → length es ≡ 3
    count-three [] f g h a b c k = cc
    count-three (x ∷ []) f g h a b c k = cc
    count-three (x ∷ y ∷ []) f g h a b c k = cc
    count-three (x ∷ y ∷ z ∷ []) f g h a b c k = refl
    count-three (x ∷ y ∷ z ∷ w ∷ es) f g h a b c k = cc

-- the first, some middle one, and the last of three entries are the members
pub three-are : (d : Data) (es : List Entry) (p q : Entry) → Some (members_view es) ≡ as_object d → length es ≡ 3 → slice_get es 0 ≡ Some p → slice_get es (length es - 1) ≡ Some q
    → (k : List ℕ) × (v : Data) × (d ≡ object (member (string_bytes p.0) (view p.1) (member k v (member (string_bytes q.0) (view q.1) no_members))))
three-are d [] p q e n h k = absurd (omega arith)
three-are d (x ∷ []) p q e n h k = absurd (omega arith)
three-are d (x ∷ y ∷ []) p q e n h k = absurd (omega arith)
three-are d (x ∷ y ∷ z ∷ []) p q e n h k =
    let f : x ≡ p = cc in
    let g : z ≡ q = cc in (
      string_bytes y.0,
      view y.1,
      object-is d (members_view (x ∷ y ∷ z ∷ [])) e
          ∙ ap (λ (t : Entry). object (member (string_bytes t.0) (view t.1) (member (string_bytes y.0) (view y.1) (member (string_bytes z.0) (view z.1) no_members)))) f
          ∙ ap (λ (t : Entry). object (member (string_bytes p.0) (view p.1) (member (string_bytes y.0) (view y.1) (member (string_bytes t.0) (view t.1) no_members)))) g,
    )
three-are d (x ∷ y ∷ z ∷ w ∷ es) p q e n h k = absurd (omega arith)

middle : (o : Ordering) (v w : Data) → match_ordering o None (Some v) None ≡ Some w → (o ≡ Equal) × (v ≡ w)
middle Less v w e = cc
middle Equal v w e = (refl, cc)
middle Greater v w e = cc

same-key : (a b : List ℕ) → slice_cmp nat_cmp a b ≡ Equal → a ≡ b
same-key a b e = (bytes_eq-Decides a b).0 (sym (is_eq-slice_cmp a b) ∙ ap is_eq e)

-- what is found between `array` and `tenant` is at `bytes`
pub bytes-are : (d : Data) (a v c w : Data) (k : List ℕ) → d ≡ object (member (codes "array") a (member k v (member (codes "tenant") c no_members))) → get (codes "bytes") d ≡ Some w
    → d ≡ object (member (codes "array") a (member (codes "bytes") w (member (codes "tenant") c no_members)))
bytes-are d a v c w k is found =
    let g : match_ordering (slice_cmp nat_cmp (codes "bytes") k) None (Some v) None ≡ Some w = sym (ap (λ (t : Data). get (codes "bytes") t) is) ∙ found in
    let m = middle (slice_cmp nat_cmp (codes "bytes") k) v w g in
    let key : codes "bytes" ≡ k = same-key (codes "bytes") k m.0 in
    is ∙ ap (λ (t : List ℕ). object (member (codes "array") a (member t v (member (codes "tenant") c no_members)))) (sym key)
    ∙ ap (λ (t : Data). object (member (codes "array") a (member (codes "bytes") t (member (codes "tenant") c no_members)))) m.1

pub outer-keys : (k f g h i : List ℕ) (l : List ℕ) (a b c x y z : Data) → object (member k a (member l b (member f c no_members))) ≡ object (member g x (member h y (member i z no_members))) → (k ≡ g) × (f ≡ i)
outer-keys k f g h i l a b c x y z e = (cc, cc)

-- items, and values, spell one list of world-wide names at most
one-port : (d : Data) (p q : ℕ) → IsPort d p → IsPort d q → p ≡ q
one-port d p q h k =
    let e : string h.text ≡ string k.text = sym h.is ∙ k.is in
    let same : h.text ≡ k.text = cc in
    one_wwn h.text p q h.spells (subst (λ (t : List ℕ). SpellsWwn t q) (sym same) k.spells)

one-list-spelled : (ds : Items) (ps qs : List ℕ) → SpellsPorts ds ps → SpellsPorts ds qs → ps ≡ qs
one-list-spelled no_items [] [] h k = refl
one-list-spelled no_items [] (q ∷ qs) h k = absurd k
one-list-spelled no_items (p ∷ ps) qs h k = absurd h
one-list-spelled (item d ds) [] qs h k = absurd h
one-list-spelled (item d ds) (p ∷ ps) [] h k = absurd k
one-list-spelled (item d ds) (p ∷ ps) (q ∷ qs) h k =
    let e = one-port d p q h.0 k.0 in
    let f = one-list-spelled ds ps qs h.1 k.1 in
    cc

pub one-ports : (d : Data) (ps qs : List ℕ) → ArePorts d ps → ArePorts d qs → ps ≡ qs
one-ports d ps qs h k =
    let e : array h.items ≡ array k.items = sym h.is ∙ k.is in
    let same : h.items ≡ k.items = cc in
    one-list-spelled h.items ps qs h.spells (subst (λ (t : Items). SpellsPorts t qs) (sym same) k.spells)

pub one-name : (d : Data) (n m : List ℕ) → IsName d n → IsName d m → n ≡ m
one-name d n m h k = let e : string n ≡ string m = sym h.is ∙ k.is in cc

-- one text is of one holder
pub one-body : (text ps qs t u : List ℕ) → SpellsHolder text ps t → SpellsHolder text qs u → (ps ≡ qs) × (t ≡ u)
one-body text ps qs t u h k =
    let e : Some (object (member (codes "ports") h.first (member (codes "tenant") h.second no_members))) ≡ Some (object (member (codes "ports") k.first (member (codes "tenant") k.second no_members))) = sym h.is.1 ∙ k.is.1 in
    let first : h.first ≡ k.first = cc in
    let second : h.second ≡ k.second = cc in (
      one-ports h.first ps qs h.are_ports (subst (λ (d : Data). ArePorts d qs) (sym first) k.are_ports),
      one-name h.second t u h.is_tenant (subst (λ (d : Data). IsName d u) (sym second) k.is_tenant),
    )

pub fault-of : (f : BodyFault) (P Q : Type 0) → (P → Q) → IsFault P f → IsFault Q f
fault-of Bad P Q g h = g h
fault-of Memory P Q g h = tt

-- an object whose ports are none is of no holder
pub no-holder : (text : List ℕ) (v d s : Data) → HasValue text v → v ≡ object (member (codes "ports") d (member (codes "tenant") s no_members)) → ((ps : List ℕ) → ¬ (ArePorts d ps)) → SpellsNoHolder text
no-holder text v d s has is none ps t h =
    let e : Some v ≡ Some (object (member (codes "ports") h.first (member (codes "tenant") h.second no_members))) = sym has.1 ∙ h.is.1 in
    let same : h.first ≡ d = cc in
    none ps (subst (λ (x : Data). ArePorts x ps) same h.are_ports)

-- no value is read of the empty text
empty-none : read [] ≡ None
unfolding json.value lex.lex lex.punctuate
empty-none = refl

pub not-empty : (text : List ℕ) (v : Data) → HasValue text v → text ≢ []
not-empty text v h e = let k : None ≡ Some v = sym empty-none ∙ subst (λ (t : List ℕ). read t ≡ Some v) e h.1 in cc
