-- A value with a fault means nothing.
use Rattle.std.proofs.Common.{◌≡◌, ℕ, ◌<◌, zero, suc, List, [], ◌∷◌, length, Option, Some, None, IsSome, sym, subst, ◌∙◌, refl, arith, inl, inr, ◌⊎◌}
use Rattle.std.specs.Prelude.{IsSomeAnd, MatchOption}
use mathlib.Core.Bool.{true≢false}
use Rattle.toml.specs.Data.{Data, Items, no_items, item, Members, get_item, get_member, as_table}
use Rattle.fab_policy_text.specs.Shapes.{At, MaybeAt, EachMeans, IsList, ListAt, IsTable, IsWord, HasOnly, MeansNothing, FaultAt, FaultIn, ItemFault, ListFault, TableFault, WordFault, HasOther}
use Rattle.fab_policy_base.specs.Words.{key_word}
use Rattle.fab_policy_base.specs.declared.fault.PolicyFault.{PolicyFault}
use Rattle.fab_policy_base.specs.declared.fault.PolicyFault.TheVariants.{Missing, WrongType, Unknown, Limit}
use Rattle.fab_policy_base.specs.declared.key.Key.{Key}

-- no value has the fault and means something
abbrev pub Excludes : {X : Type 0} → (Data → PolicyFault → Type 0) → (Data → X → Type 0) → Type 0
Excludes {X} Fault Means = (d : Data) (e : PolicyFault) (x : X) → Fault d e → Means d x → ⊥

-- the same of tables
abbrev pub ExcludesTable : {X : Type 0} → (Members → PolicyFault → Type 0) → (Members → X → Type 0) → Type 0
ExcludesTable {X} Fault Means = (ms : Members) (e : PolicyFault) (x : X) → Fault ms e → Means ms x → ⊥

pub nothing : {X : Type 0} (Means : Data → X → Type 0) (key : Key) → Excludes (MeansNothing Means key) Means
nothing Means key d e x f h = f.1 x h

required : {X : Type 0} (N : Type 0) (F : Data → PolicyFault → Type 0) (R : Data → X → Type 0) → Excludes F R → (o : Option Data) (e : PolicyFault) (x : X) → MatchOption o N (λ d. F d e) → IsSomeAnd o (λ d. R d x) → ⊥
required N F R clash None e x f h = h
required N F R clash (Some d) e x f h = clash d e x f h

-- at a key that is asked for
pub at : {X : Type 0} (key : Key) (F : Key → Data → PolicyFault → Type 0) (R : Data → X → Type 0) → Excludes (F key) R → ExcludesTable (FaultAt key F) (At key R)
at key F R clash ms e x f h = required (e ≡ Missing key) (F key) R clash (get_member (key_word key) ms) e x f h

maybe_cases : {X : Type 0} (F : Data → PolicyFault → Type 0) (R : Data → X → Type 0) → Excludes F R → (o : Option Data) (e : PolicyFault) (x : Option X) → IsSomeAnd o (λ d. F d e) → MatchOption o (x ≡ None) (λ d. IsSomeAnd x (R d)) → ⊥
maybe_cases F R clash None e x f h = f
maybe_cases F R clash (Some d) e None f h = h
maybe_cases F R clash (Some d) e (Some x) f h = clash d e x f h

-- at a key that may be missing
pub maybe : {X : Type 0} (key : Key) (F : Key → Data → PolicyFault → Type 0) (R : Data → X → Type 0) → Excludes (F key) R → ExcludesTable (FaultIn key F) (MaybeAt key R)
maybe key F R clash ms e x f h = maybe_cases (F key) R clash (get_member (key_word key) ms) e x f h

-- an item has an element
item_means : {X : Type 0} (R : Data → X → Type 0) (P : Data → Type 0) (n : ℕ) (ds : Items) (xs : List X) → IsSomeAnd (get_item n ds) P → EachMeans R ds xs → (d : Data) × (x : X) × P d × R d x
item_means R P n no_items xs p h = absurd p
item_means R P n (item d ds) [] p h = absurd h
item_means R P zero (item d ds) (x ∷ xs) p h = (d, x, p, h.0)
item_means R P (suc n) (item d ds) (x ∷ xs) p h = item_means R P n ds xs p h.1

-- an item's place is below the number of elements
item_place : {X : Type 0} (R : Data → X → Type 0) (n : ℕ) (ds : Items) (xs : List X) → IsSome (get_item n ds) → EachMeans R ds xs → n < length xs
item_place R n no_items xs p h = cc
item_place R n (item d ds) [] p h = absurd h
item_place R zero (item d ds) (x ∷ xs) p h = omega arith
item_place R (suc n) (item d ds) (x ∷ xs) p h = let more = item_place R n ds xs p h.1 in omega (arith, more)

pub items : {X : Type 0} (F : Key → Data → PolicyFault → Type 0) (R : Data → X → Type 0) (key : Key) → Excludes (F key) R → (ds : Items) (e : PolicyFault) (xs : List X) → ItemFault F key ds e → EachMeans R ds xs → ⊥
items F R key clash ds e xs f h = let (d, x, wrong, means) = item_means R (λ d. F key d e) f.0 ds xs f.1 h in clash d e x wrong means

-- in a list
pub list : {X : Type 0} (F : Key → Data → PolicyFault → Type 0) (limit : ℕ) (key : Key) (R : Data → X → Type 0) → Excludes (F key) R → Excludes (ListFault F limit key) (IsList R limit)
list F limit key R clash d e xs f h =
    let f : ((e ≡ Limit key) × IsSome (get_item limit h.items)) ⊎ ItemFault F key h.items e =
    subst (λ o. MatchOption o (e ≡ WrongType key) (λ items. ((e ≡ Limit key) × IsSome (get_item limit items)) ⊎ ItemFault F key items e)) h.array f in
    elim f as (λ _. ⊥) [
      | inl long ↦ let past = item_place R limit h.items xs long.1 h.each in absurd (omega (arith, past, h.short))
      | inr wrong ↦ items F R key clash h.items e xs wrong h.each
    ]

listed : {X : Type 0} (F : Data → PolicyFault → Type 0) (limit : ℕ) (R : Data → X → Type 0) → Excludes F (IsList R limit) → (o : Option Data) (e : PolicyFault) (xs : List X) → IsSomeAnd o (λ d. F d e) → MatchOption o (xs ≡ []) (λ d. IsList R limit d xs) → ⊥
listed F limit R clash None e xs f h = f
listed F limit R clash (Some d) e xs f h = clash d e xs f h

-- in a list that may be missing
pub list_at : {X : Type 0} (key : Key) (F : Key → Data → PolicyFault → Type 0) (R : Data → X → Type 0) (limit : ℕ) → Excludes (F key) R → ExcludesTable (FaultIn key (ListFault F limit)) (ListAt key R limit)
list_at key F R limit clash ms e xs f h = listed (ListFault F limit key) limit R (list F limit key R clash) (get_member (key_word key) ms) e xs f h

tabled : {X : Type 0} (N : Type 0) (F : Members → PolicyFault → Type 0) (R : Members → X → Type 0) → ExcludesTable F R → (o : Option Members) (e : PolicyFault) (x : X) → MatchOption o N (λ ms. F ms e) → IsSomeAnd o (λ ms. R ms x) → ⊥
tabled N F R clash None e x f h = h
tabled N F R clash (Some ms) e x f h = clash ms e x f h

-- in a table
pub inside : {X : Type 0} (F : Members → PolicyFault → Type 0) (R : Members → X → Type 0) (key : Key) → ExcludesTable F R → Excludes (TableFault F key) (IsTable R)
inside F R key clash d e x f h = tabled (e ≡ WrongType key) F R clash (as_table d) e x f h

-- a text that is no word
pub word : {X : Type 0} (w : X → List ℕ) (key : Key) → Excludes (WordFault w key) (IsWord w)
word {X} w key d e x f h = (subst (λ o. MatchOption o (e ≡ WrongType key) (λ text. (e ≡ Unknown text) × ((y : X) → ¬ (text ≡ w y)))) h f).1 x refl

-- another key
pub other : (keys : List Key) (ms : Members) (e : PolicyFault) → HasOther keys ms e → HasOnly keys ms → ⊥
other keys ms e f h = true≢false (sym (h f.text f.there) ∙ f.other)
