-- Values at the keys of a table, whatever they mean, and what is wrong with them where they mean nothing.
use Rattle.std.specs.Prelude.{◌≡◌, ℕ, ◌≤◌, true, false, List, [], ◌∷◌, length, Option, Some, None, IsSome, MatchOption, IsSomeAnd, Result, IfErr, ◌⊎◌}
use Rattle.toml.specs.Data.{Data, Items, no_items, item, Members, get_member, get_item, as_array, as_str, as_table}
use Rattle.fab_policy_base.specs.Words.{key_word, is_word_of}
use Rattle.fab_policy_base.specs.declared.fault.PolicyFault.{PolicyFault}
use Rattle.fab_policy_base.specs.declared.fault.PolicyFault.TheVariants.{Missing, WrongType, Unknown, Limit, Memory}
use Rattle.fab_policy_base.specs.declared.key.Key.{Key}

-- there was no memory: such a fault says nothing of the text
abbrev pub IsMemory : PolicyFault → Type 0
IsMemory e = e ≡ Memory

-- what is so of the fault, where the text was refused and not for memory
abbrev pub IfRefused : {X : Type 0} → Result X PolicyFault → (PolicyFault → Type 0) → Type 0
IfRefused r P = IfErr r (λ e. ¬ IsMemory e → P e)

-- the key is there, and its value means x
abbrev pub At : {X : Type 0} → Key → (Data → X → Type 0) → Members → X → Type 0
At {X} key Means ms x = IsSomeAnd (get_member (key_word key) ms) (λ d. Means d x)

-- the key is missing and there is no x, or its value means x
abbrev pub MaybeAt : {X : Type 0} → Key → (Data → X → Type 0) → Members → Option X → Type 0
MaybeAt {X} key Means ms x = MatchOption (get_member (key_word key) ms) (x ≡ None) (λ d. IsSomeAnd x (Means d))

-- the items mean the elements, one by one
abbrev pub EachMeans : {X : Type 0} → (Data → X → Type 0) → Items → List X → Type 0
EachMeans Means no_items [] = Unit {0}
EachMeans Means no_items (x ∷ xs) = ⊥
EachMeans Means (item d ds) [] = ⊥
EachMeans Means (item d ds) (x ∷ xs) = Means d x × EachMeans Means ds xs

-- an array whose items mean the elements, of which there are at most that many
pub record IsList {X : Type 0} (Means : Data → X → Type 0) (limit : ℕ) (d : Data) (xs : List X) : Type 0 where
  pub items : Items
  pub array : as_array d ≡ Some items
  pub each : EachMeans Means items xs
  pub short : length xs ≤ limit

-- the key is missing and there are no elements, or its value is such an array
abbrev pub ListAt : {X : Type 0} → Key → (Data → X → Type 0) → ℕ → Members → List X → Type 0
ListAt {X} key Means limit ms xs = MatchOption (get_member (key_word key) ms) (xs ≡ []) (λ d. IsList Means limit d xs)

-- a table that means x
abbrev pub IsTable : {X : Type 0} → (Members → X → Type 0) → Data → X → Type 0
IsTable {X} Means d x = IsSomeAnd (as_table d) (λ ms. Means ms x)

-- a text that is the word for x
abbrev pub IsWord : {X : Type 0} → (X → List ℕ) → Data → X → Type 0
IsWord word d x = as_str d ≡ Some (word x)

-- each key that the table has is one of these
abbrev pub HasOnly : List Key → Members → Type 0
HasOnly keys ms = (text : List ℕ) → IsSome (get_member text ms) → is_word_of keys text ≡ true

-- the value at the key means nothing
abbrev pub MeansNothing : {X : Type 0} → (Data → X → Type 0) → Key → Data → PolicyFault → Type 0
MeansNothing {X} Means key d e = (e ≡ WrongType key) × ((x : X) → ¬ Means d x)

-- the key is missing, or its value has the fault
abbrev pub FaultAt : Key → (Key → Data → PolicyFault → Type 0) → Members → PolicyFault → Type 0
FaultAt key Fault ms e = MatchOption (get_member (key_word key) ms) (e ≡ Missing key) (λ d. Fault key d e)

-- the key is there, and its value has the fault
abbrev pub FaultIn : Key → (Key → Data → PolicyFault → Type 0) → Members → PolicyFault → Type 0
FaultIn key Fault ms e = IsSomeAnd (get_member (key_word key) ms) (λ d. Fault key d e)

-- the item at some place has the fault
abbrev pub ItemFault : (Key → Data → PolicyFault → Type 0) → Key → Items → PolicyFault → Type 0
ItemFault Fault key items e = (place : ℕ) × IsSomeAnd (get_item place items) (λ d. Fault key d e)

-- the value is no array, or has an item behind the last place allowed, or an item has the fault
abbrev pub ListFault : (Key → Data → PolicyFault → Type 0) → ℕ → Key → Data → PolicyFault → Type 0
ListFault Fault limit key d e = MatchOption (as_array d) (e ≡ WrongType key)
    (λ items. ((e ≡ Limit key) × IsSome (get_item limit items)) ⊎ ItemFault Fault key items e)

-- the value is no table, or the table has the fault
abbrev pub TableFault : (Members → PolicyFault → Type 0) → Key → Data → PolicyFault → Type 0
TableFault Fault key d e = MatchOption (as_table d) (e ≡ WrongType key) (λ ms. Fault ms e)

-- the value is no text, or a text that is no word
abbrev pub WordFault : {X : Type 0} → (X → List ℕ) → Key → Data → PolicyFault → Type 0
WordFault {X} word key d e = MatchOption (as_str d) (e ≡ WrongType key) (λ text. (e ≡ Unknown text) × ((x : X) → ¬ (text ≡ word x)))

-- the table has a key that is none of these
pub record HasOther (keys : List Key) (ms : Members) (e : PolicyFault) : Type 0 where
  pub text : List ℕ
  pub there : IsSome (get_member text ms)
  pub other : is_word_of keys text ≡ false
  pub unknown : e ≡ Unknown text
