-- The first of a list without a property, and the first by an order that has one.
use Rattle.std.specs.Prelude.{ℕ, ◌≡◌, List, All, take, slice_get, Option, None, Some, false}
use Rattle.std.specs.declared.cmp.Ordering.{Ordering}
use Rattle.std.specs.Ordering.{is_gt, ord_min}

-- the first item that has not P, from the left
pub record IsFirstWithout {X : Type 0} (P : X → Type 0) (xs : List X) (x : X) : Type 0 where
  pub at : ℕ
  pub is : slice_get xs at ≡ Some x
  pub without : ¬ P x
  pub before : All P (take at xs)

-- q has P, and nothing before it by the order has
abbrev pub IsFirstWith : {Q : Type 0} → (Q → Q → Ordering) → (Q → Type 0) → Q → Type 0
IsFirstWith {Q} O P q = P q × ((p : Q) → P p → is_gt (O q p) ≡ false)

-- the first by the order that has P, or none has it
abbrev pub IsFirstOf : {X : Type 0} → (X → X → Ordering) → (X → Type 0) → Option X → Type 0
IsFirstOf {X} R P None = (x : X) → ¬ P x
IsFirstOf R P (Some x) = IsFirstWith R P x

-- the lesser of two, or the one that there is
abbrev pub lesser : {X : Type 0} → (X → X → Ordering) → Option X → Option X → Option X
lesser R None o = o
lesser R (Some a) None = Some a
lesser R (Some a) (Some b) = Some (ord_min R a b)

-- there is a value at q, and it has P
abbrev pub HasAt : {Q X : Type 0} → (Q → Option X) → (X → Type 0) → Q → Type 0
HasAt {Q} {X} at P q = (x : X) × (at q ≡ Some x) × P x

-- no value has P
abbrev pub HasNowhere : {Q X : Type 0} → (Q → Option X) → (X → Type 0) → Type 0
HasNowhere {Q} at P = (q : Q) → ¬ HasAt at P q
