-- What a column of a table shows.
use Rattle.std.specs.Prelude.{◌≡◌, ◌≤◌, ℕ, ℤ, pos, List, Option, None, Some, Bool, true, false, decimal}
use Rattle.fab_names.specs.Fabrics.{SpellsFabric}
use Rattle.fab_names.specs.Places.{Position, IsPosition}
use Rattle.fab_names.specs.declared.fabric.Fabric.{Fabric}

-- a column that may be null: null shows none
abbrev pub ShowsOption : {C X : Type 0} → (C → X → Type 0) → Option C → Option X → Type 0
ShowsOption Shows None None = Unit {0}
ShowsOption Shows None (Some x) = ⊥
ShowsOption Shows (Some c) None = ⊥
ShowsOption Shows (Some c) (Some x) = Shows c x

-- a whole number, from the least on and up to the most
pub record ShowsNumber (least most : ℕ) (column : ℤ) (n : ℕ) : Type 0 where
  pub value : column ≡ pos n
  pub low : least ≤ n
  pub high : n ≤ most

-- a number as text: its decimal digits without leading zeros
pub record ShowsDecimal (most : ℕ) (text : List ℕ) (n : ℕ) : Type 0 where
  pub digits : text ≡ decimal n
  pub high : n ≤ most

-- 0 for no, 1 for yes
abbrev pub flag_number : Bool → ℤ
flag_number false = pos 0
flag_number true = pos 1

-- the fabric, the domain and the physical port of a place
pub record ShowsPlace (fabric : List ℕ) (domain slot : ℤ) (at : Fabric × Position) : Type 0 where
  pub fabric_is : SpellsFabric fabric at.0
  pub domain_is : domain ≡ pos at.1.domain
  pub slot_is : slot ≡ pos at.1.slot
  pub in_range : IsPosition at.1

-- all three are null where the port is logged in nowhere
abbrev pub ShowsAt : Option (List ℕ) → Option ℤ → Option ℤ → Option (Fabric × Position) → Type 0
ShowsAt None None None None = Unit {0}
ShowsAt (Some fabric) (Some domain) (Some slot) (Some at) = ShowsPlace fabric domain slot at
ShowsAt _ _ _ _ = ⊥
