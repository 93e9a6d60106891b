-- The order of the activations in force, as rows of plans tell it by their positions.
use Rattle.std.specs.Prelude.{ℕ, ◌≡◌, ◌+◌, List, [], ◌∷◌, Contains, All, IsTrue}
use Rattle.std.specs.BTreeSet.{BTreeSet, contains}
use Rattle.std.specs.declared.cmp.Ordering.{Ordering}
use Rattle.std.specs.Ordering.{nat_cmp, then_cmp, on}
use Rattle.fab_reach_base.specs.fab_names.Orders.{name_cmp}
use Rattle.fab_world.specs.fab_store_rows.PlanEntries.{PlanEntry}
use Rattle.fab_world.specs.fab_store_rows.declared.record_row.PlanState.TheVariants.{Active}

-- the names with their positions, from this one on
abbrev pub numbered : ℕ → List (List ℕ) → List (ℕ × List ℕ)
numbered k [] = []
numbered k (n ∷ ns) = (k, n) ∷ numbered (k + 1) ns

-- by position, and then by name
abbrev pub place_cmp : ℕ × List ℕ → ℕ × List ℕ → Ordering
place_cmp = then_cmp (on (λ e. e.0) nat_cmp) (on (λ e. e.1) name_cmp)

-- the plan is active
abbrev pub IsActive : PlanEntry → Type 0
IsActive r = r.state ≡ Active

-- the plan is active, at this position under this name
abbrev pub IsAt : PlanEntry → ℕ × List ℕ → Type 0
IsAt r e = IsActive r × (r.position ≡ e.0) × (r.name ≡ e.1)

-- an active plan of the rows has this name, and this position
abbrev pub IsPlaced : List PlanEntry → ℕ × List ℕ → Type 0
IsPlaced rows e = (r : PlanEntry) × Contains rows r × IsAt r e

-- the plans that are not active have the position 0
abbrev pub HaveNoPlace : List PlanEntry → Type 0
HaveNoPlace = All (λ r. ¬ IsActive r → r.position ≡ 0)

-- the active plans have the positions of their names in the order, 1 for the first, and no other
-- names are in it
pub record IsOrderOf (rows : List PlanEntry) (order : List (List ℕ)) : Type 0 where
  pub placed : (r : PlanEntry) → Contains rows r → IsActive r → Contains (numbered 1 order) (r.position, r.name)
  pub all_active : (e : ℕ × List ℕ) → Contains (numbered 1 order) e → IsPlaced rows e
  pub others : HaveNoPlace rows

-- the set has the place
abbrev pub HasPlace : BTreeSet (ℕ × List ℕ) → ℕ × List ℕ → Type 0
HasPlace t e = IsTrue (contains place_cmp t e)
