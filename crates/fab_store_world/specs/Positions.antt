-- Where names stand in an order.
use Rattle.std.specs.Prelude.{ℕ, ◌≡◌, ◌⊎◌, List, Contains}
use Rattle.std.specs.List.{IsDistinct}
use Rattle.std.specs.Ordering.{eq_by_cmp}
use Rattle.fab_reach_base.specs.fab_names.Orders.{name_cmp}
use Rattle.fab_store_world.specs.Orders.{numbered}

-- the name's place in the order, 1 for the oldest activation in force, or 0 where it is not in it
abbrev pub IsPosition : List (List ℕ) → List ℕ → ℕ → Type 0
IsPosition order name k = Contains (numbered 1 order) (k, name) ⊎ ((k ≡ 0) × ¬ Contains order name)

-- each name is in the order once, as in that of a sound world
abbrev pub IsOrder : List (List ℕ) → Type 0
IsOrder order = IsDistinct (eq_by_cmp name_cmp) order
