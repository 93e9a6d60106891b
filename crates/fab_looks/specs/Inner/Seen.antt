-- Hosts that are gone through.
use Rattle.std.specs.Prelude.{ℕ, ◌≡◌, List, Some}
use Rattle.std.specs.BTreeMap.{BTreeMap, get}
use Rattle.fab_reach_base.specs.fab_names.Orders.{name_cmp}
use Rattle.fab_looks.specs.declared.reaching.Counts.{Counts}

-- those of a map that have S
pub record AreSeen (S : List ℕ → Type 0) (from m : BTreeMap (List ℕ) Counts) : Type 0 where
  pub sound : (host : List ℕ) (n : Counts) → get name_cmp m host ≡ Some n → (get name_cmp from host ≡ Some n) × S host
  pub complete : (host : List ℕ) (n : Counts) → get name_cmp from host ≡ Some n → S host → (o : Counts) × (get name_cmp m host ≡ Some o)
