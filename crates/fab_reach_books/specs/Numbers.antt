-- How many paths a world has.
use Rattle.std.specs.Prelude.{ℕ, ◌≡◌, List, length}
use Rattle.fab_reach_base.specs.Orders.{IsListOf}
use Rattle.fab_reach_base.specs.Reach.{Reaches}
use Rattle.fab_reach_base.specs.Records.{Records}
use Rattle.fab_reach_base.specs.declared.path.Path.{Path}

-- the world has so many paths
pub record IsNumberOf (w : Records) (n : ℕ) : Type 0 where
  pub paths : List Path
  pub are : IsListOf (Reaches w) paths
  pub many : n ≡ length paths
