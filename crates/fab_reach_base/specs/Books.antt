-- What a step from one world to another gains and loses.
use Rattle.std.specs.Prelude.{List, ◌↔◌}
use Rattle.fab_reach_base.specs.Records.{Records}
use Rattle.fab_reach_base.specs.Orders.{IsListOf}
use Rattle.fab_reach_base.specs.Reach.{Reaches}
use Rattle.fab_reach_base.specs.declared.path.Path.{Path}

-- the path is there in v, and not in w
pub record IsGained (w v : Records) (x : Path) : Type 0 where
  pub now : Reaches v x
  pub before : ¬ Reaches w x

-- the lists are what v has and w has not, and the converse
pub record IsDelta (w v : Records) (gained lost : List Path) : Type 0 where
  pub gains : IsListOf (IsGained w v) gained
  pub loses : IsListOf (IsGained v w) lost

-- the content is the paths of the world
abbrev pub AreReached : Records → (Path → Type 0) → Type 0
AreReached w content = (x : Path) → content x ↔ Reaches w x
