-- Hosts that lose paths, and what they have left.
use Rattle.std.specs.Prelude.{ℕ, ◌≡◌, ◌⊎◌, List, length}
use Rattle.fab_lemmas.specs.Lists.{IsListOf}
use Rattle.fab_looks_tries.specs.declared.paths.LosingHosts.{LosingHosts}
use Rattle.fab_looks_tries.specs.declared.paths.PathsMoved.{PathsMoved}
use Rattle.fab_names.specs.Orders.{name_cmp}
use Rattle.fab_names.specs.declared.fabric.Fabric.{Fabric}
use Rattle.fab_names.specs.declared.fabric.Fabric.TheVariants as fabric
use Rattle.fab_reach_base.specs.Books.{IsGained}
use Rattle.fab_reach_base.specs.Orders as paths
use Rattle.fab_reach_base.specs.Reach.{Reaches, ReachesFrom}
use Rattle.fab_reach_base.specs.Records.{Records}
use Rattle.fab_reach_base.specs.declared.path.Path.{Path}

-- the host has a path in w that is not there in v
abbrev pub LosesPath : Records → Records → List ℕ → Type 0
LosesPath w v host = (x : Path) × ReachesFrom w host x × ¬ Reaches v x

-- the host has a path over the fabric
abbrev pub HasPathOver : Records → List ℕ → Fabric → Type 0
HasPathOver v host f = (x : Path) × ReachesFrom v host x × (x.fabric ≡ f)

-- over A alone, or over B alone
abbrev pub IsOnOneFabric : Records → List ℕ → Type 0
IsOnOneFabric v host =
    (HasPathOver v host fabric.A × ¬ HasPathOver v host fabric.B) ⊎ (HasPathOver v host fabric.B × ¬ HasPathOver v host fabric.A)

-- the host has no path
abbrev pub IsWithoutPath : Records → List ℕ → Type 0
IsWithoutPath v host = (x : Path) → ¬ ReachesFrom v host x

-- there are so many paths in v that are not in w
abbrev pub IsNumberGained : Records → Records → ℕ → Type 0
IsNumberGained w v n = (xs : List Path) × paths.IsListOf (IsGained w v) xs × (n ≡ length xs)

-- the hosts that lose a path by a change from w to v, by name; those of them that have paths over one
-- fabric alone afterwards; and those that have none
pub record AreLosing {A : Type 0} (w v : Records) (m : LosingHosts A) : Type 0 where
  pub all : IsListOf name_cmp (LosesPath w v) m.all.items
  pub on_one : IsListOf name_cmp (λ h. LosesPath w v h × IsOnOneFabric v h) m.on_one.items
  pub without : IsListOf name_cmp (λ h. LosesPath w v h × IsWithoutPath v h) m.without.items

-- a change from w to v does this to paths
pub record ArePathsMoved {A : Type 0} (w v : Records) (m : PathsMoved A) : Type 0 where
  pub gained : IsNumberGained w v m.gained
  pub lost : IsNumberGained v w m.lost
  pub hosts : AreLosing w v m.hosts
