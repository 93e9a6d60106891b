-- Who reaches a volume, and by how many paths.
use Rattle.std.specs.Prelude.{ℕ, ◌≡◌, List, Some, Bool, count_by}
use Rattle.std.specs.BTreeMap.{BTreeMap, get}
use Rattle.fab_names.specs.Orders.{name_cmp}
use Rattle.fab_names.specs.declared.fabric.Fabric.{Fabric}
use Rattle.fab_names.specs.declared.fabric.Fabric.TheVariants.{A, B}
use Rattle.fab_inventory.specs.Imports.{same_fabric}
use Rattle.fab_reach_base.specs.Records.{Records}
use Rattle.fab_reach_base.specs.Orders.{IsListOf}
use Rattle.fab_reach_base.specs.declared.path.Path.{Path}
use Rattle.fab_looks.specs.Links.{PathTo, IsReached}
use Rattle.fab_looks.specs.declared.reaching.Counts.{Counts}

-- whether the path is in the fabric
abbrev pub is_in : Fabric → Path → Bool
is_in f x = same_fabric f x.fabric

-- so many of the paths of the host to the volume are in the fabric
abbrev pub IsCountAt : Records → List ℕ → List ℕ → Fabric → ℕ → Type 0
IsCountAt w host volume f n = (xs : List Path) × IsListOf (PathTo w host volume) xs × (n ≡ count_by (is_in f) xs)

-- the host reaches the volume, by so many paths
pub record IsReacher (w : Records) (volume host : List ℕ) (n : Counts) : Type 0 where
  pub reached : IsReached w host volume
  pub at_a : IsCountAt w host volume A n.a
  pub at_b : IsCountAt w host volume B n.b

-- just the hosts that reach the volume, each with its counts
pub record AreReachers (w : Records) (volume : List ℕ) (m : BTreeMap (List ℕ) Counts) : Type 0 where
  pub sound : (host : List ℕ) (n : Counts) → get name_cmp m host ≡ Some n → IsReacher w volume host n
  pub complete : (host : List ℕ) → IsReached w host volume → (n : Counts) × (get name_cmp m host ≡ Some n)
