-- What a difference moves: ports, storage groups, and default zones.
use Rattle.std.specs.Prelude.{ℕ, ◌≡◌, List, Some, Bool, true, false}
use Rattle.std.specs.BTreeSet.{BTreeSet, contains}
use Rattle.std.specs.Ordering.{nat_cmp}
use Rattle.std.specs.FinMap as map
use Rattle.std.specs.FinSet as set
use Rattle.fab_names.specs.Orders.{name_cmp}
use Rattle.fab_names.specs.declared.fabric.Fabric.{Fabric}
use Rattle.fab_names.specs.declared.fabric.Fabric.TheVariants.{A, B}
use Rattle.fab_mapping_base.specs.Groups.{StorageGroupRows}
use Rattle.fab_reach_base.specs.Records.{Records}
use Rattle.fab_reach_base.specs.Gathering.{Serves}
use Rattle.fab_reach_books.specs.Affected.{HasSameRow, HasSameZones, HasSameFlag}

-- ---- ports

-- the port has the same row, and is in the same zones
pub record IsSamePort (w v : Records) (p : ℕ) : Type 0 where
  pub row : HasSameRow w v p
  pub zones : HasSameZones w v p

-- just the ports that are not the same
pub record AreMoved (w v : Records) (ports : BTreeSet ℕ) : Type 0 where
  pub sound : (p : ℕ) → contains nat_cmp ports p ≡ true → ¬ IsSamePort w v p
  pub rest : (p : ℕ) → contains nat_cmp ports p ≡ false → IsSamePort w v p

-- ---- storage groups

-- the storage group, of this name in w, is in v with all that it has
pub record IsKeptAs (w v : Records) (n : List ℕ) (g : StorageGroupRows) : Type 0 where
  pub other : StorageGroupRows
  pub there : map.get v.config.mapping.groups n ≡ Some other
  pub exposed : g.exposed ≡ true → other.exposed ≡ true
  pub units : other.units ≡ g.units
  pub targets : (q : ℕ) → set.contains g.targets q ≡ true → set.contains other.targets q ≡ true
  pub serves : (host : List ℕ) → Serves w.config.mapping g host → Serves v.config.mapping other host

-- the storage group of this name, if there is one, is kept both ways
pub record IsKept (w v : Records) (n : List ℕ) : Type 0 where
  pub stays : (g : StorageGroupRows) → map.get w.config.mapping.groups n ≡ Some g → IsKeptAs w v n g
  pub no_more : (g : StorageGroupRows) → map.get v.config.mapping.groups n ≡ Some g → IsKeptAs v w n g

-- each storage group is kept but for those of these names
abbrev pub AreTouched : Records → Records → BTreeSet (List ℕ) → Type 0
AreTouched w v names = (n : List ℕ) → contains name_cmp names n ≡ false → IsKept w v n

-- ---- flags

-- whether the default zone of a fabric permits otherwise
pub record AreFlagged (w v : Records) (flagged : Fabric → Bool) : Type 0 where
  pub sound : (f : Fabric) → flagged f ≡ true → ¬ HasSameFlag w v f
  pub rest : (f : Fabric) → flagged f ≡ false → HasSameFlag w v f

-- the flags of the two fabrics
abbrev pub flagged_at : Bool × Bool → Fabric → Bool
flagged_at flags A = flags.0
flagged_at flags B = flags.1
