-- The order of paths, and ordered lists of them.
use Rattle.std.specs.Prelude.{List, Contains, IsTrue}
use Rattle.std.specs.declared.cmp.Ordering.{Ordering}
use Rattle.std.specs.Ordering.{nat_cmp, ordering_then}
use Rattle.std.specs.List.Sorted.{IsStrictlySortedBy}
use Rattle.std.specs.BTreeSet.{BTreeSet, contains}
use Rattle.fab_mapping.specs.fab_mapping_base.fab_names.Orders.{name_cmp, fabric_cmp}
use Rattle.fab_reach_base.specs.declared.path.Path.{Path}
use Rattle.fab_reach_base.specs.contracts.path.PathOrd.TheImpl as paths

-- by fabric, initiator, target, volume, unit
abbrev pub path_order : Path → Path → Ordering
path_order a b =
    ordering_then (fabric_cmp a.fabric b.fabric)
    (ordering_then (nat_cmp a.initiator b.initiator) (ordering_then (nat_cmp a.target b.target) (ordering_then (name_cmp a.volume b.volume) (nat_cmp a.unit b.unit))))

-- the same order as the code has it, which sets use: a law says that the two are one
abbrev pub path_cmp : Path → Path → Ordering
path_cmp = paths.ghosts.cmp

-- the set has the path
abbrev pub Has : BTreeSet Path → Path → Type 0
Has s x = IsTrue (contains path_cmp s x)

-- the list has each path with P once, in order, and no other
pub record IsListOf (P : Path → Type 0) (xs : List Path) : Type 0 where
  pub sorted : IsStrictlySortedBy path_order xs
  pub sound : (x : Path) → Contains xs x → P x
  pub complete : (x : Path) → P x → Contains xs x
