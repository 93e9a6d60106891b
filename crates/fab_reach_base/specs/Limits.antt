-- How many paths a world may have.
use Rattle.std.specs.Prelude.{ℕ, ◌<◌, List, length, Contains}
use Rattle.std.specs.List.Sorted.{IsStrictlySortedBy}
use Rattle.fab_reach_base.specs.Orders.{path_order}
use Rattle.fab_reach_base.specs.declared.path.Path.{Path}
use Rattle.fab_reach_base.specs.declared.listing.PathsFault.{PathsFault}
use Rattle.fab_reach_base.specs.declared.listing.PathsFault.TheVariants.{TooMany, Memory}

-- how many paths a world may have
abbrev pub most_paths : ℕ
most_paths = 65536

-- more paths have P than these: a list of so many different ones
pub record MoreThan (most : ℕ) (P : Path → Type 0) : Type 0 where
  pub some : List Path
  pub sorted : IsStrictlySortedBy path_order some
  pub sound : (x : Path) → Contains some x → P x
  pub many : most < length some

-- why the paths with P are not listed
abbrev pub IsPathsFault : ℕ → (Path → Type 0) → PathsFault → Type 0
IsPathsFault most P TooMany = MoreThan most P
IsPathsFault most P Memory = Unit {0}
