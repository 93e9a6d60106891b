-- What the paths of one pair gain and lose.
use Rattle.std.specs.Prelude.{◌≡◌, List, Contains, Option, None, Some, Bool, true, false}
use Rattle.std.specs.Borrow.{Bor}
use Rattle.std.specs.BTreeSet.{BTreeSet, contains}
use Rattle.fab_reach_base.specs.Orders.{path_cmp}
use Rattle.fab_reach_base.specs.Records.{Records}
use Rattle.fab_reach_base.specs.declared.path.Path.{Path}
use Rattle.fab_reach_books.specs.Renewed.{IsRenewedIndex}
use Rattle.fab_reach_books.specs.declared.renewed.RenewedGroups.{RenewedGroups}

-- whether the path is among the rows, if there are any
abbrev pub in_rows : Option (Bor (BTreeSet Path)) → Path → Bool
in_rows None x = false
in_rows (Some s) x = contains path_cmp s.now x

-- the path is listed, and not among the rows
abbrev pub IsLater : List Path → Option (Bor (BTreeSet Path)) → Path → Type 0
IsLater these rows x = Contains these x × ¬ (in_rows rows x ≡ true)

-- the path is among the rows, and not listed
abbrev pub IsEarlier : Option (Bor (BTreeSet Path)) → List Path → Path → Type 0
IsEarlier rows these x = (in_rows rows x ≡ true) × ¬ Contains these x

-- the exposed storage groups of each host, where they are told, are those of the world
abbrev pub AreToldIn : {A : Type 0} → Records → Option (RenewedGroups A) → Type 0
AreToldIn w None = Unit {0}
AreToldIn w (Some groups) = IsRenewedIndex w.config.mapping groups.new.now groups.old.now
