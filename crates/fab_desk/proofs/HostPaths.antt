-- The paths of a host in tables that have the rows of a world.
use Rattle.std.proofs.Common.{ℕ, ◌≡◌, List, refl, sym, subst, ◌∙◌}
use Rattle.fab_store_columns.proofs.UniqueConfig.{one_path}
use Rattle.fab_store_columns.specs.RecordLines.{ShowsPath}
use Rattle.fab_store_load.specs.declared.fault.Table.TheVariants as table
use Rattle.fab_reach_base.specs.Orders.{IsListOf}
use Rattle.fab_reach_base.specs.Reach.{ReachesFrom}
use Rattle.fab_reach_base.specs.declared.path.Path.{Path}
use Rattle.fab_store_base.proofs.Columns as columns
use Rattle.fab_store_world.specs.Paths.{IsPathRow}
use Rattle.fab_store_rows.specs.declared.record_row.PathRow.{PathRow}
use Rattle.fab_store_base.specs.Worlds.{HoldsWorld, IsWritten, ArePathsIn, HasPathOf}
use Rattle.fab_store_tables.specs.Tables.{Tables}
use Rattle.fab_world.specs.Worlds.{WorldRows, records_of}

module _ (t : Tables) (w : WorldRows) (host : List ℕ) (holds : HoldsWorld t w) where
  is_reached : (x : Path) → HasPathOf t host x → ReachesFrom (records_of w) host x
  is_reached x h =
      let it = h.2 in
      let s = (holds table.Paths h.0).0 h.1 in
      let same_line = columns.one_path it.line s.line (sym it.is ∙ s.is) in
      let same : s.shown ≡ it.shown = one_path s.line s.shown it.shown s.shows (subst (λ l. ShowsPath l it.shown) same_line it.shows) in
      let stands = subst (IsPathRow (records_of w)) same s.stands in
      subst (λ n. ReachesFrom (records_of w) n x) it.stands.0 (subst (ReachesFrom (records_of w) it.shown.host) it.stands.1 stands)

  is_there : IsWritten w → (x : Path) → ReachesFrom (records_of w) host x → HasPathOf t host x
  is_there written x reaches =
      let row : PathRow = record { host = host; path = x } in
      let line = written table.Paths row reaches in (
        _,
        (holds table.Paths _).1 (record { line = line.0; is = refl; shown = row; shows = line.1; stands = reaches }),
        record { line = line.0; is = refl; shown = row; shows = line.1; stands = (refl, refl) },
      )

  pub host_paths : (xs : List Path) → IsWritten w → ArePathsIn t host xs → IsListOf (ReachesFrom (records_of w) host) xs
  host_paths xs written are = record {
    sorted = are.sorted;
    sound = λ x has. is_reached x (are.sound x has);
    complete = λ x reaches. are.complete x (is_there written x reaches);
  }
