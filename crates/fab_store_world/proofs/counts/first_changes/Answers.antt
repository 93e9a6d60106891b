use Rattle.std.proofs.Common.{◌≡◌, ℕ, refl, arith}
use Rattle.std.proofs.lemmas.List.Elements.{All-contains, All-more}
use Rattle.fab_reach_base.proofs.fab_lemmas.Scans.{scan_end}
use Rattle.fab_world.specs.fab_store_rows.declared.table_rows.CountRow.{CountRow}
use Rattle.fab_world.specs.fab_store_rows.declared.table_rows.CountRow.TheVariants.{Revision}
use Rattle.fab_store_world.proofs.counts.first_changes.Goals as goal

abbrev TellsNone : CountRow → Type 0
TellsNone r = (n : ℕ) → ¬ (r ≡ Revision n)

pub loop-row-preserved : goal.loop-row-preserved
loop-row-preserved c = All-more TellsNone c.args.rows.now c.loop-row.row-index _ c.loop-row-test.true c.loop-row.invariant c.in_default.ensures

pub returns : goal.returns
returns c = λ n there. All-contains TellsNone c.args.rows.now (Revision n) (scan_end TellsNone c.args.rows.now c.loop-row.row-index (omega (arith, c.loop-row-test.false)) c.loop-row.invariant) there n refl
