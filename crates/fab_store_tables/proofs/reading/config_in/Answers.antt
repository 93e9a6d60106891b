use Rattle.std.proofs.Common.{subst}
use Rattle.fab_store_columns.specs.GroupLines.{ShowsGroup, ShowsPart}
use Rattle.fab_store_columns.specs.ZoningLines.{ShowsZoning, ShowsActive}
use Rattle.fab_store_rows.specs.declared.config_row.ConfigRow.TheVariants as config
use Rattle.fab_store_tables.proofs.RowsRead.{config_read}
use Rattle.fab_store_tables.specs.Reading.{AddsShown, IsShownAs}
use Rattle.fab_store_tables.proofs.OddLines.{odd_zoning, odd_active, odd_group, odd_part}
use Rattle.fab_store_tables.proofs.reading.config_in.Goals as goal

pub returns-in-Err-clause-err : goal.returns-in-Err-clause-err
returns-in-Err-clause-err g c = odd_zoning g.row.A.Denot c.args.lines.now c.as_slice.result.now c.as_slice.ensures.value c.in-Err.fault c.in-Err.ensures.err

pub returns-in-Err-add_rows-clause-err : goal.returns-in-Err-add_rows-clause-err
returns-in-Err-add_rows-clause-err g c = odd_active g.row.A.Denot c.args.lines.now c.as_slice-2.result.now c.as_slice-2.ensures.value c.in-Err-add_rows.fault c.in-Err-add_rows.ensures.err

pub returns-in-Err-add_rows-2-clause-err : goal.returns-in-Err-add_rows-2-clause-err
returns-in-Err-add_rows-2-clause-err g c = odd_group g.row.A.Denot c.args.lines.now c.as_slice-3.result.now c.as_slice-3.ensures.value c.in-Err-add_rows-2.fault c.in-Err-add_rows-2.ensures.err

pub returns-in-Err-add_rows-3-clause-err : goal.returns-in-Err-add_rows-3-clause-err
returns-in-Err-add_rows-3-clause-err g c = odd_part g.row.A.Denot c.args.lines.now c.as_slice-4.result.now c.as_slice-4.ensures.value c.in-Err-add_rows-3.fault c.in-Err-add_rows-3.ensures.err

pub returns-clause-ok : goal.returns-clause-ok
returns-clause-ok g c =
    let r0 = c.args.settings.items in
    let r1 = c.add_rows.new.rows.items in
    let r2 = c.add_rows-2.new.rows.items in
    let r3 = c.add_rows-3.new.rows.items in
    let r4 = c.add_rows-4.new.rows.items in
    let z = subst (λ ls. AddsShown (IsShownAs ShowsZoning config.Zoning) ls r0 r1) c.as_slice.ensures.value c.in_default.ensures.ok in
    let a = subst (λ ls. AddsShown (IsShownAs ShowsActive config.Active) ls r1 r2) c.as_slice-2.ensures.value c.in_default-add_rows.ensures.ok in
    let g1 = subst (λ ls. AddsShown (IsShownAs ShowsGroup config.Group) ls r2 r3) c.as_slice-3.ensures.value c.in_default-add_rows-2.ensures.ok in
    let p = subst (λ ls. AddsShown (IsShownAs ShowsPart config.Part) ls r3 r4) c.as_slice-4.ensures.value c.in_default-add_rows-3.ensures.ok in
    config_read g.row.A.Denot c.args.lines.now r0 r1 r2 r3 r4 z a g1 p
