use Rattle.std.proofs.Common.{◌≡◌, ◌+◌, [], ◌∷◌, ◌++◌, take, sym, subst, arith}
use Rattle.std.proofs.lemmas.Grind.{common_steps}
use Rattle.fab_store_tables.specs.Reading.{AddsShown}
use Rattle.fab_store_tables.proofs.RowsAdded.{adds_none, adds_more}
use Rattle.fab_store_tables.proofs.reading.add_rows.Goals as goal

pub loop-line-init : goal.loop-line-init
loop-line-init g c = adds_none g.L.Line.shows c.args.rows.now.items

pub loop-line-preserved : goal.loop-line-preserved
loop-line-preserved g c =
    let i = c.loop-line.line-index in
    let pushed : c.push.new.self.items ≡ c.loop-line.rows.items ++ c.in-Some.row ∷ [] = grind (arith, common_steps) in
    let more = adds_more g.L.Line.shows c.args.lines.now c.args.rows.now.items c.loop-line.rows.items i c.line-item.result c.in-Some.row (omega arith) c.line-item.is c.loop-line.invariant c.in-Some.ensures in
    subst (λ rows. AddsShown g.L.Line.shows (take (i + 1) c.args.lines.now) c.args.rows.now.items rows) (sym pushed) more
