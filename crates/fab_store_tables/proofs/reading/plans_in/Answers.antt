use Rattle.std.proofs.Common.{◌≡◌, ◌+◌, [], ◌∷◌, ◌++◌, take, sym, subst, arith}
use Rattle.std.specs.List.{AllZip}
use Rattle.std.proofs.lemmas.Grind.{common_steps}
use Rattle.fab_store_columns.specs.PlanLines.{ShowsPlan}
use Rattle.fab_store_tables.proofs.RowsAdded.{zip_more}
use Rattle.fab_store_tables.proofs.reading.plans_in.Goals as goal

pub loop-line-preserved : goal.loop-line-preserved
loop-line-preserved g c =
    let i = c.loop-line.line-index in
    let pushed : c.push.new.self.items ≡ c.loop-line.rows.items ++ c.in-Some.row ∷ [] = grind (arith, common_steps) in
    let shows = subst (λ l. ShowsPlan l c.in-Some.row) c.in_ok-line.ensures c.in-Some.ensures in
    let more = zip_more ShowsPlan c.args.lines.now c.loop-line.rows.items i c.line-item.result c.in-Some.row (omega arith) c.line-item.is c.loop-line.invariant shows in
    subst (AllZip ShowsPlan (take (i + 1) c.args.lines.now)) (sym pushed) more
