use Rattle.std.proofs.Common.{take}
use Rattle.std.specs.List.{AllZip}
use Rattle.fab_desk_base.specs.Showing.{Shows}
use Rattle.fab_looks.proofs.rows.answers_to.Given as goal

abbrev pub invariant-loop-query : goal.invariant-loop-query
invariant-loop-query g l = AllZip (Shows l.world) (take l.query-index l.queries) l.rows.items
