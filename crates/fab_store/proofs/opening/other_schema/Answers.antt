use Rattle.std.proofs.Common.{arith}
use Rattle.fab_store.proofs.Other.{none_next, none_last}
use Rattle.fab_store.proofs.opening.other_schema.Goals as goal

pub loop-line-preserved : goal.loop-line-preserved
loop-line-preserved c = λ n. none_next c.args.lines.now c.loop-line.line-index c.line-item.result n (omega arith) c.line-item.is (c.in_default.ensures n) (c.loop-line.invariant n)

pub returns : goal.returns
returns c = λ n. none_last c.args.lines.now c.loop-line.line-index n (omega arith) (c.loop-line.invariant n)
