use Rattle.std.proofs.Common.{◌+◌, ◌∙◌, arith, length-take, length-drop}
use Rattle.std.specs.Prelude.{◌==◌}
use Rattle.fab_wire_base.proofs.HeadLemmas.{read-none, read-consumes, read-more, full-refused, head-refused, ended, ended-count}
use Rattle.fab_wire_base.proofs.head.read_head.Goals as goal

pub returns-in-Whole-clause-head : goal.returns-in-Whole-clause-head
returns-in-Whole-clause-head g c = (
  omega (arith, c.in-Ok.ensures.bytes.0, length-drop c.loop-filled.filled c.read_at.new.buf),
  read-consumes _ _ _ _ _ c.loop-filled.filled c.in-Ok.given _ _ c.loop-filled.invariant.1 c.in-Ok.ensures.front c.in-Ok.ensures.bytes.1,
  c.in-Whole.ensures.0,
  c.in-Whole.ensures.1,
)

pub loop-filled-preserved : goal.loop-filled-preserved
loop-filled-preserved g c = (
  omega (arith, c.in-Ok.ensures.bytes.0, length-drop c.loop-filled.filled c.read_at.new.buf),
  read-more _ _ _ _ _ _ c.loop-filled.filled c.in-Ok.given _ _ c.loop-filled.invariant.1 c.in-Ok.ensures.front c.in-Ok.ensures.bytes.1 c.in-Ok.ensures.count c.in-Partial.ensures.0,
)

pub returns-in-Never-clause-head : goal.returns-in-Never-clause-head
returns-in-Never-clause-head g c =
    head-refused _ _ _
    (read-consumes _ _ _ _ _ c.loop-filled.filled c.in-Ok.given _ _ c.loop-filled.invariant.1 c.in-Ok.ensures.front c.in-Ok.ensures.bytes.1)
    (omega (arith, length-take (c.loop-filled.filled + c.in-Ok.given) c.read_at.new.buf, c.in-Ok.ensures.bytes.0, length-drop c.loop-filled.filled c.read_at.new.buf))
    c.in-Never.ensures

pub returns-clause-head : goal.returns-clause-head
returns-clause-head g c = full-refused _ _ _ _ _ c.loop-filled.invariant.1 (omega (arith, length-take c.loop-filled.filled c.loop-filled.buf))

pub loop-filled-init : goal.loop-filled-init
loop-filled-init g c = (omega arith, read-none _ _)

pub loop-filled-smaller : goal.loop-filled-smaller
loop-filled-smaller g c = omega arith

pub read_at-requires : goal.read_at-requires
read_at-requires g c = c.loop-filled-test.true

pub overflow_add-filled : goal.overflow_add-filled
overflow_add-filled g c = omega (arith, c.in-Ok.ensures.bytes.0, length-drop c.loop-filled.filled c.read_at.new.buf)

pub parse_so_far-requires : goal.parse_so_far-requires
parse_so_far-requires g c = omega arith

pub returns-then-given-eq0-clause-head : goal.returns-then-given-eq0-clause-head
returns-then-given-eq0-clause-head g c =
    ended _ _ _ _ _ c.loop-filled.filled c.in-Ok.given c.loop-filled.buf _ _ _ _ c.loop-filled.invariant.0 c.loop-filled.invariant.1
    c.if-given-eq0.true c.in-Ok.ensures.bytes.1 (c.in-Ok.ensures.bytes.2 c.if-given-eq0.true) c.head_at_end.ensures

pub returns-then-given-eq0-clause-count : goal.returns-then-given-eq0-clause-count
returns-then-given-eq0-clause-count g c = ended-count (c.loop-filled.filled == 0) _ _ _ _ c.head_at_end.ensures c.in-Ok.ensures.count c.loop-filled.invariant.1.count

pub returns-in-Whole-clause-count : goal.returns-in-Whole-clause-count
returns-in-Whole-clause-count g c = c.in-Ok.ensures.count ∙ c.loop-filled.invariant.1.count

pub returns-in-Never-clause-count : goal.returns-in-Never-clause-count
returns-in-Never-clause-count g c = c.in-Ok.ensures.count ∙ c.loop-filled.invariant.1.count

pub returns-clause-count : goal.returns-clause-count
returns-clause-count g c = c.loop-filled.invariant.1.count
