use Rattle.std.proofs.Common.{sym, ◌∙◌, arith}
use Rattle.fab_wire_streams.proofs.Texts.{escapes-nil, plain-more}
use Rattle.fab_wire_streams.proofs.escapes.plain_len.Goals as goal

pub loop-end-init : goal.loop-end-init
loop-end-init c = (omega arith, escapes-nil)

pub loop-end-preserved : goal.loop-end-preserved
loop-end-preserved c = (omega arith, plain-more c.loop-end.end c.args.text.now c.loop-end-test.true (sym (sym c.if-stands_for_itself.true ∙ c.stands_for_itself.ensures)) c.loop-end.invariant.1)
