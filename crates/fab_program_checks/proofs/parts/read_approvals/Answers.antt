use Rattle.std.proofs.Common.{map}
use Rattle.fab_program_words.specs.Lists.{SpellsApproval}
use Rattle.fab_program_checks.specs.Parts.{AreRead}
use Rattle.fab_program_checks.proofs.Gathered.{read_more, read_all}
use Rattle.fab_program_checks.proofs.parts.read_approvals.Goals as goal

pub loop-part-preserved : goal.loop-part-preserved
loop-part-preserved c = read_more SpellsApproval (AreRead SpellsApproval (map (λ part. part.now) c.args.parts.now)) (λ part. part.now) c.args.parts.now c.loop-part.part-index _ c.loop-part.approvals.items c.add_approval.new.approvals.items c.loop-part-test.true c.loop-part.invariant c.in_ok-add_approval.ensures

pub returns : goal.returns
returns c = read_all SpellsApproval (AreRead SpellsApproval (map (λ part. part.now) c.args.parts.now)) (λ part. part.now) c.args.parts.now c.loop-part.part-index c.loop-part.approvals.items c.loop-part-test.false c.loop-part.invariant
