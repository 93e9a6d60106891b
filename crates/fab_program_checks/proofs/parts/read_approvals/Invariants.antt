use Rattle.std.proofs.Common.{◌++◌, List, map, drop}
use Rattle.fab_program_words.specs.Lists.{SpellsApproval}
use Rattle.fab_policy.specs.declared.act.Approval.{Approval}
use Rattle.fab_program_checks.specs.Parts.{AreRead}
use Rattle.fab_program_checks.proofs.parts.read_approvals.Given as goal

abbrev pub invariant-loop-part : goal.invariant-loop-part
invariant-loop-part l = (rest : List (Approval)) → AreRead SpellsApproval (map (λ part. part.now) (drop l.part-index l.parts)) rest → AreRead SpellsApproval (map (λ part. part.now) l.fn.parts) (l.approvals.items ++ rest)
