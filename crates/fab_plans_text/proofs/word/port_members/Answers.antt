use Rattle.std.proofs.Common.{refl, inr}
use Rattle.std.proofs.lemmas.Result.{err_from_is_err_and}
use Rattle.fab_plans_base.specs.Values.{a_port_member, of_port_member}
use Rattle.fab_plans_text.proofs.Words.{list_more, list_fault}
use Rattle.fab_plans_text.proofs.word.port_members.Goals as goal

pub returns-in_err-read_port_member : goal.returns-in_err-read_port_member
returns-in_err-read_port_member g c =
    let p = err_from_is_err_and c.from_residual.result c.from_residual.ensures.1 in
    rw (p.1, p.2) (inr (list_fault a_port_member of_port_member (λ n. refl) c.args.words.now c.loop-word.members.items c.loop-word.word-index _ _ c.loop-word-test.true c.loop-word.invariant c.in_err-read_port_member.ensures))

pub loop-word-preserved : goal.loop-word-preserved
loop-word-preserved g c =
    rw c.in_ok-push.ensures.items (list_more of_port_member c.args.words.now c.loop-word.members.items _ c.loop-word.word-index _ c.loop-word-test.true c.loop-word.invariant c.in_ok-read_port_member.ensures)
