use Rattle.std.proofs.Common.{inl, inr, refl, ap}
use Rattle.fab_desk_base.specs.declared.reply.Reply.TheVariants as reply
use Rattle.fab_desk_machine.proofs.finish.turn_down.Goals as goal

pub returns-clause-end : goal.returns-clause-end
returns-clause-end g c = elim c.refusal.ensures [ inl m ↦ inl (ap reply.Refused m) | inr s ↦ inr (inl (c.refusal.result, s, (refl, refl))) ]
