use Rattle.fab_store_drafts.proofs.Law.{sound_before, there_before}
use Rattle.fab_store_drafts.proofs.laws.sound_before_a_change.Goals as goal

pub returns-clause-sound : goal.returns-clause-sound
returns-clause-sound g c d taken added was tidy x there = sound_before c d taken added was tidy x there

pub returns-clause-exact : goal.returns-clause-exact
returns-clause-exact g c d taken added was tidy x s = there_before c d taken added was tidy x s
