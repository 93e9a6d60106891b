use Rattle.std.proofs.Common.{take, map}
use Rattle.fab_plans_base.specs.Values.{SpellsValues, texts_of, of_member}
use Rattle.fab_plans_text.proofs.word.members.Given as goal

abbrev pub invariant-loop-word : goal.invariant-loop-word
invariant-loop-word g l = SpellsValues (texts_of (take l.word-index l.words)) (map of_member l.members.items)
