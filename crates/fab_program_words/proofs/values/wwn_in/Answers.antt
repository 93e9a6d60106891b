use Rattle.std.proofs.Common.{ℕ, List, Option, MatchOption, subst}
use Rattle.fab_names.specs.WorldWideNames.{SpellsWwn}
use Rattle.fab_program_words.specs.Values.{Has}
use Rattle.fab_program_words.proofs.values.wwn_in.Goals as goal

pub returns : goal.returns
returns c = subst (λ (o : Option (List ℕ)). MatchOption c.wwn_of.result ((x : ℕ) → ¬ Has SpellsWwn o x) (Has SpellsWwn o)) c.in-Some.ensures c.wwn_of.ensures
