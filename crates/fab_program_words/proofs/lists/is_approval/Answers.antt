use Rattle.std.proofs.Common.{sym}
use mathlib.Core.Bool.{true≢false}
use Rattle.fab_program_words.proofs.lists.is_approval.Goals as goal

pub returns-in-None : goal.returns-in-None
returns-in-None c = (λ h. absurd (true≢false (sym h)), λ a. absurd (c.in-None.ensures a.0 a.1))
