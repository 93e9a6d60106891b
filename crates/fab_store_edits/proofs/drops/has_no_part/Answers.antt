use Rattle.std.proofs.Common.{sym, ◌∙◌}
use mathlib.Core.Bool.{true≢false}
use Rattle.fab_store_edits.proofs.drops.has_no_part.Goals as goal

pub returns-in-Some-clause-some : goal.returns-in-Some-clause-some
returns-in-Some-clause-some g c e = (c.in-Some.group.now, sym c.in-Some.ensures, λ none. true≢false (sym (c.is_bare.ensures.1 none) ∙ e))
