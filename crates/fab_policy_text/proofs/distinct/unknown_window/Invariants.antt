use Rattle.std.proofs.Common.{◌≡◌, None}
use Rattle.std.specs.List.{AllWithin}
use Rattle.fab_policy_base.specs.Sound.{window_names}
use Rattle.fab_policy_text.specs.Tables.{missing_window}
use Rattle.fab_policy_text.proofs.distinct.unknown_window.Given as goal

abbrev pub invariant-loop-rule : goal.invariant-loop-rule
invariant-loop-rule l = AllWithin (λ r. missing_window (window_names l.windows) r.window ≡ None) l.rules 0 l.rule-index
