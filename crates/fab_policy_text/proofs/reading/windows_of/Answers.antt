use Rattle.std.proofs.Common.{subst}
use Rattle.fab_policy_base.specs.Sound.{AreDistinct, window_names}
use Rattle.fab_policy_text.specs.Tables.{PolicyTableFault, IsRepeated}
use Rattle.fab_policy_text.proofs.reading.windows_of.Goals as goal

pub returns-in-Err-clause-fault : goal.returns-in-Err-clause-fault
returns-in-Err-clause-fault c m =
    PolicyTableFault.repeated_window c.in_ok-windows.windows.items c.in_ok-windows.ensures.ok
    (subst (λ xs. IsRepeated (window_names xs) (window_names xs) c.in-Err.e) c.as_slice.ensures.value c.in-Err.ensures.fault)

pub returns-clause-names : goal.returns-clause-names
returns-clause-names c = subst (λ xs. AreDistinct (window_names xs)) c.as_slice.ensures.value c.in_default.ensures.ok
