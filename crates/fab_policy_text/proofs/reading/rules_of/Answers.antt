use Rattle.std.proofs.Common.{subst}
use Rattle.fab_policy_base.specs.Sound.{AreDistinct, rule_names}
use Rattle.fab_policy_text.specs.Tables.{PolicyTableFault, IsRepeated}
use Rattle.fab_policy_text.proofs.reading.rules_of.Goals as goal

pub returns-in-Err-clause-fault : goal.returns-in-Err-clause-fault
returns-in-Err-clause-fault c m =
    PolicyTableFault.repeated_rule c.in_ok-rules.rules.items c.in_ok-rules.ensures.ok
    (subst (λ xs. IsRepeated (rule_names xs) (rule_names xs) c.in-Err.e) c.as_slice.ensures.value c.in-Err.ensures.fault)

pub returns-clause-names : goal.returns-clause-names
returns-clause-names c = subst (λ xs. AreDistinct (rule_names xs)) c.as_slice.ensures.value c.in_default.ensures.ok
