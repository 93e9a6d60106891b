use Rattle.std.proofs.Common.{subst}
use Rattle.fab_policy_base.specs.Sound.{AreDistinct, caller_names, caller_tokens}
use Rattle.fab_policy_text.specs.Tables.{PolicyTableFault, IsRepeated}
use Rattle.fab_policy_text.proofs.reading.callers_of.Goals as goal

pub returns-in-Err-clause-fault : goal.returns-in-Err-clause-fault
returns-in-Err-clause-fault c m =
    PolicyTableFault.repeated_caller c.in_ok-callers.callers.items c.in_ok-callers.ensures.ok
    (subst (λ xs. IsRepeated (caller_names xs) (caller_names xs) c.in-Err.e) c.as_slice.ensures.value c.in-Err.ensures.fault)

pub returns-in-Err-distinct_tokens-clause-fault : goal.returns-in-Err-distinct_tokens-clause-fault
returns-in-Err-distinct_tokens-clause-fault c m =
    PolicyTableFault.repeated_token c.in_ok-callers.callers.items c.in_ok-callers.ensures.ok
    (subst (λ xs. IsRepeated (caller_tokens xs) (caller_names xs) c.in-Err-distinct_tokens.e) c.as_slice-2.ensures.value c.in-Err-distinct_tokens.ensures.fault)

pub returns-clause-names : goal.returns-clause-names
returns-clause-names c = subst (λ xs. AreDistinct (caller_names xs)) c.as_slice.ensures.value c.in_default.ensures.ok

pub returns-clause-tokens : goal.returns-clause-tokens
returns-clause-tokens c = subst (λ xs. AreDistinct (caller_tokens xs)) c.as_slice-2.ensures.value c.in_default-distinct_tokens.ensures.ok
