use Rattle.std.specs.String.{string_bytes}
use Rattle.fab_plans_text.proofs.KeptPlans.{spelled_is, kept_for}
use Rattle.fab_plans_text.proofs.kept.PlanText.keep.Goals as goal

pub invariant_of-result : goal.invariant_of-result
invariant_of-result g c = ((c.requires.0, ∣ c.requires.1 ∣₁), tt)

pub invariant_of-result-2 : goal.invariant_of-result-2
invariant_of-result-2 g c = kept_for (string_bytes c.args.text) c.result-1.given.0 c.requires.0 c.requires.1

pub returns : goal.returns
returns g c steps kept = spelled_is (string_bytes c.args.text) c.result-1.given.0 steps kept
