use Rattle.std.proofs.Common.{subst}
use Rattle.std.specs.String.{string_bytes}
use Rattle.fab_plans_text.specs.KeptTexts.{IsKeptFor}
use Rattle.fab_plans_text.proofs.KeptPlans.{same_told}
use Rattle.fab_plans_text.proofs.kept.PlanText.is_same.Goals as goal

pub returns : goal.returns
returns g c =
    let own = subst (IsKeptFor (string_bytes c.self.inside.text)) c.self.view_is c.self.invariant in
    let others = subst (IsKeptFor (string_bytes c.other.inside.text)) c.other.view_is c.other.invariant in
    same_told c.args.self.now c.args.other.now _ _ c.as_str-text.result.now c.as_str-others.result.now c.eq.result c.eq.ensures c.as_str-text.ensures.value c.as_str-others.ensures.value own others
