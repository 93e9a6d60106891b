use Rattle.std.proofs.Common.{◌≡◌, length, sym, ◌∙◌, subst, arith}
use Rattle.std.specs.String.{string_bytes}
use Rattle.fab_plans_text.specs.KeptTexts.{IsKeptFor}
use Rattle.fab_plans_text.proofs.KeptPlans.{nothing_kept}
use Rattle.fab_plans_text.proofs.kept.PlanText.steps.Goals as goal

pub returns-then-len-eq0 : goal.returns-then-len-eq0
returns-then-len-eq0 g c =
    let own = subst (IsKeptFor (string_bytes c.self.inside.text)) c.self.view_is c.self.invariant in
    let none : length (string_bytes c.self.inside.text) ≡ 0 = omega (arith, c.self.inside.text.bytes.ok.0) in
    c.new.ensures.items ∙ sym (nothing_kept (string_bytes c.self.inside.text) c.args.self.now own none)
