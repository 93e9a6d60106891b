use Rattle.std.proofs.Common.{◌≡◌, ◌∙◌, sym, ap, Some, None, true, false}
use Rattle.std.specs.Prelude.{if◌then◌else◌}
use Rattle.fab_policy_base.specs.Callers.{has_name}
use Rattle.fab_policy_base.specs.Sound.{window_names}
use Rattle.fab_policy_text.specs.Tables.{missing_window}
use Rattle.fab_policy_text.proofs.Repeats.{has_name-map}
use Rattle.fab_policy_text.proofs.distinct.missing_window.Goals as goal

pub returns-then-some_has_name : goal.returns-then-some_has_name
returns-then-some_has_name c =
    let told : has_name (window_names c.args.windows.now) c.in-Some.name ≡ true = sym (has_name-map (λ w. w.name) c.args.windows.now c.in-Some.name) ∙ sym c.some_has_name.ensures ∙ c.if-some_has_name.true in
    ap (λ b. if b then None else Some c.in-Some.name) (sym told) ∙ ap (missing_window (window_names c.args.windows.now)) (sym c.in-Some.is)

pub returns-else-some_has_name : goal.returns-else-some_has_name
returns-else-some_has_name c =
    let told : has_name (window_names c.args.windows.now) c.in-Some.name ≡ false = sym (has_name-map (λ w. w.name) c.args.windows.now c.in-Some.name) ∙ sym c.some_has_name.ensures ∙ c.if-some_has_name.false in
    ap (λ b. if b then None else Some c.in-Some.name) (sym told) ∙ ap (missing_window (window_names c.args.windows.now)) (sym c.in-Some.is)
