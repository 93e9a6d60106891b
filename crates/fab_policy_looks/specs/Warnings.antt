-- What is no fault of a policy, and is worth a look.
use Rattle.std.specs.Prelude.{ℕ, suc, List, [], ◌∷◌, ◌++◌, Option}
use Rattle.std.specs.List.{filter_map}
use Rattle.fab_policy_base.specs.Policies.{RuleRow, PolicyRows}
use Rattle.fab_policy_base.specs.declared.policy.Action.{Action}
use Rattle.fab_policy_looks.specs.Flaws.{all_actions, flaws_of, unruled}
use Rattle.fab_policy_looks.specs.declared.warnings.Warning.{Warning}

-- those of the warnings that there are, in their order
abbrev pub told : List (Option Warning) → List Warning
told ws = filter_map (λ w. w) ws

-- those of rules in their order, of which the first has this number
abbrev pub of_rules : PolicyRows → ℕ → List RuleRow → List Warning
of_rules p n [] = []
of_rules p n (r ∷ rs) = told (flaws_of p n r) ++ of_rules p (suc n) rs

-- those of actions
abbrev pub of_actions : List RuleRow → List Action → List Warning
of_actions rules actions = filter_map (unruled rules) actions

-- rule by rule each reason for which no command meets it, and then the actions that no rule is about
abbrev pub warnings_of : PolicyRows → List Warning
warnings_of p = of_rules p 1 p.rules ++ of_actions p.rules all_actions
