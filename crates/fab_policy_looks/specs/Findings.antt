-- What is found of the rules of a policy for an act: which apply, and which needs of theirs are met.
use Rattle.std.specs.Prelude.{◌≡◌, ◌⊎◌, ℕ, suc, Bool, List, [], ◌∷◌, ◌++◌, Option, Some, None, count_by}
use Rattle.fab_policy_base.specs.Policies.{CallerRow, RuleRow, PolicyRows}
use Rattle.fab_policy_base.specs.declared.policy.Quorum.{Quorum}
use Rattle.fab_policy_base.specs.declared.policy.Scope.{Scope}
use Rattle.fab_policy.specs.Verdicts.{Applies, counts, meets}
use Rattle.fab_policy.specs.declared.act.Act.{Act}
use Rattle.fab_policy.specs.declared.act.PlanApprovals.{PlanApprovals}
use Rattle.fab_policy.specs.declared.act.Need.TheVariants as need
use Rattle.fab_policy_looks.specs.declared.found.RoleNeed.{RoleNeed}
use Rattle.fab_policy_looks.specs.Openings.{IsOpening}
use Rattle.fab_policy_looks.specs.declared.found.WindowNeed.{WindowNeed}
use Rattle.fab_policy_looks.specs.declared.found.QuorumNeed.{QuorumNeed}
use Rattle.fab_policy_looks.specs.declared.found.RuleFinding.{RuleFinding}

-- how many callers count for a quorum: none where there is no plan
abbrev pub counted_for : List CallerRow → ℕ → Quorum → Option PlanApprovals → ℕ
counted_for cs revision q None = 0
counted_for cs revision q (Some plan) = count_by (counts plan revision q.approver q.fresh) cs

module _ (p : PolicyRows) (a : Act) (r : RuleRow) where
  -- the need of a role, where the rule has it, and whether it is met
  abbrev pub IsRole : Option (List ℕ) → Option RoleNeed → Type 0
  IsRole None None = Unit {0}
  IsRole None (Some found) = ⊥
  IsRole (Some role) None = ⊥
  IsRole (Some role) (Some found) = (found.role ≡ role) × (found.is_met ≡ meets p a r need.Role)

  -- the need of a window, where the rule has it, whether it is met, and when it will be
  abbrev pub IsWindow : Option (List ℕ) → Option WindowNeed → Type 0
  IsWindow None None = Unit {0}
  IsWindow None (Some found) = ⊥
  IsWindow (Some window) None = ⊥
  IsWindow (Some window) (Some found) = (found.window ≡ window) × (found.is_met ≡ meets p a r need.Window) × IsOpening p.windows window a.moment found.opens

  -- the need of own tenants, where the rule has it, and whether it is met
  abbrev pub IsScope : Option Scope → Option Bool → Type 0
  IsScope None None = Unit {0}
  IsScope None (Some met) = ⊥
  IsScope (Some scope) None = ⊥
  IsScope (Some scope) (Some met) = met ≡ meets p a r need.Scope

  -- the need of approvals, where the rule has it: how many are asked for and count, and whether that is met;
  -- whether each tenant is to be signed for, and is
  abbrev pub IsQuorum : Option Quorum → Option QuorumNeed → Type 0
  IsQuorum None None = Unit {0}
  IsQuorum None (Some found) = ⊥
  IsQuorum (Some q) None = ⊥
  IsQuorum (Some q) (Some found) =
      (found.asked ≡ q.count) × (found.counted ≡ counted_for p.callers a.revision q a.plan) × (found.is_met ≡ meets p a r need.Approvals)
      × (found.each_tenant ≡ q.each_tenant) × (found.is_each_signed ≡ meets p a r need.Tenants)

  -- what is found of the rule of this number
  pub record IsFinding (n : ℕ) (found : RuleFinding) : Type 0 where
    pub number : found.number ≡ n
    pub name : found.name ≡ r.name
    pub role : IsRole r.role found.role
    pub scope : IsScope r.scope found.scope
    pub window : IsWindow r.window found.window
    pub approvals : IsQuorum r.approvals found.approvals

-- what is found of the rule of this number, if it applies
abbrev pub IsFoundOf : PolicyRows → Act → ℕ → RuleRow → Option RuleFinding → Type 0
IsFoundOf p a n r None = ¬ Applies r a
IsFoundOf p a n r (Some one) = Applies r a × IsFinding p a r n one

-- what is found of one rule more
abbrev pub added_finding : List RuleFinding → Option RuleFinding → List RuleFinding
added_finding found None = found
added_finding found (Some one) = found ++ one ∷ []

abbrev pub AddsFinding : PolicyRows → Act → ℕ → RuleRow → List RuleFinding → List RuleFinding → Type 0
AddsFinding p a n r old new = (one : Option RuleFinding) × IsFoundOf p a n r one × (new ≡ added_finding old one)

-- of rules in their order, of which the first has this number: what is found of each that applies, and nothing of another
abbrev pub AreFindings : PolicyRows → Act → ℕ → List RuleRow → List RuleFinding → Type 0
AreFindings p a n [] found = found ≡ []
AreFindings p a n (r ∷ rs) found =
    (Applies r a × (one : RuleFinding) × (rest : List RuleFinding) × (found ≡ one ∷ rest) × IsFinding p a r n one × AreFindings p a (suc n) rs rest)
    ⊎ (¬ Applies r a × AreFindings p a (suc n) rs found)
