-- A rule is told to hold where its needs are met.
use Rattle.std.proofs.Common.{◌≡◌, ◌∙◌, ◌↔◌, ℕ, Bool, true, false, not, ◌&&◌, ◌||◌, List, Option, Some, None, refl, sym, ap}
use mathlib.Core.Bool.{true≢false}
use Rattle.fab_policy_base.specs.Policies.{PolicyRows, RuleRow}
use Rattle.fab_policy_base.specs.declared.policy.Quorum.{Quorum}
use Rattle.fab_policy_base.specs.declared.policy.Scope.{Scope}
use Rattle.fab_policy.specs.Verdicts.{Holds, is_each_signed_for, meets}
use Rattle.fab_policy.specs.declared.act.Act.{Act}
use Rattle.fab_policy.specs.declared.act.Need.{Need}
use Rattle.fab_policy.specs.declared.act.Need.TheVariants as need
use Rattle.fab_policy_looks.specs.Findings.{IsFinding, IsQuorum, IsRole, IsScope, IsWindow}
use Rattle.fab_policy_looks.specs.declared.found.QuorumNeed.{QuorumNeed}
use Rattle.fab_policy_looks.specs.declared.found.RoleNeed.{RoleNeed}
use Rattle.fab_policy_looks.specs.declared.found.RuleFinding.{RuleFinding}
use Rattle.fab_policy_looks.specs.declared.found.WindowNeed.{WindowNeed}
use Rattle.fab_files_policy.specs.Findings.{holds, is_role_met, is_scope_met, is_window_met, is_quorum_met}

and_left : (a b : Bool) → (a && b) ≡ true → a ≡ true
and_left true b e = refl
and_left false b e = e

and_right : (a b : Bool) → (a && b) ≡ true → b ≡ true
and_right true b e = e
and_right false b e = absurd (true≢false (sym e))

both : (a b : Bool) → a ≡ true → b ≡ true → (a && b) ≡ true
both true b e f = f
both false b e f = absurd (true≢false (sym e))

-- that each tenant is signed for says nothing more where it is told already
tenants_met : (each signed told : Bool) → told ≡ (not each || signed) → ((not each || told) ≡ true) ↔ ((not each || signed) ≡ true)
tenants_met true signed told is = (λ h. sym is ∙ h, λ h. is ∙ h)
tenants_met false signed told is = (λ h. refl, λ h. refl)

module _ (p : PolicyRows) (a : Act) where
  -- the same rule but for one need
  role_met : (r : RuleRow) (role : Option (List ℕ)) (found : Option RoleNeed) → IsRole p a (record r { role = role }) role found → is_role_met found ≡ meets p a (record r { role = role }) need.Role
  role_met r None None is = refl
  role_met r None (Some n) is = absurd is
  role_met r (Some role) None is = absurd is
  role_met r (Some role) (Some n) is = is.1

  scope_met : (r : RuleRow) (scope : Option Scope) (found : Option Bool) → IsScope p a (record r { scope = scope }) scope found → is_scope_met found ≡ meets p a (record r { scope = scope }) need.Scope
  scope_met r None None is = refl
  scope_met r None (Some met) is = absurd is
  scope_met r (Some scope) None is = absurd is
  scope_met r (Some scope) (Some met) is = is

  window_met : (r : RuleRow) (window : Option (List ℕ)) (found : Option WindowNeed) → IsWindow p a (record r { window = window }) window found → is_window_met found ≡ meets p a (record r { window = window }) need.Window
  window_met r None None is = refl
  window_met r None (Some n) is = absurd is
  window_met r (Some window) None is = absurd is
  window_met r (Some window) (Some n) is = is.1

  quorum_met : (r : RuleRow) (approvals : Option Quorum) (found : Option QuorumNeed) → IsQuorum p a (record r { approvals = approvals }) approvals found
      → (is_quorum_met found ≡ true) ↔ ((meets p a (record r { approvals = approvals }) need.Approvals ≡ true) × (meets p a (record r { approvals = approvals }) need.Tenants ≡ true))
  quorum_met r None None is = (λ h. (refl, refl), λ h. refl)
  quorum_met r None (Some n) is = absurd is
  quorum_met r (Some q) None is = absurd is
  quorum_met r (Some q) (Some n) is =
      let tenants = tenants_met q.each_tenant (is_each_signed_for p.callers a q.approver q.fresh) n.is_each_signed is.4 in
      let each : (not n.each_tenant || n.is_each_signed) ≡ (not q.each_tenant || n.is_each_signed) = ap (λ (b : Bool). not b || n.is_each_signed) is.3 in (
        λ h. (sym is.2 ∙ and_left n.is_met _ h, tenants.0 (sym each ∙ and_right n.is_met _ h)),
        λ h. both n.is_met _ (is.2 ∙ h.0) (each ∙ tenants.1 h.1),
      )

  by_need : (r : RuleRow) → meets p a r need.Role ≡ true → meets p a r need.Scope ≡ true → meets p a r need.Window ≡ true → meets p a r need.Approvals ≡ true → meets p a r need.Tenants ≡ true → (n : Need) → meets p a r n ≡ true
  by_need r role scope window approvals tenants need.Rule = refl
  by_need r role scope window approvals tenants need.Role = role
  by_need r role scope window approvals tenants need.Scope = scope
  by_need r role scope window approvals tenants need.Window = window
  by_need r role scope window approvals tenants need.Approvals = approvals
  by_need r role scope window approvals tenants need.Tenants = tenants

  pub told_holds : (r : RuleRow) (f : RuleFinding) (number : ℕ) → IsFinding p a r number f → (holds f ≡ true) ↔ Holds p a r
  told_holds r f number is =
      let role = role_met r r.role f.role is.role in
      let scope = scope_met r r.scope f.scope is.scope in
      let window = window_met r r.window f.window is.window in
      let quorum = quorum_met r r.approvals f.approvals is.approvals in (
        λ h.
            let others = and_right (is_role_met f.role) _ h in
            let timed = and_right (is_scope_met f.scope) _ others in
            let signed = quorum.0 (and_right (is_window_met f.window) _ timed) in
            by_need r (sym role ∙ and_left (is_role_met f.role) _ h) (sym scope ∙ and_left (is_scope_met f.scope) _ others) (sym window ∙ and_left (is_window_met f.window) _ timed) signed.0 signed.1,
        λ h. both (is_role_met f.role) _ (role ∙ h need.Role) (both (is_scope_met f.scope) _ (scope ∙ h need.Scope) (both (is_window_met f.window) _ (window ∙ h need.Window) (quorum.1 (h need.Approvals, h need.Tenants)))),
      )
