-- A helper of the proof of `decide`: what is found of an act once for all rules, and what is kept of one for
-- the next.
use Rattle.std.specs.Prelude.{◌≡◌, Bool, true, false, Option, Some, None, List, map, slice_get}
use Rattle.fab_policy_base.specs.Policies.{CallerRow, PolicyRows}
use Rattle.fab_policy.specs.Verdicts.{is_own, has_signed, is_each_signed_for}
use Rattle.fab_policy.specs.declared.act.Act.{Act}
use Rattle.fab_policy.specs.declared.act.PlanApprovals.{PlanApprovals}
use Rattle.fab_policy.specs.declared.verdicts.Findings.{Findings}
use Rattle.fab_policy.specs.declared.verdicts.Signing.{Signing}

-- whether the caller counts for a quorum that asks for no role
abbrev pub has_signed_any : Act → Bool → Option PlanApprovals → CallerRow → Bool
has_signed_any a fresh None c = false
has_signed_any a fresh (Some plan) c = has_signed plan a.revision fresh c

-- of each caller whether they do
abbrev pub marks : Act → Bool → List CallerRow → List Bool
marks a fresh cs = map (has_signed_any a fresh a.plan) cs

-- what is found of an act is so
pub record AreFound (p : PolicyRows) (a : Act) (f : Findings) : Type 0 where
  pub own : f.own ≡ is_own a.touched.now (slice_get p.callers a.caller)
  pub signed : f.signed.now ≡ marks a false p.callers
  pub fresh : f.fresh.now ≡ marks a true p.callers

-- what is kept of a rule is so
abbrev pub IsKnown : PolicyRows → Act → Option Signing → Type 0
IsKnown p a None = Unit {0}
IsKnown p a (Some s) = s.each ≡ is_each_signed_for p.callers a s.approver s.fresh
