-- Who counts for a quorum, and for which tenants, from what was found once for all rules.
use Rattle.std.proofs.Common.{◌≡◌, ℕ, ◌+◌, Bool, true, false, ◌&&◌, ◌||◌, List, [], ◌∷◌, Option, Some, None, map, count_by, cond, nat_le, refl, sym, ap, ◌∙◌}
use Rattle.std.specs.Prelude.{is_some, if◌then◌else◌}
use Rattle.std.specs.List.{list_all, list_any, zip}
use mathlib.Core.Bool.{true≢false}
use Rattle.std.proofs.lemmas.List.Sums.{sum_by-cons}
use Rattle.fab_policy_base.specs.Callers.{lists_tenant}
use Rattle.fab_policy_base.specs.Policies.{CallerRow, PolicyRows}
use Rattle.fab_policy_base.specs.declared.policy.Quorum.{Quorum}
use Rattle.fab_policy.specs.Found.{AreFound, marks, has_signed_any}
use Rattle.fab_policy.specs.Verdicts.{has_role, has_signed, has_quorum, is_signed_for, is_each_signed_for}
use Rattle.fab_policy.specs.declared.act.Act.{Act}
use Rattle.fab_policy.specs.declared.act.PlanApprovals.{PlanApprovals}
use Rattle.fab_policy.specs.declared.verdicts.Findings.{Findings}

-- counting pairs of an element and its mark counts the elements
count_by-zip : {X : Type 0} (f g : X → Bool) (xs : List X) → count_by (λ p. p.1 && g p.0) (zip xs (map f xs)) ≡ count_by (λ x. f x && g x) xs
count_by-zip f g [] = refl
count_by-zip {X} f g (x ∷ xs) =
    let paired : X × Bool → ℕ = λ p. cond (p.1 && g p.0) 1 0 in
    let single : X → ℕ = λ x. cond (f x && g x) 1 0 in
    sum_by-cons paired (x, f x) (zip xs (map f xs)) ∙ ap (λ n. single x + n) (count_by-zip f g xs) ∙ sym (sum_by-cons single x xs)

-- the marks that were found for the quorum
found : (p : PolicyRows) (a : Act) (f : Findings) (fresh : Bool) → AreFound p a f → (if fresh then f.fresh.now else f.signed.now) ≡ marks a fresh p.callers
found p a f true h = h.fresh
found p a f false h = h.signed

-- where there is a plan, its quorum is met by the marks that were found
pub met : (p : PolicyRows) (a : Act) (f : Findings) (q : Quorum) (plan : Option PlanApprovals) → a.plan ≡ plan → is_some plan ≡ true → AreFound p a f → nat_le q.count (count_by (λ x. x.1 && has_role q.approver x.0) (zip p.callers (if q.fresh then f.fresh.now else f.signed.now))) ≡ has_quorum p.callers a.revision q plan
met p a f q None e some h = absurd (true≢false (sym some))
met p a f q (Some plan) e some h =
    ap (λ bs. nat_le q.count (count_by (λ x. x.1 && has_role q.approver x.0) (zip p.callers bs))) (found p a f q.fresh h ∙ ap (λ o. map (has_signed_any a q.fresh o) p.callers) e)
    ∙ ap (nat_le q.count) (count_by-zip (has_signed plan a.revision q.fresh) (has_role q.approver) p.callers)

-- looking through pairs of an element and its mark looks through the elements
list_any-zip : {X : Type 0} (f : X → Bool) (test : X × Bool → Bool) (xs : List X) → list_any test (zip xs (map f xs)) ≡ list_any (λ x. test (x, f x)) xs
list_any-zip f test [] = refl
list_any-zip f test (x ∷ xs) = ap (λ b. test (x, f x) || b) (list_any-zip f test xs)

-- a mark that was found, the role and the list are what signing for a tenant asks
abbrev signs_by : Option (List ℕ) → List ℕ → CallerRow × Bool → Bool
signs_by approver tenant x = (x.1 && has_role approver x.0) && lists_tenant x.0 tenant

marked : (a : Act) (approver : Option (List ℕ)) (fresh : Bool) (tenant : List ℕ) (cs : List CallerRow) (plan : Option PlanApprovals) → list_any (signs_by approver tenant) (zip cs (map (has_signed_any a fresh plan) cs)) ≡ is_signed_for cs a.revision approver fresh plan tenant
marked a approver fresh tenant cs None = list_any-zip (has_signed_any a fresh None) (signs_by approver tenant) cs
marked a approver fresh tenant cs (Some plan) = list_any-zip (has_signed_any a fresh (Some plan)) (signs_by approver tenant) cs

-- each touched tenant is signed for by the marks that were found
pub signed : (p : PolicyRows) (a : Act) (f : Findings) (approver : Option (List ℕ)) (fresh : Bool) → AreFound p a f → list_all (λ tenant. list_any (λ x. (x.1 && has_role approver x.0) && lists_tenant x.0 tenant) (zip p.callers (if fresh then f.fresh.now else f.signed.now))) a.touched.now ≡ is_each_signed_for p.callers a approver fresh
signed p a f approver fresh h =
    ap (λ bs. list_all (λ tenant. list_any (signs_by approver tenant) (zip p.callers bs)) a.touched.now) (found p a f fresh h)
    ∙ (λ i. list_all (λ tenant. marked a approver fresh tenant p.callers a.plan i) a.touched.now)
