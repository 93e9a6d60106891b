-- The approvals of a plan, as a list.
use Rattle.std.proofs.Common.{◌≡◌, ◌↔◌, ℕ, ◌⊎◌, List, [], ◌∷◌, zero, suc, map, Contains, Option, Some, inl, inr, sym, ap, ◌∙◌, subst, arith}
use Rattle.std.specs.BTreeMap.{BTreeMap, IsOrdered, get}
use Rattle.std.specs.FinMap as finite
use Rattle.std.proofs.lemmas.Map.Views.{btree_map_get_iff}
use Rattle.fab_reach_base.proofs.fab_lemmas.SeenMaps.{same_look_ups}
use Rattle.fab_reach_base.specs.fab_names.Orders.{name_cmp}
use Rattle.fab_reach_base.proofs.fab_names.OrderLaws.{name_total, name_exact}
use Rattle.fab_policy.specs.declared.act.Approval.{Approval}
use Rattle.fab_reach_base.proofs.Same.{same_some}
use Rattle.fab_world.specs.PlanRecords.{PlanRecord}
use Rattle.fab_world.specs.Worlds.{WorldRows}
use Rattle.fab_desk_base.specs.Acts.{IsApprovalOf}
use Rattle.fab_desk_trials.specs.Named.{approval_of, AreListed}

abbrev Entry : Type 0
Entry = List ℕ × ℕ

-- what is behind the first item
later : {X : Type 0} (x y : X) (xs : List X) → Contains xs y → Contains (x ∷ xs) y
later x y xs h = let l = h.1 in (suc h.0, omega arith, h.2)

first_or_later : {X : Type 0} (x y : X) (xs : List X) → Contains (x ∷ xs) y → (x ≡ y) ⊎ Contains xs y
first_or_later x y xs (zero, l, e) = inl e
first_or_later x y xs (suc k, l, e) = inr (k, omega (arith, l), e)

-- an entry is listed as its approval, and an approval is that of an entry
listed_to : (es : List Entry) (x : Approval) → Contains (map approval_of es) x → Contains es (x.caller, x.revision)
listed_to [] x h = absurd (omega (arith, h.1))
listed_to (e ∷ es) x h = elim (first_or_later (approval_of e) x (map approval_of es) h) [
  | inl is ↦ (0, omega arith, ap (λ (y : Approval). (y.caller, y.revision)) is)
  | inr more ↦ later e (x.caller, x.revision) es (listed_to es x more)
]

listed_from : (es : List Entry) (x : Approval) → Contains es (x.caller, x.revision) → Contains (map approval_of es) x
listed_from [] x h = absurd (omega (arith, h.1))
listed_from (e ∷ es) x h = elim (first_or_later e (x.caller, x.revision) es h) [
  | inl is ↦ (0, omega arith, ap approval_of is)
  | inr more ↦ later (approval_of e) x (map approval_of es) (listed_from es x more)
]

-- the list has just what look-ups find
pub given_listed : (t : BTreeMap (List ℕ) ℕ) (list : List Approval) → IsOrdered name_cmp t → list ≡ map approval_of t.entries → (x : Approval) → Contains list x ↔ (get name_cmp t x.caller ≡ Some x.revision)
given_listed t list ordered is x =
    let found = btree_map_get_iff name_total name_exact t ordered x.caller x.revision in (
      λ h. found.1 (listed_to t.entries x (subst (λ xs. Contains xs x) is h)),
      λ h. subst (λ xs. Contains xs x) (sym is) (listed_from t.entries x (found.0 h)),
    )

-- the list has just the approvals of the plan that is there
pub approvals_found : (w : WorldRows) (n : List ℕ) (p : PlanRecord) (t : BTreeMap (List ℕ) ℕ) (list : List Approval) → finite.get w.plans n ≡ Some p → finite.from_entries t.entries ≡ p.approvals → ((x : Approval) → Contains list x ↔ (get name_cmp t x.caller ≡ Some x.revision))
    → (x : Approval) → Contains list x ↔ IsApprovalOf w n x
approvals_found w n p t list there is all x =
    let same = ap (λ (f : List ℕ → Option ℕ). f x.caller) (same_look_ups name_total t p.approvals is) in (
      λ h. (p, there, sym same ∙ (all x).0 h),
      λ h. (all x).1 (same ∙ ap (λ (q : PlanRecord). finite.get q.approvals x.caller) (same_some there h.1) ∙ h.2),
    )

-- the approvals under the name that is given
pub listed_under : (w : WorldRows) (plan : Option (List ℕ)) (n : List ℕ) (list : List Approval) → plan ≡ Some n → ((x : Approval) → Contains list x ↔ IsApprovalOf w n x) → AreListed w plan list
listed_under w plan n list is all m at = subst (λ k. (x : Approval) → Contains list x ↔ IsApprovalOf w k x) (same_some is at) all
