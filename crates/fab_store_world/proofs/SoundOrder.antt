-- What an activation in force changed is in order, in a sound world.
use Rattle.std.proofs.Common.{◌≡◌, ℕ, List, [], ◌∷◌, ◌++◌, reverse, Contains, Option, Some, is_some, arith, inl, inr, refl, sym, ap, ◌∙◌, subst}
use Rattle.std.specs.FinMap as map
use Rattle.std.specs.Option.{option_and_then, option_to_list}
use Rattle.std.proofs.lemmas.List.Elements.{Contains-append_cases, Contains-push_cases}
use Rattle.std.proofs.lemmas.List.Sorted.{IsPermutation-reverse, Contains-permutation}
use Rattle.fab_reach_base.specs.Records.{ConfigRows}
use Rattle.fab_store_world.specs.PlanRows.{ChangesInOrder, ListInOrder}
use Rattle.fab_world.specs.History.{LeadsBack, changes_at, changes_of}
use Rattle.fab_world.specs.PlanRecords.{Standing, staged, active, rolled_back, withdrawn, PlanRecord}
use Rattle.fab_world.specs.Plans.{Change, undo_of}
use Rattle.fab_world.specs.Soundness.{IsSound}
use Rattle.fab_world.specs.Worlds.{WorldRows}

-- the change of the first name
first_in_order : (plans : List ℕ → Option PlanRecord) (m : List ℕ) (others : List Change) (c : ConfigRows) (p : PlanRecord) → plans m ≡ Some p → LeadsBack (changes_at plans m ++ others) c → ChangesInOrder p.standing
first_in_order plans m others c p is leads = by p.standing (subst (λ o. LeadsBack (option_to_list (option_and_then (λ (x : PlanRecord). undo_of x.standing) o) ++ others) c) is leads)
  where
    by : (s : Standing) → LeadsBack (option_to_list (undo_of s) ++ others) c → ChangesInOrder s
    by staged l = tt
    by (active t u) l = (l.1.differs.takes.sorted, l.1.differs.adds.sorted)
    by rolled_back l = tt
    by withdrawn l = tt

-- behind some changes the others lead back
others_lead : (changes others : List Change) (c : ConfigRows) → LeadsBack (changes ++ others) c → (b : ConfigRows) × LeadsBack others b
others_lead [] others c leads = (c, leads)
others_lead (change ∷ changes) others c leads = others_lead changes others leads.0 leads.2

pub one_item : {X : Type 0} (x y : X) → Contains (x ∷ []) y → x ≡ y
one_item x y h = elim (Contains-push_cases [] x y h) [
  | inl none ↦ absurd (omega (arith, none.1))
  | inr is ↦ is
]

-- the changes of the names lead back, so each of them is in order
leads_in_order : (plans : List ℕ → Option PlanRecord) (names : List (List ℕ)) (c : ConfigRows) → LeadsBack (changes_of plans names) c → (n : List ℕ) (p : PlanRecord) → Contains names n → plans n ≡ Some p → ChangesInOrder p.standing
leads_in_order plans [] c leads n p there is = absurd (omega (arith, there.1))
leads_in_order plans (m ∷ names) c leads n p there is = elim (Contains-append_cases (m ∷ []) names n there) [
  | inl first ↦ first_in_order plans m (changes_of plans names) c p (ap plans (one_item m n first) ∙ is) leads
  | inr later ↦ let rest = others_lead (changes_at plans m) (changes_of plans names) c leads in leads_in_order plans names rest.0 rest.1 n p later is
]

pub sound_in_order : (w : WorldRows) → IsSound w → ListInOrder (map.get w.plans)
sound_in_order w s n p is = by p.standing refl
  where
    by : (x : Standing) → p.standing ≡ x → ChangesInOrder p.standing
    by staged e = subst ChangesInOrder (sym e) tt
    by rolled_back e = subst ChangesInOrder (sym e) tt
    by withdrawn e = subst ChangesInOrder (sym e) tt
    by (active t u) e =
        let there : Contains w.order n = (s.order.lists n).1 (p, is, ap (λ y. is_some (undo_of y)) e) in
        leads_in_order (map.get w.plans) (reverse w.order) w.config s.earlier n p (Contains-permutation w.order (reverse w.order) n (IsPermutation-reverse w.order) there) is
