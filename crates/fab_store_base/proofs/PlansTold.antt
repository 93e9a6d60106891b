-- Plans and their rows: each row stands, and each that stands is there.
use Rattle.std.proofs.Common.{◌≡◌, ℕ, ◌↔◌, List, Contains, Some, is_some, Bool, true, false, inl, inr, refl, sym, ap, ◌∙◌, subst}
use mathlib.Core.Bool.{true≢false}
use Rattle.std.specs.FinMap as map
use Rattle.std.proofs.lemmas.List.Elements.{All-contains, All-contains_itself, All-weaker}
use Rattle.fab_store_world.proofs.PlacedNames.{one_place, placed_name, place_of}
use Rattle.fab_store_world.specs.Positions.{IsPosition}
use Rattle.fab_store_world.specs.Standing.{IsPlanRow, HaveRows, plan_row}
use Rattle.fab_store_rows.specs.PlanEntries.{PlanEntry}
use Rattle.fab_store_rows.specs.declared.record_row.PlanState.TheVariants as state
use Rattle.fab_plans_base.specs.Plans.{Spells, plan_text}
use Rattle.fab_store_world.specs.Orders as orders
use Rattle.fab_store_world.specs.Orders.{numbered, IsOrderOf, IsPlaced}
use Rattle.fab_store_world.specs.PlanRows.{IsRowOf, HaveNames, ArePlanRows}
use Rattle.fab_world.specs.PlanRecords.{Standing, staged, active, rolled_back, withdrawn, PlanRecord}
use Rattle.fab_world.specs.Plans.{state_of, undo_of}
use Rattle.fab_world.specs.Soundness.{IsSound}
use Rattle.fab_world.specs.Worlds.{WorldRows}
use Rattle.fab_reach_base.proofs.Same.{same_some}

-- a plan is active exactly where its state is so called
active_state : (s : Standing) → is_some (undo_of s) ≡ true → state_of s ≡ state.Active
active_state (active taken added) h = refl
active_state staged h = absurd (true≢false (sym h))
active_state rolled_back h = absurd (true≢false (sym h))
active_state withdrawn h = absurd (true≢false (sym h))

state_active : (s : Standing) → state_of s ≡ state.Active → is_some (undo_of s) ≡ true
state_active (active taken added) h = refl
state_active staged h = absurd cc
state_active rolled_back h = absurd cc
state_active withdrawn h = absurd cc

module _ (w : WorldRows) (sound : IsSound w) where
  -- active plans are those of the order
  in_order : (n : List ℕ) (p : PlanRecord) → map.get w.plans n ≡ Some p → is_some (undo_of p.standing) ≡ true → Contains w.order n
  in_order n p at is = (sound.order.lists n).1 (p, at, is)

  of_order : (n : List ℕ) (p : PlanRecord) → map.get w.plans n ≡ Some p → Contains w.order n → is_some (undo_of p.standing) ≡ true
  of_order n p at here = let h = (sound.order.lists n).0 here in subst (λ (q : PlanRecord). is_some (undo_of q.standing) ≡ true) (same_some h.1 at) h.2

  -- each plan has a position
  position_of : (n : List ℕ) (p : PlanRecord) → map.get w.plans n ≡ Some p → (k : ℕ) × IsPosition w.order n k
  position_of n p at = by (is_some (undo_of p.standing)) refl
    where
      by : (b : Bool) → is_some (undo_of p.standing) ≡ b → (k : ℕ) × IsPosition w.order n k
      by true is = let place = place_of 1 w.order n (in_order n p at is) in (place.0, inl place.1)
      by false is = (0, inr (refl, λ here. true≢false (sym (of_order n p at here) ∙ is)))

  -- the plan of an active row is active, and the other way round
  row_active : (r : PlanEntry) (p : PlanRecord) → IsRowOf r p → orders.IsActive r → is_some (undo_of p.standing) ≡ true
  row_active r p is a = state_active p.standing (is.state ∙ a)

  active_row : (r : PlanEntry) (p : PlanRecord) → IsRowOf r p → is_some (undo_of p.standing) ≡ true → orders.IsActive r
  active_row r p is a = sym is.state ∙ active_state p.standing a

  -- ---- from rows that stand

  module _ (texts : HaveRows w) (plans : List PlanEntry) (are : (r : PlanEntry) → Contains plans r ↔ IsPlanRow w r) (names : HaveNames plans) where
    there : (n : List ℕ) (p : PlanRecord) (k : ℕ) → map.get w.plans n ≡ Some p → IsPosition w.order n k → Contains plans (plan_row n p k)
    there n p k at place = (are (plan_row n p k)).1 (record {
      plan = (p, at, record { author = refl; text = record { spells = texts n p at (sound.plans n p at).steps; printed = refl }; state = refl });
      position = place;
    })

    pub plans_told : ArePlanRows plans (map.get w.plans)
    plans_told = record {
      each = λ r here. ((are r).0 here).plan;
      every = λ n p at. let k = position_of n p at in (plan_row n p k.0, there n p k.0 at k.1, refl);
      once = names;
    }

    placed : (r : PlanEntry) → IsPlanRow w r → orders.IsActive r → Contains (numbered 1 w.order) (r.position, r.name)
    placed r h a = elim h.position [
      | inl place ↦ place
      | inr none ↦ absurd (none.1 (in_order r.name h.plan.0 h.plan.1 (row_active r h.plan.0 h.plan.2 a)))
    ]

    all_active : (e : ℕ × List ℕ) → Contains (numbered 1 w.order) e → IsPlaced plans e
    all_active e h =
        let p = (sound.order.lists e.1).0 (placed_name 1 w.order e.1 e.0 h) in
        (plan_row e.1 p.0 e.0, there e.1 p.0 e.0 p.1 (inl h), (active_state p.0.standing p.2, refl, refl))

    idle : (r : PlanEntry) → Contains plans r → ¬ orders.IsActive r → r.position ≡ 0
    idle r here not = let h = (are r).0 here in elim h.position [
      | inl place ↦ absurd (not (active_row r h.plan.0 h.plan.2 (of_order r.name h.plan.0 h.plan.1 (placed_name 1 w.order r.name r.position place))))
      | inr none ↦ none.0
    ]

    pub order_told : IsOrderOf plans w.order
    order_told = record {
      placed = λ r here a. placed r ((are r).0 here) a;
      all_active = all_active;
      others = All-weaker (Contains plans) (λ (r : PlanEntry). ¬ orders.IsActive r → r.position ≡ 0) idle plans (All-contains_itself plans);
    }

  -- ---- from rows that tell the plans

  module _ (plans : List PlanEntry) (told : ArePlanRows plans (map.get w.plans)) (order : IsOrderOf plans w.order) where
    position : (r : PlanEntry) → Contains plans r → IsPosition w.order r.name r.position
    position r here = by (is_some (undo_of p.0.standing)) refl
      where
        p : (q : PlanRecord) × (map.get w.plans r.name ≡ Some q) × IsRowOf r q
        p = told.each r here

        by : (b : Bool) → is_some (undo_of p.0.standing) ≡ b → IsPosition w.order r.name r.position
        by true is = inl (order.placed r here (active_row r p.0 p.2 is))
        by false is = inr (All-contains (λ (x : PlanEntry). ¬ orders.IsActive x → x.position ≡ 0) plans r order.others here (λ a. true≢false (sym (row_active r p.0 p.2 a) ∙ is)), λ named. true≢false (sym (of_order r.name p.0 p.1 named) ∙ is))

    stands : (r : PlanEntry) → Contains plans r → IsPlanRow w r
    stands r here = record { plan = told.each r here; position = position r here }

    one_position : (n : List ℕ) (j k : ℕ) → IsPosition w.order n j → IsPosition w.order n k → j ≡ k
    one_position n j k (inl p) (inl q) = one_place w.order sound.order.each_once n j k p q
    one_position n j k (inl p) (inr q) = absurd (q.1 (placed_name 1 w.order n j p))
    one_position n j k (inr p) (inl q) = absurd (p.1 (placed_name 1 w.order n k q))
    one_position n j k (inr p) (inr q) = p.0 ∙ sym q.0

    -- rows of one name that stand are one
    one_standing : (r s : PlanEntry) → r.name ≡ s.name → IsPlanRow w r → IsPlanRow w s → r ≡ s
    one_standing r s name p q =
        let plan : p.plan.0 ≡ q.plan.0 = same_some (sym (ap (map.get w.plans) name) ∙ p.plan.1) q.plan.1 in
        let author : r.author ≡ s.author = sym p.plan.2.author ∙ ap (λ (v : PlanRecord). v.author) plan ∙ q.plan.2.author in
        let text : r.text ≡ s.text = p.plan.2.text.printed ∙ ap (λ (v : PlanRecord). plan_text v.steps) plan ∙ sym q.plan.2.text.printed in
        let state : r.state ≡ s.state = sym p.plan.2.state ∙ ap (λ (v : PlanRecord). state_of v.standing) plan ∙ q.plan.2.state in
        let position : r.position ≡ s.position = one_position r.name r.position s.position p.position (subst (λ n. IsPosition w.order n s.position) (sym name) q.position) in
        λ i. record { name = name i; author = author i; text = text i; state = state i; position = position i }

    found : (r : PlanEntry) → IsPlanRow w r → Contains plans r
    found r h =
        let s = told.every r.name h.plan.0 h.plan.1 in
        subst (Contains plans) (one_standing s.0 r s.2 (stands s.0 s.1) h) s.1

    pub plans_stand : (r : PlanEntry) → Contains plans r ↔ IsPlanRow w r
    plans_stand r = (stands r, found r)

    -- the printed form of each plan's steps spells them
    pub texts_told : HaveRows w
    texts_told n p at limits =
        let s = told.every n p at in
        let q = told.each s.0 s.1 in
        let same : q.0 ≡ p = same_some (sym (ap (map.get w.plans) s.2) ∙ q.1) at in
        subst (λ (v : PlanRecord). Spells (plan_text v.steps) v.steps) same (subst (λ text. Spells text q.0.steps) q.2.text.printed q.2.text.spells)
