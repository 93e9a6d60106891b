-- Plans of a world where one of them is put.
use Rattle.std.proofs.Common.{◌≡◌, ◌↔◌, ℕ, List, [], ◌∷◌, Contains, Option, None, Some, Bool, true, false, is_some, cond, refl, sym, ap, ◌∙◌, subst}
use mathlib.Core.Bool.{true≢false}
use Rattle.std.specs.FinMap as map
use Rattle.std.specs.Ordering.{eq_by_cmp}
use Rattle.std.specs.Cmp.{Equal-is, tied_itself}
use Rattle.std.proofs.lemmas.Option.{same_Some}
use Rattle.fab_reach_base.specs.fab_lemmas.Lists.{IsListOf}
use Rattle.fab_reach_base.specs.fab_names.Orders.{name_cmp}
use Rattle.fab_reach_base.proofs.fab_names.OrderLaws.{name_total, name_exact}
use Rattle.fab_reach_base.specs.fab_inventory.Holders.{same_name}
use Rattle.fab_store_rows.specs.PlanEntries.{PlanEntry}
use Rattle.fab_world.specs.fab_plans_base.Plans.{Spells, plan_text}
use Rattle.fab_store_rows.specs.declared.record_row.PlanState.TheVariants as state
use Rattle.fab_world.specs.PlanRecords.{Standing, staged, active, rolled_back, withdrawn, PlanRecord}
use Rattle.fab_world.specs.Plans.{state_of, undo_of}
use Rattle.fab_world.specs.Soundness.{IsSound}
use Rattle.fab_world.specs.Worlds.{WorldRows}
use Rattle.fab_store_world.specs.Keys.{plan_order}
use Rattle.fab_store_world.specs.Positions.{IsPosition}
use Rattle.fab_store_world.specs.Standing.{IsPlanRow, IsOrdered, Lacking}
use Rattle.fab_desk_rows.specs.Moves.{AreMoved, IsStagedTo, HaveOnePlans}
use Rattle.fab_desk_rows.specs.Places.{HasOnePosition, row_at}
use Rattle.fab_desk_rows.specs.declared.plan_rows.Place.{Place}
use Rattle.fab_desk_rows.proofs.Listed.{none_listed, one_listed}
use Rattle.fab_desk_rows.proofs.OnePlan.{name_decides, told_apart}
use Rattle.fab_desk_rows.proofs.OrderEnds.{one_position}

-- ---- look-ups

module _ (m : map.FinMap name_cmp PlanRecord) (n : List ℕ) (p : PlanRecord) where
  pub put_there : map.get (map.insert m n p) n ≡ Some p
  put_there = map.get-insert name_total m n p n ∙ ap (λ b. cond b (Some p) (map.get m n)) ((Equal-is (name_cmp n n)).1 (tied_itself name_total n))

  pub put_beside : (k : List ℕ) → ¬ (k ≡ n) → map.get (map.insert m n p) k ≡ map.get m k
  put_beside k apart = by (eq_by_cmp name_cmp k n) refl (map.get-insert name_total m n p k)
    where
      by : (b : Bool) → eq_by_cmp name_cmp k n ≡ b → map.get (map.insert m n p) k ≡ cond b (Some p) (map.get m k) → map.get (map.insert m n p) k ≡ map.get m k
      by true is e = absurd (apart (name_exact k n ((Equal-is (name_cmp k n)).0 is)))
      by false is e = e

pub absent : (o : Option PlanRecord) → is_some o ≡ false → o ≡ None
absent None h = refl
absent (Some p) h = absurd (true≢false h)

-- ---- rows of plans that are as they were

-- a plan that is the same, and stands where it stood, has the same rows
pub row_stays : (w v : WorldRows) (r : PlanEntry) → map.get w.plans r.name ≡ map.get v.plans r.name → HasOnePosition w.order v.order r.name → IsPlanRow w r → IsPlanRow v r
row_stays w v r same position h = record { plan = (h.plan.0, sym same ∙ h.plan.1, h.plan.2); position = (position r.position).0 h.position }

pub other_way : (xs ys : List (List ℕ)) (m : List ℕ) → HasOnePosition xs ys m → HasOnePosition ys xs m
other_way xs ys m h k = ((h k).1, (h k).0)

pub same_orders : (xs ys : List (List ℕ)) (m : List ℕ) → xs ≡ ys → HasOnePosition xs ys m
same_orders xs ys m is k = (subst (λ zs. IsPosition zs m k) is, subst (λ zs. IsPosition zs m k) (sym is))

-- where plans and order are the same
pub rows_stay : (w v : WorldRows) → HaveOnePlans w v → (r : PlanEntry) → IsPlanRow w r ↔ IsPlanRow v r
rows_stay w v one r =
    let same = ap (λ m. map.get m r.name) (sym one.plans) in
    let position = same_orders w.order v.order r.name (sym one.order) in
    (row_stays w v r same position, row_stays v w r (sym same) (other_way w.order v.order r.name position))

-- ---- one plan more

module _ (w v : WorldRows) (n : List ℕ) (p : PlanRecord) (none : map.get w.plans n ≡ None) (more : IsStagedTo w n p v) where
  pub more_there : map.get v.plans n ≡ Some p
  more_there = ap (λ m. map.get m n) more.plans ∙ put_there w.plans n p

  pub more_beside : (m : List ℕ) → ¬ (m ≡ n) → map.get w.plans m ≡ map.get v.plans m
  more_beside m apart = sym (ap (λ x. map.get x m) more.plans ∙ put_beside w.plans n p m apart)

  stood_not : (r : PlanEntry) → r.name ≡ n → ¬ IsPlanRow w r
  stood_not r named h = let no : ◌≡◌ {A = Option PlanRecord} None (Some h.plan.0) = sym none ∙ ap (map.get w.plans) (sym named) ∙ h.plan.1 in absurd cc

  stayed : (r : PlanEntry) → ¬ (r.name ≡ n) → IsPlanRow w r ↔ IsPlanRow v r
  stayed r apart =
      let same = more_beside r.name apart in
      let position = same_orders w.order v.order r.name (sym more.order) in
      (row_stays w v r same position, row_stays v w r (sym same) (other_way w.order v.order r.name position))

  none_removed : (r : PlanEntry) → ¬ Lacking IsPlanRow v w r
  none_removed r h = by (same_name r.name n) refl
    where
      by : (b : Bool) → same_name r.name n ≡ b → ⊥
      by true e = stood_not r ((name_decides r.name n).0 e) h.0
      by false e = h.1 ((stayed r (told_apart r.name n e)).0 h.0)

  module _ (place : Place) (state : place.state ≡ state_of p.standing) (position : IsPosition w.order n place.position) (once : IsOrdered v) where
    now_placed : IsPosition v.order n place.position
    now_placed = subst (λ ns. IsPosition ns n place.position) (sym more.order) position

    added_row : Spells (plan_text p.steps) p.steps → Lacking IsPlanRow w v (row_at n p place)
    added_row spelt = (
      record { plan = (p, more_there, record { author = refl; text = record { spells = spelt; printed = refl }; state = sym state }); position = now_placed },
      stood_not (row_at n p place) refl,
    )

    only_row : (s : PlanEntry) → Lacking IsPlanRow w v s → s ≡ row_at n p place
    only_row s h = by (same_name s.name n) refl
      where
        named_so : s.name ≡ n → s ≡ row_at n p place
        named_so named =
            let q = h.0.plan.0 in
            let row = h.0.plan.2 in
            let same : q ≡ p = same_Some q p (sym h.0.plan.1 ∙ ap (map.get v.plans) named ∙ more_there) in
            let author = sym row.author ∙ ap (λ (x : PlanRecord). x.author) same in
            let text = row.text.printed ∙ ap (λ (x : PlanRecord). plan_text x.steps) same in
            let in_state = sym row.state ∙ ap (λ (x : PlanRecord). state_of x.standing) same ∙ sym state in
            let placed = one_position v.order once n s.position place.position (subst (λ m. IsPosition v.order m s.position) named h.0.position) now_placed in
            λ i. record { name = named i; author = author i; text = text i; state = in_state i; position = placed i }

        by : (b : Bool) → same_name s.name n ≡ b → s ≡ row_at n p place
        by true e = named_so ((name_decides s.name n).0 e)
        by false e = absurd (h.1 ((stayed s (told_apart s.name n e)).1 h.0))

    -- its row is the only one that comes
    pub row_comes : (xs ys : List PlanEntry) → xs ≡ [] → ys ≡ row_at n p place ∷ [] → Spells (plan_text p.steps) p.steps → AreMoved plan_order IsPlanRow w v xs ys
    row_comes xs ys no_x ys_are spelt = record {
      removed = none_listed plan_order (Lacking IsPlanRow v w) xs no_x none_removed;
      added = subst (IsListOf plan_order (Lacking IsPlanRow w v)) (sym ys_are) (one_listed plan_order (Lacking IsPlanRow w v) (row_at n p place) (added_row spelt) only_row);
    }

-- something undoes an active plan, and no other
pub is_active : (s : Standing) → state_of s ≡ state.Active → is_some (undo_of s) ≡ true
is_active (active taken added) h = refl
is_active staged h = absurd cc
is_active rolled_back h = absurd cc
is_active withdrawn h = absurd cc

pub active_state : (s : Standing) → is_some (undo_of s) ≡ true → state_of s ≡ state.Active
active_state (active taken added) h = refl
active_state staged h = absurd (true≢false (sym h))
active_state rolled_back h = absurd (true≢false (sym h))
active_state withdrawn h = absurd (true≢false (sym h))

-- a plan that is new is not active in a sound world: the order has its name neither before nor after
pub not_in_force : (w : WorldRows) (n : List ℕ) → map.get w.plans n ≡ None → IsSound w → ¬ Contains w.order n
not_in_force w n none sound h = let was = (sound.order.lists n).0 h in let no : ◌≡◌ {A = Option PlanRecord} None (Some was.0) = sym none ∙ was.1 in absurd cc

pub new_idle : (w v : WorldRows) (n : List ℕ) (p : PlanRecord) → map.get w.plans n ≡ None → IsStagedTo w n p v → IsSound w → IsSound v → ¬ (state_of p.standing ≡ state.Active)
new_idle w v n p none more sound next_sound h =
    let listed = (next_sound.order.lists n).1 (p, more_there w v n p none more, is_active p.standing h) in
    not_in_force w n none sound (subst (λ ns. Contains ns n) more.order listed)
