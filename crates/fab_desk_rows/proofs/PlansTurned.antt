-- Plans of a world where one of them takes a turn.
use Rattle.std.proofs.Common.{◌≡◌, ◌+◌, ℕ, List, [], ◌∷◌, ◌++◌, length, Contains, Option, Some, refl, sym, ap, ◌∙◌, subst, arith}
use Rattle.std.specs.FinMap as map
use Rattle.std.proofs.lemmas.List.{length-append}
use Rattle.std.proofs.lemmas.Option.{same_Some}
use Rattle.fab_store_rows.specs.declared.record_row.PlanState.TheVariants as state
use Rattle.fab_world.specs.PlanRecords.{PlanRecord}
use Rattle.fab_world.specs.Plans.{state_of}
use Rattle.fab_world.specs.Soundness.{IsSound}
use Rattle.fab_world.specs.Worlds.{WorldRows}
use Rattle.fab_store_world.specs.Positions.{IsPosition}
use Rattle.fab_desk_commands.specs.Nexts.{all_but_last, order_after, plans_turned, turned, Leads}
use Rattle.fab_desk_commands.specs.declared.next.Turn.{Turn}
use Rattle.fab_desk_commands.specs.declared.next.Turn.TheVariants.{Withdrawn, Approved, Activated, RolledBack}
use Rattle.fab_desk_rows.specs.Moves.{IsTurnedTo}
use Rattle.fab_desk_rows.specs.Places.{HasOnePosition, ComesTo, IsLastIfActive}
use Rattle.fab_desk_rows.specs.declared.plan_rows.Place.{Place}
use Rattle.fab_desk_rows.proofs.OrderEnds.{beside_last, was_last}
use Rattle.fab_desk_rows.proofs.PlansPut.{active_state, is_active, other_way, put_there, put_beside, same_orders}
use Rattle.fab_desk_rows.proofs.Quiet.{staged_idle}

author_stays : {A : Type 0} (t : Turn A) (p : PlanRecord) → (turned t p).author ≡ p.author
author_stays Withdrawn p = refl
author_stays (Approved m) p = refl
author_stays (Activated d) p = refl
author_stays (RolledBack d) p = refl

steps_stay : {A : Type 0} (t : Turn A) (p : PlanRecord) → (turned t p).steps ≡ p.steps
steps_stay Withdrawn p = refl
steps_stay (Approved m) p = refl
steps_stay (Activated d) p = refl
steps_stay (RolledBack d) p = refl

-- ---- whether a plan is in force in a sound world

module _ (w : WorldRows) (n : List ℕ) (p : PlanRecord) (is : map.get w.plans n ≡ Some p) (sound : IsSound w) where
  pub in_force : state_of p.standing ≡ state.Active → Contains w.order n
  in_force h = (sound.order.lists n).1 (p, is, is_active p.standing h)

  pub idle : ¬ (state_of p.standing ≡ state.Active) → ¬ Contains w.order n
  idle not h =
      let was = (sound.order.lists n).0 h in
      let same : p ≡ was.0 = same_Some p was.0 (sym is ∙ was.1) in
      not (ap (λ (q : PlanRecord). state_of q.standing) same ∙ active_state was.0.standing was.2)

-- ---- the plans after the turn

module _ {A : Type 0} (w v : WorldRows) (n : List ℕ) (t : Turn A) (p : PlanRecord) (is : map.get w.plans n ≡ Some p) (turns : v.plans ≡ plans_turned n t (map.get w.plans n) w.plans) where
  plans_are : v.plans ≡ map.insert w.plans n (turned t p)
  plans_are = turns ∙ ap (λ (o : Option PlanRecord). plans_turned n t o w.plans) is

  pub turned_there : map.get v.plans n ≡ Some (turned t p)
  turned_there = ap (λ m. map.get m n) plans_are ∙ put_there w.plans n (turned t p)

  pub turned_beside : (m : List ℕ) → ¬ (m ≡ n) → map.get w.plans m ≡ map.get v.plans m
  turned_beside m apart = sym (ap (λ x. map.get x m) plans_are ∙ put_beside w.plans n (turned t p) m apart)

-- ---- the order after the turn

-- a plan that is rolled back was the last
last_before : {A : Type 0} (w v : WorldRows) (n : List ℕ) (t : Turn A) (p : PlanRecord) → map.get w.plans n ≡ Some p → IsTurnedTo w n t v → IsSound w → IsSound v → Leads t p → state_of p.standing ≡ state.Active → w.order ≡ all_but_last w.order ++ n ∷ []
last_before w v n Withdrawn p is turns sound next_sound leads active = absurd (staged_idle p leads active)
last_before w v n (Approved m) p is turns sound next_sound leads active = absurd (staged_idle p leads active)
last_before w v n (Activated d) p is turns sound next_sound leads active = absurd (staged_idle p leads active)
last_before w v n (RolledBack d) p is turns sound next_sound leads active =
    let gone = idle v n (turned (RolledBack d) p) (turned_there w v n (RolledBack d) p is turns.plans) next_sound (λ e. let no : state.RolledBack ≡ state.Active = e in absurd cc) in
    was_last w.order n (in_force w n p is sound active) (λ h. gone (subst (λ (names : List (List ℕ)). Contains names n) (sym turns.order) h))

-- one that is activated is the last
last_after : {A : Type 0} (w v : WorldRows) (n : List ℕ) (t : Turn A) (p : PlanRecord) → IsTurnedTo w n t v → Leads t p → state_of (turned t p).standing ≡ state.Active → (rest : List (List ℕ)) × (v.order ≡ rest ++ n ∷ []) × (length v.order ≡ length w.order + 1)
last_after w v n Withdrawn p turns leads active = let no : state.Withdrawn ≡ state.Active = active in absurd cc
last_after w v n (Approved m) p turns leads active = absurd (staged_idle p leads active)
last_after w v n (Activated d) p turns leads active = let grown = length-append w.order (n ∷ []) in let same = ap length turns.order in (w.order, turns.order, omega (arith, grown, same))
last_after w v n (RolledBack d) p turns leads active = let no : state.RolledBack ≡ state.Active = active in absurd cc

-- all others stay where they are
others_stay : {A : Type 0} (w v : WorldRows) (n : List ℕ) (t : Turn A) (p : PlanRecord) → map.get w.plans n ≡ Some p → IsTurnedTo w n t v → IsSound w → IsSound v → Leads t p → (m : List ℕ) → ¬ (m ≡ n) → HasOnePosition w.order v.order m
others_stay w v n Withdrawn p is turns sound next_sound leads m apart = same_orders w.order v.order m (sym turns.order)
others_stay w v n (Approved given) p is turns sound next_sound leads m apart = same_orders w.order v.order m (sym turns.order)
others_stay w v n (Activated d) p is turns sound next_sound leads m apart = subst (λ (names : List (List ℕ)). HasOnePosition w.order names m) (sym turns.order) (beside_last w.order n m apart)
others_stay w v n (RolledBack d) p is turns sound next_sound leads m apart =
    let rest = all_but_last w.order in
    let last = last_before w v n (RolledBack d) p is turns sound next_sound leads leads in
    subst (λ (names : List (List ℕ)). HasOnePosition names v.order m) (sym last)
    (subst (λ (names : List (List ℕ)). HasOnePosition (rest ++ n ∷ []) names m) (sym turns.order) (other_way rest (rest ++ n ∷ []) m (beside_last rest n m apart)))

-- a turn that leaves the order as it is neither activates the plan nor rolls it back
pub order_kept : {A : Type 0} (w v : WorldRows) (n : List ℕ) (t : Turn A) (p : PlanRecord) → map.get w.plans n ≡ Some p → v.plans ≡ plans_turned n t (map.get w.plans n) w.plans → v.order ≡ w.order → IsSound w → IsSound v → Leads t p → v.order ≡ order_after t n w.order
order_kept w v n Withdrawn p is turns same sound next_sound leads = same
order_kept w v n (Approved m) p is turns same sound next_sound leads = same
order_kept w v n (Activated d) p is turns same sound next_sound leads =
    let there = in_force v n (turned (Activated d) p) (turned_there w v n (Activated d) p is turns) next_sound refl in
    absurd (idle w n p is sound (staged_idle p leads) (subst (λ (names : List (List ℕ)). Contains names n) same there))
order_kept w v n (RolledBack d) p is turns same sound next_sound leads =
    let gone = idle v n (turned (RolledBack d) p) (turned_there w v n (RolledBack d) p is turns) next_sound (λ e. let no : state.RolledBack ≡ state.Active = e in absurd cc) in
    absurd (gone (subst (λ (names : List (List ℕ)). Contains names n) (sym same) (in_force w n p is sound leads)))

-- ---- the place of the plan

module _ {A : Type 0} (w v : WorldRows) (n : List ℕ) (t : Turn A) (p : PlanRecord) (is : map.get w.plans n ≡ Some p) (turns : IsTurnedTo w n t v) (sound : IsSound w) (next_sound : IsSound v) (leads : Leads t p) where
  there : map.get v.plans n ≡ Some (turned t p)
  there = turned_there w v n t p is turns.plans

  pub stood_last : (count : ℕ) → length w.order ≡ count → IsLastIfActive w.order count n (state_of p.standing)
  stood_last count many = record {
    last = λ active. (all_but_last w.order, last_before w v n t p is turns sound next_sound leads active, many);
    absent = idle w n p is sound;
  }

  pub stands_last : (count : ℕ) → length w.order + 1 ≡ count → IsLastIfActive v.order count n (state_of (turned t p).standing)
  stands_last count many = record {
    last = λ active. let last = last_after w v n t p turns leads active in (last.0, last.1, last.2 ∙ many);
    absent = idle v n (turned t p) there next_sound;
  }

  -- it comes from the place before to the place after
  pub comes : (before after : Place) → before.state ≡ state_of p.standing → after.state ≡ state_of (turned t p).standing → IsPosition w.order n before.position → IsPosition v.order n after.position → ComesTo w v n p before after
  comes before after was is_now stood_at stands_at = record {
    stood = record { plan = p; there = is; author = refl; steps = refl; state = was; position = stood_at; once = sound.order.each_once };
    stands = record { plan = turned t p; there = there; author = author_stays t p; steps = steps_stay t p; state = is_now; position = stands_at; once = next_sound.order.each_once };
    within = (sound.plans n p is).steps;
    plans = turned_beside w v n t p is turns.plans;
    positions = others_stay w v n t p is turns sound next_sound leads;
  }
