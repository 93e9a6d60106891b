-- The rows of plans where one comes from a place to another.
use Rattle.std.proofs.Common.{◌≡◌, ◌↔◌, ℕ, List, [], ◌∷◌, Bool, true, false, refl, sym, ap, ◌∙◌, subst}
use Rattle.std.specs.FinMap as map
use Rattle.std.proofs.lemmas.Option.{same_Some}
use Rattle.fab_reach_base.specs.fab_lemmas.Lists.{IsListOf}
use Rattle.fab_reach_base.specs.fab_inventory.Holders.{same_name}
use Rattle.fab_store_rows.specs.PlanEntries.{PlanEntry}
use Rattle.fab_world.specs.fab_plans_base.Steps.{PlanStep}
use Rattle.fab_world.specs.fab_plans_base.Plans.{Spells, plan_text}
use Rattle.fab_world.specs.PlanRecords.{PlanRecord}
use Rattle.fab_world.specs.Plans.{state_of}
use Rattle.fab_world.specs.Worlds.{WorldRows}
use Rattle.fab_store_world.specs.Keys.{plan_order}
use Rattle.fab_store_world.specs.Positions.{IsPosition}
use Rattle.fab_store_world.specs.Standing.{IsPlanRow, Lacking}
use Rattle.fab_desk_rows.specs.Moves.{AreMoved}
use Rattle.fab_desk_rows.specs.Places.{row_at, StandsAt, ComesTo}
use Rattle.fab_desk_rows.specs.declared.plan_rows.Place.{Place}
use Rattle.fab_desk_rows.proofs.Listed.{none_moved, one_listed}
use Rattle.fab_desk_rows.proofs.OnePlan.{name_decides, told_apart}
use Rattle.fab_desk_rows.proofs.OrderEnds.{one_position}
use Rattle.fab_desk_rows.proofs.PlansPut.{row_stays, other_way}

-- ---- the row of one plan

module _ (w : WorldRows) (n : List ℕ) (p : PlanRecord) (place : Place) (at : StandsAt w n p place) where
  -- the plan has this one row
  pub one_row : (s : PlanEntry) → s.name ≡ n → IsPlanRow w s → s ≡ row_at n p place
  one_row s named stands =
      let q = stands.plan.0 in
      let row = stands.plan.2 in
      let same : q ≡ at.plan = same_Some q at.plan (sym stands.plan.1 ∙ ap (map.get w.plans) named ∙ at.there) in
      let author = sym row.author ∙ ap (λ (x : PlanRecord). x.author) same ∙ at.author in
      let text = row.text.printed ∙ ap (λ (x : PlanRecord). plan_text x.steps) same ∙ ap plan_text at.steps in
      let in_state = sym row.state ∙ ap (λ (x : PlanRecord). state_of x.standing) same ∙ sym at.state in
      let placed = one_position w.order at.once n s.position place.position (subst (λ m. IsPosition w.order m s.position) named stands.position) at.position in
      λ i. record { name = named i; author = author i; text = text i; state = in_state i; position = placed i }

  -- and has it where its steps are spelt
  pub row_stands : Spells (plan_text p.steps) p.steps → IsPlanRow w (row_at n p place)
  row_stands spelt = record {
    plan = (
      at.plan,
      at.there,
      record {
        author = at.author;
        text = record { spells = subst (λ (steps : List PlanStep). Spells (plan_text p.steps) steps) (sym at.steps) spelt; printed = ap plan_text (sym at.steps) };
        state = sym at.state;
      },
    );
    position = at.position;
  }

  -- the steps of a plan that has a row are spelt
  pub spelt_by : (s : PlanEntry) → s.name ≡ n → IsPlanRow w s → Spells (plan_text p.steps) p.steps
  spelt_by s named stands =
      let q = stands.plan.0 in
      let row = stands.plan.2 in
      let same : q ≡ at.plan = same_Some q at.plan (sym stands.plan.1 ∙ ap (map.get w.plans) named ∙ at.there) in
      let steps = ap (λ (x : PlanRecord). x.steps) same ∙ at.steps in
      subst (λ t. Spells t p.steps) (row.text.printed ∙ ap plan_text steps) (subst (λ (x : List PlanStep). Spells s.text x) steps row.text.spells)

-- ---- the plan comes to another place

module _ (w v : WorldRows) (n : List ℕ) (p : PlanRecord) (before after : Place) (comes : ComesTo w v n p before after) where
  -- the rows of other plans stay
  stay : (r : PlanEntry) → ¬ (r.name ≡ n) → IsPlanRow w r ↔ IsPlanRow v r
  stay r apart =
      let same = comes.plans r.name apart in
      let position = comes.positions r.name apart in
      (row_stays w v r same position, row_stays v w r (sym same) (other_way w.order v.order r.name position))

  -- where the places are one, its row stays too
  pub none_comes : (xs ys : List PlanEntry) → before ≡ after → xs ≡ [] → ys ≡ [] → AreMoved plan_order IsPlanRow w v xs ys
  none_comes xs ys same no_x no_y = none_moved plan_order IsPlanRow w v xs ys no_x no_y (λ r. there r (same_name r.name n) refl) (λ r. back r (same_name r.name n) refl)
    where
      there : (r : PlanEntry) (b : Bool) → same_name r.name n ≡ b → IsPlanRow w r → IsPlanRow v r
      there r true e h =
          let named = (name_decides r.name n).0 e in
          let is = one_row w n p before comes.stood r named h ∙ ap (row_at n p) same in
          subst (IsPlanRow v) (sym is) (row_stands v n p after comes.stands (spelt_by w n p before comes.stood r named h))
      there r false e h = (stay r (told_apart r.name n e)).0 h

      back : (r : PlanEntry) (b : Bool) → same_name r.name n ≡ b → IsPlanRow v r → IsPlanRow w r
      back r true e h =
          let named = (name_decides r.name n).0 e in
          let is = one_row v n p after comes.stands r named h ∙ ap (row_at n p) (sym same) in
          subst (IsPlanRow w) (sym is) (row_stands w n p before comes.stood (spelt_by v n p after comes.stands r named h))
      back r false e h = (stay r (told_apart r.name n e)).1 h

  -- and else the one row goes, and the other comes
  pub it_comes : (xs ys : List PlanEntry) → ¬ (before ≡ after) → Spells (plan_text p.steps) p.steps → xs ≡ row_at n p before ∷ [] → ys ≡ row_at n p after ∷ [] → AreMoved plan_order IsPlanRow w v xs ys
  it_comes xs ys apart spelt xs_are ys_are = record {
    removed = subst (IsListOf plan_order (Lacking IsPlanRow v w)) (sym xs_are) (one_listed plan_order (Lacking IsPlanRow v w) (row_at n p before) goes (λ s h. gone s (same_name s.name n) refl h));
    added = subst (IsListOf plan_order (Lacking IsPlanRow w v)) (sym ys_are) (one_listed plan_order (Lacking IsPlanRow w v) (row_at n p after) arrives (λ s h. come s (same_name s.name n) refl h));
  }
    where
      one_of : row_at n p before ≡ row_at n p after → before ≡ after
      one_of e i = record { state = ap (λ (r : PlanEntry). r.state) e i; position = ap (λ (r : PlanEntry). r.position) e i }

      goes : Lacking IsPlanRow v w (row_at n p before)
      goes = (row_stands w n p before comes.stood spelt, λ h. apart (one_of (one_row v n p after comes.stands (row_at n p before) refl h)))

      arrives : Lacking IsPlanRow w v (row_at n p after)
      arrives = (row_stands v n p after comes.stands spelt, λ h. apart (one_of (sym (one_row w n p before comes.stood (row_at n p after) refl h))))

      gone : (s : PlanEntry) (b : Bool) → same_name s.name n ≡ b → Lacking IsPlanRow v w s → s ≡ row_at n p before
      gone s true e h = one_row w n p before comes.stood s ((name_decides s.name n).0 e) h.0
      gone s false e h = absurd (h.1 ((stay s (told_apart s.name n e)).0 h.0))

      come : (s : PlanEntry) (b : Bool) → same_name s.name n ≡ b → Lacking IsPlanRow w v s → s ≡ row_at n p after
      come s true e h = one_row v n p after comes.stands s ((name_decides s.name n).0 e) h.0
      come s false e h = absurd (h.1 ((stay s (told_apart s.name n e)).1 h.0))
