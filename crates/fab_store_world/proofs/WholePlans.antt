-- Plans that are made of rows, and the rows of all three tables.
use Rattle.std.proofs.Common.{◌≡◌, ℕ, List, get_or, Contains, All, arith, Option, None, Some, is_some, true, refl, sym, ap, ◌∙◌, subst}
use Rattle.std.specs.Prelude.{IsSome}
use mathlib.Core.Bool.{true≢false}
use Rattle.std.specs.Option.{option_and_then}
use Rattle.std.specs.BTreeMap.{get}
use Rattle.std.specs.BTreeSet.{BTreeSet}
use Rattle.std.specs.FinMap as map
use Rattle.std.proofs.lemmas.List.Elements.{All-contains, Contains-get_or}
use Rattle.std.proofs.lemmas.Map.Views.{btree_set_contains_iff}
use Rattle.fab_reach_base.specs.fab_lemmas.Firsts.{HasAt}
use Rattle.fab_reach_base.specs.fab_lemmas.MapsOfSets.{in_tree}
use Rattle.fab_reach_base.specs.fab_names.Orders.{name_cmp}
use Rattle.fab_reach_base.proofs.fab_names.OrderLaws.{name_total}
use Rattle.fab_world.specs.fab_store_load.Rows.{HasRepeat}
use Rattle.fab_world.proofs.fab_store_load.GroupRows.{found_in_map}
use Rattle.fab_world.specs.fab_store_rows.RowOrder.{row_cmp}
use Rattle.fab_world.specs.fab_store_rows.OrderOfRows.{row_total, row_exact}
use Rattle.fab_world.specs.fab_store_rows.declared.config_row.ConfigRow.{ConfigRow}
use Rattle.fab_world.specs.fab_store_rows.declared.record_row.PlanState.{PlanState}
use Rattle.fab_world.specs.fab_store_rows.declared.record_row.PlanState.TheVariants as state
use Rattle.fab_world.specs.fab_store_rows.PlanEntries.{PlanEntry}
use Rattle.fab_world.specs.fab_store_rows.declared.record_row.ApprovalRow.{ApprovalRow}
use Rattle.fab_world.specs.fab_store_rows.declared.record_row.UndoRow.{UndoRow}
use Rattle.fab_world.specs.fab_store_rows.declared.record_row.Sign.{Sign}
use Rattle.fab_world.specs.fab_store_rows.declared.record_row.Sign.TheVariants.{Taken, Added}
use Rattle.fab_world.specs.PlanRecords.{Standing, staged, active, rolled_back, withdrawn, PlanRecord}
use Rattle.fab_world.specs.Plans.{IsActive, state_of, undo_of}
use Rattle.fab_store_world.specs.declared.plans.PlanParts.{PlanParts}
use Rattle.fab_store_world.specs.Kinds.{approval_row}
use Rattle.fab_store_world.specs.Orders.{IsOrderOf}
use Rattle.fab_store_world.specs.Parts.{rows_at, approvals_at, standing_in, IsMadeOf, AreMadeOf, HaveParts}
use Rattle.fab_store_world.specs.PlanRows.{ListInOrder, IsRowOf, IsChanged, IsApprovalOf, ArePlanRows, AreApprovalRows, AreUndoRows, ArePlans}

-- ---- one plan of a row

-- the state of a plan that stands so
stands_in : (s : PlanState) (taken added : List ConfigRow) → state_of (standing_in s taken added) ≡ s
stands_in state.Staged taken added = refl
stands_in state.Active taken added = refl
stands_in state.RolledBack taken added = refl
stands_in state.Withdrawn taken added = refl

-- the rows under a sign
abbrev side : Sign → List ConfigRow → List ConfigRow → List ConfigRow
side Taken taken added = taken
side Added taken added = added

-- what an active plan changed are the rows under the sign
changed_there : (s : PlanState) (sign : Sign) (taken added : List ConfigRow) (row : ConfigRow) → IsChanged (standing_in s taken added) sign row → Contains (side sign taken added) row
changed_there state.Active Taken taken added row h = h
changed_there state.Active Added taken added row h = h
changed_there state.Staged sign taken added row h = absurd h
changed_there state.RolledBack sign taken added row h = absurd h
changed_there state.Withdrawn sign taken added row h = absurd h

changed_here : (s : PlanState) (sign : Sign) (taken added : List ConfigRow) (row : ConfigRow) → is_some (undo_of (standing_in s taken added)) ≡ true → Contains (side sign taken added) row → IsChanged (standing_in s taken added) sign row
changed_here state.Active Taken taken added row is h = h
changed_here state.Active Added taken added row is h = h
changed_here state.Staged sign taken added row is h = absurd (true≢false (sym is))
changed_here state.RolledBack sign taken added row is h = absurd (true≢false (sym is))
changed_here state.Withdrawn sign taken added row is h = absurd (true≢false (sym is))

-- only an active plan changed rows
changed_active : (s : Standing) (sign : Sign) (row : ConfigRow) → IsChanged s sign row → is_some (undo_of s) ≡ true
changed_active (active taken added) sign row h = refl
changed_active staged sign row h = absurd h
changed_active rolled_back sign row h = absurd h
changed_active withdrawn sign row h = absurd h

-- what stands in the set that was found, or in none
in_rows : (o : Option (BTreeSet ConfigRow)) (row : ConfigRow) → in_tree row_cmp o row ≡ true → Contains (rows_at o) row
in_rows None row h = absurd (true≢false (sym h))
in_rows (Some s) row h = (btree_set_contains_iff row_total row_exact s row).0 h

of_rows : (o : Option (BTreeSet ConfigRow)) (row : ConfigRow) → Contains (rows_at o) row → in_tree row_cmp o row ≡ true
of_rows None row h = absurd (omega (arith, h.1))
of_rows (Some s) row h = (btree_set_contains_iff row_total row_exact s row).1 h

-- of two plans in one state both are active, or none
active_as : (s t : Standing) → state_of s ≡ state_of t → is_some (undo_of s) ≡ true → is_some (undo_of t) ≡ true
active_as s (active taken added) e h = refl
active_as (active taken added) staged e h = absurd cc
active_as (active taken added) rolled_back e h = absurd cc
active_as (active taken added) withdrawn e h = absurd cc
active_as staged staged e h = absurd (true≢false (sym h))
active_as staged rolled_back e h = absurd (true≢false (sym h))
active_as staged withdrawn e h = absurd (true≢false (sym h))
active_as rolled_back staged e h = absurd (true≢false (sym h))
active_as rolled_back rolled_back e h = absurd (true≢false (sym h))
active_as rolled_back withdrawn e h = absurd (true≢false (sym h))
active_as withdrawn staged e h = absurd (true≢false (sym h))
active_as withdrawn rolled_back e h = absurd (true≢false (sym h))
active_as withdrawn withdrawn e h = absurd (true≢false (sym h))

module _ {A : Type 0} (rows : List PlanEntry) (parts : PlanParts A) (plans : List ℕ → Option PlanRecord) (made : AreMadeOf rows parts plans) where
  -- each plan is made of a row of its name
  made_at : (n : List ℕ) (p : PlanRecord) → plans n ≡ Some p → (r : PlanEntry) × (Contains rows r) × (r.name ≡ n) × (IsMadeOf r parts p)
  made_at n p is =
      let at = made.every n p is in
      let there = made.each at.0 at.1 in
      let same : ◌≡◌ {A = Option PlanRecord} (Some there.0) (Some p) = sym there.1 ∙ ap plans at.2 ∙ is in
      let one : there.0 ≡ p = cc in
      (at.0, at.1, at.2, subst (IsMadeOf at.0 parts) one there.2)

  -- the approvals of a plan are those under its name
  approvals_of : (n : List ℕ) (p : PlanRecord) → plans n ≡ Some p → p.approvals ≡ approvals_at (get name_cmp parts.approvals n)
  approvals_of n p is = let at = made_at n p is in at.3.approvals ∙ ap (λ m. approvals_at (get name_cmp parts.approvals m)) at.2

  -- the rows of the plans themselves
  pub rows_made : ArePlanRows rows plans
  rows_made = record {
    each = λ r here. let at = made.each r here in (at.0, at.1, record { author = at.2.author; text = at.2.text; state = ap state_of at.2.standing ∙ stands_in r.state (rows_at (get name_cmp parts.taken r.name)) (rows_at (get name_cmp parts.added r.name)) });
    every = made.every;
    once = made.once;
  }

  -- the state of the row that a plan is made of, and what stands under its name
  standing_of : (n : List ℕ) (p : PlanRecord) → plans n ≡ Some p → (s : PlanState) × (p.standing ≡ standing_in s (rows_at (get name_cmp parts.taken n)) (rows_at (get name_cmp parts.added n)))
  standing_of n p is = let at = made_at n p is in (at.0.state, at.3.standing ∙ ap (λ m. standing_in at.0.state (rows_at (get name_cmp parts.taken m)) (rows_at (get name_cmp parts.added m))) at.2)

  -- what active plans changed is in order
  pub in_order : ListInOrder plans
  in_order n p is = let at = made_at n p is in at.3.in_order

  module _ (approvals : List ApprovalRow) (undo : List UndoRow) (have : HaveParts approvals undo parts) where
    -- a caller's approval of a plan is what stands under both names
    approval_is : (n : List ℕ) (p : PlanRecord) (caller : List ℕ) → plans n ≡ Some p → map.get p.approvals caller ≡ option_and_then (λ s. get name_cmp s caller) (get name_cmp parts.approvals n)
    approval_is n p caller is = ap (λ (m : map.FinMap name_cmp ℕ). map.get m caller) (approvals_of n p is) ∙ found_in_map name_total (get name_cmp parts.approvals n) caller

    pub approvals_made : All (λ r. IsSome (plans r.plan)) approvals → AreApprovalRows approvals plans
    approvals_made known r = (
      λ here. by (plans r.plan) refl (All-contains (λ a. IsSome (plans a.plan)) approvals r known here) here,
      λ at. have.approvals_are.complete ((r.plan, r.caller), r.revision) (sym (approval_is r.plan at.0 r.caller at.1) ∙ at.2),
    )
      where
        by : (o : Option PlanRecord) → plans r.plan ≡ o → IsSome o → Contains approvals r → HasAt plans (IsApprovalOf r) r.plan
        by None is some here = absurd (true≢false (sym some))
        by (Some p) is some here = (p, is, approval_is r.plan p r.caller is ∙ have.approvals_are.sound ((r.plan, r.caller), r.revision) here)

    -- a row that is said to be changed stands under the name and the sign
    said_in : (n : List ℕ) (sign : Sign) (row : ConfigRow) → Contains undo (record { plan = n; sign = sign; row = row }) → Contains (side sign (rows_at (get name_cmp parts.taken n)) (rows_at (get name_cmp parts.added n))) row
    said_in n Taken row h = in_rows (get name_cmp parts.taken n) row (have.taken_are.sound (n, row) h)
    said_in n Added row h = in_rows (get name_cmp parts.added n) row (have.added_are.sound (n, row) h)

    in_said : (n : List ℕ) (sign : Sign) (row : ConfigRow) → Contains (side sign (rows_at (get name_cmp parts.taken n)) (rows_at (get name_cmp parts.added n))) row → Contains undo (record { plan = n; sign = sign; row = row })
    in_said n Taken row h = have.taken_are.complete (n, row) (of_rows (get name_cmp parts.taken n) row h)
    in_said n Added row h = have.added_are.complete (n, row) (of_rows (get name_cmp parts.added n) row h)

    pub undo_made : All (λ r. HasAt plans IsActive r.plan) undo → AreUndoRows undo plans
    undo_made known r = (to, back)
      where
        taken : List ConfigRow
        taken = rows_at (get name_cmp parts.taken r.plan)

        added : List ConfigRow
        added = rows_at (get name_cmp parts.added r.plan)

        to : Contains undo r → HasAt plans (λ (p : PlanRecord). IsChanged p.standing r.sign r.row) r.plan
        to here =
            let at = All-contains (λ u. HasAt plans IsActive u.plan) undo r known here in
            let stands = standing_of r.plan at.0 at.1 in
            let is : is_some (undo_of (standing_in stands.0 taken added)) ≡ true = subst (λ s. is_some (undo_of s) ≡ true) stands.1 at.2 in
            (at.0, at.1, subst (λ s. IsChanged s r.sign r.row) (sym stands.1) (changed_here stands.0 r.sign taken added r.row is (said_in r.plan r.sign r.row here)))

        back : HasAt plans (λ (p : PlanRecord). IsChanged p.standing r.sign r.row) r.plan → Contains undo r
        back at =
            let stands = standing_of r.plan at.0 at.1 in
            in_said r.plan r.sign r.row (changed_there stands.0 r.sign taken added r.row (subst (λ s. IsChanged s r.sign r.row) stands.1 at.2))

    -- the rows of all three tables
    pub plans_are : (order : List (List ℕ)) → IsOrderOf rows order → All (λ r. IsSome (plans r.plan)) approvals → All (λ r. HasAt plans IsActive r.plan) undo → ArePlans rows approvals undo plans order
    plans_are order listed known some = record { rows_are = rows_made; approvals_are = approvals_made known; undo_are = undo_made some; order_is = listed }

-- ---- where there are no plans with these rows, others made of the rows being at hand or not
module _ (rows : List PlanEntry) (approvals : List ApprovalRow) (undo : List UndoRow) where
  -- two approvals of one plan by one caller
  pub no_repeat : HasRepeat approval_row approvals → (plans : List ℕ → Option PlanRecord) (order : List (List ℕ)) → ¬ ArePlans rows approvals undo plans order
  no_repeat (k, v, w, here, there, other) plans order h =
      let one = (h.approvals_are (approval_row (k, v))).0 here in
      let two = (h.approvals_are (approval_row (k, w))).0 there in
      let plan_is : ◌≡◌ {A = Option PlanRecord} (Some one.0) (Some two.0) = sym one.1 ∙ two.1 in
      let plan : one.0 ≡ two.0 = cc in
      let same : ◌≡◌ {A = Option ℕ} (Some v) (Some w) = sym one.2 ∙ ap (λ (p : PlanRecord). map.get p.approvals k.1) plan ∙ two.2 in
      let value : v ≡ w = cc in
      other value

  -- two ways to have the same rows have the same names, and the same active plans
  module _ (plans others : List ℕ → Option PlanRecord) (order : List (List ℕ)) (made : ArePlanRows rows plans) (h : ArePlans rows approvals undo others order) where
    known_too : (n : List ℕ) (p : PlanRecord) → others n ≡ Some p → (r : PlanEntry) × (Contains rows r) × (r.name ≡ n) × HasAt plans (IsRowOf r) n
    known_too n p is = let at = h.rows_are.every n p is in (at.0, at.1, at.2, subst (HasAt plans (IsRowOf at.0)) at.2 (made.each at.0 at.1))

    pub all_known : All (λ r. IsSome (plans r.plan)) approvals
    all_known i d lt =
        let r = get_or approvals i d in
        let at = (h.approvals_are r).0 (Contains-get_or approvals i d lt) in
        ap is_some (known_too r.plan at.0 at.1).3.1

    -- the states of both are those of the row
    pub all_active : All (λ r. HasAt plans IsActive r.plan) undo
    all_active i d lt =
        let u = get_or undo i d in
        let at = (h.undo_are u).0 (Contains-get_or undo i d lt) in
        let row = known_too u.plan at.0 at.1 in
        let own = h.rows_are.each row.0 row.1 in
        let own_is : ◌≡◌ {A = Option PlanRecord} (Some own.0) (Some at.0) = sym own.1 ∙ ap others row.2 ∙ at.1 in
        let same : own.0 ≡ at.0 = cc in
        let state_is : state_of at.0.standing ≡ state_of row.3.0.standing = ap (λ (p : PlanRecord). state_of p.standing) (sym same) ∙ own.2.state ∙ sym row.3.2.state in
        (row.3.0, row.3.1, active_as at.0.standing row.3.0.standing state_is (changed_active at.0.standing u.sign u.row at.2))
