-- The rows of all tables tell a world.
use Rattle.std.proofs.Common.{◌≡◌, ℕ, List, Contains, Option, Some, refl, sym, ap, ◌∙◌, subst}
use Rattle.std.specs.FinMap as map
use Rattle.fab_reach_base.specs.fab_lemmas.Firsts.{HasAt}
use Rattle.fab_reach_base.proofs.fab_names.OrderLaws.{name_total, name_exact}
use Rattle.fab_reach_base.specs.fab_inventory.Inventories.{InventoryRows}
use Rattle.fab_world.specs.fab_store_load.Inventories.{AreInventoryRows}
use Rattle.fab_store_world.specs.Paths.{ArePathRows}
use Rattle.fab_world.proofs.fab_plans_text.fab_plans_base.Unique.{one_plan}
use Rattle.fab_reach_base.specs.Soundness.{HasSoundZonings}
use Rattle.fab_world.proofs.fab_store_rows.Determined.{one_list, one_config, one_inventory, same_option}
use Rattle.fab_world.specs.fab_store_rows.PlanEntries.{PlanEntry}
use Rattle.fab_world.specs.fab_store_rows.Telling.{IsOfTable}
use Rattle.fab_world.specs.fab_store_rows.Standing.{IsKnown}
use Rattle.fab_world.specs.fab_store_rows.declared.config_row.ConfigRow.{ConfigRow}
use Rattle.fab_world.specs.fab_store_rows.declared.inventory_row.InventoryRow.{InventoryRow}
use Rattle.fab_world.specs.fab_store_rows.declared.inventory_row.InventoryRow.TheVariants as row
use Rattle.fab_world.specs.fab_store_rows.declared.record_row.ApprovalRow.{ApprovalRow}
use Rattle.fab_world.specs.fab_store_rows.declared.record_row.Sign.{Sign}
use Rattle.fab_world.specs.fab_store_rows.declared.record_row.Sign.TheVariants.{Taken, Added}
use Rattle.fab_world.specs.fab_store_rows.declared.record_row.UndoRow.{UndoRow}
use Rattle.fab_world.specs.fab_store_rows.declared.table_rows.CountRow.TheVariants.{Revision}
use Rattle.fab_world.specs.fab_store_rows.declared.table_rows.TableRows.{TableRows}
use Rattle.fab_store_world.proofs.Orders.{one_order}
use Rattle.fab_store_world.proofs.SoundOrder.{sound_in_order}
use Rattle.fab_store_world.specs.PlanRows.{IsRowOf, IsChanged, IsInOrder, ChangesInOrder, ListInOrder, ArePlans}
use Rattle.fab_store_world.specs.OpenedTables.{AreRecords, AreTableRows, IsMadeOfTables, HasNoWorld}
use Rattle.fab_world.specs.PlanRecords.{Standing, staged, active, rolled_back, withdrawn, PlanRecord}
use Rattle.fab_world.specs.Plans.{state_of}
use Rattle.fab_world.specs.Soundness.{IsSound}
use Rattle.fab_world.specs.Worlds.{WorldRows, records_of}
use Rattle.fab_reach_base.proofs.Same.{same_some}

-- ---- where plans stand

-- lists in order with the same rows are one
same_rows : (xs ys : List ConfigRow) → IsInOrder xs → IsInOrder ys → ((r : ConfigRow) → Contains xs r → Contains ys r) → ((r : ConfigRow) → Contains ys r → Contains xs r) → xs ≡ ys
same_rows xs ys a b to from =
    one_list (Contains xs) xs ys (record { sorted = a; sound = λ r h. h; complete = λ r h. h }) (record { sorted = b; sound = from; complete = to })

same_standing : (s t : Standing) → state_of s ≡ state_of t → ((g : Sign) (r : ConfigRow) → IsChanged s g r → IsChanged t g r) → ((g : Sign) (r : ConfigRow) → IsChanged t g r → IsChanged s g r) → ChangesInOrder s → ChangesInOrder t → s ≡ t
same_standing staged staged e to from a b = refl
same_standing staged (active x y) e to from a b = absurd cc
same_standing staged rolled_back e to from a b = absurd cc
same_standing staged withdrawn e to from a b = absurd cc
same_standing (active t u) staged e to from a b = absurd cc
same_standing (active t u) (active x y) e to from a b =
    let taken = same_rows t x a.0 b.0 (to Taken) (from Taken) in let added = same_rows u y a.1 b.1 (to Added) (from Added) in λ i. active (taken i) (added i)
same_standing (active t u) rolled_back e to from a b = absurd cc
same_standing (active t u) withdrawn e to from a b = absurd cc
same_standing rolled_back staged e to from a b = absurd cc
same_standing rolled_back (active x y) e to from a b = absurd cc
same_standing rolled_back rolled_back e to from a b = refl
same_standing rolled_back withdrawn e to from a b = absurd cc
same_standing withdrawn staged e to from a b = absurd cc
same_standing withdrawn (active x y) e to from a b = absurd cc
same_standing withdrawn rolled_back e to from a b = absurd cc
same_standing withdrawn withdrawn e to from a b = refl

-- ---- plans

module _ (rows : List PlanEntry) (approvals : List ApprovalRow) (undo : List UndoRow) where
  -- the approvals of one are those of the other
  approval_there : (plans others : List ℕ → Option PlanRecord) (order names : List (List ℕ)) → ArePlans rows approvals undo plans order → ArePlans rows approvals undo others names
      → (n : List ℕ) (p q : PlanRecord) → plans n ≡ Some p → others n ≡ Some q → (c : List ℕ) (k : ℕ) → map.get p.approvals c ≡ Some k → map.get q.approvals c ≡ Some k
  approval_there plans others order names h k n p q is at c v there =
      let row : ApprovalRow = record { plan = n; caller = c; revision = v } in
      let found = (k.approvals_are row).0 ((h.approvals_are row).1 (p, is, there)) in
      ap (λ (x : PlanRecord). map.get x.approvals c) (same_some at found.1) ∙ found.2

  -- and so are the changed rows
  change_there : (plans others : List ℕ → Option PlanRecord) (order names : List (List ℕ)) → ArePlans rows approvals undo plans order → ArePlans rows approvals undo others names
      → (n : List ℕ) (p q : PlanRecord) → plans n ≡ Some p → others n ≡ Some q → (g : Sign) (r : ConfigRow) → IsChanged p.standing g r → IsChanged q.standing g r
  change_there plans others order names h k n p q is at g r there =
      let row : UndoRow = record { plan = n; sign = g; row = r } in
      let found = (k.undo_are row).0 ((h.undo_are row).1 (p, is, there)) in
      subst (λ (x : PlanRecord). IsChanged x.standing g r) (sym (same_some at found.1)) found.2

  -- a plan of the one is a plan of the other
  plan_there : (plans others : List ℕ → Option PlanRecord) (order names : List (List ℕ)) → ArePlans rows approvals undo plans order → ArePlans rows approvals undo others names → ListInOrder plans → ListInOrder others
      → (n : List ℕ) (p : PlanRecord) → plans n ≡ Some p → others n ≡ Some p
  plan_there plans others order names h k sorted listed n p is = at.1 ∙ ap Some (sym same)
    where
      row : (r : PlanEntry) × Contains rows r × (r.name ≡ n)
      row = h.rows_are.every n p is

      own : HasAt plans (IsRowOf row.0) n
      own = subst (HasAt plans (IsRowOf row.0)) row.2 (h.rows_are.each row.0 row.1)

      at : HasAt others (IsRowOf row.0) n
      at = subst (HasAt others (IsRowOf row.0)) row.2 (k.rows_are.each row.0 row.1)

      told : IsRowOf row.0 p
      told = subst (IsRowOf row.0) (same_some own.1 is) own.2

      steps : p.steps ≡ at.0.steps
      steps = one_plan _ p.steps at.0.steps told.text.spells.lines at.2.text.spells.lines

      approved : p.approvals ≡ at.0.approvals
      approved = map.same_map name_total name_exact p.approvals at.0.approvals
          (λ c. same_option (map.get p.approvals c) (map.get at.0.approvals c) (approval_there plans others order names h k n p at.0 is at.1 c) (approval_there others plans names order k h n at.0 p at.1 is c))

      standing : p.standing ≡ at.0.standing
      standing = same_standing p.standing at.0.standing (told.state ∙ sym at.2.state) (change_there plans others order names h k n p at.0 is at.1) (change_there others plans names order k h n at.0 p at.1 is) (sorted n p is) (listed n at.0 at.1)

      same : p ≡ at.0
      same = λ i. record { author = (told.author ∙ sym at.2.author) i; steps = steps i; approvals = approved i; standing = standing i }

-- ---- worlds

-- the same rows stand in both inventories
known_there : (ports : List _) (addresses : List _) (holders : List _) (volumes : List _) (v w : InventoryRows) → AreInventoryRows ports addresses holders volumes v → AreInventoryRows ports addresses holders volumes w
    → (r : InventoryRow) → IsOfTable r → IsKnown v r → IsKnown w r
known_there ports addresses holders volumes v w h k (row.Port p) of_table there = absurd of_table
known_there ports addresses holders volumes v w h k (row.Entry p) of_table there = (k.ports_are p).0 ((h.ports_are p).1 there)
known_there ports addresses holders volumes v w h k (row.Address p) of_table there = (k.addresses_are p).0 ((h.addresses_are p).1 there)
known_there ports addresses holders volumes v w h k (row.Holder p) of_table there = (k.holders_are p).0 ((h.holders_are p).1 there)
known_there ports addresses holders volumes v w h k (row.Volume p) of_table there = (k.volumes_are p).0 ((h.volumes_are p).1 there)

module _ {A : Type 0} (t : TableRows A) (v w : WorldRows) (h : AreRecords t v) (k : AreRecords t w) where
  -- worlds with the same rows are one
  pub same_world : HasSoundZonings v.config → HasSoundZonings w.config → ListInOrder (map.get v.plans) → ListInOrder (map.get w.plans) → v ≡ w
  same_world zonings others sorted listed = λ i. record { inventory = inventory i; config = config i; plans = plans i; order = order i; revision = revision i }
    where
      inventory : v.inventory ≡ w.inventory
      inventory = one_inventory v.inventory w.inventory (λ r of_table. (
        known_there t.ports.items t.addresses.items t.holders.items t.volumes.items v.inventory w.inventory h.inventory_are k.inventory_are r of_table,
        known_there t.ports.items t.addresses.items t.holders.items t.volumes.items w.inventory v.inventory k.inventory_are h.inventory_are r of_table,
      ))

      config : v.config ≡ w.config
      config = one_config v.config w.config zonings others (λ r. ((λ there. (k.config_are r).0 ((h.config_are r).1 there)), λ there. (h.config_are r).0 ((k.config_are r).1 there)))

      plans : v.plans ≡ w.plans
      plans = map.same_map name_total name_exact v.plans w.plans (λ n. same_option (map.get v.plans n) (map.get w.plans n)
          (plan_there t.plans.items t.approvals.items t.undo.items (map.get v.plans) (map.get w.plans) v.order w.order h.plans_are k.plans_are sorted listed n)
          (plan_there t.plans.items t.approvals.items t.undo.items (map.get w.plans) (map.get v.plans) w.order v.order k.plans_are h.plans_are listed sorted n))

      order : v.order ≡ w.order
      order = one_order t.plans.items v.order w.order h.plans_are.order_is k.plans_are.order_is

      revision : v.revision ≡ w.revision
      revision = (k.counts_are (Revision v.revision)).0 ((h.counts_are (Revision v.revision)).1 refl)

-- the one world that the rows tell
pub the_world : {A : Type 0} (t : TableRows A) (v w : WorldRows) → IsMadeOfTables t v → AreTableRows t w → IsSound w → v ≡ w
the_world t v w made rows sound = same_world t v w made.records_are rows.records_are made.zonings sound.config.parts.zonings made.in_order (sound_in_order w sound)

-- where it is not sound, or its paths are not these, there is none
pub unsound : {A : Type 0} (t : TableRows A) (v : WorldRows) → IsMadeOfTables t v → ¬ IsSound v → HasNoWorld t
unsound t v made fails w rows sound = fails (subst IsSound (sym (the_world t v w made rows sound)) sound)

pub other_paths : {A : Type 0} (t : TableRows A) (v : WorldRows) → IsMadeOfTables t v → ¬ ArePathRows (records_of v) t.paths.items → HasNoWorld t
other_paths t v made fails w rows sound = fails (subst (λ x. ArePathRows (records_of x) t.paths.items) (sym (the_world t v w made rows sound)) rows.paths_are)

-- sound worlds with equal rows are equal
pub one_world : {A : Type 0} (t : TableRows A) (v w : WorldRows) → AreTableRows t v → AreTableRows t w → IsSound v → IsSound w → v ≡ w
one_world t v w h k sound other = the_world t v w (record { records_are = h.records_are; zonings = sound.config.parts.zonings; in_order = sound_in_order v sound }) k other
