-- The rows in which two worlds differ, in one list.
use Rattle.std.proofs.Common.{ℕ, ◌≡◌, ◌<◌, ◌≤◌, ◌↔◌, ⊎_elim, List, ◌++◌, map, Contains, refl, ap, ◌∙◌, subst, arith}
use Rattle.std.specs.Cmp.{nat_cmp_total}
use Rattle.std.specs.declared.cmp.Ordering.TheVariants.{Less}
use Rattle.std.proofs.lemmas.List.Elements.{Contains-append_left, Contains-append_right, Contains-append_cases}
use Rattle.fab_store_world.proofs.KeyOrders.{approval_total, undo_total}
use Rattle.fab_store_world.specs.Keys.{plan_order, approval_order, undo_order, approval_key, undo_key}
use Rattle.fab_store_world.specs.Standing.{IsOrdered, IsPlanRow, Lacking}
use Rattle.fab_store_world.specs.Tables.{AreRowsLacking, count_order}
use Rattle.fab_lemmas.specs.Lists.{IsListOf}
use Rattle.fab_names.proofs.OrderLaws.{name_total}
use Rattle.fab_store_world.proofs.InventoryTables.{entries_total, addresses_total, holders_total, volumes_total}
use Rattle.fab_store_world.proofs.PathRowOrder as path_rows
use Rattle.fab_store_world.specs.Inventories.{entry_order, address_order, holder_order, volume_order}
use Rattle.fab_store_world.specs.Paths.{path_row_order}
use Rattle.fab_store_rows.specs.OrderOfRows as rows
use Rattle.fab_store_rows.specs.RowOrder.{row_order}
use Rattle.fab_store_rows.specs.declared.config_row.ConfigRow.{ConfigRow}
use Rattle.fab_store_rows.specs.declared.record_row.ApprovalRow.{ApprovalRow}
use Rattle.fab_store_rows.specs.declared.record_row.PathRow.{PathRow}
use Rattle.fab_store_rows.specs.declared.record_row.UndoRow.{UndoRow}
use Rattle.fab_store_rows.specs.PlanEntries.{PlanEntry}
use Rattle.fab_store_rows.specs.declared.table_rows.CountRow.{CountRow}
use Rattle.fab_store_rows.specs.declared.table_rows.CountRow.TheVariants.{Schema, Revision}
use Rattle.fab_store_rows.specs.declared.table_rows.TableRows.{TableRows}
use Rattle.fab_store_tables.specs.Listing.{AreDistinct, inventory_rows, config_rows, record_rows, all_rows}
use Rattle.fab_store_tables.specs.Rows.{AnyRow, count, port, address, holder, volume, config_row, plan, approval, undo, path}
use Rattle.fab_store_base.proofs.Distinct.{not_below_itself, sorted_distinct, in_map, map_in, map_distinct, join_distinct}
use Rattle.fab_store_base.specs.Standing.{StandsOnlyIn}
use Rattle.fab_world.specs.Worlds.{WorldRows}

-- which list a row is of
abbrev kind : AnyRow → ℕ
kind (count r) = 0
kind (port r) = 1
kind (address r) = 2
kind (holder r) = 3
kind (volume r) = 4
kind (config_row r) = 5
kind (plan r) = 6
kind (approval r) = 7
kind (undo r) = 8
kind (path r) = 9

-- the rows are distinct, and of these lists
record IsPart (low high : ℕ) (xs : List AnyRow) : Type 0 where
  distinct : AreDistinct xs
  from : (x : AnyRow) → Contains xs x → low ≤ kind x
  to : (x : AnyRow) → Contains xs x → kind x ≤ high

one_part : {R : Type 0} (k : ℕ) (any : R → AnyRow) → ((r s : R) → any r ≡ any s → r ≡ s) → ((r : R) → kind (any r) ≡ k) → (rows : List R) → AreDistinct rows → IsPart k k (map any rows)
one_part k any one kinds rows h = record {
  distinct = map_distinct any one rows h;
  from = λ x there. let s = in_map any rows x there in omega (arith, kinds s.0, ap kind s.2);
  to = λ x there. let s = in_map any rows x there in omega (arith, kinds s.0, ap kind s.2);
}

both_parts : (a b c d : ℕ) (xs ys : List AnyRow) → IsPart a b xs → IsPart c d ys → b < c → a ≤ c → b ≤ d → IsPart a d (xs ++ ys)
both_parts a b c d xs ys h k apart low high = record {
  distinct = join_distinct xs ys h.distinct k.distinct (λ x here there. absurd (omega (arith, h.to x here, k.from x there)));
  from = λ x there. ⊎_elim (h.from x) (λ later. omega (arith, k.from x later)) (Contains-append_cases xs ys x there);
  to = λ x there. ⊎_elim (λ first. omega (arith, h.to x first)) (k.to x) (Contains-append_cases xs ys x there);
}

-- ---- no row is below itself

never_count : (r : CountRow) → ¬ (count_order r r ≡ Less)
never_count (Schema n) = not_below_itself nat_cmp_total n
never_count (Revision n) = not_below_itself nat_cmp_total n

never_plan : (r : PlanEntry) → ¬ (plan_order r r ≡ Less)
never_plan r = not_below_itself name_total r.name

never_approval : (r : ApprovalRow) → ¬ (approval_order r r ≡ Less)
never_approval r = not_below_itself approval_total (approval_key r)

never_undo : (r : UndoRow) → ¬ (undo_order r r ≡ Less)
never_undo r = not_below_itself undo_total (undo_key r)

never_config : (r : ConfigRow) → ¬ (row_order r r ≡ Less)
never_config r less = not_below_itself rows.row_total r (rows.in_order r r ∙ less)

never_path : (r : PathRow) → ¬ (path_row_order r r ≡ Less)
never_path r less = not_below_itself path_rows.row_total r (path_rows.in_order r r ∙ less)

-- ---- in one list

in_part : {R : Type 0} (any : R → AnyRow) (rows : List R) (P : AnyRow → Type 0) → ((r : R) → Contains rows r → P (any r)) → (x : AnyRow) → Contains (map any rows) x → P x
in_part any rows P each x there = let s = in_map any rows x there in subst P s.2 (each s.0 s.1)

in_both : (P : AnyRow → Type 0) (xs ys : List AnyRow) → ((x : AnyRow) → Contains xs x → P x) → ((x : AnyRow) → Contains ys x → P x) → (x : AnyRow) → Contains (xs ++ ys) x → P x
in_both P xs ys first later x there = ⊎_elim (first x) (later x) (Contains-append_cases xs ys x there)

left : (xs ys : List AnyRow) (x : AnyRow) → Contains xs x → Contains (xs ++ ys) x
left = Contains-append_left

right : (xs ys : List AnyRow) (x : AnyRow) → Contains ys x → Contains (xs ++ ys) x
right = Contains-append_right

module _ {A : Type 0} (w other : WorldRows) (t : TableRows A) (h : AreRowsLacking other w t) (ordered : IsOrdered w) (also : IsOrdered other) where
  plans_listed : IsListOf plan_order (Lacking IsPlanRow other w) t.plans.items
  plans_listed = h.plans ordered also

  inventory_part : IsPart 0 4 (inventory_rows t)
  inventory_part =
      both_parts 0 0 1 4 _ _ (one_part 0 count (λ r s e. cc) (λ r. refl) t.counts.items (sorted_distinct count_order never_count t.counts.items h.counts.sorted))
      (both_parts 1 1 2 4 _ _ (one_part 1 port (λ r s e. cc) (λ r. refl) t.ports.items (sorted_distinct entry_order (not_below_itself entries_total) t.ports.items h.ports.sorted))
      (both_parts 2 2 3 4 _ _ (one_part 2 address (λ r s e. cc) (λ r. refl) t.addresses.items (sorted_distinct address_order (not_below_itself addresses_total) t.addresses.items h.addresses.sorted))
      (both_parts 3 3 4 4 _ _ (one_part 3 holder (λ r s e. cc) (λ r. refl) t.holders.items (sorted_distinct holder_order (not_below_itself holders_total) t.holders.items h.holders.sorted))
      (one_part 4 volume (λ r s e. cc) (λ r. refl) t.volumes.items (sorted_distinct volume_order (not_below_itself volumes_total) t.volumes.items h.volumes.sorted)) (omega arith) (omega arith) (omega arith)) (omega arith) (omega arith) (omega arith)) (omega arith) (omega arith) (omega arith)) (omega arith) (omega arith) (omega arith)

  config_part : IsPart 5 7 (config_rows t)
  config_part =
      both_parts 5 5 6 7 _ _ (one_part 5 config_row (λ r s e. cc) (λ r. refl) t.config.items (sorted_distinct row_order never_config t.config.items h.config.sorted))
      (both_parts 6 6 7 7 _ _ (one_part 6 plan (λ r s e. cc) (λ r. refl) t.plans.items (sorted_distinct plan_order never_plan t.plans.items plans_listed.sorted))
      (one_part 7 approval (λ r s e. cc) (λ r. refl) t.approvals.items (sorted_distinct approval_order never_approval t.approvals.items h.approvals.sorted)) (omega arith) (omega arith) (omega arith)) (omega arith) (omega arith) (omega arith)

  record_part : IsPart 8 9 (record_rows t)
  record_part =
      both_parts 8 8 9 9 _ _ (one_part 8 undo (λ r s e. cc) (λ r. refl) t.undo.items (sorted_distinct undo_order never_undo t.undo.items h.undo.sorted))
      (one_part 9 path (λ r s e. cc) (λ r. refl) t.paths.items (sorted_distinct path_row_order never_path t.paths.items h.paths.sorted)) (omega arith) (omega arith) (omega arith)

  pub rows_distinct : AreDistinct (all_rows t)
  rows_distinct = (both_parts 0 4 5 9 (inventory_rows t) (config_rows t ++ record_rows t) inventory_part (both_parts 5 7 8 9 (config_rows t) (record_rows t) config_part record_part (omega arith) (omega arith) (omega arith)) (omega arith) (omega arith) (omega arith)).distinct

  P : AnyRow → Type 0
  P = StandsOnlyIn w other

  sound : (x : AnyRow) → Contains (all_rows t) x → StandsOnlyIn w other x
  unfolding P
  sound =
      in_both P (inventory_rows t) (config_rows t ++ record_rows t)
      (in_both P _ _ (in_part count t.counts.items P h.counts.sound) (in_both P _ _ (in_part port t.ports.items P h.ports.sound) (in_both P _ _ (in_part address t.addresses.items P h.addresses.sound) (in_both P _ _ (in_part holder t.holders.items P h.holders.sound) (in_part volume t.volumes.items P h.volumes.sound)))))
      (in_both P (config_rows t) (record_rows t)
      (in_both P _ _ (in_part config_row t.config.items P h.config.sound) (in_both P _ _ (in_part plan t.plans.items P plans_listed.sound) (in_part approval t.approvals.items P h.approvals.sound)))
      (in_both P _ _ (in_part undo t.undo.items P h.undo.sound) (in_part path t.paths.items P h.paths.sound)))

  in_inventory : (x : AnyRow) → Contains (inventory_rows t) x → Contains (all_rows t) x
  in_inventory = left (inventory_rows t) (config_rows t ++ record_rows t)

  in_config : (x : AnyRow) → Contains (config_rows t) x → Contains (all_rows t) x
  in_config x there = right (inventory_rows t) (config_rows t ++ record_rows t) x (left (config_rows t) (record_rows t) x there)

  in_records : (x : AnyRow) → Contains (record_rows t) x → Contains (all_rows t) x
  in_records x there = right (inventory_rows t) (config_rows t ++ record_rows t) x (right (config_rows t) (record_rows t) x there)

  complete : (x : AnyRow) → StandsOnlyIn w other x → Contains (all_rows t) x
  complete (count r) p = in_inventory (count r) (left _ _ (count r) (map_in count t.counts.items r (h.counts.complete r p)))
  complete (port r) p = in_inventory (port r) (right (map count t.counts.items) _ (port r) (left _ _ (port r) (map_in port t.ports.items r (h.ports.complete r p))))
  complete (address r) p = in_inventory (address r) (right (map count t.counts.items) _ (address r) (right (map port t.ports.items) _ (address r) (left _ _ (address r) (map_in address t.addresses.items r (h.addresses.complete r p)))))
  complete (holder r) p = in_inventory (holder r) (right (map count t.counts.items) _ (holder r) (right (map port t.ports.items) _ (holder r) (right (map address t.addresses.items) _ (holder r) (left _ _ (holder r) (map_in holder t.holders.items r (h.holders.complete r p))))))
  complete (volume r) p = in_inventory (volume r) (right (map count t.counts.items) _ (volume r) (right (map port t.ports.items) _ (volume r) (right (map address t.addresses.items) _ (volume r) (right (map holder t.holders.items) _ (volume r) (map_in volume t.volumes.items r (h.volumes.complete r p))))))
  complete (config_row r) p = in_config (config_row r) (left _ _ (config_row r) (map_in config_row t.config.items r (h.config.complete r p)))
  complete (plan r) p = in_config (plan r) (right (map config_row t.config.items) _ (plan r) (left _ _ (plan r) (map_in plan t.plans.items r (plans_listed.complete r p))))
  complete (approval r) p = in_config (approval r) (right (map config_row t.config.items) _ (approval r) (right (map plan t.plans.items) _ (approval r) (map_in approval t.approvals.items r (h.approvals.complete r p))))
  complete (undo r) p = in_records (undo r) (left _ _ (undo r) (map_in undo t.undo.items r (h.undo.complete r p)))
  complete (path r) p = in_records (path r) (right (map undo t.undo.items) _ (path r) (map_in path t.paths.items r (h.paths.complete r p)))

  pub rows_are : (x : AnyRow) → Contains (all_rows t) x ↔ StandsOnlyIn w other x
  rows_are x = (sound x, complete x)
