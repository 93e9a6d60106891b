-- The zoning of one fabric becomes another: what rows then stand.
use Rattle.std.proofs.Common.{ℕ, ◌≡◌, ◌⊎◌, inl, inr, List, Option, Bool, true, false, not, ◌&&◌, refl, sym, ap, ◌∙◌, subst}
use mathlib.Core.Bool.{true≢false}
use Rattle.std.specs.Ordering.{eq_by_cmp, is_eq}
use Rattle.std.specs.Cmp.{Equal-is, tied_itself}
use Rattle.std.specs.FinSet as set
use Rattle.fab_reach_base.specs.fab_names.declared.fabric.Fabric.{Fabric}
use Rattle.fab_reach_base.specs.fab_names.declared.fabric.Fabric.TheVariants.{A, B}
use Rattle.fab_reach_base.specs.fab_names.declared.member.Member.{Member}
use Rattle.fab_reach_base.proofs.fab_lemmas.Adding.{adds_one}
use Rattle.fab_reach_base.specs.fab_zoning_rows.Rows.{Row, Rows, row_cmp}
use Rattle.fab_reach_base.specs.fab_zoning.Zonings.{FabricZoning, permits}
use Rattle.fab_reach_base.proofs.fab_zoning_rows.RowSets.{row_total, row_exact}
use Rattle.fab_reach_base.specs.Records.{ConfigRows, zoning_at}
use Rattle.fab_store_rows.specs.declared.config_row.SettingRow.TheVariants.{ActiveSet, DefaultZone}
use Rattle.fab_store_rows.specs.declared.config_row.ZoningItem.{ZoningItem}
use Rattle.fab_store_rows.specs.declared.config_row.ZoningRow.{ZoningRow}
use Rattle.fab_store_rows.specs.declared.config_row.ActiveRow.{ActiveRow}
use Rattle.fab_store_rows.specs.declared.config_row.ConfigRow.{ConfigRow}
use Rattle.fab_store_rows.specs.declared.config_row.ConfigRow.TheVariants as config
use Rattle.fab_store_rows.specs.Standing.{HasItem, IsGroup, IsPart, Stands}
use Rattle.fab_store_edits.specs.Rows.{active_row}
use Rattle.fab_store_rows.specs.Tidy.{HasNoEmptySet, IsTidy}
use Rattle.fab_store_edits.specs.Inner.Edits.{NoRow, IsPut, IsTaken}
use Rattle.fab_store_edits.specs.Inner.ZoningEdits.{with_zoning, PutsItem, TakesItem}
use Rattle.fab_store_edits.proofs.RowTests.{row_or}

abbrev pub item_row : Fabric → ZoningItem → ConfigRow
item_row f i = config.Zoning (record { fabric = f; item = i })

-- what one zoning has, the other has, or it is one of these rows
pub record Moves (f : Fabric) (E : ConfigRow → Type 0) (v w : FabricZoning) : Type 0 where
  pub name : (n : Option (List ℕ)) → v.active ≡ n → (w.active ≡ n) ⊎ E (config.Setting (ActiveSet f n))
  pub flag : (p : Bool) → permits v.flag ≡ p → (permits w.flag ≡ p) ⊎ E (config.Setting (DefaultZone f p))
  pub items : (i : ZoningItem) → HasItem v i → HasItem w i ⊎ E (item_row f i)
  pub rows : (z : List ℕ) (m : Member) → set.contains v.rows (z, m) ≡ true → (set.contains w.rows (z, m) ≡ true) ⊎ E (active_row f z m)

stays : (f : Fabric) (E : ConfigRow → Type 0) (v : FabricZoning) → Moves f E v v
stays f E v = record { name = λ n h. inl h; flag = λ p h. inl h; items = λ i h. inl h; rows = λ z m h. inl h }

all_move : (c d : ConfigRows) (E : ConfigRow → Type 0) → ((g : Fabric) → Moves g E (zoning_at c g) (zoning_at d g)) → c.mapping ≡ d.mapping → (x : ConfigRow) → Stands c x → Stands d x ⊎ E x
all_move c d E z m (config.Setting (ActiveSet f n)) h = (z f).name n h
all_move c d E z m (config.Setting (DefaultZone f p)) h = (z f).flag p h
all_move c d E z m (config.Zoning r) h = (z r.fabric).items r.item h
all_move c d E z m (config.Active r) h = (z r.fabric).rows r.zone r.member h
all_move c d E z m (config.Group r) h = inl (subst (λ v. IsGroup v r) m h)
all_move c d E z m (config.Part r) h = inl (subst (λ v. IsPart v r) m h)

module _ (c : ConfigRows) (w : FabricZoning) where
  pub zoning_now : (f : Fabric) → zoning_at (with_zoning f w c) f ≡ w
  zoning_now A = refl
  zoning_now B = refl

  same_mapping : (f : Fabric) → c.mapping ≡ (with_zoning f w c).mapping
  same_mapping A = refl
  same_mapping B = refl

  one_moves : (E : ConfigRow → Type 0) (f : Fabric) → Moves f E (zoning_at c f) w → (g : Fabric) → Moves g E (zoning_at c g) (zoning_at (with_zoning f w c) g)
  one_moves E A m A = m
  one_moves E A m B = stays B E c.b
  one_moves E B m A = stays A E c.a
  one_moves E B m B = m

  one_moves_back : (E : ConfigRow → Type 0) (f : Fabric) → Moves f E w (zoning_at c f) → (g : Fabric) → Moves g E (zoning_at (with_zoning f w c) g) (zoning_at c g)
  one_moves_back E A m A = m
  one_moves_back E A m B = stays B E c.b
  one_moves_back E B m A = stays A E c.a
  one_moves_back E B m B = m

  pub moved : (E : ConfigRow → Type 0) (f : Fabric) → Moves f E (zoning_at c f) w → (x : ConfigRow) → Stands c x → Stands (with_zoning f w c) x ⊎ E x
  moved E f m = all_move c (with_zoning f w c) E (one_moves E f m) (same_mapping f)

  pub moved_back : (E : ConfigRow → Type 0) (f : Fabric) → Moves f E w (zoning_at c f) → (x : ConfigRow) → Stands (with_zoning f w c) x → Stands c x ⊎ E x
  moved_back E f m = all_move (with_zoning f w c) c E (one_moves_back E f m) (sym (same_mapping f))

  -- a tidy zoning in a tidy configuration
  pub tidy_with : (f : Fabric) → w.fabric ≡ (zoning_at c f).fabric → (HasNoEmptySet (zoning_at c f) → HasNoEmptySet w) → IsTidy c → IsTidy (with_zoning f w c)
  tidy_with A own some t = record { fabrics = fabrics; no_empty = no_empty }
    where
      fabrics : (g : Fabric) → (zoning_at (with_zoning A w c) g).fabric ≡ g
      fabrics A = own ∙ t.fabrics A
      fabrics B = t.fabrics B

      no_empty : (g : Fabric) → HasNoEmptySet (zoning_at (with_zoning A w c) g)
      no_empty A = some (t.no_empty A)
      no_empty B = t.no_empty B
  tidy_with B own some t = record { fabrics = fabrics; no_empty = no_empty }
    where
      fabrics : (g : Fabric) → (zoning_at (with_zoning B w c) g).fabric ≡ g
      fabrics A = t.fabrics A
      fabrics B = own ∙ t.fabrics B

      no_empty : (g : Fabric) → HasNoEmptySet (zoning_at (with_zoning B w c) g)
      no_empty A = t.no_empty A
      no_empty B = some (t.no_empty B)

module _ (c : ConfigRows) (f : Fabric) where
  -- ---- items
  item_moves : (E : ConfigRow → Type 0) (v w : FabricZoning) → w ≡ record v { aliases = w.aliases; zones = w.zones; sets = w.sets } → ((i : ZoningItem) → HasItem v i → HasItem w i ⊎ E (item_row f i)) → Moves f E v w
  item_moves E v w rest items = record {
    name = λ n h. inl (ap (λ (u : FabricZoning). u.active) rest ∙ h);
    flag = λ p h. inl (ap (λ (u : FabricZoning). permits u.flag) rest ∙ h);
    items = items;
    rows = λ z m h. inl (ap (λ (u : FabricZoning). set.contains u.rows (z, m)) rest ∙ h);
  }

  item_moves_back : (E : ConfigRow → Type 0) (v w : FabricZoning) → w ≡ record v { aliases = w.aliases; zones = w.zones; sets = w.sets } → ((i : ZoningItem) → HasItem w i → HasItem v i ⊎ E (item_row f i)) → Moves f E w v
  item_moves_back E v w rest items = record {
    name = λ n h. inl (sym (ap (λ (u : FabricZoning). u.active) rest) ∙ h);
    flag = λ p h. inl (sym (ap (λ (u : FabricZoning). permits u.flag) rest) ∙ h);
    items = items;
    rows = λ z m h. inl (sym (ap (λ (u : FabricZoning). set.contains u.rows (z, m)) rest) ∙ h);
  }

  pub item_put : (w : FabricZoning) (i : ZoningItem) → PutsItem i (zoning_at c f) w → IsPut NoRow (item_row f i) c (with_zoning f w c)
  item_put w i p = record {
    there = subst (λ (u : FabricZoning). HasItem u i) (sym (zoning_now c w f)) ((p.puts i).1 (inr refl));
    kept = moved_back c w (λ x. x ≡ item_row f i) f (item_moves_back (λ x. x ≡ item_row f i) (zoning_at c f) w p.rest (λ j h. elim ((p.puts j).0 h) [ inl o ↦ inl o | inr e ↦ inr (ap (item_row f) e) ]));
    left = moved c w NoRow f (item_moves NoRow (zoning_at c f) w p.rest (λ j h. inl ((p.puts j).1 (inl h))));
  }

  pub item_taken : (w : FabricZoning) (i : ZoningItem) → TakesItem i (zoning_at c f) w → IsTaken (item_row f i) c (with_zoning f w c)
  item_taken w i p = record {
    gone = λ h. ((p.takes i).0 (subst (λ (u : FabricZoning). HasItem u i) (zoning_now c w f) h)).1 refl;
    kept = λ x h. elim (moved_back c w NoRow f (item_moves_back NoRow (zoning_at c f) w p.rest (λ j h. inl ((p.takes j).0 h).0)) x h) [ inl k ↦ k | inr e ↦ absurd e ];
    left = moved c w (λ x. x ≡ item_row f i) f (item_moves (λ x. x ≡ item_row f i) (zoning_at c f) w p.rest (λ j h. elim (row_or (item_row f j) (item_row f i)) [ inl e ↦ inr e | inr n ↦ inl ((p.takes j).1 (h, λ e. n (ap (item_row f) e))) ]));
  }

  -- ---- active rows
  abbrev with_rows : Rows → FabricZoning
  with_rows rows = record (zoning_at c f) { rows = rows }

  row_is : (E : ConfigRow → Type 0) (r : Row) (z : List ℕ) (m : Member) → ◌≡◌ {A = Row} (z, m) r → active_row f z m ≡ active_row f r.0 r.1
  row_is E r z m e = ap (λ (x : Row). active_row f x.0 x.1) e

  pub row_put : (z : List ℕ) (m : Member) → IsPut NoRow (active_row f z m) c (with_zoning f (with_rows (set.insert (zoning_at c f).rows (z, m))) c)
  row_put z m =
      let old = (zoning_at c f).rows in
      let new = set.insert old (z, m) in
      let one = adds_one row_total row_exact old new (z, m) refl in
      let E : ConfigRow → Type 0 = λ x. x ≡ active_row f z m in
      record {
        there = subst (λ (u : FabricZoning). set.contains u.rows (z, m) ≡ true) (sym (zoning_now c (with_rows new) f)) ((one (z, m)).1 (inr refl));
        kept = moved_back c (with_rows new) E f (record { name = λ n h. inl h; flag = λ p h. inl h; items = λ i h. inl h; rows = λ y k h. elim ((one (y, k)).0 h) [ inl o ↦ inl o | inr e ↦ inr (row_is E (z, m) y k e) ] });
        left = moved c (with_rows new) NoRow f (record { name = λ n h. inl h; flag = λ p h. inl h; items = λ i h. inl h; rows = λ y k h. inl ((one (y, k)).1 (inl h)) });
      }

  -- one row less in a set of rows
  row_gone : (s : Rows) (r : Row) → ¬ (set.contains (set.remove s r) r ≡ true)
  row_gone s r h = true≢false (sym h ∙ set.contains-remove row_total s r r ∙ ap (λ b. not b && set.contains s r) (ap is_eq (tied_itself row_total r)))

  right_of : (a b : Bool) → (a && b) ≡ true → b ≡ true
  right_of true b e = e
  right_of false b e = absurd (true≢false (sym e))

  row_kept : (s : Rows) (r q : Row) → set.contains (set.remove s r) q ≡ true → set.contains s q ≡ true
  row_kept s r q h = right_of (not (eq_by_cmp row_cmp q r)) (set.contains s q) (sym (set.contains-remove row_total s r q) ∙ h)

  row_left : (s : Rows) (r q : Row) → set.contains s q ≡ true → (set.contains (set.remove s r) q ≡ true) ⊎ (q ≡ r)
  row_left s r q h = by (eq_by_cmp row_cmp q r) refl (set.contains-remove row_total s r q)
    where
      by : (b : Bool) → eq_by_cmp row_cmp q r ≡ b → set.contains (set.remove s r) q ≡ (not b && set.contains s q) → (set.contains (set.remove s r) q ≡ true) ⊎ (q ≡ r)
      by true e f = inr (row_exact q r ((Equal-is (row_cmp q r)).0 e))
      by false e f = inl (f ∙ h)

  pub row_taken : (z : List ℕ) (m : Member) → IsTaken (active_row f z m) c (with_zoning f (with_rows (set.remove (zoning_at c f).rows (z, m))) c)
  row_taken z m =
      let old = (zoning_at c f).rows in
      let new = set.remove old (z, m) in
      let E : ConfigRow → Type 0 = λ x. x ≡ active_row f z m in
      record {
        gone = λ h. row_gone old (z, m) (subst (λ (u : FabricZoning). set.contains u.rows (z, m) ≡ true) (zoning_now c (with_rows new) f) h);
        kept = λ x h. elim (moved_back c (with_rows new) NoRow f (record { name = λ n h. inl h; flag = λ p h. inl h; items = λ i h. inl h; rows = λ y k h. inl (row_kept old (z, m) (y, k) h) }) x h) [ inl k ↦ k | inr e ↦ absurd e ];
        left = moved c (with_rows new) E f (record { name = λ n h. inl h; flag = λ p h. inl h; items = λ i h. inl h; rows = λ y k h. elim (row_left old (z, m) (y, k) h) [ inl o ↦ inl o | inr e ↦ inr (row_is E (z, m) y k e) ] });
      }

-- ---- from what the calls say

module _ (c : ConfigRows) (w : FabricZoning) (f : Fabric) where
  zoning_row : (r : ZoningRow) → r.fabric ≡ f → item_row f r.item ≡ config.Zoning r
  zoning_row r e = λ i. config.Zoning (record { fabric = sym e i; item = r.item })

  pub put_zoning_at : (r : ZoningRow) → r.fabric ≡ f → PutsItem r.item (zoning_at c f) w → IsPut NoRow (config.Zoning r) c (with_zoning f w c)
  put_zoning_at r e p = subst (λ (x : ConfigRow). IsPut NoRow x c (with_zoning f w c)) (zoning_row r e) (item_put c f w r.item p)

  pub take_zoning_at : (r : ZoningRow) → r.fabric ≡ f → TakesItem r.item (zoning_at c f) w → IsTaken (config.Zoning r) c (with_zoning f w c)
  take_zoning_at r e p = subst (λ (x : ConfigRow). IsTaken x c (with_zoning f w c)) (zoning_row r e) (item_taken c f w r.item p)

  row_of : (r : ActiveRow) → r.fabric ≡ f → active_row f r.zone r.member ≡ config.Active r
  row_of r e = λ i. config.Active (record { fabric = sym e i; zone = r.zone; member = r.member })

  pub put_active_at : (r : ActiveRow) → r.fabric ≡ f → w ≡ record (zoning_at c f) { rows = set.insert (zoning_at c f).rows (r.zone, r.member) } → IsPut NoRow (config.Active r) c (with_zoning f w c)
  put_active_at r e made =
      subst (λ (x : ConfigRow). IsPut NoRow x c (with_zoning f w c)) (row_of r e)
      (subst (λ (u : FabricZoning). IsPut NoRow (active_row f r.zone r.member) c (with_zoning f u c)) (sym made) (row_put c f r.zone r.member))

  pub take_active_at : (r : ActiveRow) → r.fabric ≡ f → w ≡ record (zoning_at c f) { rows = set.remove (zoning_at c f).rows (r.zone, r.member) } → IsTaken (config.Active r) c (with_zoning f w c)
  take_active_at r e made =
      subst (λ (x : ConfigRow). IsTaken x c (with_zoning f w c)) (row_of r e)
      (subst (λ (u : FabricZoning). IsTaken (active_row f r.zone r.member) c (with_zoning f u c)) (sym made) (row_taken c f r.zone r.member))

  -- other active rows leave it tidy
  pub rows_tidy : (rows : Rows) → w ≡ record (zoning_at c f) { rows = rows } → IsTidy c → IsTidy (with_zoning f w c)
  rows_tidy rows made t =
      tidy_with c w f (ap (λ (u : FabricZoning). u.fabric) made) (λ h. subst HasNoEmptySet (sym made) (record { aliases = h.aliases; zones = h.zones; sets = h.sets })) t

  pub same_tidy : w ≡ zoning_at c f → IsTidy c → IsTidy (with_zoning f w c)
  same_tidy same t = tidy_with c w f (ap (λ (u : FabricZoning). u.fabric) same) (λ h. subst HasNoEmptySet (sym same) h) t
