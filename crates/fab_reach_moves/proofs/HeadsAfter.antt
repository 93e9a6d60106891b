-- Whether storage groups are exposed after a step, and whether they keep their units.
use Rattle.std.proofs.Common.{ℕ, ◌≡◌, List, Bool, true, false, Contains, Option, None, Some, is_some, MatchOption, IsTrue, inl, inr, refl, sym, ap, ◌∙◌, subst, not}
use Rattle.std.specs.BTreeMap.{BTreeMap, get}
use Rattle.fab_names.specs.Orders.{name_cmp}
use mathlib.Core.Bool.{true≢false}
use Rattle.std.specs.Cmp.{nat_cmp_total}
use Rattle.std.specs.FinMap as map
use Rattle.std.specs.FinSet as set
use Rattle.fab_mapping_base.specs.Groups.{StorageGroupRows}
use Rattle.fab_store_rows.specs.declared.config_row.GroupRow.TheVariants as group
use Rattle.fab_store_rows.specs.declared.config_row.StorageGroupRow.{StorageGroupRow}
use Rattle.fab_reach_base.specs.Records.{Records}
use Rattle.fab_reach_base.proofs.Same.{same_some}
use Rattle.fab_reach_books.proofs.SetLoops.{same_option}
use Rattle.fab_reach_books.specs.Rows.{Stands, IsRowDiff}
use Rattle.fab_reach_books.specs.declared.row.Row.{Row}
use Rattle.fab_reach_books.specs.declared.row.Row.TheVariants as row
use Rattle.fab_reach_moves.specs.Inner.Listing.{IsExposedIn, SaysHead, SaysHeadAmong, unit_row, SaysUnit, TellsUnits}
use Rattle.fab_reach_moves.specs.Inner.Saying.{SaysUnitAt, IsSaid, AreSaid}

-- what is found under a name is what rows say of it
pub head_said : (rows : List Row) (t : BTreeMap (List ℕ) Bool) → AreSaid name_cmp SaysHead rows t → (name : List ℕ) (o : Option Bool) → o ≡ get name_cmp t name → MatchOption o ((e : Bool) → ¬ SaysHeadAmong rows name e) (SaysHeadAmong rows name)
head_said rows t are name o is = subst (λ f. MatchOption f ((e : Bool) → ¬ SaysHeadAmong rows name e) (SaysHeadAmong rows name)) (sym is) (are name)

pub unit_said : (rows : List Row) (t : BTreeMap (List ℕ) ℕ) → AreSaid name_cmp SaysUnitAt rows t → (name : List ℕ) (b : Bool) → b ≡ is_some (get name_cmp t name) → (IsTrue b → SaysUnit rows name) × (SaysUnit rows name → IsTrue b)
unit_said rows t are name b is = by (get name_cmp t name) (are name) b is
  where
    by : (f : Option ℕ) → MatchOption f ((u : ℕ) → ¬ IsSaid SaysUnitAt rows name u) (IsSaid SaysUnitAt rows name) → (b : Bool) → b ≡ is_some f → (IsTrue b → SaysUnit rows name) × (SaysUnit rows name → IsTrue b)
    by None none b e = ((λ h. absurd (true≢false (sym h ∙ e))), λ s. absurd (none s.0 (unit_row name s.0 s.1, s.2, (s.1, refl))))
    by (Some u) h b e = ((λ _. (u, h.2.0, subst (Contains rows) h.2.1 h.1)), λ _. e)

-- ---- whether a storage group is exposed

head_row : List ℕ → StorageGroupRows → StorageGroupRow
head_row n g = record { name = n; tenant = g.tenant; array = g.array; exposed = g.exposed }

pub exposed_there : (w : Records) (n : List ℕ) (g : StorageGroupRows) (b : Bool) → map.get w.config.mapping.groups n ≡ Some g → b ≡ g.exposed → (IsTrue b → IsExposedIn w n) × (IsExposedIn w n → IsTrue b)
exposed_there w n g b at is = ((λ h. (g, at, sym is ∙ h)), λ x. is ∙ ap (λ (y : StorageGroupRows). y.exposed) (same_some at x.1) ∙ x.2)

module _ (w v : Records) (gone come : List Row) (d : IsRowDiff w v gone come) (n : List ℕ) where
  pub exposed_come : (e : Bool) → SaysHeadAmong come n e → (IsTrue e → IsExposedIn v n) × (IsExposedIn v n → IsTrue e)
  exposed_come e h =
      let x = h.2.0 in
      let s = (d.new (row.Group (group.Storage x)) (subst (Contains come) h.2.1 h.1)).0 in
      exposed_there v n s.0 e (ap (map.get v.config.mapping.groups) (sym h.2.2) ∙ s.1) (sym h.2.3 ∙ sym s.2.exposed)

  pub exposed_gone : (e : Bool) → SaysHeadAmong gone n e → ((f : Bool) → ¬ SaysHeadAmong come n f) → (IsTrue false → IsExposedIn v n) × (IsExposedIn v n → IsTrue false)
  unfolding head_row
  exposed_gone e h none = (
    (λ f. absurd (true≢false (sym f))),
    λ y.
        let g = y.0 in
        let head = head_row n g in
        let there : Stands v (row.Group (group.Storage head)) = (g, y.1, record { tenant = refl; array = refl; exposed = refl }) in
        let x = h.2.0 in
        let there_gone = subst (Contains gone) h.2.1 h.1 in
        let s = (d.left (row.Group (group.Storage x)) there_gone).0 in
        absurd (elim (d.after (row.Group (group.Storage head)) there) [
          | inl k ↦
              let same : s.0 ≡ k.0 = same_some (ap (map.get w.config.mapping.groups) (sym h.2.2) ∙ s.1) k.1 in
              let equal : x ≡ head = λ i. record {
                name = h.2.2 i;
                tenant = (sym s.2.tenant ∙ ap (λ (z : StorageGroupRows). z.tenant) same ∙ k.2.tenant) i;
                array = (sym s.2.array ∙ ap (λ (z : StorageGroupRows). z.array) same ∙ k.2.array) i;
                exposed = (sym s.2.exposed ∙ ap (λ (z : StorageGroupRows). z.exposed) same ∙ k.2.exposed) i;
              } in
              (d.left (row.Group (group.Storage x)) there_gone).1 (subst (λ (z : StorageGroupRow). Stands v (row.Group (group.Storage z))) (sym equal) there)
          | inr k ↦ none g.exposed (row.Group (group.Storage head), k, (head, refl, refl, refl))
        ]),
  )

  pub exposed_kept : ((f : Bool) → ¬ SaysHeadAmong gone n f) → ((f : Bool) → ¬ SaysHeadAmong come n f) → (IsExposedIn w n → IsExposedIn v n) × (IsExposedIn v n → IsExposedIn w n)
  unfolding head_row
  exposed_kept none_gone none_come = (
    (λ y.
        let head = head_row n y.0 in
        elim (d.before (row.Group (group.Storage head)) (y.0, y.1, record { tenant = refl; array = refl; exposed = refl })) [ inl k ↦ (k.0, k.1, k.2.exposed ∙ y.2) | inr k ↦ absurd (none_gone y.0.exposed (row.Group (group.Storage head), k, (head, refl, refl, refl))) ]),
    λ y.
        let head = head_row n y.0 in
        elim (d.after (row.Group (group.Storage head)) (y.0, y.1, record { tenant = refl; array = refl; exposed = refl })) [ inl k ↦ (k.0, k.1, k.2.exposed ∙ y.2) | inr k ↦ absurd (none_come y.0.exposed (row.Group (group.Storage head), k, (head, refl, refl, refl))) ],
  )

  -- ---- its units

  pub units_gone : SaysUnit gone n → TellsUnits w v n false
  units_gone h g k at there = (
    (λ f. absurd (true≢false (sym f))),
    λ same.
        let l = d.left (unit_row n h.0 h.1) h.2 in
        let s = l.0 in
        absurd (l.1 (k, there, ap (λ u. map.get u h.0) same ∙ ap (λ (y : StorageGroupRows). map.get y.units h.0) (same_some at s.1) ∙ s.2)),
  )

  pub units_come : SaysUnit come n → TellsUnits w v n false
  units_come h g k at there = (
    (λ f. absurd (true≢false (sym f))),
    λ same.
        let l = d.new (unit_row n h.0 h.1) h.2 in
        let s = l.0 in
        absurd (l.1 (g, at, ap (λ u. map.get u h.0) (sym same) ∙ ap (λ (y : StorageGroupRows). map.get y.units h.0) (same_some there s.1) ∙ s.2)),
  )

  pub units_kept : ¬ SaysUnit gone n → ¬ SaysUnit come n → TellsUnits w v n true
  units_kept none_gone none_come g k at there = (
    (λ _. map.same_map nat_cmp_total set.nat_cmp-IsAntisymmetric k.units g.units (λ u.
        same_option (map.get k.units u) (map.get g.units u)
        (λ x e. elim (d.after (unit_row n u x) (k, there, e)) [ inl s ↦ ap (λ (y : StorageGroupRows). map.get y.units u) (same_some at s.1) ∙ s.2 | inr c ↦ absurd (none_come (u, x, c)) ])
        (λ x e. elim (d.before (unit_row n u x) (g, at, e)) [ inl s ↦ ap (λ (y : StorageGroupRows). map.get y.units u) (same_some there s.1) ∙ s.2 | inr c ↦ absurd (none_gone (u, x, c)) ]))),
    λ _. refl,
  )

  pub units_by : (b : Bool) → ¬ SaysUnit gone n → (IsTrue b → SaysUnit come n) × (SaysUnit come n → IsTrue b) → TellsUnits w v n (not b)
  units_by true none is = units_come (is.0 refl)
  units_by false none is = units_kept none (λ h. true≢false (sym (is.1 h)))
