-- One part more in a storage group, or one less.
use Rattle.std.proofs.Common.{ℕ, ◌≡◌, ◌⊎◌, inl, inr, List, Option, None, Some, Bool, true, false, cond, not, ◌&&◌, refl, sym, ap, ◌∙◌, subst}
use mathlib.Core.Bool.{true≢false}
use Rattle.std.specs.declared.cmp.Ordering.{Ordering}
use Rattle.std.specs.Ordering.{nat_cmp, eq_by_cmp, is_eq}
use Rattle.std.specs.Cmp.{IsTotalOrder, Equal-is, tied_itself, nat_cmp_total}
use Rattle.std.specs.FinMap as map
use Rattle.std.specs.FinSet as set
use Rattle.fab_reach_base.proofs.fab_names.OrderLaws.{name_total, name_exact}
use Rattle.fab_reach_base.proofs.fab_lemmas.Adding.{adds_one}
use Rattle.fab_reach_base.specs.fab_mapping_base.Groups.{StorageGroupRows, HaveSameHead, with_hosts, without_hosts, with_target, without_target, with_unit, without_unit}
use Rattle.fab_store_rows.specs.declared.config_row.StoragePart.{StoragePart}
use Rattle.fab_store_rows.specs.declared.config_row.StoragePart.TheVariants.{HostGroup, Target, Unit}
use Rattle.fab_store_rows.specs.Standing.{HasPart}
use Rattle.fab_store_edits.specs.Inner.MappingEdits.{PutsPart, TakesPart}

-- ---- one item less in a finite set
module _ {K : Type 0} {R : K → K → Ordering} (o : IsTotalOrder R) (exact : set.IsAntisymmetric R) (s : set.FinSet R) (k : K) where
  right_of : (a b : Bool) → (a && b) ≡ true → b ≡ true
  right_of true b e = e
  right_of false b e = absurd (true≢false (sym e))

  pub item_gone : ¬ (set.contains (set.remove s k) k ≡ true)
  item_gone h = true≢false (sym h ∙ set.contains-remove o s k k ∙ ap (λ b. not b && set.contains s k) (ap is_eq (tied_itself o k)))

  pub item_kept : (q : K) → set.contains (set.remove s k) q ≡ true → set.contains s q ≡ true
  item_kept q h = right_of (not (eq_by_cmp R q k)) (set.contains s q) (sym (set.contains-remove o s k q) ∙ h)

  pub item_left : (q : K) → set.contains s q ≡ true → (set.contains (set.remove s k) q ≡ true) ⊎ (q ≡ k)
  item_left q h = by (eq_by_cmp R q k) refl (set.contains-remove o s k q)
    where
      by : (b : Bool) → eq_by_cmp R q k ≡ b → set.contains (set.remove s k) q ≡ (not b && set.contains s q) → (set.contains (set.remove s k) q ≡ true) ⊎ (q ≡ k)
      by true e f = inr (exact q k ((Equal-is (R q k)).0 e))
      by false e f = inl (f ∙ h)

  -- a set is what it was but for the item
  takes_item : (q : K) → (set.contains (set.remove s k) q ≡ true → (set.contains s q ≡ true) × ¬ (q ≡ k)) × ((set.contains s q ≡ true) × ¬ (q ≡ k) → set.contains (set.remove s k) q ≡ true)
  takes_item q = (
    λ h. (item_kept q h, λ e. item_gone (subst (λ z. set.contains (set.remove s k) z ≡ true) e h)),
    λ h. elim (item_left q h.0) [ inl l ↦ l | inr e ↦ absurd (h.1 e) ],
  )

some_is : {X : Type 0} (a b : X) → ◌≡◌ {A = Option X} (Some a) (Some b) → a ≡ b
some_is a b e = cc

group_is : (a b : List ℕ) → ◌≡◌ {A = StoragePart} (HostGroup a) (HostGroup b) → a ≡ b
group_is a b e = cc

target_is : (a b : ℕ) → ◌≡◌ {A = StoragePart} (Target a) (Target b) → a ≡ b
target_is a b e = cc

number_is : (t u : ℕ) (v w : List ℕ) → ◌≡◌ {A = StoragePart} (Unit t v) (Unit u w) → t ≡ u
number_is t u v w e = cc

volume_is : (t u : ℕ) (v w : List ℕ) → ◌≡◌ {A = StoragePart} (Unit t v) (Unit u w) → v ≡ w
volume_is t u v w e = cc

module _ (g : StorageGroupRows) where
  same_head : HaveSameHead g g
  same_head = record { tenant = refl; array = refl; exposed = refl }

  pub hosts_put : (k : List ℕ) → PutsPart (HostGroup k) g (with_hosts k g)
  hosts_put k = record { puts = by; head = record { tenant = refl; array = refl; exposed = refl } }
    where
      by : (d : StoragePart) → (HasPart d (with_hosts k g) → HasPart d g ⊎ (d ≡ HostGroup k)) × (HasPart d g ⊎ (d ≡ HostGroup k) → HasPart d (with_hosts k g))
      by (HostGroup j) =
          let one = adds_one name_total name_exact g.host_groups (set.insert g.host_groups k) k refl j in
          (λ h. elim (one.0 h) [ inl o ↦ inl o | inr e ↦ inr (ap HostGroup e) ], λ h. one.1 (elim h [ inl o ↦ inl o | inr e ↦ inr (group_is j k e) ]))
      by (Target q) = (λ h. inl h, λ h. elim h [ inl o ↦ o | inr e ↦ absurd cc ])
      by (Unit u v) = (λ h. inl h, λ h. elim h [ inl o ↦ o | inr e ↦ absurd cc ])

  pub target_put : (k : ℕ) → PutsPart (Target k) g (with_target k g)
  target_put k = record { puts = by; head = record { tenant = refl; array = refl; exposed = refl } }
    where
      by : (d : StoragePart) → (HasPart d (with_target k g) → HasPart d g ⊎ (d ≡ Target k)) × (HasPart d g ⊎ (d ≡ Target k) → HasPart d (with_target k g))
      by (HostGroup j) = (λ h. inl h, λ h. elim h [ inl o ↦ o | inr e ↦ absurd cc ])
      by (Target q) =
          let one = adds_one nat_cmp_total set.nat_cmp-IsAntisymmetric g.targets (set.insert g.targets k) k refl q in
          (λ h. elim (one.0 h) [ inl o ↦ inl o | inr e ↦ inr (ap Target e) ], λ h. one.1 (elim h [ inl o ↦ inl o | inr e ↦ inr (target_is q k e) ]))
      by (Unit u v) = (λ h. inl h, λ h. elim h [ inl o ↦ o | inr e ↦ absurd cc ])

  pub unit_put : (u : ℕ) (v : List ℕ) → map.get g.units u ≡ None → PutsPart (Unit u v) g (with_unit u v g)
  unit_put u v free = record { puts = by; head = record { tenant = refl; array = refl; exposed = refl } }
    where
      to : (t : ℕ) (w : List ℕ) (b : Bool) → eq_by_cmp nat_cmp t u ≡ b → cond b (Some v) (map.get g.units t) ≡ Some w → (map.get g.units t ≡ Some w) ⊎ (Unit t w ≡ Unit u v)
      to t w true is h = let number : t ≡ u = set.nat_cmp-IsAntisymmetric t u ((Equal-is (nat_cmp t u)).0 is) in inr (λ i. Unit (number i) (sym (some_is v w h) i))
      to t w false is h = inl h

      from : (t : ℕ) (w : List ℕ) (b : Bool) → eq_by_cmp nat_cmp t u ≡ b → (map.get g.units t ≡ Some w) ⊎ (Unit t w ≡ Unit u v) → cond b (Some v) (map.get g.units t) ≡ Some w
      from t w true is (inl h) =
          let number : t ≡ u = set.nat_cmp-IsAntisymmetric t u ((Equal-is (nat_cmp t u)).0 is) in
          let no : ◌≡◌ {A = Option (List ℕ)} None (Some w) = sym free ∙ sym (ap (map.get g.units) number) ∙ h in absurd cc
      from t w true is (inr e) = ap Some (sym (volume_is t u w v e))
      from t w false is (inl h) = h
      from t w false is (inr e) = absurd (true≢false (sym (ap (λ x. eq_by_cmp nat_cmp x u) (number_is t u w v e) ∙ ap is_eq (tied_itself nat_cmp_total u)) ∙ is))

      by : (d : StoragePart) → (HasPart d (with_unit u v g) → HasPart d g ⊎ (d ≡ Unit u v)) × (HasPart d g ⊎ (d ≡ Unit u v) → HasPart d (with_unit u v g))
      by (HostGroup j) = (λ h. inl h, λ h. elim h [ inl o ↦ o | inr e ↦ absurd cc ])
      by (Target q) = (λ h. inl h, λ h. elim h [ inl o ↦ o | inr e ↦ absurd cc ])
      by (Unit t w) = (
        λ h. to t w (eq_by_cmp nat_cmp t u) refl (sym (map.get-insert nat_cmp_total g.units u v t) ∙ h),
        λ h. map.get-insert nat_cmp_total g.units u v t ∙ from t w (eq_by_cmp nat_cmp t u) refl h,
      )

  -- the part that is there, put again
  pub part_again : (p : StoragePart) → HasPart p g → PutsPart p g g
  part_again p there = record { puts = λ d. (λ h. inl h, λ h. elim h [ inl o ↦ o | inr e ↦ subst (λ (x : StoragePart). HasPart x g) (sym e) there ]); head = same_head }

  pub hosts_taken : (k : List ℕ) → TakesPart (HostGroup k) g (without_hosts k g)
  hosts_taken k = record { takes = by; head = record { tenant = refl; array = refl; exposed = refl } }
    where
      by : (d : StoragePart) → (HasPart d (without_hosts k g) → HasPart d g × ¬ (d ≡ HostGroup k)) × (HasPart d g × ¬ (d ≡ HostGroup k) → HasPart d (without_hosts k g))
      by (HostGroup j) =
          let one = takes_item name_total name_exact g.host_groups k j in
          (λ h. let o = one.0 h in (o.0, λ e. o.1 (group_is j k e)), λ h. one.1 (h.0, λ e. h.1 (ap HostGroup e)))
      by (Target q) = (λ h. (h, λ e. absurd cc), λ h. h.0)
      by (Unit u v) = (λ h. (h, λ e. absurd cc), λ h. h.0)

  pub target_taken : (k : ℕ) → TakesPart (Target k) g (without_target k g)
  target_taken k = record { takes = by; head = record { tenant = refl; array = refl; exposed = refl } }
    where
      by : (d : StoragePart) → (HasPart d (without_target k g) → HasPart d g × ¬ (d ≡ Target k)) × (HasPart d g × ¬ (d ≡ Target k) → HasPart d (without_target k g))
      by (HostGroup j) = (λ h. (h, λ e. absurd cc), λ h. h.0)
      by (Target q) =
          let one = takes_item nat_cmp_total set.nat_cmp-IsAntisymmetric g.targets k q in
          (λ h. let o = one.0 h in (o.0, λ e. o.1 (target_is q k e)), λ h. one.1 (h.0, λ e. h.1 (ap Target e)))
      by (Unit u v) = (λ h. (h, λ e. absurd cc), λ h. h.0)

  pub unit_taken : (u : ℕ) (v : List ℕ) → map.get g.units u ≡ Some v → TakesPart (Unit u v) g (without_unit u g)
  unit_taken u v there = record { takes = by; head = record { tenant = refl; array = refl; exposed = refl } }
    where
      to : (t : ℕ) (w : List ℕ) (b : Bool) → eq_by_cmp nat_cmp t u ≡ b → cond b None (map.get g.units t) ≡ Some w → (map.get g.units t ≡ Some w) × ¬ (Unit t w ≡ Unit u v)
      to t w true is h = let no : ◌≡◌ {A = Option (List ℕ)} None (Some w) = h in absurd cc
      to t w false is h = (h, λ e. true≢false (sym (ap (λ x. eq_by_cmp nat_cmp x u) (number_is t u w v e) ∙ ap is_eq (tied_itself nat_cmp_total u)) ∙ is))

      from : (t : ℕ) (w : List ℕ) (b : Bool) → eq_by_cmp nat_cmp t u ≡ b → map.get g.units t ≡ Some w → ¬ (Unit t w ≡ Unit u v) → cond b None (map.get g.units t) ≡ Some w
      from t w true is h apart =
          let number : t ≡ u = set.nat_cmp-IsAntisymmetric t u ((Equal-is (nat_cmp t u)).0 is) in
          let volume : w ≡ v = some_is w v (sym h ∙ ap (map.get g.units) number ∙ there) in
          absurd (apart (λ i. Unit (number i) (volume i)))
      from t w false is h apart = h

      by : (d : StoragePart) → (HasPart d (without_unit u g) → HasPart d g × ¬ (d ≡ Unit u v)) × (HasPart d g × ¬ (d ≡ Unit u v) → HasPart d (without_unit u g))
      by (HostGroup j) = (λ h. (h, λ e. absurd cc), λ h. h.0)
      by (Target q) = (λ h. (h, λ e. absurd cc), λ h. h.0)
      by (Unit t w) = (
        λ h. to t w (eq_by_cmp nat_cmp t u) refl (sym (map.get-remove nat_cmp_total g.units u t) ∙ h),
        λ h. map.get-remove nat_cmp_total g.units u t ∙ from t w (eq_by_cmp nat_cmp t u) refl h.0 h.1,
      )

  -- a part that is not there, taken out
  pub part_none : (p : StoragePart) → ¬ HasPart p g → TakesPart p g g
  part_none p none = record { takes = λ d. (λ h. (h, λ e. none (subst (λ (x : StoragePart). HasPart x g) e h)), λ h. h.0); head = same_head }
