-- A zoning is sound where it was sound before, and is sound where it was edited.
use Rattle.std.proofs.Common.{ℕ, ◌≡◌, ◌<◌, ◌≤◌, ◌⊎◌, inl, inr, List, Contains, Option, None, Some, is_some, Bool, true, false, refl, sym, ap, ◌∙◌, arith, subst}
use mathlib.Core.Bool.{true≢false}
use Rattle.std.specs.declared.cmp.Ordering.{Ordering}
use Rattle.std.specs.Cmp.{IsTotalOrder}
use Rattle.std.specs.FinMap as map
use Rattle.std.specs.FinSet as set
use Rattle.fab_reach_base.specs.fab_names.declared.fabric.Fabric.{Fabric}
use Rattle.fab_reach_base.specs.fab_names.declared.member.Member.{Member}
use Rattle.fab_reach_base.specs.fab_names.declared.member.Member.TheVariants as member
use Rattle.fab_reach_base.proofs.fab_names.OrderLaws.{name_total, name_exact, member_total, member_exact}
use Rattle.fab_reach_base.specs.fab_lemmas.MapsOfSets.{has, in_set, HasNoUser}
use Rattle.fab_reach_base.specs.fab_zoning.Limits.{most_members}
use Rattle.fab_reach_base.specs.fab_zoning.Zonings.{FabricZoning, NamedSets}
use Rattle.fab_reach_base.specs.fab_zoning.Soundness.{AreListings, IsSound}
use Rattle.fab_reach_base.specs.Records.{ConfigRows, zoning_at}
use Rattle.fab_store_rows.specs.declared.config_row.ConfigRow.{ConfigRow}
use Rattle.fab_store_rows.specs.declared.config_row.ZoningItem.{ZoningItem}
use Rattle.fab_store_rows.specs.declared.config_row.ZoningItem.TheVariants as item
use Rattle.fab_store_rows.specs.Standing.{HasItem}
use Rattle.fab_store_edits.specs.Led.{IsLed}
use Rattle.fab_store_rows.specs.Tidy.{HasNoEmptySet}
use Rattle.fab_store_edits.specs.Rows.{alias_row, zone_row, set_row, active_row}
use Rattle.fab_store_drafts.specs.There.{IsListable, HasSoundCounts, ItemMayCome, ItemMayGo, IsSoundThere}
use Rattle.fab_reach_base.proofs.fab_lemmas.Sizes.{part_of_set, some_member}
use Rattle.fab_store_drafts.proofs.IfThere.{at_some, some_at}
use Rattle.fab_store_edits.proofs.RowsInOrder.{le_or}

module _ {K : Type 0} {R : K → K → Ordering} (m : NamedSets R) where
  -- a set with an item is there
  pub is_there : (n : List ℕ) (k : K) → has m n k ≡ true → map.contains_key m n ≡ true
  is_there n k = by (map.get m n) refl
    where
      by : (a : Option (set.FinSet R)) → map.get m n ≡ a → in_set a k ≡ true → is_some a ≡ true
      by None is h = absurd (true≢false (sym h))
      by (Some s) is h = refl

module _ {K : Type 0} {R : K → K → Ordering} (o : IsTotalOrder R) (exact : set.IsAntisymmetric R) where
  -- a set that is there and not empty has an item
  pub has_one : (m : NamedSets R) (n : List ℕ) → AreListings m → map.contains_key m n ≡ true → (k : K) × (has m n k ≡ true)
  has_one m n listed there = by (map.get m n) refl there
    where
      by : (a : Option (set.FinSet R)) → map.get m n ≡ a → is_some a ≡ true → (k : K) × (has m n k ≡ true)
      by None is h = absurd (true≢false (sym h))
      by (Some s) is h = let w = some_member o exact s (listed n s is).0 in (w.0, ap (λ (a : Option (set.FinSet R)). in_set a w.0) is ∙ w.1)

  -- sets that grow only where something comes, and are not too large there, are not too large
  pub few_there : (old new : NamedSets R) (Came : List ℕ → K → Type 0) → ((n : List ℕ) (k : K) → has new n k ≡ true → (has old n k ≡ true) ⊎ Came n k) → AreListings old
      → ((n : List ℕ) (k : K) → Came n k → (s : set.FinSet R) → map.get new n ≡ Some s → IsListable s) → (n : List ℕ) (s : set.FinSet R) → map.get new n ≡ Some s → IsListable s
  few_there old new Came kept listed few n s at = elim (le_or (set.len s) most_members) [ inl h ↦ h | inr more ↦ by more (map.get old n) refl ]
    where
      old_has : most_members < set.len s → (k : K) → set.contains s k ≡ true → has old n k ≡ true
      old_has more k h = elim (kept n k (ap (λ (a : Option (set.FinSet R)). in_set a k) at ∙ h)) [ inl was ↦ was | inr came ↦ absurd (let l = few n k came s at in omega (arith, l, more)) ]

      by : most_members < set.len s → (a : Option (set.FinSet R)) → map.get old n ≡ a → set.len s ≤ most_members
      by more None is = absurd (let w = some_member o exact s (omega (arith, more)) in true≢false (sym (old_has more w.0 w.1) ∙ ap (λ (a : Option (set.FinSet R)). in_set a w.0) is))
      by more (Some t) is =
          let fewer = part_of_set o exact s t (λ k h. sym (ap (λ (a : Option (set.FinSet R)). in_set a k) is) ∙ old_has more k h) in
          let l = (listed n t is).1 in
          omega (arith, fewer, l)

module _ (c d : ConfigRows) (go come : List ConfigRow) (led : IsLed c d go come) (f : Fabric) (was : IsSound (zoning_at c f)) where
  abbrev v : FabricZoning
  v = zoning_at d f

  abbrev w : FabricZoning
  w = zoning_at c f

  pub sound_zoning : HasNoEmptySet v → IsSoundThere d go come → IsSound v
  sound_zoning some there = record {
    definitions = record {
      plain_aliases = λ n m h. elim (led.kept (alias_row f n m) h) [ inl k ↦ was.definitions.plain_aliases n m k | inr k ↦ (there.came (alias_row f n m) k).0 ];
      listed_aliases = λ n s at. (some.aliases n s at, few_there member_total member_exact w.aliases v.aliases (λ n m. Contains come (alias_row f n m)) (λ n m. led.kept (alias_row f n m)) was.definitions.listed_aliases (λ n m k t at. at_some (map.get v.aliases n) IsListable t at (there.came (alias_row f n m) k).1) n s at);
      listed_zones = λ n s at. (some.zones n s at, few_there member_total member_exact w.zones v.zones (λ n m. Contains come (zone_row f n m)) (λ n m. led.kept (zone_row f n m)) was.definitions.listed_zones (λ n m k t at. at_some (map.get v.zones n) IsListable t at (there.came (zone_row f n m) k).1) n s at);
      listed_sets = λ n s at. (some.sets n s at, few_there name_total name_exact w.sets v.sets (λ n z. Contains come (set_row f n z)) (λ n z. led.kept (set_row f n z)) was.definitions.listed_sets (λ n z k t at. at_some (map.get v.sets n) IsListable t at (there.came (set_row f n z) k).1) n s at);
      known_aliases = λ z a h. elim (led.kept (zone_row f z (member.Alias a)) h) [
        | inl k ↦ alias_stays z a h (has_one member_total member_exact w.aliases a was.definitions.listed_aliases (was.definitions.known_aliases z a k))
        | inr k ↦ (there.came (zone_row f z (member.Alias a)) k).0 a refl
      ];
      known_zones = λ n z h. elim (led.kept (set_row f n z) h) [
        | inl k ↦ zone_stays n z h (has_one member_total member_exact w.zones z was.definitions.listed_zones (was.definitions.known_zones n z k))
        | inr k ↦ (there.came (set_row f n z) k).0
      ];
      few_aliases = (there.counts f).few_aliases;
      few_zones = (there.counts f).few_zones;
      few_sets = (there.counts f).few_sets;
    };
    active = record {
      has_rows = (there.counts f).has_rows;
      has_name = (there.counts f).has_name;
      plain_rows = λ r h. elim (led.kept (active_row f r.0 r.1) h) [ inl k ↦ was.active.plain_rows r k | inr k ↦ there.came (active_row f r.0 r.1) k ];
      few_rows = (there.counts f).few_rows;
    };
  }
    where
      -- what is named stays, or nothing names it
      alias_stays : (z a : List ℕ) → has v.zones z (member.Alias a) ≡ true → (m : Member) × (has w.aliases a m ≡ true) → map.contains_key v.aliases a ≡ true
      alias_stays z a h one = elim (led.left (alias_row f a one.0) one.1) [
        | inl k ↦ is_there v.aliases a one.0 k
        | inr k ↦ elim (there.gone (alias_row f a one.0) k) [ inl t ↦ t | inr none ↦ absurd (true≢false (sym h ∙ none z)) ]
      ]

      zone_stays : (n z : List ℕ) → has v.sets n z ≡ true → (m : Member) × (has w.zones z m ≡ true) → map.contains_key v.zones z ≡ true
      zone_stays n z h one = elim (led.left (zone_row f z one.0) one.1) [
        | inl k ↦ is_there v.zones z one.0 k
        | inr k ↦ elim (there.gone (zone_row f z one.0) k) [ inl t ↦ t | inr none ↦ absurd (true≢false (sym h ∙ none n)) ]
      ]

-- ---- and nothing was looked at in vain

known_or_unused : {K : Type 0} {R : K → K → Ordering} (m : NamedSets R) (k : K) (b : Bool) → ((n : List ℕ) → has m n k ≡ true → b ≡ true) → (b ≡ true) ⊎ HasNoUser m k
known_or_unused m k true h = inl refl
known_or_unused m k false h = inr (λ n. none n (has m n k) refl)
  where
    none : (n : List ℕ) (u : Bool) → has m n k ≡ u → has m n k ≡ false
    none n true is = absurd (true≢false (sym (h n is)))
    none n false is = is

module _ (v : FabricZoning) (s : IsSound v) where
  pub item_comes : (i : ZoningItem) → HasItem v i → ItemMayCome v i
  item_comes (item.Alias n m) h = (s.definitions.plain_aliases n m h, some_at (map.get v.aliases n) IsListable (λ t at. (s.definitions.listed_aliases n t at).1))
  item_comes (item.Zone n m) h = (
    λ a is. s.definitions.known_aliases n a (subst (λ k. has v.zones n k ≡ true) is h),
    some_at (map.get v.zones n) IsListable (λ t at. (s.definitions.listed_zones n t at).1),
  )
  item_comes (item.Set n z) h = (s.definitions.known_zones n z h, some_at (map.get v.sets n) IsListable (λ t at. (s.definitions.listed_sets n t at).1))

  pub item_goes : (i : ZoningItem) → ItemMayGo v i
  item_goes (item.Alias n m) = known_or_unused v.zones (member.Alias n) (map.contains_key v.aliases n) (λ z. s.definitions.known_aliases z n)
  item_goes (item.Zone n m) = known_or_unused v.sets n (map.contains_key v.zones n) (λ z. s.definitions.known_zones z n)
  item_goes (item.Set n z) = tt

  pub counts : HasSoundCounts v
  counts = record {
    few_aliases = s.definitions.few_aliases;
    few_zones = s.definitions.few_zones;
    few_sets = s.definitions.few_sets;
    has_rows = s.active.has_rows;
    has_name = s.active.has_name;
    few_rows = s.active.few_rows;
  }
