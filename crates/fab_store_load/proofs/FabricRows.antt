-- The zoning of a fabric by its rows.
use Rattle.std.proofs.Common.{ℕ, ◌≡◌, ◌⊎◌, ⊎_elim, List, Option, None, Some, Bool, true, false, sym, ap, ◌∙◌, subst, refl, MatchOption}
use mathlib.Core.Bool.{true≢false}
use Rattle.std.specs.declared.cmp.Ordering.{Ordering}
use Rattle.std.specs.BTreeMap as tree
use Rattle.std.specs.BTreeMap.{BTreeMap}
use Rattle.std.specs.BTreeSet.{BTreeSet}
use Rattle.std.specs.Cmp.{IsTotalOrder}
use Rattle.std.specs.FinMap as map
use Rattle.std.specs.FinSet as set
use Rattle.fab_names.specs.Orders.{name_cmp, member_cmp}
use Rattle.fab_names.proofs.OrderLaws.{name_total, name_exact, member_total, member_exact}
use Rattle.fab_names.specs.declared.fabric.Fabric.{Fabric}
use Rattle.fab_names.specs.declared.member.Member.{Member}
use Rattle.fab_reach_base.specs.fab_lemmas.MapsOfSets.{MapOfSets, has, in_set, seen_sets}
use Rattle.fab_reach_base.proofs.fab_lemmas.MapsOfSets.{get_seen, has_seen}
use Rattle.fab_reach_base.proofs.fab_lemmas.Passing.{seen_some}
use Rattle.fab_reach_base.proofs.fab_lemmas.Sizes.{some_member}
use Rattle.fab_reach_base.specs.fab_zoning.declared.flag.DefaultFlag.{DefaultFlag}
use Rattle.fab_reach_base.specs.fab_zoning_rows.Rows.{Rows}
use Rattle.fab_reach_base.specs.fab_zoning_rows.Views.{seen_rows}
use Rattle.fab_reach_base.specs.fab_zoning.Zonings.{FabricZoning, NamedSets, permits}
use Rattle.fab_reach_base.specs.fab_zoning.Soundness.{AreListings, AreSoundDefinitions, IsSoundActive}
use Rattle.fab_reach_base.proofs.fab_zoning_rows.RowSets.{row_total, row_exact, contains_seen}
use Rattle.fab_reach_base.specs.Records.{ConfigRows, zoning_at}
use Rattle.fab_store_rows.specs.declared.config_row.ConfigRow.{ConfigRow}
use Rattle.fab_reach_base.specs.fab_zoning.Edits.{IsIn, HasItems}
use Rattle.fab_store_load.specs.Rows.{AreRows, HasRepeat, StandsIn}
use Rattle.fab_store_load.specs.Kinds.{Named, active_set_row, default_zone_row, alias_row, zone_row, set_row, active_row}
use Rattle.fab_store_load.specs.Configs.{AreConfigRows, SettingSays, IsPair, ZoningSays, HasNoEmpty, HasNoEmptySet, HasSoundDefinitions, HasSoundActive}
use Rattle.fab_store_load.proofs.Saying.{rows_same}

-- tests that the same rows say are one
pub same_test : {R E : Type 0} (row_of : E → R) (rows : List R) (f g : E → Bool) → AreRows row_of rows (λ e. f e ≡ true) → AreRows row_of rows (λ e. g e ≡ true) → (e : E) → f e ≡ g e
same_test row_of rows f g h k e = by (f e) (g e) (rows_same row_of rows (λ e. f e ≡ true) (λ e. g e ≡ true) h k e) (rows_same row_of rows (λ e. g e ≡ true) (λ e. f e ≡ true) k h e)
  where
    by : (a b : Bool) → (a ≡ true → b ≡ true) → (b ≡ true → a ≡ true) → a ≡ b
    by true b there back = sym (there refl)
    by false true there back = back refl
    by false false there back = refl

module _ {Q X : Type 0} {O : Q → Q → Ordering} {R : X → X → Ordering} (o : IsTotalOrder O) (r : IsTotalOrder R) (exact_q : set.IsAntisymmetric O) (exact_x : set.IsAntisymmetric R) where
  -- maps of sets that have the same pairs, and no empty set, are one
  pub one_map_of_sets : (m n : MapOfSets O R) → HasNoEmpty m → HasNoEmpty n → ((q : Q) (x : X) → has m q x ≡ has n q x) → m ≡ n
  one_map_of_sets m n some_m some_n alike = map.same_map o exact_q m n (λ q. by q (map.get m q) (map.get n q) refl refl)
    where
      by : (q : Q) (a b : Option (set.FinSet R)) → map.get m q ≡ a → map.get n q ≡ b → a ≡ b
      by q None None e f = refl
      by q (Some s) None e f = let x = some_m q s e in absurd (true≢false (sym x.1 ∙ ap (λ a. in_set a x.0) (sym e) ∙ alike q x.0 ∙ ap (λ a. in_set a x.0) f))
      by q None (Some t) e f = let x = some_n q t f in absurd (true≢false (sym x.1 ∙ ap (λ a. in_set a x.0) (sym f) ∙ sym (alike q x.0) ∙ ap (λ a. in_set a x.0) e))
      by q (Some s) (Some t) e f = ap Some (set.same_set r exact_x s t (λ x. ap (λ a. in_set a x) (sym e) ∙ alike q x ∙ ap (λ a. in_set a x) f))

  -- a tree's pairs are those of the map that is seen of it
  pub pairs_seen : {S : Type 0} (row_of : Q × X → S) (rows : List S) (t : BTreeMap Q (BTreeSet X)) → AreRows row_of rows (IsIn O R t) → AreRows row_of rows (IsPair (seen_sets O R t.entries))
  pairs_seen row_of rows t h = subst (λ (f : Q × X → Bool). AreRows row_of rows (λ e. f e ≡ true)) (sym (λ i e. has_seen R o r t e.0 e.1 i)) h

  -- and no set of it is empty, where none of the tree is
  pub some_seen : (t : BTreeMap Q (BTreeSet X)) → HasItems O R t → HasNoEmpty (seen_sets O R t.entries)
  some_seen t h n s at =
      let u = seen_some o r exact_x (tree.get O t n) s (sym (get_seen R o t n) ∙ at) in
      let x = h n u.0 u.1 in
      (x.0, ap (λ y. set.contains y x.0) (sym u.2) ∙ set.contains-from_list r u.0.keys x.0 ∙ x.1)

-- the zones that are kept by member are seen as the active rows
pub active_seen : (f : Fabric) (rows : List ConfigRow) (t : BTreeMap Member (BTreeSet (List ℕ))) → tree.IsOrdered member_cmp t → AreRows (active_row f) rows (IsIn member_cmp name_cmp t) → AreRows (active_row f) rows (λ e. set.contains (seen_rows t.entries) (e.1, e.0) ≡ true)
active_seen f rows t sorted h = subst (λ (test : Member × List ℕ → Bool). AreRows (active_row f) rows (λ e. test e ≡ true)) (sym (λ i e. contains_seen t sorted e.1 e.0 i)) h

-- listed sets are not empty
module _ {K : Type 0} {R : K → K → Ordering} (o : IsTotalOrder R) (exact : set.IsAntisymmetric R) where
  pub some_listed : (m : NamedSets R) → AreListings m → HasNoEmpty m
  some_listed m h n s at = some_member o exact s (h n s at).0

  -- a map of listed sets that says the same rows as one without an empty set is that one
  pub listed_is : {S : Type 0} (row_of : Named K → S) (rows : List S) (m n : NamedSets R) → AreListings m → HasNoEmpty n → AreRows row_of rows (IsPair m) → AreRows row_of rows (IsPair n) → m ≡ n
  listed_is row_of rows m n listed some h k = one_map_of_sets name_total o name_exact exact m n (some_listed m listed) some (λ q x. same_test row_of rows (λ e. has m e.0 e.1) (λ e. has n e.0 e.1) h k (q, x))

-- ---- what the rows of a configuration say of a fabric
module _ (rows : List ConfigRow) (c : ConfigRows) (all : AreConfigRows rows c) where
  pub zoning_says : (f : Fabric) → ZoningSays f rows (zoning_at c f)
  zoning_says f = record {
    aliases_are = record { sound = λ e. (all (alias_row f e)).0; complete = λ e. (all (alias_row f e)).1 };
    zones_are = record { sound = λ e. (all (zone_row f e)).0; complete = λ e. (all (zone_row f e)).1 };
    sets_are = record { sound = λ e. (all (set_row f e)).0; complete = λ e. (all (set_row f e)).1 };
    active_are = record { sound = λ e. (all (active_row f e)).0; complete = λ e. (all (active_row f e)).1 };
  }

  pub setting_says : (f : Fabric) → SettingSays f rows (zoning_at c f).active (zoning_at c f).flag
  setting_says f = record { name_is = λ n. all (active_set_row (f, n)); flag_is = λ p. all (default_zone_row (f, p)) }

  pub names_say : AreRows active_set_row rows (λ e. (zoning_at c e.0).active ≡ e.1)
  names_say = record { sound = λ e. (all (active_set_row e)).0; complete = λ e. (all (active_set_row e)).1 }

  pub permits_say : AreRows default_zone_row rows (λ e. permits (zoning_at c e.0).flag ≡ e.1)
  permits_say = record { sound = λ e. (all (default_zone_row e)).0; complete = λ e. (all (default_zone_row e)).1 }

-- ---- settings
missing : {X : Type 0} (o : Option X) (x : X) → o ≡ None → ¬ (o ≡ Some x)
missing o x none some = let e : ◌≡◌ {A = Option _} None (Some x) = sym none ∙ some in absurd cc

-- an entry for each fabric
pub has_entry : {X : Type 0} (row_of : Fabric × X → ConfigRow) (rows : List ConfigRow) (of : Fabric → X) (f : Fabric → Option X) → AreRows row_of rows (λ e. of e.0 ≡ e.1) → AreRows row_of rows (StandsIn f) → (x : Fabric) → f x ≡ Some (of x)
has_entry row_of rows of f h k x = k.sound (x, of x) (h.complete (x, of x) refl)

-- and no two
pub no_second : {X : Type 0} (row_of : Fabric × X → ConfigRow) (rows : List ConfigRow) (of : Fabric → X) → AreRows row_of rows (λ e. of e.0 ≡ e.1) → ¬ HasRepeat row_of rows
no_second row_of rows of h are = are.5 (sym (h.sound (are.0, are.1) are.3) ∙ h.sound (are.0, are.2) are.4)

-- rows that lack an entry for a fabric
pub no_missing : (rows : List ConfigRow) (c : ConfigRows) (f : Fabric) (names : Fabric → Option (Option (List ℕ))) (flags : Fabric → Option Bool) → AreRows active_set_row rows (StandsIn names) → AreRows default_zone_row rows (StandsIn flags) → (names f ≡ None) ⊎ (flags f ≡ None) → ¬ AreConfigRows rows c
no_missing rows c f names flags h k lacks all = ⊎_elim
    (λ none. missing (names f) (zoning_at c f).active none (has_entry active_set_row rows (λ x. (zoning_at c x).active) names (names_say rows c all) h f))
    (λ none. missing (flags f) (permits (zoning_at c f).flag) none (has_entry default_zone_row rows (λ x. permits (zoning_at c x).flag) flags (permits_say rows c all) k f)) lacks

-- the same, of rows that are looked up
pub setting_is : (rows : List ConfigRow) (f : Fabric) (names : Fabric → Option (Option (List ℕ))) (flags : Fabric → Option Bool) (active : Option (List ℕ)) (flag : DefaultFlag)
    → AreRows active_set_row rows (StandsIn names) → AreRows default_zone_row rows (StandsIn flags) → names f ≡ Some active → flags f ≡ Some (permits flag) → SettingSays f rows active flag
setting_is rows f names flags active flag h k name_at flag_at = record {
  name_is = λ n. (λ there. let is : names f ≡ Some n = h.sound (f, n) there in let same : ◌≡◌ {A = Option (Option (List ℕ))} (Some active) (Some n) = sym name_at ∙ is in cc, λ is. h.complete (f, n) (name_at ∙ ap Some is));
  flag_is = λ p. (λ there. let is : flags f ≡ Some p = k.sound (f, p) there in let same : ◌≡◌ {A = Option Bool} (Some (permits flag)) (Some p) = sym flag_at ∙ is in cc, λ is. k.complete (f, p) (flag_at ∙ ap Some is));
}

-- ---- soundness goes over to the zoning that was made of the rows
module _ (f : Fabric) (rows : List ConfigRow) (v made : FabricZoning) (says : ZoningSays f rows v) (makes : ZoningSays f rows made) where
  pub definitions_go_over : HasNoEmptySet made → HasSoundDefinitions v → HasSoundDefinitions made
  definitions_go_over some sound =
      let aliases = listed_is member_total member_exact (alias_row f) rows v.aliases made.aliases sound.listed_aliases some.some_alias says.aliases_are makes.aliases_are in
      let zones = listed_is member_total member_exact (zone_row f) rows v.zones made.zones sound.listed_zones some.some_zone says.zones_are makes.zones_are in
      let sets = listed_is name_total name_exact (set_row f) rows v.sets made.sets sound.listed_sets some.some_set says.sets_are makes.sets_are in
      subst (λ (y : NamedSets name_cmp). AreSoundDefinitions made.aliases made.zones y) sets
      (subst (λ (y : NamedSets member_cmp). AreSoundDefinitions made.aliases y v.sets) zones
      (subst (λ (y : NamedSets member_cmp). AreSoundDefinitions y v.zones v.sets) aliases sound))

  pub active_goes_over : v.active ≡ made.active → HasSoundActive v → HasSoundActive made
  active_goes_over active sound =
      let rows_are : v.rows ≡ made.rows = set.same_set row_total row_exact v.rows made.rows (λ r. same_test (active_row f) rows (λ e. set.contains v.rows (e.1, e.0)) (λ e. set.contains made.rows (e.1, e.0)) says.active_are makes.active_are (r.1, r.0)) in
      subst (λ (y : Rows). IsSoundActive made.active y) rows_are (subst (λ (y : Option (List ℕ)). IsSoundActive y v.rows) active sound)

-- the active name that the rows say
pub one_name : (f : Fabric) (rows : List ConfigRow) (n m : Option (List ℕ)) (x y : DefaultFlag) → SettingSays f rows n x → SettingSays f rows m y → n ≡ m
one_name f rows n m x y h k = (h.name_is m).0 ((k.name_is m).1 refl)

-- what the settings say, where they were found
pub found_setting : {S : Type 0} (P : S → Type 0) (o : Option S) (s : S) → o ≡ Some s → MatchOption o (Unit {0}) P → P s
found_setting P o s is h = subst (λ x. MatchOption x (Unit {0}) P) is h

pub found_none : {S : Type 0} (P : Type 0) (o : Option S) → o ≡ None → MatchOption o P (λ s. Unit {0}) → P
found_none P o is h = subst (λ x. MatchOption x P (λ s. Unit {0})) is h
