-- The tests of aliases, zones and zone sets, and that they are soundness.
use Rattle.std.proofs.Common.{ℕ, ◌≡◌, ◌<◌, ◌≤◌, ◌&&◌, List, length, Bool, true, false, nat_lt, nat_le, refl, sym, ap, ◌∙◌, subst, arith}
use mathlib.Core.Bool.{true≢false}
use Rattle.std.specs.List.{list_all}
use Rattle.std.specs.Option.{option_map}
use Rattle.std.specs.declared.cmp.Ordering.{Ordering}
use Rattle.std.specs.Cmp.{IsTotalOrder}
use Rattle.std.specs.BTreeMap as tree
use Rattle.std.specs.BTreeMap.{BTreeMap}
use Rattle.std.specs.BTreeSet.{BTreeSet}
use Rattle.std.specs.FinSet as set
use Rattle.std.proofs.lemmas.Bool.Decides.{nat_tests}
use Rattle.fab_names.specs.Orders.{name_cmp, member_cmp}
use Rattle.fab_names.proofs.OrderLaws.{name_total, name_exact, member_total, member_exact}
use Rattle.fab_names.specs.declared.member.Member.{Member}
use Rattle.fab_names.specs.declared.member.Member.TheVariants as member
use Rattle.fab_zoning_rows.specs.fab_lemmas.MapsOfSets.{has, seen_set, seen_sets}
use Rattle.fab_zoning_rows.proofs.fab_lemmas.MapsOfSets.{get_seen, knows_seen, len_seen}
use Rattle.fab_zoning_rows.proofs.fab_lemmas.Passing.{found_passes, each_passes, pair_passes, each_pair_passes, seen_some}
use Rattle.fab_zoning_rows.proofs.fab_lemmas.Tests.{both, left, right, within, from_within, below, from_below}
use Rattle.fab_zoning.specs.Limits.{most_aliases, most_zones, most_sets, most_members}
use Rattle.fab_zoning_rows.specs.Rows.{IsPlain}
use Rattle.fab_zoning.specs.Soundness.{AreListings, AreSoundDefinitions}
use Rattle.fab_zoning.specs.Inner.Tests.{is_listing, is_plain, names_alias, knows, are_listed, are_closed}

-- the test of a size, where there is something and where there is nothing
pub size_some : (n : ℕ) → 0 < n → nat_le n most_members ≡ (nat_lt 0 n && nat_le n most_members)
size_some n h = sym (ap (λ b. b && nat_le n most_members) (below 0 n h))

pub size_none : (n : ℕ) → n ≤ 0 → nat_lt 0 n ≡ (nat_lt 0 n && nat_le n most_members)
size_none n h = let f : nat_lt 0 n ≡ false = grind (arith, nat_tests) in f ∙ sym (ap (λ b. b && nat_le n most_members) f)

module _ {K : Type 0} {R : K → K → Ordering} (o : IsTotalOrder R) (exact : set.IsAntisymmetric R) where
  -- the sizes of the sets
  pub listed_from_tests : (t : BTreeMap (List ℕ) (BTreeSet K)) → list_all (is_listing R) (tree.values t) ≡ true → AreListings (seen_sets name_cmp R t.entries)
  listed_from_tests t all n s at =
      let u = seen_some name_total o exact (tree.get name_cmp t n) s (sym (get_seen R name_total t n) ∙ at) in
      let pass = found_passes name_cmp (is_listing R) t.entries all n u.0 u.1 in
      subst (λ (x : set.FinSet R). (0 < set.len x) × (set.len x ≤ most_members)) u.2
      (from_below 0 (set.len (seen_set R u.0)) (left _ _ pass), from_within (set.len (seen_set R u.0)) most_members (right (nat_lt 0 (set.len (seen_set R u.0))) _ pass))

  pub tests_from_listed : (t : BTreeMap (List ℕ) (BTreeSet K)) → tree.IsOrdered name_cmp t → AreListings (seen_sets name_cmp R t.entries) → list_all (is_listing R) (tree.values t) ≡ true
  tests_from_listed t sorted h =
      each_passes name_total (is_listing R) t.entries sorted (λ n s at.
      let l = h n (seen_set R s) (get_seen R name_total t n ∙ ap (option_map (seen_set R)) at) in
      both (below 0 (set.len (seen_set R s)) l.0) (within (set.len (seen_set R s)) most_members l.1))

plain_from_test : (m : Member) → is_plain m ≡ true → IsPlain m
plain_from_test (member.Port n) e a = λ h. absurd cc
plain_from_test (member.Node n) e a = λ h. absurd cc
plain_from_test (member.Place p) e a = λ h. absurd cc
plain_from_test (member.Address n) e a = λ h. absurd cc
plain_from_test (member.Alias b) e a = λ h. true≢false (sym e)

test_from_plain : (m : Member) → IsPlain m → is_plain m ≡ true
test_from_plain (member.Port n) h = refl
test_from_plain (member.Node n) h = refl
test_from_plain (member.Place p) h = refl
test_from_plain (member.Address n) h = refl
test_from_plain (member.Alias b) h = absurd (h b refl)

names_test : (f : List ℕ → Bool) (m : Member) → ((a : List ℕ) → m ≡ member.Alias a → f a ≡ true) → names_alias f m ≡ true
names_test f (member.Port n) h = refl
names_test f (member.Node n) h = refl
names_test f (member.Place p) h = refl
names_test f (member.Address n) h = refl
names_test f (member.Alias a) h = h a refl

module _ (a z : BTreeMap (List ℕ) (BTreeSet Member)) (s : BTreeMap (List ℕ) (BTreeSet (List ℕ))) (sorted_a : tree.IsOrdered name_cmp a) (sorted_z : tree.IsOrdered name_cmp z) (sorted_s : tree.IsOrdered name_cmp s) where
  abbrev Sound : Type 0
  Sound = AreSoundDefinitions (seen_sets name_cmp member_cmp a.entries) (seen_sets name_cmp member_cmp z.entries) (seen_sets name_cmp name_cmp s.entries)

  pub sound_from_tests : are_listed a z s ≡ true → are_closed a z s ≡ true → Sound
  sound_from_tests listed closed =
      let la_is = left (nat_le (length a.entries) most_aliases && list_all (is_listing member_cmp) (tree.values a)) _ listed in
      let rest = right (nat_le (length a.entries) most_aliases && list_all (is_listing member_cmp) (tree.values a)) _ listed in
      let lz_is = left (nat_le (length z.entries) most_zones && list_all (is_listing member_cmp) (tree.values z)) _ rest in
      let ls_is = right (nat_le (length z.entries) most_zones && list_all (is_listing member_cmp) (tree.values z)) _ rest in
      let plain = left (list_all (λ t. list_all is_plain t.keys) (tree.values a)) _ closed in
      let known = right (list_all (λ t. list_all is_plain t.keys) (tree.values a)) _ closed in
      let known_a = left (list_all (λ t. list_all (names_alias (knows a)) t.keys) (tree.values z)) _ known in
      let known_z = right (list_all (λ t. list_all (names_alias (knows a)) t.keys) (tree.values z)) _ known in
      record {
        plain_aliases = λ n m is. plain_from_test m (pair_passes name_total member_total member_exact is_plain a plain n m is);
        listed_aliases = listed_from_tests member_total member_exact a (right (nat_le (length a.entries) most_aliases) _ la_is);
        listed_zones = listed_from_tests member_total member_exact z (right (nat_le (length z.entries) most_zones) _ lz_is);
        listed_sets = listed_from_tests name_total name_exact s (right (nat_le (length s.entries) most_sets) _ ls_is);
        known_aliases = λ n b is. knows_seen member_cmp name_total a b ∙ pair_passes name_total member_total member_exact (names_alias (knows a)) z known_a n (member.Alias b) is;
        known_zones = λ n b is. knows_seen member_cmp name_total z b ∙ pair_passes name_total name_total name_exact (knows z) s known_z n b is;
        few_aliases = let few = from_within (length a.entries) most_aliases (left (nat_le (length a.entries) most_aliases) _ la_is) in omega (arith, few, len_seen member_cmp name_total a sorted_a);
        few_zones = let few = from_within (length z.entries) most_zones (left (nat_le (length z.entries) most_zones) _ lz_is) in omega (arith, few, len_seen member_cmp name_total z sorted_z);
        few_sets = let few = from_within (length s.entries) most_sets (left (nat_le (length s.entries) most_sets) _ ls_is) in omega (arith, few, len_seen name_cmp name_total s sorted_s);
      }

  pub listed_from_sound : Sound → are_listed a z s ≡ true
  listed_from_sound h =
      both (both (within (length a.entries) most_aliases (omega (arith, h.few_aliases, len_seen member_cmp name_total a sorted_a))) (tests_from_listed member_total member_exact a sorted_a h.listed_aliases))
      (both (both (within (length z.entries) most_zones (omega (arith, h.few_zones, len_seen member_cmp name_total z sorted_z))) (tests_from_listed member_total member_exact z sorted_z h.listed_zones))
      (both (within (length s.entries) most_sets (omega (arith, h.few_sets, len_seen name_cmp name_total s sorted_s))) (tests_from_listed name_total name_exact s sorted_s h.listed_sets)))

  pub closed_from_sound : Sound → are_closed a z s ≡ true
  closed_from_sound h =
      both (each_pair_passes name_total member_total member_exact is_plain a sorted_a (λ n m is. test_from_plain m (h.plain_aliases n m is)))
      (both (each_pair_passes name_total member_total member_exact (names_alias (knows a)) z sorted_z (λ n m is.
      names_test (knows a) m (λ b same. sym (knows_seen member_cmp name_total a b) ∙ h.known_aliases n b (ap (has (seen_sets name_cmp member_cmp z.entries) n) (sym same) ∙ is))))
      (each_pair_passes name_total name_total name_exact (knows z) s sorted_s (λ n b is. sym (knows_seen member_cmp name_total z b) ∙ h.known_zones n b is)))
