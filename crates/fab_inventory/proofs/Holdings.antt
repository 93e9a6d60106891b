-- The ports of a holder: all of them, in order, and how many.
use Rattle.std.proofs.Common.{ℕ, ◌≡◌, ◌≤◌, ◌+◌, List, [], ◌∷◌, ◌++◌, length, Contains, Option, None, Some, Bool, true, false, cond, not, nat_eq, refl, sym, ap, ◌∙◌, arith}
use mathlib.Core.Bool.{true≢false}
use Rattle.std.specs.List.{list_any}
use Rattle.std.specs.List.Sorted.{IsStrictlySortedBy}
use Rattle.std.specs.Map.{lookup, keys_of}
use Rattle.std.specs.Option.{option_and_then}
use Rattle.std.specs.Ordering.{nat_cmp}
use Rattle.std.specs.BTreeMap.{is_at}
use Rattle.std.specs.Cmp.{nat_cmp_total, eq_by_cmp_equiv}
use Rattle.std.specs.Cmp.Lexicographic.{bytes_decides}
use Rattle.std.specs.FinMap as map
use Rattle.std.specs.FinSet as set
use Rattle.std.proofs.lemmas.Bool.Decides.{Decides-eqb}
use Rattle.std.proofs.lemmas.Map.Keys.{IsDistinct-from_sorted}
use Rattle.std.proofs.lemmas.Map.Made.{length-le_from_is_member, is_member-Decides}
use Rattle.std.proofs.lemmas.Map.Views.{list_any-from_Contains, Contains-from_any, tells_apart}
use Rattle.std.proofs.lemmas.List.{length-append}
use Rattle.fab_lemmas.specs.Lists.{IsListOf}
use Rattle.fab_lemmas.proofs.Filters.{keys_where, keys_listed, keys_more, keys_fewer, list_as}
use Rattle.fab_lemmas.proofs.SeenMaps.{get_entries}
use Rattle.fab_lemmas.proofs.Tests.{both, left, right}
use Rattle.fab_inventory.specs.declared.port.Known.{Known}
use Rattle.fab_inventory.specs.Holders.{holder_is, is_leaving, Leaves, Holds}
use Rattle.fab_inventory.specs.Inventories.{HoldsFew}

-- whoever holds it passes the test, and who passes holds it
pub held_test : (h : List ℕ) (o : Option (List ℕ)) → o ≡ Some h → holder_is h o ≡ true
held_test h None e = absurd cc
held_test h (Some a) e = let same : a ≡ h = cc in (bytes_decides a h).1 same

pub test_held : (h : List ℕ) (o : Option (List ℕ)) → holder_is h o ≡ true → o ≡ Some h
test_held h None e = absurd cc
test_held h (Some a) e = ap Some ((bytes_decides a h).0 e)

-- a listed number is found among the listed
listed_test : (listed : List ℕ) (q : ℕ) → Contains listed q → list_any (λ p. nat_eq p q) listed ≡ true
listed_test listed q h = (is_member-Decides {eq = λ a b. nat_eq b a} (λ x y. ((λ e. sym ((Decides-eqb y x).0 e)), λ e. (Decides-eqb y x).1 (sym e))) listed q).1 h

test_listed : (listed : List ℕ) (q : ℕ) → list_any (λ p. nat_eq p q) listed ≡ true → Contains listed q
test_listed listed q h = (is_member-Decides {eq = λ a b. nat_eq b a} (λ x y. ((λ e. sym ((Decides-eqb y x).0 e)), λ e. (Decides-eqb y x).1 (sym e))) listed q).0 h

not_test : (b : Bool) → not b ≡ true → b ≡ true → ⊥
not_test true e f = true≢false (sym e)
not_test false e f = true≢false (sym f)

test_not : (b : Bool) → ¬ (b ≡ true) → not b ≡ true
test_not true h = absurd (h refl)
test_not false h = refl

module _ (h : List ℕ) (listed : List ℕ) (es : List (ℕ × Known)) (sorted : IsStrictlySortedBy nat_cmp (keys_of es)) where
  abbrev Passes : ℕ → Type 0
  Passes q = (k : Known) × (lookup (is_at (nat_cmp q)) es ≡ Some k) × (is_leaving h listed q k ≡ true)

  leaves : (q : ℕ) → Passes q → Leaves (λ p. lookup (is_at (nat_cmp p)) es) h listed q
  leaves q w = (
    ap (option_and_then (λ (k : Known). k.holder)) w.1 ∙ test_held h w.0.holder (left _ _ w.2),
    λ c. not_test (list_any (λ p. nat_eq p q) listed) (right (holder_is h w.0.holder) _ w.2) (listed_test listed q c),
  )

  leaves_back : (q : ℕ) → Leaves (λ p. lookup (is_at (nat_cmp p)) es) h listed q → Passes q
  leaves_back q w = by (lookup (is_at (nat_cmp q)) es) refl w.0
    where
      by : (o : Option Known) → lookup (is_at (nat_cmp q)) es ≡ o → option_and_then (λ (k : Known). k.holder) o ≡ Some h → Passes q
      by None is e = absurd cc
      by (Some k) is e = (k, is, both (held_test h k.holder e) (test_not (list_any (λ p. nat_eq p q) listed) (λ t. w.1 (test_listed listed q t))))

  -- the ports that pass are those that leave
  pub leaving_listed : IsListOf nat_cmp (Leaves (λ p. lookup (is_at (nat_cmp p)) es) h listed) (keys_where (is_leaving h listed) es)
  leaving_listed = list_as Passes (Leaves (λ p. lookup (is_at (nat_cmp p)) es) h listed) (keys_where (is_leaving h listed) es) leaves leaves_back
      (keys_listed (is_leaving h listed) nat_cmp_total set.nat_cmp-IsAntisymmetric es sorted)

-- no port is listed where none is
pub held_of_leaving : (ports : ℕ → Option Known) (h : List ℕ) (found : List ℕ) → IsListOf nat_cmp (Leaves ports h []) found → IsListOf nat_cmp (Holds ports h) found
held_of_leaving ports h found l = list_as (Leaves ports h []) (Holds ports h) found (λ q w. w.0) (λ q w. (w, λ c. omega (arith, c.1))) l

-- ---- how many ports a holder holds

-- the ports of the holder among these
abbrev pub held : List ℕ → List (ℕ × Known) → List ℕ
held h es = keys_where (λ q k. holder_is h k.holder) es

module _ (h : List ℕ) (es : List (ℕ × Known)) (sorted : IsStrictlySortedBy nat_cmp (keys_of es)) where
  all_held : IsListOf nat_cmp (λ q. (k : Known) × (lookup (is_at (nat_cmp q)) es ≡ Some k) × (holder_is h k.holder ≡ true)) (held h es)
  all_held = keys_listed (λ q k. holder_is h k.holder) nat_cmp_total set.nat_cmp-IsAntisymmetric es sorted

  -- so few are few
  pub few_from_held : length (held h es) ≤ 64 → HoldsFew (map.from_entries es) h
  few_from_held few = (held h es, few, λ q is. by q (lookup (is_at (nat_cmp q)) es) refl (sym (ap (option_and_then (λ (k : Known). k.holder)) (get_entries nat_cmp_total es q)) ∙ is))
    where
      by : (q : ℕ) (o : Option Known) → lookup (is_at (nat_cmp q)) es ≡ o → option_and_then (λ (k : Known). k.holder) o ≡ Some h → Contains (held h es) q
      by q None is e = absurd cc
      by q (Some k) is e = all_held.complete q (k, is, held_test h k.holder e)

  -- and few are so few
  pub held_from_few : HoldsFew (map.from_entries es) h → length (held h es) ≤ 64
  held_from_few few =
      let laws = eq_by_cmp_equiv nat_cmp_total in
      let at_most : length (held h es) ≤ length few.0 =
      length-le_from_is_member laws (held h es) few.0 (IsDistinct-from_sorted nat_cmp (held h es) all_held.sorted) (λ q member.
      let w = all_held.sound q (Contains-from_any (tells_apart set.nat_cmp-IsAntisymmetric) q (held h es) member) in
      list_any-from_Contains laws q few.0 (few.2 q (ap (option_and_then (λ (k : Known). k.holder)) (get_entries nat_cmp_total es q ∙ w.1) ∙ test_held h w.0.holder w.2))) in
      omega (arith, few.1)

-- one port more is counted
pub held_more : (h : List ℕ) (es : List (ℕ × Known)) (q : ℕ) (k : Known) → length (held h (es ++ (q, k) ∷ [])) ≡ cond (holder_is h k.holder) (length (held h es) + 1) (length (held h es))
held_more h es q k = ap length (keys_more (λ p x. holder_is h x.holder) es (q, k)) ∙ by (holder_is h k.holder)
  where
    by : (b : Bool) → length (cond b (held h es ++ q ∷ []) (held h es)) ≡ cond b (length (held h es) + 1) (length (held h es))
    by true = length-append (held h es) (q ∷ [])
    by false = refl

-- no fewer are held among more
pub held_fewer : (h : List ℕ) (es fs : List (ℕ × Known)) → length (held h es) ≤ length (held h (es ++ fs))
held_fewer h es fs = keys_fewer (λ q k. holder_is h k.holder) es fs
