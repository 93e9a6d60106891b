-- What the entries of maps of sets tell.
use Rattle.std.proofs.Common.{◌≡◌, ◌<◌, ℕ, zero, suc, List, [], ◌∷◌, ◌++◌, map, length, get_or, Option, None, Some, true, Contains, inl, inr, refl, sym, ap, ◌∙◌, subst, arith}
use mathlib.Core.Bool.{true≢false}
use Rattle.std.specs.declared.cmp.Ordering.{Ordering}
use Rattle.std.specs.Ordering.{eq_by_cmp}
use Rattle.std.specs.Cmp.{IsTotalOrder, Equal-is, eq_by_cmp_equiv}
use Rattle.std.specs.BTreeMap.{is_at}
use Rattle.std.specs.BTreeSet.{BTreeSet}
use Rattle.std.specs.FinMap as fin
use Rattle.std.specs.FinSet as set
use Rattle.std.specs.Map.{lookup, keys_of}
use Rattle.std.specs.List.Sorted.{IsStrictlySortedBy}
use Rattle.std.specs.Option.{option_map}
use Rattle.std.proofs.lemmas.Map.Keys.{IsDistinct-from_sorted}
use Rattle.std.proofs.lemmas.List.Elements.{Contains-append_cases, Contains-append_left, Contains-append_right}
use Rattle.std.proofs.lemmas.Map.Made.{lookup-map_values}
use Rattle.std.proofs.lemmas.Map.Views.{Contains-from_lookup, lookup-from_Contains}
use Rattle.fab_reach_base.specs.fab_names.declared.member.Member.{Member}
use Rattle.fab_reach_base.specs.fab_lemmas.MapsOfSets.{MapOfSets, seen_set, seen_sets, has, in_set}
use Rattle.fab_reach_base.proofs.fab_lemmas.SeenMaps.{get_entries}
use Rattle.fab_reach_base.proofs.fab_lemmas.SeenSets.{listed_decides}
use Rattle.fab_reach_base.specs.fab_zoning_rows.Rows.{Row, Rows}
use Rattle.fab_reach_base.specs.fab_zoning_rows.Views.{listed_rows, seen_rows}
use Rattle.fab_reach_base.proofs.fab_zoning_rows.RowSets.{row_total, row_exact}

module _ {Q K : Type 0} {O : Q → Q → Ordering} (o : IsTotalOrder O) (exact : set.IsAntisymmetric O) where
  -- an entry is what is found at its key
  pub found_at : (es : List (Q × BTreeSet K)) (e : Q × BTreeSet K) → IsStrictlySortedBy O (keys_of es) → Contains es e → lookup (is_at (O e.0)) es ≡ Some e.1
  found_at es e sorted there = lookup-from_Contains (eq_by_cmp_equiv o) e.0 e.1 es (IsDistinct-from_sorted O (keys_of es) sorted) there

  pub entry_at : (es : List (Q × BTreeSet K)) (q : Q) (s : BTreeSet K) → lookup (is_at (O q)) es ≡ Some s → Contains es (q, s)
  entry_at es q s at = Contains-from_lookup {eq = eq_by_cmp O} (λ x y e. exact x y ((Equal-is (O x y)).0 e)) q s es at

  module _ {R : K → K → Ordering} (r : IsTotalOrder R) (r_exact : set.IsAntisymmetric R) where
    at_key : (es : List (Q × BTreeSet K)) (q : Q) → fin.get (seen_sets O R es) q ≡ option_map (seen_set R) (lookup (is_at (O q)) es)
    at_key es q = get_entries o (map (λ e. (e.0, seen_set R e.1)) es) q ∙ lookup-map_values (seen_set R) (is_at (O q)) es

    -- what an entry's set has, the map has at its key
    pub has_listed : (es : List (Q × BTreeSet K)) (m : MapOfSets O R) (e : Q × BTreeSet K) (x : K) → seen_sets O R es ≡ m → IsStrictlySortedBy O (keys_of es) → Contains es e → Contains e.1.keys x → has m e.0 x ≡ true
    has_listed es m e x is sorted there inside =
        ap (λ y. has y e.0 x) (sym is)
        ∙ ap (λ s. in_set s x) (at_key es e.0 ∙ ap (option_map (seen_set R)) (found_at es e sorted there))
        ∙ (listed_decides r r_exact e.1.keys x).1 inside

    -- and what the map has, an entry's set has
    pub listed_has : (es : List (Q × BTreeSet K)) (m : MapOfSets O R) (q : Q) (x : K) → seen_sets O R es ≡ m → has m q x ≡ true → (s : BTreeSet K) × Contains es (q, s) × Contains s.keys x
    listed_has es m q x is h = by (lookup (is_at (O q)) es) refl (ap (λ s. in_set s x) (sym (at_key es q)) ∙ ap (λ y. has y q x) is ∙ h)
      where
        by : (a : Option (BTreeSet K)) → lookup (is_at (O q)) es ≡ a → in_set (option_map (seen_set R) a) x ≡ true → (s : BTreeSet K) × Contains es (q, s) × Contains s.keys x
        by None at h = absurd (true≢false (sym h))
        by (Some s) at h = (s, entry_at es q s at, (listed_decides r r_exact s.keys x).0 h)

-- ---- the rows of an active set, kept as the zones of each member

abbrev ByMember : Type 0
ByMember = List (Member × BTreeSet (List ℕ))

abbrev of_member : Member → List (List ℕ) → List Row
of_member m zs = map {B = Row} (λ z. (z, m)) zs

in_member : (n : Member) (zs : List (List ℕ)) (z : List ℕ) (m : Member) → Contains (of_member n zs) (z, m) → Contains zs z × (n ≡ m)
in_member n [] z m h = absurd (omega (arith, h.1))
in_member n (y ∷ ys) z m h = by (in_member n ys z m) h.0 h.1 h.2
  where
    by : (Contains (of_member n ys) (z, m) → Contains ys z × (n ≡ m)) → (i : ℕ) → i < suc (length (of_member n ys)) → get_or ((y, n) ∷ of_member n ys) i (z, m) ≡ (z, m) → Contains (y ∷ ys) z × (n ≡ m)
    by rest zero less is = ((zero, omega arith, ap (λ (r : Row). r.0) is), ap (λ (r : Row). r.1) is)
    by rest (suc i) less is = let r = rest (i, omega arith, is) in ((suc r.0.0, omega (arith, r.0.1), r.0.2), r.1)

on_member : (m : Member) (zs : List (List ℕ)) (z : List ℕ) → Contains zs z → Contains (of_member m zs) (z, m)
on_member m [] z h = absurd (omega (arith, h.1))
on_member m (y ∷ ys) z h = by (on_member m ys z) h.0 h.1 h.2
  where
    by : (Contains ys z → Contains (of_member m ys) (z, m)) → (i : ℕ) → i < suc (length ys) → get_or (y ∷ ys) i z ≡ z → Contains ((y, m) ∷ of_member m ys) (z, m)
    by rest zero less is = (zero, omega arith, λ i. (is i, m))
    by rest (suc i) less is = let r = rest (i, omega arith, is) in (suc r.0, omega (arith, r.1), r.2)

in_listed : (es : ByMember) (z : List ℕ) (m : Member) → Contains (listed_rows es) (z, m) → (s : BTreeSet (List ℕ)) × Contains es (m, s) × Contains s.keys z
in_listed [] z m h = absurd (omega (arith, h.1))
in_listed (e ∷ es) z m h = elim (Contains-append_cases (of_member e.0 e.1.keys) (listed_rows es) (z, m) h) [
  | inl a ↦ let r = in_member e.0 e.1.keys z m a in (e.1, (zero, omega arith, λ i. (r.1 i, e.1)), r.0)
  | inr b ↦ let r = in_listed es z m b in (r.0, (suc r.1.0, omega (arith, r.1.1), r.1.2), r.2)
]

listed_in : (es : ByMember) (e : Member × BTreeSet (List ℕ)) (z : List ℕ) → Contains es e → Contains e.1.keys z → Contains (listed_rows es) (z, e.0)
listed_in [] e z h k = absurd (omega (arith, h.1))
listed_in (d ∷ es) e z h k = by (λ c. listed_in es e z c k) h.0 h.1 h.2
  where
    by : (Contains es e → Contains (listed_rows es) (z, e.0)) → (i : ℕ) → i < suc (length es) → get_or (d ∷ es) i e ≡ e → Contains (of_member d.0 d.1.keys ++ listed_rows es) (z, e.0)
    by rest zero less is = Contains-append_left (of_member d.0 d.1.keys) (listed_rows es) (z, e.0) (subst (λ (x : Member × BTreeSet (List ℕ)). Contains (of_member x.0 x.1.keys) (z, e.0)) (sym is) (on_member e.0 e.1.keys z k))
    by rest (suc i) less is = Contains-append_right (of_member d.0 d.1.keys) (listed_rows es) (z, e.0) (rest (i, omega arith, is))

-- a zone of a member is a row
pub active_listed : (es : ByMember) (rows : Rows) (e : Member × BTreeSet (List ℕ)) (z : List ℕ) → seen_rows es ≡ rows → Contains es e → Contains e.1.keys z → set.contains rows (z, e.0) ≡ true
active_listed es rows e z is there inside = ap (λ x. set.contains x (z, e.0)) (sym is) ∙ (listed_decides row_total row_exact (listed_rows es) (z, e.0)).1 (listed_in es e z there inside)

-- and a row is a zone of a member
pub listed_active : (es : ByMember) (rows : Rows) (z : List ℕ) (m : Member) → seen_rows es ≡ rows → set.contains rows (z, m) ≡ true → (s : BTreeSet (List ℕ)) × Contains es (m, s) × Contains s.keys z
listed_active es rows z m is h = in_listed es z m ((listed_decides row_total row_exact (listed_rows es) (z, m)).0 (ap (λ x. set.contains x (z, m)) is ∙ h))
