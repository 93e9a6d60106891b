-- A set of the code, seen as a finite set.
use Rattle.std.proofs.Common.{◌≡◌, ◌+◌, List, [], ◌∷◌, length, Bool, true, false, cond, not, ◌&&◌, ◌||◌, refl, sym, ap, ◌∙◌, subst, add-one, Contains}
use Rattle.std.specs.declared.cmp.Ordering.{Ordering}
use Rattle.std.specs.declared.cmp.Ordering.TheVariants.{Less}
use Rattle.std.specs.Ordering.{eq_by_cmp, is_eq}
use Rattle.std.specs.Bool.{Decides}
use Rattle.std.specs.Cmp.{IsTotalOrder, Equal-is, tied_itself, eq_by_cmp_equiv}
use Rattle.std.specs.BTreeMap.{is_at}
use Rattle.std.specs.BTreeSet.{BTreeSet, contains}
use Rattle.std.specs.FinSet as set
use Rattle.std.specs.List.{list_any, AllByRecursion, AllZip}
use Rattle.std.specs.List.Sorted.{IsStrictlySortedBy}
use Rattle.std.proofs.lemmas.List.Elements.{same_from_all_zip}
use Rattle.std.proofs.lemmas.Map.Keys.{sorted_head, sorted_tail}
use Rattle.std.proofs.lemmas.Map.Made.{is_member-Decides}

-- a clone that has the same keys is the same set
pub same_keys : {K : Type 0} (C : K → K → Type 0) → ((x y : K) → C x y → y ≡ x) → (s t : BTreeSet K) → AllZip C s.keys t.keys → t.keys ≡ s.keys
same_keys C same s t h = same_from_all_zip C s.keys t.keys h same

-- one of two tests
or_test : (b c : Bool) → cond b true c ≡ (b || c)
or_test true c = refl
or_test false c = refl

-- one test and not the other
and_not_test : (b c : Bool) → cond b false c ≡ (not b && c)
and_not_test true c = refl
and_not_test false c = refl

module _ {K : Type 0} {R : K → K → Ordering} (o : IsTotalOrder R) where
  -- what the set has, the finite set has
  pub contains_seen : (s : BTreeSet K) (q : K) → set.contains (set.from_list {R = R} s.keys) q ≡ contains R s q
  contains_seen s q = set.contains-from_list o s.keys q

  -- a key below all others is none of them
  none_above : (k : K) (ks : List K) → AllByRecursion (λ y. R k y ≡ Less) ks → list_any (eq_by_cmp R k) ks ≡ false
  none_above k [] h = refl
  none_above k (y ∷ ks) h = ap (λ r. is_eq r || list_any (eq_by_cmp R k) ks) h.0 ∙ none_above k ks h.1

  -- how many keys there are
  pub len_seen : (ks : List K) → IsStrictlySortedBy R ks → set.len (set.from_list {R = R} ks) ≡ length ks
  len_seen [] h = set.len-empty R
  len_seen (k ∷ ks) h =
      let fresh : set.contains (set.from_list {R = R} ks) k ≡ false = set.contains-from_list o ks k ∙ none_above k ks (sorted_head R k ks h) in
      set.len-insert o (set.from_list ks) k
      ∙ ap (λ b. cond b (set.len (set.from_list {R = R} ks)) (set.len (set.from_list {R = R} ks) + 1)) fresh
      ∙ ap (λ n. n + 1) (len_seen ks (sorted_tail R k ks h))
      ∙ add-one (length ks)

  module _ (exact : set.IsAntisymmetric R) where
    -- keys that tie are equal
    pub tie_decides : (x y : K) → Decides (eq_by_cmp R x y) (x ≡ y)
    tie_decides x y = ((λ e. exact x y ((Equal-is (R x y)).0 e)), λ e. subst (λ z. eq_by_cmp R x z ≡ true) e (ap is_eq (tied_itself o x)))

    -- a listed set has just what is listed
    pub listed_decides : (ks : List K) (q : K) → Decides (set.contains (set.from_list {R = R} ks) q) (Contains ks q)
    listed_decides ks q =
        let d : Decides (list_any (eq_by_cmp R q) ks) (Contains ks q) = is_member-Decides tie_decides ks q in
        ((λ h. d.0 (sym (set.contains-from_list o ks q) ∙ h)), λ h. set.contains-from_list o ks q ∙ d.1 h)

    -- after an insertion
    pub set_insert : (s t : BTreeSet K) (k : K) → ((q : K) → contains R t q ≡ cond (is_at (R k) q) true (contains R s q)) → set.from_list {R = R} t.keys ≡ set.insert (set.from_list s.keys) k
    set_insert s t k updates = set.same_set o exact _ _ (λ q.
        contains_seen t q ∙ updates q ∙ or_test (is_at (R k) q) (contains R s q) ∙ (λ i. (eq_by_cmp_equiv o).symm k q i || sym (contains_seen s q) i) ∙ sym (set.contains-insert o _ k q))

    -- after a removal
    pub set_remove : (s t : BTreeSet K) (k : K) → ((q : K) → contains R t q ≡ cond (is_at (R k) q) false (contains R s q)) → set.from_list {R = R} t.keys ≡ set.remove (set.from_list s.keys) k
    set_remove s t k updates = set.same_set o exact _ _ (λ q.
        contains_seen t q ∙ updates q ∙ and_not_test (is_at (R k) q) (contains R s q) ∙ (λ i. not ((eq_by_cmp_equiv o).symm k q i) && sym (contains_seen s q) i) ∙ sym (set.contains-remove o _ k q))

    -- a set with the keys of a list
    pub set_of_list : (s : BTreeSet K) (ks : List K) → ((q : K) → contains R s q ≡ list_any (eq_by_cmp R q) ks) → set.from_list {R = R} s.keys ≡ set.from_list ks
    set_of_list s ks is = set.same_set o exact _ _ (λ q. contains_seen s q ∙ is q ∙ sym (set.contains-from_list o ks q))
