-- Names that are told apart by a set.
use Rattle.std.proofs.Common.{take, length, get_or, ◌+◌, ◌<◌, ◌≤◌, Bor, ℕ, zero, suc, ◌≡◌, ◌⊎◌, inl, inr, ⊎_elim, true, false, Bool, ◌||◌, List, [], ◌∷◌, ◌++◌, map, Contains, refl, sym, ap, ◌∙◌, subst, arith}
use mathlib.Core.Bool.{true≢false}
use Rattle.std.specs.List.{list_any}
use Rattle.std.specs.Ordering.{is_eq, match_ordering}
use Rattle.std.specs.declared.cmp.Ordering.{Ordering}
use Rattle.std.specs.declared.cmp.Ordering.TheVariants.{Less, Equal, Greater}
use Rattle.std.specs.Cmp.{eq_by_cmp_equiv}
use Rattle.std.specs.Cmp.Lexicographic.{slice_cmp, nat_list_cmp_total, same_text}
use Rattle.std.specs.Ordering.{nat_cmp}
use Rattle.std.specs.BTreeMap.{is_at}
use Rattle.std.specs.BTreeSet.{insert_key}
use Rattle.std.proofs.lemmas.List.{map_more, take_all}
use Rattle.std.proofs.lemmas.List.Elements.{Contains-append_left, Contains-append_right, Contains-push_cases}
use Rattle.std.proofs.lemmas.List.Folds.{list_any_at}
use Rattle.std.proofs.lemmas.Map.Text.{is_eq-slice_cmp}
use Rattle.fab_store_columns.specs.PlanLines.{PlanColumns}
use Rattle.fab_store_base.proofs.Distinct.{join_distinct, map_in, cons_cases}
use Rattle.fab_store_tables.specs.Listing.{AreDistinct}
use Rattle.fab_store.specs.Loading.{HaveNamesOnce}
use Rattle.fab_store_tables.proofs.LinesAdded.{head_in, tail_in}

-- an inserted key leaves the others
insert_keeps : {K : Type 0} (cmp : K → K → Ordering) (ks : List K) (k x : K) → Contains ks x → Contains (insert_key cmp ks k) x
insert_keeps cmp [] k x there = tail_in k x [] there
insert_keeps {K} cmp (y ∷ ys) k x there = by (insert_key cmp ys k) (λ later. insert_keeps cmp ys k x later) (cmp k y)
  where
    by : (more : List K) → (Contains ys x → Contains more x) → (o : Ordering) → Contains (match_ordering o (k ∷ y ∷ ys) (y ∷ ys) (y ∷ more)) x
    by more keeps Less = tail_in k x (y ∷ ys) there
    by more keeps Equal = there
    by more keeps Greater = ⊎_elim (λ same. subst (λ z. Contains (y ∷ more) z) same (head_in y more)) (λ later. tail_in y x more (keeps later)) (cons_cases y x ys there)

-- and there is none but them and it
insert_from : {K : Type 0} (cmp : K → K → Ordering) (ks : List K) (k x : K) → Contains (insert_key cmp ks k) x → (k ≡ x) ⊎ Contains ks x
insert_from cmp [] k x there = cons_cases k x [] there
insert_from {K} cmp (y ∷ ys) k x there = by (insert_key cmp ys k) (insert_from cmp ys k x) (cmp k y) there
  where
    by : (more : List K) → (Contains more x → (k ≡ x) ⊎ Contains ys x) → (o : Ordering) → Contains (match_ordering o (k ∷ y ∷ ys) (y ∷ ys) (y ∷ more)) x → (k ≡ x) ⊎ Contains (y ∷ ys) x
    by more from Less h = cons_cases k x (y ∷ ys) h
    by more from Equal h = inr h
    by more from Greater h = ⊎_elim (λ same. inr (subst (λ z. Contains (y ∷ ys) z) same (head_in y ys))) (λ later. ⊎_elim (λ same. inl same) (λ old. inr (tail_in y x ys old)) (from later)) (cons_cases y x more h)

-- a key that was not there is there
insert_there : {K : Type 0} (cmp : K → K → Ordering) (ks : List K) (k : K) → list_any (is_at (cmp k)) ks ≡ false → Contains (insert_key cmp ks k) k
insert_there cmp [] k none = head_in k []
insert_there {K} cmp (y ∷ ys) k none = by (insert_key cmp ys k) (insert_there cmp ys k) (cmp k y) none
  where
    by : (more : List K) → (list_any (is_at (cmp k)) ys ≡ false → Contains more k) → (o : Ordering) → (is_eq o || list_any (is_at (cmp k)) ys) ≡ false → Contains (match_ordering o (k ∷ y ∷ ys) (y ∷ ys) (y ∷ more)) k
    by more found Less h = head_in k (y ∷ ys)
    by more found Equal h = absurd (true≢false h)
    by more found Greater h = tail_in y k more (found h)

-- one of them passes the test
any_there : {K : Type 0} (test : K → Bool) (ks : List K) → list_any test ks ≡ true → (k : K) × Contains ks k × (test k ≡ true)
any_there test [] h = absurd (true≢false (sym h))
any_there {K} test (y ∷ ys) h = by (any_there test ys) (test y) refl h
  where
    by : (list_any test ys ≡ true → (k : K) × Contains ys k × (test k ≡ true)) → (b : Bool) → test y ≡ b → (b || list_any test ys) ≡ true → (k : K) × Contains (y ∷ ys) k × (test k ≡ true)
    by more true is h = (y, head_in y ys, is)
    by more false is h = let later = more h in (later.0, tail_in y later.0 ys later.1, later.2)

-- the names so far differ, and are those of the keys
pub record AreNamed {K : Type 0} (name_of : K → List ℕ) (before : List (List ℕ)) (keys : List K) : Type 0 where
  pub there : (n : List ℕ) → Contains before n → (k : K) × Contains keys k × (name_of k ≡ n)
  pub from : (k : K) → Contains keys k → Contains before (name_of k)
  pub distinct : AreDistinct before

module _ {K : Type 0} (cmp : K → K → Ordering) (name_of : K → List ℕ) where
  -- one name more, which is new
  named_more : ((a b : K) → name_of a ≡ name_of b → is_at (cmp a) b ≡ true) → (before : List (List ℕ)) (keys : List K) (key : K)
      → list_any (is_at (cmp key)) keys ≡ false → AreNamed name_of before keys → AreNamed name_of (before ++ name_of key ∷ []) (insert_key cmp keys key)
  named_more equal before keys key none so = record {
    there = λ n there. ⊎_elim
        (λ early. let k = so.there n early in (k.0, insert_keeps cmp keys key k.0 k.1, k.2))
        (λ last. (key, insert_there cmp keys key none, last))
        (Contains-push_cases before (name_of key) n there);
    from = λ k there. ⊎_elim
        (λ same. subst (λ z. Contains (before ++ name_of key ∷ []) (name_of z)) same (Contains-append_right before (name_of key ∷ []) (name_of key) (head_in (name_of key) [])))
        (λ early. Contains-append_left before (name_of key ∷ []) (name_of k) (so.from k early))
        (insert_from cmp keys key k there);
    distinct = join_distinct before (name_of key ∷ []) so.distinct ((λ there. omega (arith, there.1)), tt) apart;
  }
    where
      apart : (n : List ℕ) → Contains before n → Contains (name_of key ∷ []) n → ⊥
      apart n early last =
          let k = so.there n early in
          let same : name_of key ≡ n = ⊎_elim (λ e. e) (λ there. absurd (omega (arith, there.1))) (cons_cases (name_of key) n [] last) in
          let hit : is_at (cmp key) k.0 ≡ true = equal key k.0 (same ∙ sym k.2) in
          true≢false (sym (list_any_at (is_at (cmp key)) keys k.1.0 k.0 k.1.1 (ap (is_at (cmp key)) k.1.2 ∙ hit)) ∙ none)

  -- one line further
  pub named_next : ((a b : K) → name_of a ≡ name_of b → is_at (cmp a) b ≡ true) → (xs : List PlanColumns) (i : ℕ) (l : PlanColumns) (keys : List K) (key : K) → i < length xs → l ≡ get_or xs i l → name_of key ≡ l.name
      → list_any (is_at (cmp key)) keys ≡ false → AreNamed name_of (map (λ (p : PlanColumns). p.name) (take i xs)) keys → AreNamed name_of (map (λ (p : PlanColumns). p.name) (take (i + 1) xs)) (insert_key cmp keys key)
  named_next equal xs i l keys key h is named none so =
      let name = λ (p : PlanColumns). p.name in
      subst (λ ns. AreNamed name_of ns (insert_key cmp keys key)) (ap (λ n. map name (take i xs) ++ n ∷ []) (named ∙ ap name is) ∙ sym (map_more name xs i l h))
      (named_more equal (map name (take i xs)) keys key none so)

  -- past the last line
  pub named_last : (xs : List PlanColumns) (i : ℕ) (keys : List K) → length xs ≤ i → AreNamed name_of (map (λ (p : PlanColumns). p.name) (take i xs)) keys → HaveNamesOnce xs
  named_last xs i keys h so = subst (λ ys. HaveNamesOnce ys) (take_all i xs h) so.distinct

  -- a name that is there stands twice
  pub named_twice : ((a b : K) → is_at (cmp a) b ≡ true → name_of a ≡ name_of b) → (xs : List PlanColumns) (i : ℕ) (l : PlanColumns) (keys : List K) (key : K) → i < length xs → l ≡ get_or xs i l → name_of key ≡ l.name
      → list_any (is_at (cmp key)) keys ≡ true → AreNamed name_of (map (λ (p : PlanColumns). p.name) (take i xs)) keys → ¬ HaveNamesOnce xs
  named_twice one xs i l keys key h is named some so once =
      let name = λ (p : PlanColumns). p.name in
      let k = any_there (is_at (cmp key)) keys some in
      let same : name_of k.0 ≡ name (get_or xs i l) = sym (one key k.0 k.2) ∙ named ∙ ap name is in
      let parts = parted name xs i l h in
      not_before (map name (take i xs)) (name (get_or xs i l)) parts.0 (subst AreDistinct parts.1 once) (subst (Contains (map name (take i xs))) same (so.from k.0 k.1))
    where
      -- the items before a place, that at it, and the rest
      parted : {X Y : Type 0} (f : X → Y) (ys : List X) (j : ℕ) (d : X) → j < length ys → (rest : List Y) × (map f ys ≡ map f (take j ys) ++ f (get_or ys j d) ∷ rest)
      parted f [] j d within = absurd (omega (arith, within))
      parted f (y ∷ ys) zero d within = (map f ys, refl)
      parted f (y ∷ ys) (suc j) d within = let later = parted f ys j d (omega (arith, within)) in (later.0, ap (λ zs. f y ∷ zs) later.1)

      -- an item of distinct items does not stand before its place
      not_before : {X : Type 0} (before : List X) (x : X) (rest : List X) → AreDistinct (before ++ x ∷ rest) → ¬ Contains before x
      not_before [] x rest d there = omega (arith, there.1)
      not_before (y ∷ ys) x rest d there = ⊎_elim
          (λ same. d.0 (Contains-append_right ys (x ∷ rest) y (subst (λ z. Contains (x ∷ rest) z) (sym same) (head_in x rest))))
          (λ later. not_before ys x rest d.1 later)
          (cons_cases y x ys there)

-- lines whose names differ, differ
pub lines_once : (xs : List PlanColumns) → HaveNamesOnce xs → AreDistinct xs
lines_once [] h = tt
lines_once (x ∷ xs) h = (λ there. h.0 (map_in (λ (p : PlanColumns). p.name) xs x there), lines_once xs h.1)

-- texts in their order
pub equal_text : (a b : Bor (List ℕ)) → a.now ≡ b.now → is_at (λ (y : Bor (List ℕ)). slice_cmp nat_cmp a.now y.now) b ≡ true
equal_text a b e = ap (λ t. is_eq (slice_cmp nat_cmp a.now t)) (sym e) ∙ (eq_by_cmp_equiv nat_list_cmp_total).refl a.now

pub text_equal : (a b : Bor (List ℕ)) → is_at (λ (y : Bor (List ℕ)). slice_cmp nat_cmp a.now y.now) b ≡ true → a.now ≡ b.now
text_equal a b h = same_text a.now b.now (sym h ∙ is_eq-slice_cmp a.now b.now)
