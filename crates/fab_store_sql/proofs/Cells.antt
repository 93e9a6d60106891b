-- What SQL makes of texts and numbers.
use Rattle.std.proofs.Common.{◌≡◌, ◌+◌, ℕ, zero, suc, ℤ, Bool, true, false, not, ◌||◌, cond, List, [], ◌∷◌, length, drop, is_eq, Some, None, slice_get, add-one, true≢false, refl, sym, ap, subst, ◌∙◌, arith, bytes_eq, Ordering, Less, Equal, Greater, int_cmp, inl, inr, ◌⊎◌}
use Rattle.std.specs.List.{list_all}
use Rattle.std.proofs.lemmas.Int.{ints}
use Rattle.std.proofs.lemmas.Bool.{and_parts, and_from}
use Rattle.std.proofs.lemmas.Bool.Decides.{nat_tests}
use Rattle.std.proofs.lemmas.Cmp.{tied_itself}
use Rattle.std.proofs.lemmas.Map.Text.{is_eq-slice_cmp}
use Rattle.std.proofs.lemmas.Slice.Eq.{bytes_eq-Decides}
use Rattle.sqlite.specs.declared.types.Value.{Value}
use Rattle.sqlite.specs.declared.types.Value.TheVariants.{Null, Int, Real, Text, Blob}
use Rattle.sqlite.specs.Order.{Row, column}
use Rattle.sqlite_value.proofs.OrderLemmas.{value_cmp_total, value_cmp-Text, value_cmp-Int, value_cmp-apart}
use Rattle.sqlite.specs.Ops.{unary, binary, is_true, from_truth}
use Rattle.sqlite_sql.specs.declared.ops.BinaryOp.TheVariants.{Compare}
use Rattle.sqlite_sql.specs.declared.ops.CompareOp.TheVariants.{Eq}
use Rattle.sqlite.specs.Collation.TheVariants.{Binary}
use Rattle.sqlite.specs.Kind.TheVariants.{Integer}
use Rattle.sqlite.specs.Cast.{cast}
use Rattle.sqlite.specs.Term.{holds}
use Rattle.sqlite_sql.specs.Ops.{is_null}
use Rattle.sqlite_schema.specs.Rules.{are_typed, are_present, suits, is_of}
use Rattle.sqlite_schema.specs.declared.schema.Column.{Column}
use Rattle.fab_store_sql.specs.Trees.{cells_from}
use Rattle.fab_store_sql.proofs.Meanings.{keys_from}

same_bytes : (s t : List ℕ) → bytes_eq s t ≡ true → s ≡ t
same_bytes s t h = grind (arith, bytes_eq-Decides)

abbrev equals : Value → Value → Bool
equals v w = is_true (binary (Compare Eq Binary) v w)

truth_of : (b : Bool) → is_true (from_truth (Some b)) ≡ true → b ≡ true
truth_of true h = refl
truth_of false h = h

pub equals_text : (v : Value) (t : List ℕ) → equals v (Text t) ≡ true → v ≡ Text t
unfolding binary
equals_text Null t h = cc
equals_text (Int n) t h = absurd (true≢false (sym (truth_of _ h) ∙ ap is_eq (value_cmp-apart (Int n) (Text t) (λ e. omega (arith, e)))))
equals_text (Real x) t h = absurd (true≢false (sym (truth_of _ h) ∙ ap is_eq (value_cmp-apart (Real x) (Text t) (λ e. omega (arith, e)))))
equals_text (Text s) t h = let e : bytes_eq s t ≡ true = sym (is_eq-slice_cmp s t) ∙ ap is_eq (sym (value_cmp-Text s t)) ∙ truth_of _ h in ap Text (same_bytes s t e)
equals_text (Blob b) t h = absurd (true≢false (sym (truth_of _ h) ∙ ap is_eq (value_cmp-apart (Blob b) (Text t) (λ e. omega (arith, e)))))

pub text_equals : (t : List ℕ) → equals (Text t) (Text t) ≡ true
unfolding binary
text_equals t = rw (ap is_eq (tied_itself value_cmp_total (Text t))) refl

either : (b : Bool) (x : Value) → cond b x x ≡ x
either true x = refl
either false x = refl

pub cast_integer : (n : ℤ) → cast Integer (Int n) ≡ Int n
unfolding unary
cast_integer n = either _ (Int n)

pub cast_null : cast Integer Null ≡ Null
unfolding unary
cast_null = either _ Null

pub equal_is : (o : Ordering) → is_eq o ≡ true → o ≡ Equal
equal_is Less h = absurd (let e = h in cc)
equal_is Equal h = refl
equal_is Greater h = absurd (let e = h in cc)

pub same_int : (a b : ℤ) → int_cmp a b ≡ Equal → a ≡ b
same_int a b h = grind (arith, ints, nat_tests)

equals_int : (m n : ℤ) → equals (Int m) (Int n) ≡ true → m ≡ n
unfolding binary
equals_int m n h = same_int m n (sym (value_cmp-Int m n) ∙ equal_is _ (truth_of _ h))

int_equals : (n : ℤ) → equals (Int n) (Int n) ≡ true
unfolding binary
int_equals n = rw (ap is_eq (tied_itself value_cmp_total (Int n))) refl

-- ---- the columns of a key

-- a column can be compared with a text, and one that has a number with a number
abbrev pub Comparable : Value → Value → Type 0
Comparable w Null = ⊥
Comparable w (Int n) = (m : ℤ) × (w ≡ Int m)
Comparable w (Real x) = ⊥
Comparable w (Text t) = Unit {0}
Comparable w (Blob b) = ⊥

equal_from : (w v : Value) → Comparable w v → equals w v ≡ true → w ≡ v
equal_from w Null can h = absurd can
equal_from w (Int n) can h = can.1 ∙ ap Int (equals_int can.0 n (subst (λ u. equals u (Int n) ≡ true) can.1 h))
equal_from w (Real x) can h = absurd can
equal_from w (Text t) can h = equals_text w t h
equal_from w (Blob b) can h = absurd can

equal_to : (w v : Value) → Comparable w v → w ≡ v → equals w v ≡ true
equal_to w Null can e = absurd can
equal_to w (Int n) can e = subst (λ u. equals u (Int n) ≡ true) (sym e) (int_equals n)
equal_to w (Real x) can e = absurd can
equal_to w (Text t) can e = subst (λ u. equals u (Text t) ≡ true) (sym e) (text_equals t)
equal_to w (Blob b) can e = absurd can

-- each column of a row from this one on, with each value
abbrev pub AreComparable : Row → ℕ → Row → Type 0
AreComparable r at [] = Unit {0}
AreComparable r at (v ∷ vs) = Comparable (column r (at + 1)) v × AreComparable r (at + 1) vs

same_head : {X : Type 0} (a b : X) (xs ys : List X) → ◌≡◌ {A = List X} (a ∷ xs) (b ∷ ys) → a ≡ b
same_head a b xs ys e = cc

same_tail : {X : Type 0} (a b : X) (xs ys : List X) → ◌≡◌ {A = List X} (a ∷ xs) (b ∷ ys) → xs ≡ ys
same_tail a b xs ys e = cc

module _ (r key : Row) where
  -- the values from this parameter on are these
  abbrev pub GoesOn : ℕ → Row → Type 0
  GoesOn at rest = (i : ℕ) → column key (at + i) ≡ column rest i

  goes_on : (at : ℕ) (v : Value) (rest : Row) → GoesOn at (v ∷ rest) → GoesOn (at + 1) rest
  goes_on at v rest h i = let e : at + 1 + i ≡ at + suc i = omega arith in ap (column key) e ∙ h (suc i)

  begins : (at : ℕ) (v : Value) (rest : Row) → GoesOn at (v ∷ rest) → column key at ≡ v
  begins at v rest h = let e : at ≡ at + 0 = omega arith in ap (column key) e ∙ h 0

  pub matched : (n at : ℕ) (rest : Row) → length rest ≡ n → GoesOn at rest → AreComparable r at rest → list_all (holds (key ∷ r ∷ [])) (keys_from at n) ≡ true → cells_from r (at + 1) n ≡ rest
  matched zero at [] len on can passes = refl
  matched zero at (v ∷ rest) len on can passes = absurd (omega (arith, len))
  matched (suc n) at [] len on can passes = absurd (omega (arith, len))
  matched (suc n) at (v ∷ rest) len on can passes =
      let both = and_parts _ _ passes in
      let is = equal_from (column r (at + 1)) v can.0 (subst (λ u. equals (column r (at + 1)) u ≡ true) (begins at v rest on) both.0) in
      let more = matched n (at + 1) rest (omega (arith, len)) (goes_on at v rest on) can.1 both.1 in
      ap (λ u. u ∷ cells_from r (at + 1 + 1) n) is ∙ ap (λ us. v ∷ us) more

  pub matches : (n at : ℕ) (rest : Row) → length rest ≡ n → GoesOn at rest → AreComparable r at rest → cells_from r (at + 1) n ≡ rest → list_all (holds (key ∷ r ∷ [])) (keys_from at n) ≡ true
  matches zero at rest len on can is = refl
  matches (suc n) at [] len on can is = absurd (omega (arith, len))
  matches (suc n) at (v ∷ rest) len on can is =
      let here = same_head (column r (at + 1)) v _ rest is in
      let more = same_tail (column r (at + 1)) v _ rest is in
      and_from _ _ (subst (λ u. equals (column r (at + 1)) u ≡ true) (sym (begins at v rest on)) (equal_to (column r (at + 1)) v can.0 here))
      (matches n (at + 1) rest (omega (arith, len)) (goes_on at v rest on) can.1 more)

-- ---- columns of a kind

typed_at : (cs : List Column) (at i : ℕ) (vs : Row) (c : Column) → are_typed None at cs vs ≡ true → slice_get cs i ≡ Some c → (suits c (column vs i) ≡ true) ⊎ (column vs i ≡ Null)
typed_at [] at i vs c typed is = absurd (let e = is in cc)
typed_at (d ∷ cs) at i [] c typed is = inr refl
typed_at (d ∷ cs) at zero (v ∷ vs) c typed is = let e : d ≡ c = cc in inl (subst (λ k. suits k v ≡ true) e (and_parts _ _ typed).0)
typed_at (d ∷ cs) at (suc i) (v ∷ vs) c typed is = typed_at cs (at + 1) i vs c (and_parts _ _ typed).1 is

filled : (a b : Bool) → a ≡ true → (not a || not b) ≡ true → b ≡ false
filled true true is h = absurd (let e = h in cc)
filled true false is h = refl
filled false b is h = absurd (let e = is in cc)

present_at : (cs : List Column) (at i : ℕ) (row : Row) (c : Column) → are_present None at cs row ≡ true → slice_get cs i ≡ Some c → c.not_null ≡ true → is_null (column row (at + i + 1)) ≡ false
present_at [] at i row c present is needs = absurd (let e = is in cc)
present_at (d ∷ cs) at zero row c present is needs =
    let e : d ≡ c = cc in
    let n : d.not_null ≡ true = ap (λ (k : Column). k.not_null) e ∙ needs in
    let p : at + 1 ≡ at + 0 + 1 = omega arith in
    ap (λ m. is_null (column row m)) (sym p) ∙ filled d.not_null (is_null (column row (at + 1))) n (and_parts _ _ present).0
present_at (d ∷ cs) at (suc i) row c present is needs = let e : at + 1 + i + 1 ≡ at + suc i + 1 = omega arith in ap (λ n. is_null (column row n)) (sym e) ∙ present_at cs (at + 1) i row c (and_parts _ _ present).1 is needs

int_of : (v : Value) → is_of Integer v ≡ true → is_null v ≡ false → (m : ℤ) × (v ≡ Int m)
int_of Null typed filled = absurd (let e = filled in cc)
int_of (Int n) typed filled = (n, refl)
int_of (Real x) typed filled = absurd (let e = typed in cc)
int_of (Text t) typed filled = absurd (let e = typed in cc)
int_of (Blob b) typed filled = absurd (let e = typed in cc)

-- the number in a column of a row
pub number_at : (cs : List Column) (i : ℕ) (row : Row) (c : Column) → are_typed None 0 cs (drop 1 row) ≡ true → are_present None 0 cs row ≡ true → slice_get cs i ≡ Some c → c.not_null ≡ true → ((v : Value) → suits c v ≡ is_of Integer v)
    → (m : ℤ) × (column row (i + 1) ≡ Int m)
number_at cs i row c typed present is needs whole =
    let p : i + 1 ≡ 0 + i + 1 = omega arith in
    let some : is_null (column row (i + 1)) ≡ false = ap (λ m. is_null (column row m)) p ∙ present_at cs 0 i row c present is needs in
    let here : column (drop 1 row) i ≡ column row (i + 1) = dropped row i in
    elim (typed_at cs 0 i (drop 1 row) c typed is) [
      | inl suited ↦ int_of (column row (i + 1)) (sym (whole _) ∙ subst (λ v. suits c v ≡ true) here suited) some
      | inr none ↦ absurd (true≢false (sym (ap is_null (sym here ∙ none)) ∙ some))
    ]
  where
    dropped : (r : Row) (at : ℕ) → column (drop 1 r) at ≡ column r (at + 1)
    dropped [] at = refl
    dropped (v ∷ r) at = rw add-one refl
