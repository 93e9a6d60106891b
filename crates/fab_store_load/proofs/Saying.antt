-- What rows say, row by row.
use Rattle.std.proofs.Common.{ℕ, ◌≡◌, ◌<◌, ◌+◌, inl, inr, ⊎_elim, List, [], ◌∷◌, ◌++◌, take, drop, length, get_or, Contains, Option, None, Some, sym, ap, ◌∙◌, subst, refl, arith}
use Rattle.std.proofs.lemmas.List.{take-append-drop, take_more}
use Rattle.std.proofs.lemmas.List.Elements.{Contains-push, Contains-push_cases, Contains-append_left}
use Rattle.fab_store_load.specs.Rows.{AreRows, HasRepeat, StandsIn}
use Rattle.fab_reach_base.specs.fab_zoning.Edits.{Puts}
use Rattle.fab_store_load.specs.Others.{HasOther}

-- the rows so far with the row of a step
pub one_more : {X : Type 0} (xs : List X) (i : ℕ) (r : X) → i < length xs → r ≡ get_or xs i r → take i xs ++ r ∷ [] ≡ take (i + 1) xs
one_more xs i r h is = ap (λ x. take i xs ++ x ∷ []) is ∙ sym (take_more xs i r h)

-- a row of the first rows is a row
pub among_first : {X : Type 0} (xs : List X) (i : ℕ) (x : X) → Contains (take i xs) x → Contains xs x
among_first xs i x h = subst (λ ys. Contains ys x) (take-append-drop i xs) (Contains-append_left (take i xs) (drop i xs) x h)

module _ {R E : Type 0} (row_of : E → R) where
  -- no row says nothing
  pub rows_none : (P : E → Type 0) → ((e : E) → ¬ P e) → AreRows row_of [] P
  rows_none P none = record {
    sound = λ e there. absurd (omega (arith, there.1));
    complete = λ e p. absurd (none e p);
  }

  -- what the same rows say is one
  pub rows_same : (rows : List R) (P Q : E → Type 0) → AreRows row_of rows P → AreRows row_of rows Q → (e : E) → P e → Q e
  rows_same rows P Q h k e p = k.sound e (h.complete e p)

module _ {R E : Type 0} (said : R → Option E) (row_of : E → R) (says : (e : E) → said (row_of e) ≡ Some e) where
  one : (e f : E) → row_of e ≡ row_of f → e ≡ f
  one e f same = let alike : ◌≡◌ {A = Option E} (Some e) (Some f) = sym (says e) ∙ ap said same ∙ says f in cc

  -- a row of this kind
  pub rows_more : (xs : List R) (r : R) (e : E) (P Q : E → Type 0) → AreRows row_of xs P → r ≡ row_of e → Puts e P Q → AreRows row_of (xs ++ r ∷ []) Q
  rows_more xs r e P Q h is puts = record {
    sound = λ d there. (puts d).1 (⊎_elim (λ old. inl (h.sound d old)) (λ same. inr (one d e (sym same ∙ is))) (Contains-push_cases xs r (row_of d) there));
    complete = λ d q. ⊎_elim (λ p. Contains-append_left xs (r ∷ []) (row_of d) (h.complete d p)) (λ same. subst (Contains (xs ++ r ∷ [])) (is ∙ sym (ap row_of same)) (Contains-push xs r)) ((puts d).0 q);
  }

  -- a row of another kind
  pub rows_still : (xs : List R) (r : R) (P : E → Type 0) → AreRows row_of xs P → said r ≡ None → AreRows row_of (xs ++ r ∷ []) P
  rows_still xs r P h none = record {
    sound = λ d there. ⊎_elim (h.sound d) (λ same. let other : ◌≡◌ {A = Option E} None (Some d) = sym none ∙ ap said same ∙ says d in cc) (Contains-push_cases xs r (row_of d) there);
    complete = λ d p. Contains-append_left xs (r ∷ []) (row_of d) (h.complete d p);
  }

module _ {R K X : Type 0} (row_of : K × X → R) where
  -- another value than that of a row stands at its key already
  pub repeated : (rows : List R) (i : ℕ) (r : R) (k : K) (v : X) (f : K → Option X) → AreRows row_of (take i rows) (StandsIn f) → i < length rows → r ≡ get_or rows i r → r ≡ row_of (k, v) → HasOther f k v → HasRepeat row_of rows
  repeated rows i r k v f so_far less at is other = (k, v, other.0, (i, less, sym (sym is ∙ at ∙ ap (get_or rows i) is)), among_first rows i (row_of (k, other.0)) (so_far.complete (k, other.0) other.1), λ same. other.2 (sym same))

  -- no map has rows that repeat a key
  pub no_repeat : (rows : List R) (f : K → Option X) → HasRepeat row_of rows → ¬ AreRows row_of rows (StandsIn f)
  no_repeat rows f h are =
      let v : f h.0 ≡ Some h.1 = are.sound (h.0, h.1) h.3 in
      let w : f h.0 ≡ Some h.2 = are.sound (h.0, h.2) h.4 in
      let same : h.1 ≡ h.2 = cc in h.5 same

  -- look-ups that the same rows say are one
  pub one_look_up : (rows : List R) (f g : K → Option X) → AreRows row_of rows (StandsIn f) → AreRows row_of rows (StandsIn g) → (k : K) → f k ≡ g k
  one_look_up rows f g h n k = by (f k) (g k) (λ x. rows_same row_of rows (StandsIn f) (StandsIn g) h n (k, x)) (λ x. rows_same row_of rows (StandsIn g) (StandsIn f) n h (k, x))
    where
      by : (a b : Option X) → ((x : X) → a ≡ Some x → b ≡ Some x) → ((x : X) → b ≡ Some x → a ≡ Some x) → a ≡ b
      by (Some x) b there back = sym (there x refl)
      by None (Some y) there back = back y refl
      by None None there back = refl
