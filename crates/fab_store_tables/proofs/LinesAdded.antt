-- Lines that are added, row by row.
use Rattle.std.proofs.Common.{ℕ, zero, suc, ◌≡◌, ◌+◌, ◌<◌, ◌⊎◌, inl, inr, ⊎_elim, List, [], ◌∷◌, ◌++◌, map, take, length, get_or, slice_get, Contains, Some, refl, sym, ap, ◌∙◌, subst, append_assoc, arith}
use Rattle.std.proofs.lemmas.List.{take_more, map-append, append-nil}
use Rattle.std.proofs.lemmas.List.Elements.{Contains-push, Contains-push_cases, Contains-append_left}
use Rattle.std.proofs.lemmas.Option.{slice_get_within, get_or_from_slice_get}
use Rattle.std.proofs.lemmas.Map.Made.{Contains-tail}
use Rattle.fab_store_tables.specs.Tables.{AreOnce}
use Rattle.fab_store_tables.specs.declared.stored_line.TableLine.{TableLine}
use Rattle.fab_store_tables.proofs.OneRow.{one_row, one_line}
use Rattle.fab_store_tables.proofs.LinesOfTables.{one_table_line}
use Rattle.fab_store_tables.proofs.Ranges.{shown_in_range}
use Rattle.fab_store_tables.specs.Listing.{AreDistinct, AreLinesOf, Adds}
use Rattle.fab_store_tables.specs.Rows.{AnyRow, ShowsRow, IsInRange}

-- ---- once

pub head_in : {X : Type 0} (x : X) (xs : List X) → Contains (x ∷ xs) x
head_in x xs = (0, omega arith, refl)

pub tail_in : {X : Type 0} (x y : X) (xs : List X) → Contains xs y → Contains (x ∷ xs) y
tail_in x y xs (k, less, is) = (suc k, omega arith, is)

-- a row that is put last is new, where all are distinct
distinct_front : (xs : List AnyRow) (x : AnyRow) → AreDistinct (xs ++ x ∷ []) → AreDistinct xs × (¬ Contains xs x)
distinct_front [] x h = (tt, λ there. absurd (omega (arith, there.1)))
distinct_front (y ∷ ys) x (out, others) =
    let front = distinct_front ys x others in (
      (λ there. out (Contains-append_left ys (x ∷ []) y there), front.0),
      λ there. front.1 (Contains-tail y ys x (λ same. out (subst (Contains (ys ++ x ∷ [])) (sym same) (Contains-push ys x))) there),
    )

-- what stands at a place of a longer list
place_cases : {X : Type 0} (xs : List X) (y : X) (i : ℕ) (x : X) → slice_get (xs ++ y ∷ []) i ≡ Some x → (slice_get xs i ≡ Some x) ⊎ ((i ≡ length xs) × (x ≡ y))
place_cases [] y zero x h = let same : y ≡ x = cc in inr (refl, sym same)
place_cases [] y (suc i) x h = absurd cc
place_cases (z ∷ xs) y zero x h = inl h
place_cases (z ∷ xs) y (suc i) x h = elim (place_cases xs y i x h) [ inl there ↦ inl there | inr last ↦ inr (ap suc last.0, last.1) ]

pub at_place : {X : Type 0} (xs : List X) (i : ℕ) (x : X) → slice_get xs i ≡ Some x → Contains xs x
at_place xs i x h = (i, slice_get_within xs i x h, get_or_from_slice_get xs i x x h)

-- the rows so far with the row of a step
one_more : {R : Type 0} (any : R → AnyRow) (rows : List R) (i : ℕ) (r : R) → i < length rows → r ≡ get_or rows i r → (before : List AnyRow) → (before ++ map any (take i rows)) ++ any r ∷ [] ≡ before ++ map any (take (i + 1) rows)
one_more any rows i r less is before = append_assoc before (map any (take i rows)) (any r ∷ []) ∙ ap (λ xs. before ++ xs) (sym (map-append any (take i rows) (r ∷ [])) ∙ ap (map any) (ap (λ x. take i rows ++ x ∷ []) is ∙ sym (take_more rows i r less)))

module _ {A : Type 0} where
  -- one more line that is not there
  once_more : (lines : List (TableLine A)) (new : TableLine A) → AreOnce lines → ¬ Contains lines new → AreOnce (lines ++ new ∷ [])
  once_more lines new once out i j l m at_i at_j tables rows =
      elim (place_cases lines new i l at_i) [
        | inl here ↦ elim (place_cases lines new j m at_j) [
          | inl there ↦ once i j l m here there tables rows
          | inr last ↦ absurd (out (subst (Contains lines) (one_table_line l m tables rows ∙ last.1) (at_place lines i l here)))
        ]
        | inr last ↦ elim (place_cases lines new j m at_j) [
          | inl there ↦ absurd (out (subst (Contains lines) (sym (one_table_line l m tables rows) ∙ last.1) (at_place lines j m there)))
          | inr also ↦ last.0 ∙ sym also.0
        ]
      ]

  -- a row with its line
  pub line_more : (rows : List AnyRow) (lines : List (TableLine A)) (x : AnyRow) (l : TableLine A) → AreLinesOf rows lines → ShowsRow x l → AreLinesOf (rows ++ x ∷ []) (lines ++ l ∷ [])
  line_more rows lines x l h shows = record {
    are = λ m. (
      λ there. ⊎_elim (λ old. let s = (h.are m).0 old in (s.0, Contains-append_left rows (x ∷ []) s.0 s.1, s.2)) (λ same. (x, Contains-push rows x, subst (ShowsRow x) same shows)) (Contains-push_cases lines l m there),
      λ s. ⊎_elim (λ old. Contains-append_left lines (l ∷ []) m ((h.are m).1 (s.0, old, s.2))) (λ same. subst (Contains (lines ++ l ∷ [])) (one_line s.0 l m (subst (λ y. ShowsRow y l) same shows) s.2) (Contains-push lines l)) (Contains-push_cases rows x s.0 s.1),
    );
    shown = λ y there within. ⊎_elim (λ old. h.shown y old within) (λ same. (l, subst (λ z. ShowsRow z l) same shows)) (Contains-push_cases rows x y there);
    once = λ distinct. let front = distinct_front rows x distinct in once_more lines l (h.once front.0) (λ there. let s = (h.are l).0 there in front.1 (subst (Contains rows) (one_row l s.0 x s.2 shows) s.1));
  }

  -- a row that no line shows
  pub line_skip : (rows : List AnyRow) (lines : List (TableLine A)) (x : AnyRow) → AreLinesOf rows lines → ¬ IsInRange x → AreLinesOf (rows ++ x ∷ []) lines
  line_skip rows lines x h out = record {
    are = λ m. (
      λ there. let s = (h.are m).0 there in (s.0, Contains-append_left rows (x ∷ []) s.0 s.1, s.2),
      λ s. ⊎_elim (λ old. (h.are m).1 (s.0, old, s.2)) (λ same. absurd (out (shown_in_range x m (subst (λ y. ShowsRow y m) (sym same) s.2)))) (Contains-push_cases rows x s.0 s.1),
    );
    shown = λ y there within. ⊎_elim (λ old. h.shown y old within) (λ same. absurd (out (subst IsInRange (sym same) within))) (Contains-push_cases rows x y there);
    once = λ distinct. h.once (distinct_front rows x distinct).0;
  }

  -- no lines of no rows
  pub lines_none : AreLinesOf {A = A} [] []
  lines_none = record {
    are = λ l. (λ there. absurd (omega (arith, there.1)), λ s. absurd (omega (arith, s.1.1)));
    shown = λ y there within. absurd (omega (arith, there.1));
    once = λ distinct i j l m at. absurd cc;
  }

  -- no rows yet
  pub adds_none : (old : List (TableLine A)) → Adds [] old old
  adds_none old before h = subst (λ rows. AreLinesOf rows old) (sym (append-nil before)) h

  -- rows, and then more rows
  pub adds_then : (xs ys : List AnyRow) (old mid new : List (TableLine A)) → Adds xs old mid → Adds ys mid new → Adds (xs ++ ys) old new
  adds_then xs ys old mid new first then before h = subst (λ rows. AreLinesOf rows new) (append_assoc before xs ys) (then (before ++ xs) (first before h))

  module _ {R : Type 0} (any : R → AnyRow) (rows : List R) (i : ℕ) (r : R) (less : i < length rows) (is : r ≡ get_or rows i r) where
    pub adds_more : (old now : List (TableLine A)) (l : TableLine A) → Adds (map any (take i rows)) old now → ShowsRow (any r) l → Adds (map any (take (i + 1) rows)) old (now ++ l ∷ [])
    adds_more old now l so_far shows before h = subst (λ xs. AreLinesOf xs (now ++ l ∷ [])) (one_more any rows i r less is before) (line_more (before ++ map any (take i rows)) now (any r) l (so_far before h) shows)

    pub adds_skip : (old now : List (TableLine A)) → Adds (map any (take i rows)) old now → ¬ IsInRange (any r) → Adds (map any (take (i + 1) rows)) old now
    adds_skip old now so_far out before h = subst (λ xs. AreLinesOf xs now) (one_more any rows i r less is before) (line_skip (before ++ map any (take i rows)) now (any r) (so_far before h) out)
