-- Rows that are added, line by line.
use Rattle.std.proofs.Common.{ℕ, zero, suc, ◌≡◌, ◌+◌, ◌<◌, ◌⊎◌, inl, inr, ⊎_elim, List, [], ◌∷◌, ◌++◌, take, length, get_or, Contains, Option, None, Some, refl, sym, ap, ◌∙◌, subst, append_assoc, arith}
use Rattle.std.specs.List.{AllZip, filter_map, cons_option}
use Rattle.std.proofs.lemmas.List.{take_more, append-nil}
use Rattle.std.proofs.lemmas.List.Elements.{Contains-append_left, Contains-append_right, Contains-append_cases}
use Rattle.fab_store_tables.specs.Reading.{AddsShown}

module _ {L R : Type 0} (Shows : L → R → Type 0) where
  zip_push : (ls : List L) (rs : List R) (l : L) (r : R) → AllZip Shows ls rs → Shows l r → AllZip Shows (ls ++ l ∷ []) (rs ++ r ∷ [])
  zip_push [] [] l r h shows = (shows, tt)
  zip_push [] (s ∷ rs) l r h shows = absurd h
  zip_push (m ∷ ls) [] l r h shows = absurd h
  zip_push (m ∷ ls) (s ∷ rs) l r (first, others) shows = (first, zip_push ls rs l r others shows)

  -- a line more, with its row
  pub zip_more : (ls : List L) (rs : List R) (i : ℕ) (l : L) (r : R) → i < length ls → l ≡ get_or ls i l → AllZip Shows (take i ls) rs → Shows l r → AllZip Shows (take (i + 1) ls) (rs ++ r ∷ [])
  zip_more ls rs i l r less is h shows = subst (λ xs. AllZip Shows xs (rs ++ r ∷ [])) (ap (λ x. take i ls ++ x ∷ []) is ∙ sym (take_more ls i l less)) (zip_push (take i ls) rs l r h shows)

  pub adds_none : (old : List R) → AddsShown Shows [] old old
  adds_none old = ([], sym (append-nil old), tt)

  pub adds_more : (ls : List L) (old now : List R) (i : ℕ) (l : L) (r : R) → i < length ls → l ≡ get_or ls i l → AddsShown Shows (take i ls) old now → Shows l r → AddsShown Shows (take (i + 1) ls) old (now ++ r ∷ [])
  adds_more ls old now i l r less is (more, at, h) shows = (more ++ r ∷ [], ap (λ xs. xs ++ r ∷ []) at ∙ append_assoc old more (r ∷ []), zip_more ls more i l r less is h shows)

  -- the row that a line shows, and the line that shows a row
  pub row_of_line : (ls : List L) (rs : List R) → AllZip Shows ls rs → (l : L) → Contains ls l → (r : R) × Contains rs r × Shows l r
  row_of_line [] rs h l there = absurd (omega (arith, there.1))
  row_of_line (m ∷ ls) [] h l there = absurd h
  row_of_line (m ∷ ls) (s ∷ rs) h l (zero, less, is) = (s, (0, omega arith, refl), subst (λ x. Shows x s) is h.0)
  row_of_line (m ∷ ls) (s ∷ rs) h l (suc k, less, is) = let found = row_of_line ls rs h.1 l (k, omega (arith, less), is) in (found.0, Contains-append_right (s ∷ []) rs found.0 found.1, found.2)

  pub line_of_row : (ls : List L) (rs : List R) → AllZip Shows ls rs → (r : R) → Contains rs r → (l : L) × Contains ls l × Shows l r
  line_of_row ls [] h r there = absurd (omega (arith, there.1))
  line_of_row [] (s ∷ rs) h r there = absurd h
  line_of_row (m ∷ ls) (s ∷ rs) h r (zero, less, is) = (m, (0, omega arith, refl), subst (Shows m) is h.0)
  line_of_row (m ∷ ls) (s ∷ rs) h r (suc k, less, is) = let found = line_of_row ls rs h.1 r (k, omega (arith, less), is) in (found.0, Contains-append_right (m ∷ []) ls found.0 found.1, found.2)

  -- the same, of rows that are added
  pub old_kept : (ls : List L) (old new : List R) → AddsShown Shows ls old new → (r : R) → Contains old r → Contains new r
  old_kept ls old new (more, at, h) r there = subst (λ xs. Contains xs r) (sym at) (Contains-append_left old more r there)

  pub row_added : (ls : List L) (old new : List R) → AddsShown Shows ls old new → (l : L) → Contains ls l → (r : R) × Contains new r × Shows l r
  row_added ls old new (more, at, h) l there =
      let found = row_of_line ls more h l there in
      (found.0, subst (λ xs. Contains xs found.0) (sym at) (Contains-append_right old more found.0 found.1), found.2)

  pub line_added : (ls : List L) (old new : List R) → AddsShown Shows ls old new → (r : R) → Contains new r → Contains old r ⊎ ((l : L) × Contains ls l × Shows l r)
  line_added ls old new (more, at, h) r there = ⊎_elim inl (λ later. inr (line_of_row ls more h r later)) (Contains-append_cases old more r (subst (λ xs. Contains xs r) at there))

-- ---- items that are picked

module _ {X Y : Type 0} (f : X → Option Y) where
  pub in_picked : (xs : List X) (y : Y) → Contains (filter_map f xs) y → (x : X) × Contains xs x × (f x ≡ Some y)
  in_picked [] y there = absurd (omega (arith, there.1))
  in_picked (x ∷ xs) y there = by (f x) refl (in_picked xs y) there
    where
      by : (o : Option Y) → f x ≡ o → (Contains (filter_map f xs) y → (z : X) × Contains xs z × (f z ≡ Some y)) → Contains (cons_option o (filter_map f xs)) y → (z : X) × Contains (x ∷ xs) z × (f z ≡ Some y)
      by None at rest more = let found = rest more in (found.0, Contains-append_right (x ∷ []) xs found.0 found.1, found.2)
      by (Some w) at rest (zero, less, is) = (x, (0, omega arith, refl), at ∙ ap Some is)
      by (Some w) at rest (suc k, less, is) = let found = rest (k, omega (arith, less), is) in (found.0, Contains-append_right (x ∷ []) xs found.0 found.1, found.2)

  pub picked_in : (xs : List X) (x : X) (y : Y) → Contains xs x → f x ≡ Some y → Contains (filter_map f xs) y
  picked_in [] x y there at = absurd (omega (arith, there.1))
  picked_in (z ∷ xs) x y (zero, less, is) at = subst (λ o. Contains (cons_option o (filter_map f xs)) y) (sym (ap f is ∙ at)) (0, omega arith, refl)
  picked_in (z ∷ xs) x y (suc k, less, is) at = by (f z) (picked_in xs x y (k, omega (arith, less), is) at)
    where
      by : (o : Option Y) → Contains (filter_map f xs) y → Contains (cons_option o (filter_map f xs)) y
      by None more = more
      by (Some w) more = Contains-append_right (w ∷ []) (filter_map f xs) y more
