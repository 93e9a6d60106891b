-- Lines that wait, become others, and come into the log in their order.
use Rattle.std.proofs.Common.{◌≡◌, ℕ, zero, suc, unwrap_or, ◌+◌, ◌<◌, ◌⊎◌, inl, inr, refl, sym, subst, ap, ◌∙◌, arith, List, [], ◌∷◌, ◌++◌, length, append_assoc, Option, None, Some}
use Rattle.std.specs.Prelude.{Bool, codes, slice_set, slice_index_or, IsSome}
use Rattle.fab_wire_streams.specs.declared.counted.Counted.{Counted}
use Rattle.fab_wire_log.specs.Pending.{IsMarked, IsEnded, EndsAt, AreMarked, AreNoted, Advances}
use Rattle.fab_wire_log.specs.Shown.{shown_text}
use Rattle.fab_wire_log.specs.declared.pending.Line.{Line}

-- what is as it was or is u, twice
either_twice : {X : Type 0} (a b c u : X) → (b ≡ a) ⊎ (b ≡ u) → (c ≡ b) ⊎ (c ≡ u) → (c ≡ a) ⊎ (c ≡ u)
either_twice a b c u h (inr k) = inr k
either_twice a b c u (inl h) (inl k) = inl (k ∙ h)
either_twice a b c u (inr h) (inl k) = inr (k ∙ h)

-- a number that is there is that number, whatever stands for none
pub known_number : (o : Option ℕ) (d n : ℕ) → IsSome o → n ≡ unwrap_or o d → o ≡ Some n
known_number None d n h e = absurd (cc h)
known_number (Some x) d n h e = ap Some (sym e)

module _ (tells : ℕ → Type 0) (fails : Type 0) where
  -- what a line became became another
  pub marked_twice : (x y z : Line) → IsMarked tells fails x y → IsMarked tells fails y z → IsMarked tells fails x z
  marked_twice x y z (inl e) k = subst (λ (w : Line). IsMarked tells fails w z) e k
  marked_twice x y z (inr h) (inl e) = subst (λ (w : Line). IsMarked tells fails x w) (sym e) (inr h)
  marked_twice x y z (inr (moment, start, shown, timed)) (inr (moment', start', shown', timed')) =
      inr (moment' ∙ moment, start' ∙ start, either_twice (shown_text x.shown) (shown_text y.shown) (shown_text z.shown) (codes "unsent") shown shown', timed')

  pub are_marked_refl : (lines : List Line) → AreMarked tells fails lines lines
  are_marked_refl [] = tt
  are_marked_refl (line ∷ lines) = (inl refl, are_marked_refl lines)

  pub are_marked_twice : (xs ys zs : List Line) → AreMarked tells fails xs ys → AreMarked tells fails ys zs → AreMarked tells fails xs zs
  are_marked_twice [] [] zs h k = k
  are_marked_twice [] (y ∷ ys) zs h k = absurd h
  are_marked_twice (x ∷ xs) [] zs h k = absurd h
  are_marked_twice (x ∷ xs) (y ∷ ys) [] h k = absurd k
  are_marked_twice (x ∷ xs) (y ∷ ys) (z ∷ zs) h k = (marked_twice x y z h.0 k.0, are_marked_twice xs ys zs h.1 k.1)

  pub are_marked_behind : (front xs ys : List Line) → AreMarked tells fails xs ys → AreMarked tells fails (front ++ xs) (front ++ ys)
  are_marked_behind [] xs ys h = h
  are_marked_behind (line ∷ front) xs ys h = (inl refl, are_marked_behind front xs ys h)

  -- one of them became another
  pub are_marked_at : (lines : List Line) (i : ℕ) (old new : Line) → old ≡ slice_index_or lines i old → IsMarked tells fails old new → AreMarked tells fails lines (slice_set lines i new)
  are_marked_at [] i old new e h = tt
  are_marked_at (x ∷ lines) zero old new e h = (subst (λ (w : Line). IsMarked tells fails w new) e h, are_marked_refl lines)
  are_marked_at (x ∷ lines) (suc i) old new e h = (inl refl, are_marked_at lines i old new e h)

  -- the turn of one of them ended
  pub ends_at : (lines : List Line) (i : ℕ) (is_taken : Bool) (old new : Line) → i < length lines → old ≡ slice_index_or lines i old → IsEnded tells fails is_taken old new
      → EndsAt tells fails i is_taken lines (slice_set lines i new)
  ends_at [] i is_taken old new h e k = absurd (omega arith)
  ends_at (x ∷ lines) zero is_taken old new h e k = ([], old, new, lines, refl, ap (λ (w : Line). w ∷ lines) (sym e), refl, k)
  ends_at (x ∷ lines) (suc i) is_taken old new h e k =
      let (front, was, became, behind, place, before, after, ended) = ends_at lines i is_taken old new (omega arith) e k in
      (x ∷ front, was, became, behind, omega arith, ap (λ (w : List Line). x ∷ w) before, ap (λ (w : List Line). x ∷ w) after, ended)

  pub marked_length : (xs ys : List Line) → AreMarked tells fails xs ys → length ys ≡ length xs
  marked_length [] [] h = refl
  marked_length [] (y ∷ ys) h = absurd h
  marked_length (x ∷ xs) [] h = absurd h
  marked_length (x ∷ xs) (y ∷ ys) h = let e = marked_length xs ys h.1 in omega (arith, e)

  module _ {W : Type 0} (contents : W → Option (List ℕ)) where
    noted_behind : (log : Counted W) (xs ys : List Line) (mid last : Counted W) → AreNoted contents log xs mid → AreNoted contents mid ys last → AreNoted contents log (xs ++ ys) last
    noted_behind log [] ys mid last h k = subst (λ (w : Counted W). AreNoted contents w ys last) h k
    noted_behind log (x ∷ xs) ys mid last h k = (h.0, h.1, h.2, h.3, noted_behind h.0 xs ys mid last h.4 k)

    pub advances_refl : (log : Counted W) (lines : List Line) → Advances tells fails contents log lines log lines
    advances_refl log lines = ([], are_marked_refl lines, refl)

    pub advances_marked : (log : Counted W) (lines marked : List Line) → AreMarked tells fails lines marked → Advances tells fails contents log lines log marked
    advances_marked log lines marked h = ([], h, refl)

    pub advances_twice : (log : Counted W) (xs : List Line) (mid : Counted W) (ys : List Line) (last : Counted W) (zs : List Line)
        → Advances tells fails contents log xs mid ys → Advances tells fails contents mid ys last zs → Advances tells fails contents log xs last zs
    advances_twice log xs mid ys last zs (first, marked, noted) (second, marked', noted') = (
      first ++ second,
      rw (append_assoc first second zs) (are_marked_twice xs (first ++ ys) (first ++ (second ++ zs)) marked (are_marked_behind first ys (second ++ zs) marked')),
      noted_behind log first second mid last noted noted',
    )
