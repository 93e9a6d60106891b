-- Everybody goes on, seat by seat.
use Rattle.std.proofs.Common.{◌≡◌, ◌≢◌, ℕ, ◌+◌, ◌<◌, ◌≤◌, length, Option, Some, None, inl, inr, set, take, drop, ◌++◌, get_or, slice_get, refl, sym, ap, ◌∙◌, subst, arith}
use Rattle.std.proofs.lemmas.Bool.{cases_lt, cases_order}
use Rattle.std.proofs.lemmas.List.{length-set}
use Rattle.std.proofs.Math.Seq.{take-append_seam}
use Rattle.std.proofs.lemmas.Option.{slice_get_within, slice_get-get_or}
use Rattle.fab_wire_gathering.specs.Rounds.{EachGoesOn, GoesOnSo}
use Rattle.fab_wire_gathering.specs.Seats.{Seats}
use Rattle.fab_wire_gathering.specs.declared.guest.Guest.{Guest}
use Rattle.fab_wire_gathering.proofs.Taken.{set_elsewhere, set_there}

module _ (so : Guest → Guest → Type 0) (old : Seats) where
  -- those of the first n seats have gone on, the others are as they were
  pub record HaveGoneOn (n : ℕ) (now : Seats) : Type 0 where
    pub seats : length now ≡ length old
    pub done : (q : ℕ) (seat : Option Guest) → q < n → slice_get old q ≡ Some seat → (after : Option Guest) × (slice_get now q ≡ Some after) × GoesOnSo so seat after
    pub rest : (q : ℕ) (seat : Option Guest) → n ≤ q → slice_get old q ≡ Some seat → slice_get now q ≡ Some seat

  pub none_yet : HaveGoneOn 0 old
  none_yet = record {
    seats = refl;
    done = λ q seat less at. absurd (omega (arith, less));
    rest = λ q seat from at. at;
  }

  module _ (n : ℕ) (now : Seats) (here after : Option Guest) (have : HaveGoneOn n now) (at : slice_get now n ≡ Some here) (goes : GoesOnSo so here after) where
    within : n < length now
    within = slice_get_within now n here at

    same : (q : ℕ) (seat : Option Guest) → q ≡ n → slice_get old q ≡ Some seat → here ≡ seat
    same q seat is was =
        let rest = have.rest q seat (omega (arith, is)) was in
        let e : ◌≡◌ {A = Option (Option Guest)} (Some here) (Some seat) = sym at ∙ subst (λ p. slice_get now p ≡ Some seat) is rest in
        cc

    others : (q : ℕ) → ¬ (q ≡ n) → q ≢ n
    others q not is = not is

    one_more : HaveGoneOn (n + 1) (set now n after)
    one_more = record {
      seats = length-set now n after ∙ have.seats;
      done = λ q seat less was. elim (cases_lt q n) [
        | inl l ↦
            let d = have.done q seat l was in
            let apart : q ≢ n = λ is. omega (arith, l, is) in
            (d.0, set_elsewhere now n after q d.0 apart d.1, d.2)
        | inr ge ↦
            let is : q ≡ n = omega (arith, less, ge) in
            (after, subst (λ p. slice_get (set now n after) p ≡ Some after) (sym is) (set_there now n after within), subst (λ s. GoesOnSo so s after) (same q seat is was) goes)
      ];
      rest = λ q seat from was.
          let apart : q ≢ n = λ is. omega (arith, from, is) in
          set_elsewhere now n after q seat apart (have.rest q seat (omega (arith, from)) was);
    }

  pub all_have : (n : ℕ) (now : Seats) → length old ≤ n → HaveGoneOn n now → EachGoesOn so old now
  all_have n now all have = record {
    seats = have.seats;
    each = λ q seat was. let within = slice_get_within old q seat was in have.done q seat (omega (arith, within, all)) was;
  }

  -- as a loop over all seats leaves them
  pub all_written : (n len : ℕ) (now : Seats) → len ≡ length old → length old ≤ n → HaveGoneOn n now → EachGoesOn so old (take len (now ++ drop (length now) old))
  all_written n len now is all have =
      let whole = ap (λ k. take k (now ++ drop (length now) old)) (is ∙ sym have.seats) ∙ take-append_seam now (drop (length now) old) in
      subst (EachGoesOn so old) (sym whole) (all_have n now all have)

  -- the seat that a loop is at
  pub next_one : (n : ℕ) (now : Seats) (d after : Option Guest) → n < length now → HaveGoneOn n now → GoesOnSo so (get_or now n d) after → HaveGoneOn (n + 1) (set now n after)
  next_one n now d after within have goes = one_more n now (get_or now n d) after have (slice_get-get_or now n d within) goes

  module _ (trans : (a b c : Guest) → so a b → so b c → so a c) where
    twice : (seat mid after : Option Guest) → GoesOnSo so seat mid → GoesOnSo so mid after → GoesOnSo so seat after
    twice None mid after none goes = subst (λ s. GoesOnSo so s after) none goes
    twice (Some guest) mid after some goes =
        let g = subst (λ s. GoesOnSo so s after) some.1 goes in
        (g.0, g.1, trans guest some.0 g.0 some.2 g.2)

    -- one of them goes on once more
    pub one_again : (now : Seats) (place : ℕ) (here after : Option Guest) → EachGoesOn so old now → slice_get now place ≡ Some here → GoesOnSo so here after → EachGoesOn so old (set now place after)
    one_again now place here after each at goes = record {
      seats = length-set now place after ∙ each.seats;
      each = λ q seat was.
          let d = each.each q seat was in
          elim (cases_order q place) [
            | inl is ↦
                let e : ◌≡◌ {A = Option (Option Guest)} (Some d.0) (Some here) = sym (subst (λ p. slice_get now p ≡ Some d.0) is d.1) ∙ at in
                let same : d.0 ≡ here = cc in
                (after, subst (λ p. slice_get (set now place after) p ≡ Some after) (sym is) (set_there now place after (slice_get_within now place here at)), twice seat here after (subst (GoesOnSo so seat) same d.2) goes)
            | inr less ↦
                let apart : q ≢ place = λ is. elim less [ inl a ↦ omega (arith, a, is) | inr b ↦ omega (arith, b, is) ] in
                (d.0, set_elsewhere now place after q d.0 apart d.1, d.2)
          ];
    }

    pub all_again : (mid new : Seats) → EachGoesOn so old mid → EachGoesOn so mid new → EachGoesOn so old new
    all_again mid new one other = record {
      seats = other.seats ∙ one.seats;
      each = λ q seat was.
          let d = one.each q seat was in
          let e = other.each q d.0 d.1 in
          (e.0, e.1, twice seat d.0 e.0 d.2 e.2);
    }

  pub all_stay : ((guest : Guest) → so guest guest) → EachGoesOn so old old
  all_stay itself = record {
    seats = refl;
    each = λ q seat was. (seat, was, stays seat);
  }
    where
      stays : (seat : Option Guest) → GoesOnSo so seat seat
      stays None = refl
      stays (Some guest) = (guest, refl, itself guest)
