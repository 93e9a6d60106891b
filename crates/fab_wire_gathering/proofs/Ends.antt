-- The first of all ends, seat by seat.
use Rattle.std.proofs.Common.{◌≡◌, ℕ, ◌≤◌, ◌<◌, ◌+◌, ◌⊎◌, Bool, length, min, Option, Some, None, inl, inr, slice_get, sym, ◌∙◌, subst, arith}
use Rattle.std.proofs.lemmas.Bool.{cases_lt}
use Rattle.std.proofs.lemmas.Option.{slice_get_within}
use Rattle.fab_wire_deadlines.specs.Deadlines.{end_after}
use Rattle.fab_wire_gathering.specs.Ends.{IsFirstEnd}
use Rattle.fab_wire_gathering.specs.Inner.Seating.{IsSooner}
use Rattle.fab_wire_gathering.specs.Seats.{Seats, HasSeat, ends_at, most_waiting}
use Rattle.fab_wire_gathering.specs.declared.guest.Guest.{Guest}

module _ (crowded : Bool) (tried : ℕ) (seats : Seats) where
  -- the first end of the first n seats
  pub record EndsSoFar (n end : ℕ) : Type 0 where
    pub upto_tried : end ≤ end_after tried most_waiting
    pub upto_each : (place : ℕ) (guest : Guest) → place < n → HasSeat seats place guest → end ≤ ends_at crowded guest
    pub is : (end ≡ end_after tried most_waiting) ⊎ ((place : ℕ) × (guest : Guest) × HasSeat seats place guest × (end ≡ ends_at crowded guest))

  pub none_yet : (end : ℕ) → end ≡ end_after tried most_waiting → EndsSoFar 0 end
  none_yet end is = record { upto_tried = omega (arith, is); upto_each = λ place guest less seated. absurd (omega (arith, less)); is = inl is }

  module _ (n end : ℕ) (first : EndsSoFar n end) where
    nobody_more : slice_get seats n ≡ Some None → EndsSoFar (n + 1) end
    nobody_more free = record {
      upto_tried = first.upto_tried;
      upto_each = λ place guest less seated. elim (cases_lt place n) [
        | inl l ↦ first.upto_each place guest l seated
        | inr ge ↦
            let is : place ≡ n = omega (arith, less, ge) in
            let e : ◌≡◌ {A = Option (Option Guest)} (Some None) (Some (Some guest)) = sym free ∙ subst (λ q. HasSeat seats q guest) is seated in
            absurd cc
      ];
      is = first.is;
    }

    module _ (guest : Guest) (new : ℕ) (seated : HasSeat seats n guest) (least : new ≡ min end (ends_at crowded guest)) where
      here : (place : ℕ) (other : Guest) → place ≡ n → HasSeat seats place other → guest ≡ other
      here place other is there = let e : ◌≡◌ {A = Option (Option Guest)} (Some (Some guest)) (Some (Some other)) = sym seated ∙ subst (λ q. HasSeat seats q other) is there in cc

      one_of_two : (end ≤ ends_at crowded guest) ⊎ (ends_at crowded guest < end) → (new ≡ end_after tried most_waiting) ⊎ ((place : ℕ) × (one : Guest) × HasSeat seats place one × (new ≡ ends_at crowded one))
      one_of_two (inl upto) = let same : new ≡ end = omega (arith, least, upto) in subst (λ e. (e ≡ end_after tried most_waiting) ⊎ ((place : ℕ) × (one : Guest) × HasSeat seats place one × (e ≡ ends_at crowded one))) (sym same) first.is
      one_of_two (inr past) = inr (n, guest, seated, omega (arith, least, past))

      order : (a b : ℕ) → (a ≤ b) ⊎ (b < a)
      order a b = elim (cases_lt b a) [ inl l ↦ inr l | inr ge ↦ inl (omega (arith, ge)) ]

      one_more : EndsSoFar (n + 1) new
      one_more = record {
        upto_tried = let upto = first.upto_tried in omega (arith, least, upto);
        upto_each = λ place other less there. elim (cases_lt place n) [
          | inl l ↦ let upto = first.upto_each place other l there in omega (arith, least, upto)
          | inr ge ↦
              let is : place ≡ n = omega (arith, less, ge) in
              subst (λ g. new ≤ ends_at crowded g) (here place other is there) (omega (arith, least))
        ];
        is = one_of_two (order end (ends_at crowded guest));
      }

  -- one seat more
  pub seat_more : (n end new : ℕ) (seat : Option Guest) → slice_get seats n ≡ Some seat → EndsSoFar n end → IsSooner crowded seat end new → EndsSoFar (n + 1) new
  seat_more n end new None at first same = subst (EndsSoFar (n + 1)) (sym same) (nobody_more n end first at)
  seat_more n end new (Some guest) at first least = one_more n end first guest new at least

  pub all_ends : (n end : ℕ) → length seats ≤ n → EndsSoFar n end → IsFirstEnd crowded tried seats end
  all_ends n end all first = record {
    upto_tried = first.upto_tried;
    upto_each = λ place guest seated. let within = slice_get_within seats place (Some guest) seated in first.upto_each place guest (omega (arith, within, all)) seated;
    is = first.is;
  }
