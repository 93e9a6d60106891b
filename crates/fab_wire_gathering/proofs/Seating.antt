-- The first of the seats, seat by seat.
use Rattle.std.proofs.Common.{◌≡◌, ℕ, ◌<◌, ◌≤◌, ◌+◌, length, Option, None, Some, false, slice_get, inl, inr, refl, sym, ap, ◌∙◌, subst, arith}
use Rattle.std.specs.declared.cmp.Ordering.{Ordering}
use Rattle.std.specs.declared.cmp.Ordering.TheVariants.{Less, Equal, Greater}
use Rattle.std.specs.Ordering.{is_gt, ordering_reverse}
use Rattle.std.specs.Cmp.{IsTotalOrder, tied_itself}
use Rattle.std.specs.Option.{option_and_then}
use Rattle.std.proofs.lemmas.Bool.{cases_lt}
use Rattle.std.proofs.lemmas.Cmp.{upto}
use Rattle.std.proofs.lemmas.Option.{slice_get_within}
use Rattle.fab_wire_gathering.specs.Seats.{Seats, HasSeat, ComesFirst}
use Rattle.fab_wire_gathering.specs.Inner.Seating.{earlier_of, earlier}
use Rattle.fab_wire_gathering.specs.declared.guest.Guest.{Guest}

module _ {K : Type 0} {R : K → K → Ordering} (total : IsTotalOrder R) (has : Guest → Option K) (seats : Seats) where
  -- the one of the first n seats who comes first
  pub record Leads (n : ℕ) (first : ℕ × K) : Type 0 where
    pub guest : Guest
    pub seated : HasSeat seats first.0 guest
    pub is : has guest ≡ Some first.1
    pub least : (q : ℕ) (other : Guest) (y : K) → q < n → HasSeat seats q other → has other ≡ Some y → is_gt (R first.1 y) ≡ false

  abbrev pub SoFar : ℕ → Option (ℕ × K) → Type 0
  SoFar n None = (q : ℕ) (guest : Guest) → q < n → HasSeat seats q guest → has guest ≡ None
  SoFar n (Some first) = Leads n first

  pub none_so_far : SoFar 0 None
  none_so_far q guest less = absurd (omega (arith, less))

  -- a place before the next is before this one, or is this one
  here : (n q : ℕ) → q < n + 1 → ¬ (q < n) → q ≡ n
  here n q less not = omega (arith, less, not)

  less_upto : (k y : K) → R k y ≡ Less → is_gt (R k y) ≡ false
  less_upto k y e = ap is_gt e

  -- one that is not less has nothing after it
  not_less_upto : (k y : K) (r : Ordering) → R k y ≡ ordering_reverse r → is_gt r ≡ false → is_gt (R y k) ≡ false
  not_less_upto k y r e h = ap is_gt (total.antisymm y k ∙ ap ordering_reverse e ∙ back r) ∙ h
    where
      back : (r : Ordering) → ordering_reverse (ordering_reverse r) ≡ r
      back Less = refl
      back Equal = refl
      back Greater = refl

  upto_itself : (k : K) → is_gt (R k k) ≡ false
  upto_itself k = ap is_gt (tied_itself total k)

  same_seat : (n : ℕ) (seat : Option Guest) (guest : Guest) → slice_get seats n ≡ Some seat → (q : ℕ) → q ≡ n → HasSeat seats q guest → seat ≡ Some guest
  same_seat n seat guest at q is seated = let e : ◌≡◌ {A = Option (Option Guest)} (Some seat) (Some (Some guest)) = sym at ∙ subst (λ p. HasSeat seats p guest) is seated in cc

  same_has : (seat : Option Guest) (guest : Guest) → seat ≡ Some guest → option_and_then has seat ≡ has guest
  same_has seat guest is = ap (option_and_then has) is

  same_key : (k y : K) → ◌≡◌ {A = Option K} (Some k) (Some y) → k ≡ y
  same_key k y e = cc

  module _ (n : ℕ) (seat : Option Guest) (at : slice_get seats n ≡ Some seat) where
    -- nobody more
    more_none : option_and_then has seat ≡ None → (first : Option (ℕ × K)) → SoFar n first → SoFar (n + 1) first
    more_none none None so_far = λ q guest less seated. elim (cases_lt q n) [
      | inl l ↦ so_far q guest l seated
      | inr ge ↦ let is : q ≡ n = omega (arith, less, ge) in sym (same_has seat guest (same_seat n seat guest at q is seated)) ∙ none
    ]
    more_none none (Some first) so_far = record {
      guest = so_far.guest;
      seated = so_far.seated;
      is = so_far.is;
      least = λ q other y less seated have. elim (cases_lt q n) [
        | inl l ↦ so_far.least q other y l seated have
        | inr ge ↦
            let is : q ≡ n = omega (arith, less, ge) in
            let e : ◌≡◌ {A = Option K} None (Some y) = sym none ∙ same_has seat other (same_seat n seat other at q is seated) ∙ have in
            absurd cc
      ];
    }

    module _ (k : K) (some : option_and_then has seat ≡ Some k) where
      key_here : (q : ℕ) (other : Guest) (y : K) → q ≡ n → HasSeat seats q other → has other ≡ Some y → k ≡ y
      key_here q other y is seated have = same_key k y (sym some ∙ same_has seat other (same_seat n seat other at q is seated) ∙ have)

      -- the one here is the first of all
      leads_here : (guest : Guest) → seat ≡ Some guest → ((q : ℕ) (other : Guest) (y : K) → q < n → HasSeat seats q other → has other ≡ Some y → is_gt (R k y) ≡ false) → Leads (n + 1) (n, k)
      leads_here guest is least = record {
        guest = guest;
        seated = at ∙ ap Some is;
        is = sym (same_has seat guest is) ∙ some;
        least = λ q other y less seated have. elim (cases_lt q n) [
          | inl l ↦ least q other y l seated have
          | inr ge ↦ let here_is : q ≡ n = omega (arith, less, ge) in subst (λ z. is_gt (R k z) ≡ false) (key_here q other y here_is seated have) (upto_itself k)
        ];
      }

      leads_on : (first : ℕ × K) → Leads n first → is_gt (R first.1 k) ≡ false → Leads (n + 1) first
      leads_on first leads upto_k = record {
        guest = leads.guest;
        seated = leads.seated;
        is = leads.is;
        least = λ q other y less seated have. elim (cases_lt q n) [
          | inl l ↦ leads.least q other y l seated have
          | inr ge ↦ let here_is : q ≡ n = omega (arith, less, ge) in subst (λ z. is_gt (R first.1 z) ≡ false) (key_here q other y here_is seated have) upto_k
        ];
      }

      more_some : (guest : Guest) → seat ≡ Some guest → (first : Option (ℕ × K)) → SoFar n first → SoFar (n + 1) (earlier R first n (Some k))
      more_some guest is None so_far = leads_here guest is (λ q other y less seated have. let e : ◌≡◌ {A = Option K} None (Some y) = sym (so_far q other less seated) ∙ have in absurd cc)
      more_some guest is (Some first) so_far = by (R k first.1) refl
        where
          by : (r : Ordering) → R k first.1 ≡ r → SoFar (n + 1) (earlier_of first n k r)
          by Less e = leads_here guest is (λ q other y less seated have. upto total k first.1 y (less_upto k first.1 e) (so_far.least q other y less seated have))
          by Equal e = leads_on first so_far (not_less_upto k first.1 Equal e refl)
          by Greater e = leads_on first so_far (not_less_upto k first.1 Less e refl)

  -- one seat more
  pub one_more : (n : ℕ) (seat : Option Guest) (first : Option (ℕ × K)) → slice_get seats n ≡ Some seat → SoFar n first → SoFar (n + 1) (earlier R first n (option_and_then has seat))
  one_more n None first at so_far = more_none n None at refl first so_far
  one_more n (Some guest) first at so_far = by (has guest) refl
    where
      by : (o : Option K) → has guest ≡ o → SoFar (n + 1) (earlier R first n o)
      by None e = more_none n (Some guest) at e first so_far
      by (Some k) e = more_some n (Some guest) at k e guest refl first so_far

  -- all seats
  pub all_first : (n : ℕ) (first : ℕ × K) → length seats ≤ n → Leads n first → ComesFirst R has seats first.0
  all_first n first all leads = record {
    guest = leads.guest;
    seated = leads.seated;
    has = first.1;
    is = leads.is;
    least = λ q other y seated have. let within = slice_get_within seats q (Some other) seated in leads.least q other y (omega (arith, within, all)) seated have;
  }

  pub all_none : (n : ℕ) → length seats ≤ n → SoFar n None → (q : ℕ) (guest : Guest) → HasSeat seats q guest → has guest ≡ None
  all_none n all so_far q guest seated = let within = slice_get_within seats q (Some guest) seated in so_far q guest (omega (arith, within, all)) seated
