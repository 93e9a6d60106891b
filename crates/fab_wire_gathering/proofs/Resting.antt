-- Who is there after a round.
use Rattle.std.proofs.Common.{◌≡◌, ℕ, ◌<◌, Bool, true, false, Option, Some, None, get_or, length, map, nat_le, slice_get, refl, sym, ap, ◌∙◌, subst, arith}
use Rattle.std.specs.Option.{option_map}
use Rattle.std.proofs.lemmas.Bool.{leb-false}
use Rattle.std.proofs.lemmas.Option.{slice_get-map, slice_get-get_or, slice_get_within}
use Rattle.fab_wire_deadlines.specs.Deadlines.{end_of, seen_by}
use Rattle.fab_wire_deadlines.specs.declared.deadline.Deadline.{Deadline}
use Rattle.fab_wire_gathering.specs.Guests.{given_up, given_up_ending, given_up_stage, goes_on}
use Rattle.fab_wire_gathering.specs.Rounds.{EachGoesOn, GoesOnSo, HasGoneOn, IsTimed, KeepResting, NobodyIsLate, RestsIn, given_up_if}
use Rattle.fab_wire_gathering.proofs.Rounds.{rests_same}
use Rattle.fab_wire_gathering.proofs.Takers.{stays_numbered}
use Rattle.fab_wire_gathering.specs.Seats.{Seats, HasSeat, SameSeats, given_up_at, numbered_in, without_gone, without_gone_in}
use Rattle.fab_wire_gathering.specs.declared.guest.Guest.{Guest}
use Rattle.fab_wire_gathering.specs.declared.guest.Stage.{Stage}
use Rattle.fab_wire_gathering.specs.declared.guest.Stage.TheVariants.{Sends, Waits, Takes, Taken, Unsent, Told, Leaves, Gone}

-- ---- one that rests

rests_not : (s : Stage) → RestsIn s → goes_on s ≡ false
rests_not Waits rests = refl
rests_not Taken rests = refl
rests_not Unsent rests = refl
rests_not Told rests = refl
rests_not Sends rests = absurd rests
rests_not Takes rests = absurd rests
rests_not (Leaves left) rests = absurd rests
rests_not Gone rests = absurd rests

-- as one of this stage is given up
abbrev at : Stage → ℕ → Guest → Guest
at s waited guest = numbered_in s (given_up_stage s) waited (record guest { stage = given_up_stage s; ending = given_up_ending s guest.ending })

same_at : (s : Stage) → RestsIn s → (waited : ℕ) (guest : Guest) → at s waited guest ≡ record guest { stage = s }
same_at Waits rests waited guest = refl
same_at Taken rests waited guest = refl
same_at Unsent rests waited guest = refl
same_at Told rests waited guest = refl
same_at Sends rests waited guest = absurd rests
same_at Takes rests waited guest = absurd rests
same_at (Leaves left) rests waited guest = absurd rests
same_at Gone rests waited guest = absurd rests

rests_given_up : (b : Bool) (waited : ℕ) (guest : Guest) → RestsIn guest.stage → given_up_if b waited guest ≡ guest
rests_given_up true waited guest rests = same_at guest.stage rests waited guest
rests_given_up false waited guest rests = refl

stays_in : (s : Stage) → RestsIn s → (guest : Guest) → without_gone_in s guest ≡ Some guest
stays_in Waits rests guest = refl
stays_in Taken rests guest = refl
stays_in Unsent rests guest = refl
stays_in Told rests guest = refl
stays_in Sends rests guest = absurd rests
stays_in Takes rests guest = absurd rests
stays_in (Leaves left) rests guest = absurd rests
stays_in Gone rests guest = absurd rests

-- whoever has a seat and goes on so has it still
seated_after : (so : Guest → Guest → Type 0) (old new : Seats) → EachGoesOn so old new → (q : ℕ) (guest : Guest) → HasSeat old q guest → (after : Guest) × HasSeat new q after × so guest after
seated_after so old new each q guest seated =
    let d = each.each q (Some guest) seated in
    (d.2.0, d.1 ∙ ap (λ (o : Option Guest). Some o) d.2.1, d.2.2)

module _ (now : ℕ) (old mid timed new : Seats) (on : EachGoesOn HasGoneOn old mid) (late : EachGoesOn (IsTimed now) mid timed) (same : SameSeats (map without_gone timed) new) where
  pub keep_resting : KeepResting old new
  keep_resting q guest seated rests =
      let one = seated_after HasGoneOn old mid on q guest seated in
      let is : one.0 ≡ guest = rests_same guest one.0 (rests_not guest.stage rests) one.2 in
      let two = seated_after (IsTimed now) mid timed late q guest (subst (HasSeat mid q) is one.1) in
      let deadline = two.2.0 in
      let after = record guest { deadline = deadline } in
      let kept : two.0 ≡ after = two.2.4 ∙ rests_given_up (nat_le (end_of deadline) (seen_by deadline)) two.2.1 after rests in
      let there : HasSeat timed q after = subst (HasSeat timed q) kept two.1 in
      let stays : HasSeat (map without_gone timed) q after = slice_get-map without_gone timed q ∙ ap (option_map without_gone) there ∙ ap (λ (o : Option Guest). Some o) (stays_in after.stage rests after) in
      (deadline, two.2.2, (same q after).0 stays)

-- ---- one that is late

gives_up_rests : (s : Stage) → goes_on (given_up_stage s) ≡ false
gives_up_rests Sends = refl
gives_up_rests Waits = refl
gives_up_rests Takes = refl
gives_up_rests Taken = refl
gives_up_rests Unsent = refl
gives_up_rests Told = refl
gives_up_rests (Leaves left) = refl
gives_up_rests Gone = refl

given_up_rests : (waited : ℕ) (guest : Guest) → goes_on (given_up_at waited guest).stage ≡ false
given_up_rests waited guest = ap goes_on (stays_numbered guest.stage (given_up_stage guest.stage) waited (given_up guest)) ∙ gives_up_rests guest.stage

not_late : (now : ℕ) (guest after : Guest) → IsTimed now guest after → goes_on after.stage ≡ true → now < end_of after.deadline
not_late now guest after timed goes = by (nat_le (end_of deadline) (seen_by deadline)) refl
  where
    deadline : Deadline
    deadline = timed.0

    by : (b : Bool) → nat_le (end_of deadline) (seen_by deadline) ≡ b → now < end_of after.deadline
    by true is =
        let up : after ≡ given_up_at timed.1 (record guest { deadline = deadline }) = timed.4 ∙ ap (λ b. given_up_if b timed.1 (record guest { deadline = deadline })) is in
        let e : ◌≡◌ {A = Bool} true false = sym goes ∙ ap (λ (g : Guest). goes_on g.stage) up ∙ given_up_rests timed.1 (record guest { deadline = deadline }) in
        absurd cc
    by false is =
        let kept : after ≡ record guest { deadline = deadline } = timed.4 ∙ ap (λ b. given_up_if b timed.1 (record guest { deadline = deadline })) is in
        let before : seen_by deadline < end_of deadline = leb-false (end_of deadline) (seen_by deadline) is in
        let seen = timed.3 in
        subst (λ (g : Guest). now < end_of g.deadline) (sym kept) (omega (arith, before, seen))

-- whoever is there was there
was_there : (so : Guest → Guest → Type 0) (old new : Seats) → EachGoesOn so old new → (q : ℕ) (guest : Guest) → HasSeat new q guest → (before : Guest) × so before guest
was_there so old new each q guest seated = by (slice_get old q) refl
  where
    within : q < length old
    within = subst (λ n. q < n) each.seats (slice_get_within new q (Some guest) seated)

    seat : Option Guest
    seat = get_or old q None

    has : slice_get old q ≡ Some seat
    has = slice_get-get_or old q None within

    from : (s : Option Guest) → GoesOnSo so s (Some guest) → (before : Guest) × so before guest
    from None none = let e : ◌≡◌ {A = Option Guest} (Some guest) None = none in absurd cc
    from (Some before) some = (before, subst (so before) (let e : ◌≡◌ {A = Option Guest} (Some guest) (Some some.0) = some.1 in cc) some.2)

    by : (o : Option (Option Guest)) → slice_get old q ≡ o → (before : Guest) × so before guest
    by o is =
        let d = each.each q seat has in
        let after : d.0 ≡ Some guest = let e : ◌≡◌ {A = Option (Option Guest)} (Some d.0) (Some (Some guest)) = sym d.1 ∙ seated in cc in
        from seat (subst (GoesOnSo so seat) after d.2)

without : (s : Stage) (one guest : Guest) → without_gone_in s one ≡ Some guest → one ≡ guest
without Gone one guest e = absurd (let f : ◌≡◌ {A = Option Guest} None (Some guest) = e in cc)
without Sends one guest e = let f : ◌≡◌ {A = Option Guest} (Some one) (Some guest) = e in cc
without Waits one guest e = let f : ◌≡◌ {A = Option Guest} (Some one) (Some guest) = e in cc
without Takes one guest e = let f : ◌≡◌ {A = Option Guest} (Some one) (Some guest) = e in cc
without Taken one guest e = let f : ◌≡◌ {A = Option Guest} (Some one) (Some guest) = e in cc
without Unsent one guest e = let f : ◌≡◌ {A = Option Guest} (Some one) (Some guest) = e in cc
without Told one guest e = let f : ◌≡◌ {A = Option Guest} (Some one) (Some guest) = e in cc
without (Leaves left) one guest e = let f : ◌≡◌ {A = Option Guest} (Some one) (Some guest) = e in cc

had_seat : (seats : Seats) (q : ℕ) (guest : Guest) → HasSeat (map without_gone seats) q guest → HasSeat seats q guest
had_seat seats q guest seated = by (slice_get seats q) refl
  where
    mapped : option_map without_gone (slice_get seats q) ≡ Some (Some guest)
    mapped = sym (slice_get-map without_gone seats q) ∙ seated

    by : (o : Option (Option Guest)) → slice_get seats q ≡ o → HasSeat seats q guest
    by None is = let e : ◌≡◌ {A = Option (Option Guest)} None (Some (Some guest)) = sym (ap (option_map without_gone) is) ∙ mapped in absurd cc
    by (Some None) is = let e : ◌≡◌ {A = Option (Option Guest)} (Some None) (Some (Some guest)) = sym (ap (option_map without_gone) is) ∙ mapped in absurd cc
    by (Some (Some one)) is =
        let e : ◌≡◌ {A = Option (Option Guest)} (Some (without_gone_in one.stage one)) (Some (Some guest)) = sym (ap (option_map without_gone) is) ∙ mapped in
        let stays : without_gone_in one.stage one ≡ Some guest = cc in
        is ∙ ap (λ (g : Guest). Some (Some g)) (without one.stage one guest stays)

pub nobody_late : (now : ℕ) (mid timed new : Seats) → EachGoesOn (IsTimed now) mid timed → SameSeats (map without_gone timed) new → NobodyIsLate now new
nobody_late now mid timed new late same q guest seated goes =
    let there = had_seat timed q guest ((same q guest).1 seated) in
    let was = was_there (IsTimed now) mid timed late q guest there in
    not_late now was.0 guest was.1 goes
