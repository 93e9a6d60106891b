-- Who take their answers, and what is kept of these.
use Rattle.std.proofs.Common.{◌≡◌, ℕ, ◌+◌, ◌<◌, ◌≤◌, zero, suc, [], ◌∷◌, length, Option, Some, None, set, drop, min, refl, sym, ap, ◌∙◌, arith}
use Rattle.std.specs.declared.time.Instant.{Instant}
use Rattle.std.proofs.Math.Seq.{drop-length}
use Rattle.fab_wire_deadlines.specs.Deadlines.{end_time}
use Rattle.fab_wire_gathering.specs.Guests.{given_up, given_up_stage}
use Rattle.fab_wire_gathering.specs.Seats.{Seats, HasSeat, given_up_at, numbered_in, kept_at, kept_by, kept_in, takes_in, takes_until}
use Rattle.fab_wire_gathering.specs.Inner.Takers.{takers_in}
use Rattle.fab_wire_gathering.specs.Inner.Takers as takers
use Rattle.fab_wire_gathering.specs.declared.guest.Guest.{Guest}
use Rattle.fab_wire_gathering.specs.declared.guest.Stage.{Stage}
use Rattle.fab_wire_gathering.specs.declared.guest.Stage.TheVariants.{Sends, Waits, Takes, Taken, Unsent, Told, Leaves, Gone}

-- one that has an end takes its answer
pub takes : (s : Stage) (end t : Instant) → takes_in s end ≡ Some t → s ≡ Takes
takes Takes end t e = refl
takes Sends end t e = absurd (let f : ◌≡◌ {A = Option Instant} None (Some t) = e in cc)
takes Waits end t e = absurd (let f : ◌≡◌ {A = Option Instant} None (Some t) = e in cc)
takes Taken end t e = absurd (let f : ◌≡◌ {A = Option Instant} None (Some t) = e in cc)
takes Unsent end t e = absurd (let f : ◌≡◌ {A = Option Instant} None (Some t) = e in cc)
takes Told end t e = absurd (let f : ◌≡◌ {A = Option Instant} None (Some t) = e in cc)
takes (Leaves left) end t e = absurd (let f : ◌≡◌ {A = Option Instant} None (Some t) = e in cc)
takes Gone end t e = absurd (let f : ◌≡◌ {A = Option Instant} None (Some t) = e in cc)

-- of one that has none nothing is kept
keeps_none : (s : Stage) (end : Instant) (size : ℕ) → takes_in s end ≡ None → kept_at s size ≡ 0
keeps_none Takes end size e = absurd (let f : ◌≡◌ {A = Option Instant} (Some end) None = e in cc)
keeps_none Sends end size e = refl
keeps_none Waits end size e = refl
keeps_none Taken end size e = refl
keeps_none Unsent end size e = refl
keeps_none Told end size e = refl
keeps_none (Leaves left) end size e = refl
keeps_none Gone end size e = refl

none_by : (seat : Option Guest) → ((guest : Guest) → seat ≡ Some guest → takes_until guest ≡ None) → kept_by seat ≡ 0
none_by None none = refl
none_by (Some guest) none = keeps_none guest.stage (end_time guest.deadline) (length guest.bytes.items) (none guest refl)

-- where nobody takes an answer nothing is kept
pub none_kept : (seats : Seats) → ((q : ℕ) (guest : Guest) → HasSeat seats q guest → takes_until guest ≡ None) → kept_in seats ≡ 0
none_kept [] none = refl
none_kept (seat ∷ seats) none =
    let here = none_by seat (λ guest is. none 0 guest (ap (λ (o : Option Guest). Some o) is)) in
    let there = none_kept seats (λ q guest seated. none (suc q) guest seated) in
    omega (arith, here, there)

-- at the end of a walk through the seats
pub all_kept : (seats : Seats) (i all most : ℕ) → i ≡ length seats → all ≤ most → min (all + kept_in (drop i seats)) most ≡ min (kept_in seats) most → all ≡ min (kept_in seats) most
all_kept seats i all most end few e =
    let none : kept_in (drop i seats) ≡ 0 = ap (λ n. kept_in (drop n seats)) end ∙ ap kept_in (drop-length seats) in
    let same : min (all + kept_in (drop i seats)) most ≡ all = omega (arith, none, few) in
    sym same ∙ e

-- one that takes its answer and is given up takes it no more
given_up_in : (s : Stage) → s ≡ Takes → takers.takes_at (given_up_stage s) ≡ 0
given_up_in Takes e = refl
given_up_in s e = ap (λ x. takers.takes_at (given_up_stage x)) e

pub stays_numbered : (was is : Stage) (number : ℕ) (guest : Guest) → (numbered_in was is number guest).stage ≡ guest.stage
stays_numbered Sends Waits number guest = refl
stays_numbered was is number guest = refl

given_up_takes_none : (waited : ℕ) (guest : Guest) → guest.stage ≡ Takes → takers.taker_in (Some (given_up_at waited guest)) ≡ 0
given_up_takes_none waited guest is = ap takers.takes_at (stays_numbered guest.stage (given_up_stage guest.stage) waited (given_up guest)) ∙ given_up_in guest.stage is

-- one less takes the answer
pub fewer_take : (seats : Seats) (place waited : ℕ) (guest : Guest) → HasSeat seats place guest → guest.stage ≡ Takes → takers_in (set seats place (Some (given_up_at waited guest))) < takers_in seats
fewer_take [] place waited guest seated is = let e : ◌≡◌ {A = Option (Option Guest)} None (Some (Some guest)) = seated in absurd cc
fewer_take (seat ∷ seats) zero waited guest seated is =
    let none = given_up_takes_none waited guest is in
    let same : seat ≡ Some guest = let e : ◌≡◌ {A = Option (Option Guest)} (Some seat) (Some (Some guest)) = seated in cc in
    let one : takers.taker_in seat ≡ 1 = ap takers.taker_in same ∙ ap takers.takes_at is in
    omega (arith, none, one)
fewer_take (seat ∷ seats) (suc place) waited guest seated is = let less = fewer_take seats place waited guest seated is in omega (arith, less)
