-- What becomes of one in a seat.
use Rattle.std.proofs.Common.{◌≡◌, ◌≤◌, ◌++◌, ℕ, [], true, false, Option, Some, None, inl, inr, nat_le, refl, sym, ap, subst, ◌∙◌, arith}
use Rattle.std.proofs.lemmas.List.{append-nil, append_assoc}
use Rattle.fab_wire_deadlines.specs.Deadlines.{end_of, seen_by}
use Rattle.fab_wire_gathering.specs.Guests.{ComesTo, HasSent, LeavesWithin, goes_on}
use Rattle.fab_wire_gathering.specs.Rounds.{GoesOnSo, HasGoneOn, given_up_if, given_up_late}
use Rattle.fab_wire_gathering.specs.Seats.{given_up_at, numbered_in}
use Rattle.fab_wire_gathering.specs.declared.guest.Guest.{Guest}
use Rattle.fab_wire_gathering.specs.declared.guest.Stage.{Stage}
use Rattle.fab_wire_gathering.specs.declared.guest.Stage.TheVariants.{Sends, Waits, Takes, Taken, Unsent, Told, Leaves, Gone}

-- the one who is there goes on so
pub some_goes_on : (so : Guest → Guest → Type 0) (seat : Option Guest) (guest after : Guest) → seat ≡ Some guest → so guest after → GoesOnSo so seat (Some after)
some_goes_on so seat guest after is goes = subst (λ s. GoesOnSo so s (Some after)) (sym is) (after, refl, goes)

pub none_goes_on : (so : Guest → Guest → Type 0) (seat : Option Guest) → seat ≡ None → GoesOnSo so seat seat
none_goes_on so seat is = subst (λ s. GoesOnSo so s s) (sym is) refl

-- one that is late is given up
pub given_up_when_late : (waited : ℕ) (late new guest : Guest) → nat_le (end_of guest.deadline) (seen_by guest.deadline) ≡ true → late ≡ guest → new ≡ given_up_at waited late → new ≡ given_up_late waited guest
given_up_when_late waited late new guest is_late same is = is ∙ ap (given_up_at waited) same ∙ sym (ap (λ late. given_up_if late waited guest) is_late)

pub kept_when_early : (waited : ℕ) (new guest : Guest) → nat_le (end_of guest.deadline) (seen_by guest.deadline) ≡ false → new ≡ guest → new ≡ given_up_late waited guest
kept_when_early waited new guest early same = same ∙ sym (ap (λ late. given_up_if late waited guest) early)

-- ---- a round more

stays_in : (s : Stage) (guest : Guest) → guest.stage ≡ s → ComesTo s guest guest
stays_in Sends guest is = record { bytes = ([], sym (append-nil guest.bytes.items)); stages = inl is; number = λ sends. refl; rest = refl }
stays_in Takes guest is = record { stages = inl is; whole = λ taken. absurd (let e : ◌≡◌ {A = Stage} Takes Taken = sym is ∙ taken in cc); rest = refl }
stays_in (Leaves left) guest is = (subst (LeavesWithin left) (sym is) upto_itself, refl)
  where
    upto_itself : left ≤ left
    upto_itself = omega arith
stays_in Waits guest is = refl
stays_in Taken guest is = refl
stays_in Unsent guest is = refl
stays_in Told guest is = refl
stays_in Gone guest is = refl

pub stays : (guest : Guest) → HasGoneOn guest guest
stays guest = (refl, stays_in guest.stage guest refl)

-- one of which nothing is to come, and to which nothing is to be sent, is as it was
rests_in : (s : Stage) (guest after : Guest) → goes_on s ≡ false → ComesTo s guest after → after ≡ guest
rests_in Sends guest after rests comes = absurd cc
rests_in Takes guest after rests comes = absurd cc
rests_in (Leaves left) guest after rests comes = absurd cc
rests_in Waits guest after rests comes = comes
rests_in Taken guest after rests comes = comes
rests_in Unsent guest after rests comes = comes
rests_in Told guest after rests comes = comes
rests_in Gone guest after rests comes = comes

pub rests_same : (guest after : Guest) → goes_on guest.stage ≡ false → HasGoneOn guest after → after ≡ guest
rests_same guest after rests on = rests_in guest.stage guest after rests on.1

-- whoever goes on has the time that it had
deadline_stays : (s : Stage) (guest after : Guest) → ComesTo s guest after → after.deadline ≡ guest.deadline
deadline_stays Sends guest after comes = ap (λ (g : Guest). g.deadline) comes.rest
deadline_stays Takes guest after comes = ap (λ (g : Guest). g.deadline) comes.rest
deadline_stays (Leaves left) guest after comes = ap (λ (g : Guest). g.deadline) comes.1
deadline_stays Waits guest after comes = ap (λ (g : Guest). g.deadline) comes
deadline_stays Taken guest after comes = ap (λ (g : Guest). g.deadline) comes
deadline_stays Unsent guest after comes = ap (λ (g : Guest). g.deadline) comes
deadline_stays Told guest after comes = ap (λ (g : Guest). g.deadline) comes
deadline_stays Gone guest after comes = ap (λ (g : Guest). g.deadline) comes

pub keeps_deadline : (guest after : Guest) → HasGoneOn guest after → after.deadline ≡ guest.deadline
keeps_deadline guest after on = deadline_stays guest.stage guest after on.1

-- one at this stage, once more
at_stage : (s : Stage) (guest after : Guest) → guest.stage ≡ s → ComesTo guest.stage guest after → ComesTo s guest after
at_stage s guest after is comes = subst (λ s. ComesTo s guest after) is comes

-- fewer pieces are left
within_less : (more less : ℕ) (s : Stage) → less ≤ more → LeavesWithin less s → LeavesWithin more s
within_less more less (Leaves left) few within = omega (arith, few, within)
within_less more less Gone few within = tt
within_less more less Sends few within = absurd within
within_less more less Waits few within = absurd within
within_less more less Takes few within = absurd within
within_less more less Taken few within = absurd within
within_less more less Unsent few within = absurd within
within_less more less Told few within = absurd within

-- one that leaves, once more
leaves_twice : (most : ℕ) (s : Stage) (b c : Guest) → b.stage ≡ s → LeavesWithin most s → ComesTo s b c → LeavesWithin most c.stage × (c ≡ record b { stage = c.stage })
leaves_twice most (Leaves left) b c is leaves comes = (within_less most left c.stage leaves comes.0, comes.1)
leaves_twice most Gone b c is leaves comes = subst (λ (g : Guest). LeavesWithin most g.stage × (g ≡ record b { stage = g.stage })) (sym comes) (subst (LeavesWithin most) (sym is) leaves, refl)
leaves_twice most Sends b c is leaves comes = absurd leaves
leaves_twice most Takes b c is leaves comes = absurd leaves
leaves_twice most Waits b c is leaves comes = absurd leaves
leaves_twice most Taken b c is leaves comes = absurd leaves
leaves_twice most Unsent b c is leaves comes = absurd leaves
leaves_twice most Told b c is leaves comes = absurd leaves

-- one that is as it was, once more
same_twice : (s : Stage) (a b c : Guest) → a.stage ≡ s → b ≡ a → ComesTo b.stage b c → ComesTo s b c
same_twice s a b c is same comes = at_stage s b c (ap (λ (g : Guest). g.stage) same ∙ is) comes

comes_twice : (s : Stage) (a b c : Guest) → a.stage ≡ s → ComesTo s a b → ComesTo b.stage b c → ComesTo s a c
comes_twice Sends a b c at one other = elim one.stages [
  | inl is ↦
      let more = at_stage Sends b c is other in
      record {
        bytes = (one.bytes.0 ++ more.bytes.0, more.bytes.1 ∙ ap (λ bytes. bytes ++ more.bytes.0) one.bytes.1 ∙ append_assoc a.bytes.items one.bytes.0 more.bytes.0);
        stages = more.stages;
        number = λ sends. more.number sends ∙ one.number is;
        rest = more.rest ∙ ap (λ (g : Guest). record g { bytes = c.bytes; stage = c.stage; ending = c.ending; heard = c.heard; wanted = c.wanted; number = c.number }) one.rest;
      }
  | inr is ↦
      let same : c ≡ b = at_stage Waits b c is other in
      subst (ComesTo Sends a) (sym same) one
]
comes_twice Takes a b c at one other = elim one.stages [
  | inl is ↦
      let more = at_stage Takes b c is other in
      record {
        stages = more.stages;
        whole = more.whole;
        rest = more.rest ∙ ap (λ (g : Guest). record g { stage = c.stage; sent = c.sent }) one.rest;
      }
  | inr (inl is) ↦
      let same : c ≡ b = at_stage Taken b c is other in
      subst (ComesTo Takes a) (sym same) one
  | inr (inr is) ↦
      let same : c ≡ b = at_stage Unsent b c is other in
      subst (ComesTo Takes a) (sym same) one
]
comes_twice (Leaves left) a b c at one other =
    let more = leaves_twice left b.stage b c refl one.0 other in
    (more.0, more.1 ∙ ap (λ (g : Guest). record g { stage = c.stage }) one.1)
comes_twice Waits a b c at one other = same_twice Waits a b c at one other ∙ one
comes_twice Taken a b c at one other = same_twice Taken a b c at one other ∙ one
comes_twice Unsent a b c at one other = same_twice Unsent a b c at one other ∙ one
comes_twice Told a b c at one other = same_twice Told a b c at one other ∙ one
comes_twice Gone a b c at one other = same_twice Gone a b c at one other ∙ one

pub goes_on_twice : (a b c : Guest) → HasGoneOn a b → HasGoneOn b c → HasGoneOn a c
goes_on_twice a b c one other = (other.0 ∙ one.0, comes_twice a.stage a b c refl one.1 other.1)

-- ---- the number of one that begins to wait

-- one that has begun to wait, with a number
sent_numbered : (number : ℕ) (guest came : Guest) → came.stage ≡ Waits → HasSent guest came → HasSent guest (record came { number = number })
sent_numbered number guest came waits sent = record {
  bytes = sent.bytes;
  stages = sent.stages;
  number = λ sends. absurd (let e : ◌≡◌ {A = Stage} Waits Sends = sym waits ∙ sends in cc);
  rest = ap (λ (g : Guest). record g { number = number }) sent.rest;
}

numbered_sent : (s : Stage) (number : ℕ) (guest came : Guest) → came.stage ≡ s → HasSent guest came → HasSent guest (numbered_in Sends s number came)
numbered_sent Waits number guest came is sent = sent_numbered number guest came is sent
numbered_sent Sends number guest came is sent = sent
numbered_sent Takes number guest came is sent = sent
numbered_sent Taken number guest came is sent = sent
numbered_sent Unsent number guest came is sent = sent
numbered_sent Told number guest came is sent = sent
numbered_sent (Leaves left) number guest came is sent = sent
numbered_sent Gone number guest came is sent = sent

numbered_comes : (s : Stage) (number : ℕ) (guest came : Guest) → ComesTo s guest came → ComesTo s guest (numbered_in s came.stage number came)
numbered_comes Sends number guest came comes = numbered_sent came.stage number guest came refl comes
numbered_comes Waits number guest came comes = comes
numbered_comes Takes number guest came comes = comes
numbered_comes Taken number guest came comes = comes
numbered_comes Unsent number guest came comes = comes
numbered_comes Told number guest came comes = comes
numbered_comes (Leaves left) number guest came comes = comes
numbered_comes Gone number guest came comes = comes

numbered_stream : (s is : Stage) (number : ℕ) (guest : Guest) → (numbered_in s is number guest).stream ≡ guest.stream
numbered_stream Sends Waits number guest = refl
numbered_stream s is number guest = refl

-- whoever has come so far has gone on, with its number
pub numbered_goes_on : (number : ℕ) (guest came after : Guest) → after ≡ numbered_in guest.stage came.stage number came → came.stream ≡ guest.stream → ComesTo guest.stage guest came → HasGoneOn guest after
numbered_goes_on number guest came after is stream comes =
    subst (HasGoneOn guest) (sym is) (numbered_stream guest.stage came.stage number came ∙ stream, numbered_comes guest.stage number guest came comes)
