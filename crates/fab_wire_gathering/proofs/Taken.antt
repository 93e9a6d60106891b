-- A seat that is given to another, or to one that is given up.
use Rattle.std.proofs.Common.{◌≡◌, ◌≢◌, ℕ, ◌<◌, length, [], ◌∷◌, ◌++◌, zero, suc, get_or, Option, Some, None, set, slice_get, sym, ap, ◌∙◌, subst}
use Rattle.std.proofs.lemmas.List.{length-set, get_or-set_same, get_or-set_other}
use Rattle.std.proofs.lemmas.Option.{slice_get_within, slice_get-get_or}
use Rattle.fab_wire_gathering.specs.Seats.{Seats, HasSeat, SameSeats, given_up_at, numbered_in}
use Rattle.std.specs.declared.net.tcp.TcpStream.{TcpStream}
use Rattle.fab_wire_deadlines.specs.Deadlines.{end_of}
use Rattle.fab_wire_gathering.specs.Ends.{HasComeTo}
use Rattle.fab_wire_gathering.specs.Guests.{given_up, given_up_stage}
use Rattle.fab_wire_gathering.specs.declared.guest.Guest.{Guest}
use Rattle.fab_wire_gathering.specs.declared.guest.Stage.{Stage}
use Rattle.fab_wire_gathering.specs.declared.guest.Stage.TheVariants.{Takes}

module _ (seats : Seats) (place : ℕ) (seat : Option Guest) where
  within_new : (q : ℕ) → q < length seats → q < length (set seats place seat)
  within_new q = subst (λ n. q < n) (sym (length-set seats place seat))

  -- what is set there is there
  pub set_there : place < length seats → slice_get (set seats place seat) place ≡ Some seat
  set_there within = slice_get-get_or (set seats place seat) place None (within_new place within) ∙ ap (λ (o : Option Guest). Some o) (get_or-set_same seats place seat None within)

  -- the others are as they were
  pub set_elsewhere : (q : ℕ) (other : Option Guest) → q ≢ place → slice_get seats q ≡ Some other → slice_get (set seats place seat) q ≡ Some other
  set_elsewhere q other apart is =
      let within = slice_get_within seats q other is in
      slice_get-get_or (set seats place seat) q None (within_new q within) ∙ ap (λ (o : Option Guest). Some o) (get_or-set_other seats place q seat None apart) ∙ sym (slice_get-get_or seats q None within) ∙ is

-- ---- a free seat behind the others

still_there : (seats more : Seats) (q : ℕ) (guest : Guest) → HasSeat seats q guest → HasSeat (seats ++ more) q guest
still_there [] more q guest seated = let e : ◌≡◌ {A = Option (Option Guest)} None (Some (Some guest)) = seated in absurd cc
still_there (seat ∷ seats) more zero guest seated = seated
still_there (seat ∷ seats) more (suc q) guest seated = still_there seats more q guest seated

there_before : (seats : Seats) (q : ℕ) (guest : Guest) → HasSeat (seats ++ None ∷ []) q guest → HasSeat seats q guest
there_before [] zero guest seated = let e : ◌≡◌ {A = Option (Option Guest)} (Some None) (Some (Some guest)) = seated in absurd cc
there_before [] (suc q) guest seated = let e : ◌≡◌ {A = Option (Option Guest)} None (Some (Some guest)) = seated in absurd cc
there_before (seat ∷ seats) zero guest seated = seated
there_before (seat ∷ seats) (suc q) guest seated = there_before seats q guest seated

-- the same are there without it
pub same_without : (old now new : Seats) → SameSeats old now → now ≡ new ++ None ∷ [] → SameSeats old new
same_without old now new same is = λ q guest. (
  (λ was. there_before new q guest (subst (λ seats. HasSeat seats q guest) is ((same q guest).0 was))),
  (λ is_there. (same q guest).1 (subst (λ seats. HasSeat seats q guest) (sym is) (still_there new (None ∷ []) q guest is_there))),
)

-- ---- a free seat that one comes to

module _ (seats : Seats) (place : ℕ) (seat : Option Guest) (q : ℕ) (other : Option Guest) (apart : q ≢ place) (is : slice_get (set seats place seat) q ≡ Some other) where
  -- the others were as they are
  was_elsewhere : slice_get seats q ≡ Some other
  was_elsewhere =
      let within : q < length seats = subst (λ n. q < n) (length-set seats place seat) (slice_get_within (set seats place seat) q other is) in
      let there = slice_get-get_or seats q None within in
      let e : ◌≡◌ {A = Option (Option Guest)} (Some (get_or seats q None)) (Some other) = sym (set_elsewhere seats place seat q (get_or seats q None) apart there) ∙ is in
      let same : get_or seats q None ≡ other = cc in
      there ∙ ap (λ (o : Option Guest). Some o) same

pub comes_to_seat : (old mid : Seats) (place : ℕ) (guest : Guest) (stream : TcpStream) (end : ℕ) → SameSeats old mid → slice_get mid place ≡ Some None → guest.stream ≡ stream → end_of guest.deadline ≡ end → HasComeTo old (set mid place (Some guest)) stream end place
comes_to_seat old mid place guest stream end same free is end_is = record {
  guest = guest;
  seated = set_there mid place (Some guest) (slice_get_within mid place None free);
  is = is;
  end_is = end_is;
  free = λ other was. let e : ◌≡◌ {A = Option (Option Guest)} (Some None) (Some (Some other)) = sym free ∙ (same place other).0 was in absurd cc;
  others = λ q other apart. (
    (λ was. set_elsewhere mid place (Some guest) q (Some other) apart ((same q other).0 was)),
    (λ is_there. (same q other).1 (was_elsewhere mid place (Some guest) q (Some other) apart is_there)),
  );
}

-- ---- one that takes its answer

-- has the number that it had once it is given up
pub given_up_unnumbered : (waited : ℕ) (guest : Guest) → guest.stage ≡ Takes → given_up_at waited guest ≡ given_up guest
given_up_unnumbered waited guest is = ap (λ (s : Stage). numbered_in s (given_up_stage s) waited (given_up guest)) is
