use Rattle.std.proofs.Common.{◌≡◌, rules, refl, sym, ap, subst, ◌∙◌, Option, Some, None, slice_set, nat_cmp}
use Rattle.std.proofs.lemmas.Option.{slice_get_past, slice_get_read}
use Rattle.fab_wire_gathering.specs.Seats.{Seats, IsFirstSeat, ended_of}
use Rattle.fab_wire_gathering.specs.declared.guest.Guest.{Guest}
use Rattle.fab_wire_gathering.proofs.gathering.Gathering.next_ended.Goals as goal

pub returns-clause-some : goal.returns-clause-some
returns-clause-some c = record {
  place = c.in_ok-place.place;
  first = search rules;
  guest = c.in_ok-guest.guest.now;
  seated = slice_get_read c.args.self.now.seats.items _ c.in_ok-place.place c.in_ok-get_mut.field-0.now refl c.in_ok-get_mut.ensures.item.3.0 c.in_ok-get_mut.ensures.value ∙ ap (λ (o : Option Guest). Some o) (sym c.in_ok-guest.ensures.value);
  number = c.number.ensures;
  is_taken = search rules;
  rest = ap (λ (g : Guest). slice_set c.args.self.now.seats.items c.in_ok-place.place (Some g)) c.be_told.ensures;
}

pub returns-in_err-place : goal.returns-in_err-place
returns-in_err-place c = rw c.from_residual.ensures (record { some = tt; none = (subst (λ (seats : Seats). IsFirstSeat nat_cmp ended_of seats None) c.as_slice.ensures.value c.in_err-place.ensures, refl) })

pub returns-in_err-get_mut : goal.returns-in_err-get_mut
returns-in_err-get_mut c =
    let first = subst (λ (seats : Seats). IsFirstSeat nat_cmp ended_of seats (Some c.in_ok-place.place)) c.as_slice.ensures.value c.in_ok-place.ensures in
    let past = slice_get_past c.args.self.now.seats.items c.in_ok-place.place c.in_err-get_mut.ensures.item.3 in
    let seated : ◌≡◌ {A = Option (Option Guest)} (Some (Some first.guest)) None = sym first.seated ∙ past in
    absurd cc

pub returns-in_err-guest : goal.returns-in_err-guest
returns-in_err-guest c =
    let first = subst (λ (seats : Seats). IsFirstSeat nat_cmp ended_of seats (Some c.in_ok-place.place)) c.as_slice.ensures.value c.in_ok-place.ensures in
    let at = slice_get_read c.args.self.now.seats.items _ c.in_ok-place.place c.in_ok-get_mut.field-0.now refl c.in_ok-get_mut.ensures.item.3.0 c.in_ok-get_mut.ensures.value in
    let seated : ◌≡◌ {A = Option (Option Guest)} (Some (Some first.guest)) (Some None) = sym first.seated ∙ at ∙ ap (λ (o : Option Guest). Some o) (sym c.in_err-guest.ensures.value) in
    absurd cc
