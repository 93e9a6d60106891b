use Rattle.std.proofs.Common.{◌≡◌, Option, Some, None, refl, sym, ap, ◌∙◌, set}
use Rattle.std.proofs.lemmas.Option.{slice_get_past, slice_get_read}
use Rattle.fab_wire_gathering.specs.declared.guest.Guest.{Guest}
use Rattle.fab_wire_gathering.proofs.gathering.Gathering.next_turn.Goals as goal

pub returns : goal.returns
returns c = record {
  first = c.in_ok-place.ensures;
  some = (
    slice_get_read c.args.self.now.seats.items _ c.in_ok-place.place c.in_ok-get_mut.field-0.now refl c.in_ok-get_mut.ensures.item.3.0 c.in_ok-get_mut.ensures.value ∙ ap (λ (o : Option Guest). Some o) (sym c.in_ok-guest.ensures.value),
    ap (λ (o : Option Guest). set c.args.self.now.seats.items c.in_ok-place.place o) c.take.ensures.after,
  );
  none = tt;
}

pub returns-in_err-place : goal.returns-in_err-place
returns-in_err-place c = rw c.from_residual.ensures (record { first = c.in_err-place.ensures; some = tt; none = refl })

pub returns-in_err-get_mut : goal.returns-in_err-get_mut
returns-in_err-get_mut c =
    let seated : ◌≡◌ {A = Option (Option Guest)} (Some (Some c.in_ok-place.ensures.guest)) None =
    sym c.in_ok-place.ensures.seated ∙ slice_get_past c.args.self.now.seats.items c.in_ok-place.place c.in_err-get_mut.ensures.item.3
    in absurd cc

pub returns-in_err-guest : goal.returns-in_err-guest
returns-in_err-guest c =
    let seated : ◌≡◌ {A = Option (Option Guest)} (Some (Some c.in_ok-place.ensures.guest)) (Some None) =
    sym c.in_ok-place.ensures.seated
    ∙ slice_get_read c.args.self.now.seats.items _ c.in_ok-place.place c.in_ok-get_mut.field-0.now refl c.in_ok-get_mut.ensures.item.3.0 c.in_ok-get_mut.ensures.value ∙ ap (λ (o : Option Guest). Some o) (sym c.in_err-guest.ensures.value)
    in absurd cc
