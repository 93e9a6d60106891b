use Rattle.std.proofs.Common.{◌≡◌, ◌≤◌, Some, length, set, ap, subst, ◌∙◌}
use Rattle.fab_wire_gathering.specs.Ends.{MakesRoom}
use Rattle.fab_wire_gathering.specs.Guests.{answered}
use Rattle.fab_wire_gathering.specs.Seats.{Seats}
use Rattle.fab_wire_gathering.specs.declared.guest.Guest.{Guest}
use Rattle.fab_wire_gathering.specs.declared.guest.Stage.TheVariants.{Takes}
use Rattle.fab_wire_gathering.proofs.Order.{order}
use Rattle.fab_wire_gathering.proofs.gathering.Gathering.hand.Goals as goal

pub returns : goal.returns
returns c =
    let given = answered c.args.answer c.args.number c.args.deadline c.args.guest in
    let after = c.begin_to_send.new.guest in
    let same : c.answer.new.self ≡ given = c.answer.ensures in
    let takes : c.answer.new.self.stage ≡ Takes = ap (λ (g : Guest). g.stage) same in
    let rest : after ≡ record given { stage = after.stage; sent = after.sent } = subst (λ (g : Guest). after ≡ record g { stage = after.stage; sent = after.sent }) same (c.begin_to_send.ensures.rest takes) in
    let bytes = ap (λ (g : Guest). length g.bytes.items) rest in
    let seats = c.put.ensures ∙ ap (λ (g : Guest). set c.args.self.now.seats.items c.args.place (Some g)) rest in
    record {
      is = after.stage;
      sent = after.sent;
      whole = λ taken. subst (λ n. n ≤ after.sent) bytes (c.begin_to_send.ensures.whole takes taken);
      room = subst (λ (s : Seats). MakesRoom order s c.make_room.new.self.seats.items) seats c.make_room.ensures;
    }
