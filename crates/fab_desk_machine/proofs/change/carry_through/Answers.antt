use Rattle.std.proofs.Common.{inr, sym, subst}
use Rattle.fab_desk_machine.proofs.Rooms.{same_records, room_for, ready_there, moved_there}
use Rattle.fab_desk_machine.proofs.change.carry_through.Goals as goal

pub take_over-requires-clause-room : goal.take_over-requires-clause-room
take_over-requires-clause-room g c = room_for c.args.world.now c.make_room.new.world c.args.change.next c.in-Ok.ensures.ok c.requires.suits

pub take_over-requires-clause-step : goal.take_over-requires-clause-step
take_over-requires-clause-step g c = ready_there c.args.world.now c.make_room.new.world c.args.change.next c.in-Ok.ensures.ok (g.B.PathBook.leads c.args.book.now) c.args.change.step c.requires.step

pub take_over-requires-clause-stands : goal.take_over-requires-clause-stands
take_over-requires-clause-stands g c = subst (g.B.PathBook.stands c.args.book.now) (sym (same_records c.args.world.now c.make_room.new.world c.args.change.next c.in-Ok.ensures.ok)) c.requires.stands

pub returns-in-Ok-clause-done : goal.returns-in-Ok-clause-done
returns-in-Ok-clause-done g c =
    let w = c.args.world.now in
    let v = c.make_room.new.world in
    let next = c.args.change.next in
    let told = c.take_over.ensures.reply in
    inr (c.take_over.ensures.world w c.in-Ok.ensures.ok, (told.0, told.1, moved_there w v next c.in-Ok.ensures.ok c.take_over.new.world told.0 told.2))
