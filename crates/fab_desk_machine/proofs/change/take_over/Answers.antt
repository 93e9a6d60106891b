use Rattle.std.proofs.Common.{subst}
use Rattle.fab_reach_base.specs.Books.{IsDelta}
use Rattle.fab_reach_base.specs.Records.{Records}
use Rattle.fab_world.specs.Worlds.{records_of}
use Rattle.fab_desk_trials.specs.fab_desk_commands.Nexts.{next_world}
use Rattle.fab_desk_machine.proofs.Rooms.{taken_records}
use Rattle.fab_desk_machine.proofs.change.take_over.Goals as goal

pub returns-clause-stands : goal.returns-clause-stands
returns-clause-stands g c =
    let w = c.args.world.now in
    let next = c.args.change.next in
    subst (g.B.PathBook.stands c.adopt-delta.new.book) (taken_records w c.take_over.new.world next c.requires.room c.take_over.ensures.world) (c.adopt-delta.ensures.stands (records_of w) (records_of (next_world w next)) c.requires.step c.requires.stands)

pub returns-clause-reply : goal.returns-clause-reply
returns-clause-reply g c =
    let d = c.adopt-delta.result in
    let w = c.args.world.now in
    let next = c.args.change.next in (
      d,
      c.reply_with.ensures,
      subst (λ (r : Records). IsDelta (records_of w) r d.gained.items d.lost.items) (taken_records w c.take_over.new.world next c.requires.room c.take_over.ensures.world) (c.adopt-delta.ensures.delta (records_of w) (records_of (next_world w next)) c.requires.step),
    )
