use Rattle.std.proofs.Common.{subst}
use Rattle.fab_world.specs.Worlds.{WorldRows, records_of}
use Rattle.fab_desk_base.specs.Commands.{tried}
use Rattle.fab_desk_base.proofs.Tried.{one_done}
use Rattle.fab_desk_trials.specs.Trials.{effect_world}
use Rattle.fab_desk_machine.proofs.proposing.end.Goals as goal

pub returns-in-Ok-clause-bounds : goal.returns-in-Ok-clause-bounds
returns-in-Ok-clause-bounds g c may v is =
    let w = c.args.world.now in
    let s = c.args.sender.now in
    let k = c.args.command in
    let e = c.in-Ok.prepared.effect in
    subst (λ (x : WorldRows). g.B.PathBook.bounds (records_of w) (records_of x) (g.B.PathBook.count c.args.book.now) (g.B.PathBook.count c.try_out.new.book))
    (one_done w s.name (tried k) (effect_world w s.name k e) v c.in-Ok.ensures.ok.effect.is is) c.in-Ok.ensures.bounds
