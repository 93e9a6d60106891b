use Rattle.std.proofs.Common.{refl, inr}
use Rattle.fab_desk.proofs.HostPaths.{host_paths}
use Rattle.fab_desk.proofs.reading.show_paths.Goals as goal

pub returns-in-Ok-clause-answers : goal.returns-in-Ok-clause-answers
returns-in-Ok-clause-answers g c clean tied =
    let read = c.in-Ok.ensures.rows clean tied.ready in
    let was_open = (c.in-Ok.ensures.same clean tied.ready read.0).0 in
    let paths = host_paths (g.S.Store.tables c.args.store.now) c.args.world.now c.args.host.now (tied.holds was_open) c.in-Ok.paths.items tied.written read.1 in
    inr (inr (inr (tt, c.is_open_to.ensures.0 c.if-not-is_open_to.false, (_, (refl, paths), refl, refl))))
