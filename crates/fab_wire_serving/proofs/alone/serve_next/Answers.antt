use Rattle.std.proofs.Common.{ℕ, None, subst}
use Rattle.std.specs.Time.{instant_nanos}
use Rattle.fab_wire_serving.specs.Coming.{CameSo}
use Rattle.fab_wire_serving.specs.Sides.{begun_sides}
use Rattle.fab_wire_serving.proofs.ComingLemmas.{came_so, told_at}
use Rattle.fab_wire_serving.proofs.alone.serve_next.Goals as goal

pub returns-clause-turn : goal.returns-clause-turn
returns-clause-turn g c =
    let restored = c.restore.new.server in let came = c.serve_stream-came.result in let moment = c.in_ok-stream.moment in
    let began = told_at (g.C.Ticks.tells c.args.watch.now.clock.now) (g.C.Ticks.fails c.args.watch.now.clock.now) c.in_ok-stream.start c.begun.result c.in_ok-stream.ensures.start c.begun.ensures in
    let served = came_so _ _ came c.serve_stream-came.ensures in
    let in_time = subst (λ (e : ℕ). CameSo (λ outcome after. g.D.Server.serves restored moment (begun_sides None None e) after outcome c.serve_stream-came.new.server) came) c.after-deadline.ensures.end served in (
      moment,
      (
        c.in_ok-stream.ensures.moment,
        (
          restored,
          came,
          c.restore.ensures,
          (instant_nanos c.begun.result, began, in_time),
          (instant_nanos c.in_ok-stream.start, c.in_ok-stream.ensures.start, rw c.shown.ensures at c.note.ensures.line),
        ),
      ),
    )
