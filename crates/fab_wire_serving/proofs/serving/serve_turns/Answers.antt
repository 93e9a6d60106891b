use Rattle.std.proofs.Common.{rules, refl, ◌∙◌, []}
use Rattle.std.specs.Duration.{as_nanos}
use Rattle.fab_wire_serving.specs.Turns.{Gives}
use Rattle.fab_wire_serving.proofs.WaitingLemmas.{played_advances, turn_taken}
use Rattle.fab_wire_serving.proofs.serving.serve_turns.Given.{O-post, N-step}
use Rattle.fab_wire_serving.proofs.serving.serve_turns.Goals as goal

pub loop-init : goal.loop-init
loop-init g c = (([], c.args.server.now, (refl, refl), rw c.requires.none refl, rw c.requires.none refl), refl, refl, c.requires.told)

pub loop-preserved : goal.loop-preserved
loop-preserved g c =
    let clock = c.args.watch.now.clock.now in
    let taken = rw (c.loop.invariant.1, c.loop.invariant.2) at c.in_ok-serve_next.ensures.turn in
    let told = rw c.loop.invariant.1 at c.in_ok-serve_next.ensures.told in
    let all = turn_taken g.D.Server (O-post g c.args.again.now) (Gives (N-step g)) (g.C.Ticks.tells clock) (g.C.Ticks.fails clock) g.W.Write.contents (as_nanos c.args.watch.now.most)
    _ _ _ _ _ _ _ _ _ c.loop.invariant.0 taken in
    (all, c.in_ok-serve_next.ensures.clock ∙ c.loop.invariant.1, c.in_ok-serve_next.ensures.most ∙ c.loop.invariant.2, told)

pub returns-in_err-serve_next-clause-turns : goal.returns-in_err-serve_next-clause-turns
returns-in_err-serve_next-clause-turns g c =
    let clock = c.args.watch.now.clock.now in
    let lines = rw c.loop.invariant.1 at c.in_err-serve_next.ensures.lines in
    let kept = c.in_err-serve_next.ensures.kept in
    let all = played_advances g.D.Server (O-post g c.args.again.now) (Gives (N-step g)) (g.C.Ticks.tells clock) (g.C.Ticks.fails clock) g.W.Write.contents (as_nanos c.args.watch.now.most)
    _ _ _ _ _ _ _ _ c.loop.invariant.0 lines in
    (c.loop.counter, rw kept all, search rules, search rules)
