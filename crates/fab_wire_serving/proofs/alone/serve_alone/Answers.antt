use Rattle.std.proofs.Common.{rules, [], ◌∷◌, ◌++◌}
use Rattle.std.proofs.lemmas.List.{length_push}
use Rattle.std.specs.Duration.{as_nanos}
use Rattle.fab_wire_serving.specs.Turns.{Gives}
use Rattle.fab_wire_serving.proofs.TurnLemmas.{one-more}
use Rattle.fab_wire_serving.proofs.alone.serve_alone.Given.{O-post, N-step}
use Rattle.fab_wire_serving.proofs.alone.serve_alone.Goals as goal

pub loop-preserved : goal.loop-preserved
loop-preserved g c = let served = c.loop.invariant.0 in let next = c.in_ok-serve_next.ensures.turn in
    let clock = c.args.watch.now.clock.now in let turn = rw (c.loop.invariant.1, c.loop.invariant.2) at next.1 in
    let all = one-more g.D.Server (O-post g c.args.again.now) (Gives (N-step g)) (g.C.Ticks.tells clock) (g.C.Ticks.fails clock) g.W.Write.contents (as_nanos c.args.watch.now.most) _ _ _ _ _ _ _ _ served.1 turn in
    let pushed = length_push served.0 next.0 in let counted = served.2 in
    ((served.0 ++ (next.0 ∷ []), all, search rules), search rules, search rules, c.loop.invariant.3)
