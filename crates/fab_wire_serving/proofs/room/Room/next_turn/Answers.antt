use Rattle.std.proofs.Common.{rules, refl, ◌∙◌}
use Rattle.fab_wire_log.proofs.PendingLemmas.{advances_refl, advances_twice}
use Rattle.fab_wire_serving.proofs.room.Room.next_turn.Goals as goal

pub loop-init : goal.loop-init
loop-init g c = (advances_refl (g.C.Ticks.tells c.args.watch.now.clock.now) (g.C.Ticks.fails c.args.watch.now.clock.now) g.W.Write.contents _ _, refl, refl, c.requires.told)

pub returns-in_default-clause-lines : goal.returns-in_default-clause-lines
returns-in_default-clause-lines g c =
    let tells = g.C.Ticks.tells c.args.watch.now.clock.now in let fails = g.C.Ticks.fails c.args.watch.now.clock.now in
    let next = rw c.loop.invariant.1 at c.go_round.ensures.lines in
    advances_twice tells fails g.W.Write.contents _ _ _ _ _ _ c.loop.invariant.0 next

pub returns-in_err-stream-clause-lines : goal.returns-in_err-stream-clause-lines
returns-in_err-stream-clause-lines g c =
    let tells = g.C.Ticks.tells c.args.watch.now.clock.now in let fails = g.C.Ticks.fails c.args.watch.now.clock.now in
    let next = rw c.loop.invariant.1 at c.go_round.ensures.lines in
    rw c.take_up.ensures.pending (advances_twice tells fails g.W.Write.contents _ _ _ _ _ _ c.loop.invariant.0 next)

pub returns-in-Some-2-clause-lines : goal.returns-in-Some-2-clause-lines
returns-in-Some-2-clause-lines g c =
    let tells = g.C.Ticks.tells c.args.watch.now.clock.now in let fails = g.C.Ticks.fails c.args.watch.now.clock.now in
    let next = rw c.loop.invariant.1 at c.go_round.ensures.lines in
    rw c.take_up.ensures.pending (advances_twice tells fails g.W.Write.contents _ _ _ _ _ _ c.loop.invariant.0 next)

pub returns-in-Some-next_turn-clause-lines : goal.returns-in-Some-next_turn-clause-lines
returns-in-Some-next_turn-clause-lines g c =
    let tells = g.C.Ticks.tells c.args.watch.now.clock.now in let fails = g.C.Ticks.fails c.args.watch.now.clock.now in
    let next = rw c.loop.invariant.1 at c.go_round.ensures.lines in
    rw c.take_up.ensures.pending (advances_twice tells fails g.W.Write.contents _ _ _ _ _ _ c.loop.invariant.0 next)

pub loop-preserved : goal.loop-preserved
loop-preserved g c =
    let tells = g.C.Ticks.tells c.args.watch.now.clock.now in let fails = g.C.Ticks.fails c.args.watch.now.clock.now in
    let next = rw c.loop.invariant.1 at c.go_round.ensures.lines in
    let told = rw (c.go_round.ensures.clock, c.loop.invariant.1) at c.take_up.ensures.told in
    (rw c.take_up.ensures.pending (advances_twice tells fails g.W.Write.contents _ _ _ _ _ _ c.loop.invariant.0 next), search rules, search rules, told)

pub returns-in_default-clause-clock : goal.returns-in_default-clause-clock
returns-in_default-clause-clock g c = c.go_round.ensures.clock ∙ c.loop.invariant.1

pub returns-in_default-clause-most : goal.returns-in_default-clause-most
returns-in_default-clause-most g c = c.go_round.ensures.most ∙ c.loop.invariant.2

pub returns-in_default-clause-told : goal.returns-in_default-clause-told
returns-in_default-clause-told g c = rw c.go_round.ensures.starts c.loop.invariant.3

pub returns-in_err-stream-clause-clock : goal.returns-in_err-stream-clause-clock
returns-in_err-stream-clause-clock g c = c.go_round.ensures.clock ∙ c.loop.invariant.1

pub returns-in_err-stream-clause-most : goal.returns-in_err-stream-clause-most
returns-in_err-stream-clause-most g c = c.go_round.ensures.most ∙ c.loop.invariant.2

pub returns-in_err-stream-clause-told : goal.returns-in_err-stream-clause-told
returns-in_err-stream-clause-told g c = rw (c.go_round.ensures.clock, c.loop.invariant.1) at c.take_up.ensures.told

pub returns-in-Some-2-clause-clock : goal.returns-in-Some-2-clause-clock
returns-in-Some-2-clause-clock g c = c.go_round.ensures.clock ∙ c.loop.invariant.1

pub returns-in-Some-2-clause-most : goal.returns-in-Some-2-clause-most
returns-in-Some-2-clause-most g c = c.go_round.ensures.most ∙ c.loop.invariant.2

pub returns-in-Some-2-clause-told : goal.returns-in-Some-2-clause-told
returns-in-Some-2-clause-told g c = rw (c.go_round.ensures.clock, c.loop.invariant.1) at c.take_up.ensures.told

pub returns-in-Some-next_turn-clause-clock : goal.returns-in-Some-next_turn-clause-clock
returns-in-Some-next_turn-clause-clock g c = c.go_round.ensures.clock ∙ c.loop.invariant.1

pub returns-in-Some-next_turn-clause-most : goal.returns-in-Some-next_turn-clause-most
returns-in-Some-next_turn-clause-most g c = c.go_round.ensures.most ∙ c.loop.invariant.2

pub returns-in-Some-next_turn-clause-told : goal.returns-in-Some-next_turn-clause-told
returns-in-Some-next_turn-clause-told g c = rw (c.go_round.ensures.clock, c.loop.invariant.1) at c.take_up.ensures.told

pub returns-in-Some-2-clause-start : goal.returns-in-Some-2-clause-start
returns-in-Some-2-clause-start g c = rw c.carried.ensures.start (rw c.loop.invariant.1 at c.in-Some.ensures.now)

pub returns-in-Some-2-clause-turn : goal.returns-in-Some-2-clause-turn
returns-in-Some-2-clause-turn g c = rw c.carried.ensures.place c.carried.ensures.waits

pub returns-in-Some-next_turn-clause-start : goal.returns-in-Some-next_turn-clause-start
returns-in-Some-next_turn-clause-start g c = rw c.seated.ensures.start (rw (c.go_round.ensures.clock, c.loop.invariant.1) at c.start_of-start.ensures)

pub returns-clause-start : goal.returns-clause-start
returns-clause-start g c = rw c.loop.invariant.1 at c.waited_for.ensures.start

pub returns-clause-fault : goal.returns-clause-fault
returns-clause-fault g c = rw c.loop.invariant.1 at c.waited_for.ensures.fault

pub returns-in_default-clause-fault : goal.returns-in_default-clause-fault
returns-in_default-clause-fault g c = rw c.loop.invariant.1 at c.in_default.ensures.none
