use Rattle.fab_looks_tries.specs.Ports.{IsMoveOf}
use Rattle.fab_looks_tries.proofs.Moves.{move_added, move_skipped}
use Rattle.std.proofs.Common.{Option, subst, sym, ◌∙◌}
use mathlib.Core.Bool.{true≢false}
use Rattle.fab_inventory.specs.declared.port.Port.{Port}
use Rattle.fab_looks_tries.proofs.ports.add_port.Goals as goal

pub returns : goal.returns
returns g c =
    let k = c.args.kind in
    let after = c.args.after.now in
    move_added k c.args.inventory.now after c.args.names.now c.insert.new.self
    (subst (λ (o : Option Port). IsMoveOf k o after) c.port.ensures.port (c.is_move.ensures.0 c.if-not-is_move.false)) c.in_ok-insert.ensures.updates.0

pub returns-then-not-is_move : goal.returns-then-not-is_move
returns-then-not-is_move g c =
    let k = c.args.kind in
    let after = c.args.after.now in
    move_skipped k c.args.inventory.now after c.args.names.now
    (λ m. true≢false (sym (c.is_move.ensures.1 (subst (λ (o : Option Port). IsMoveOf k o after) (sym c.port.ensures.port) m)) ∙ c.if-not-is_move.true))
