use Rattle.fab_desk.specs.Handled.{policy_of}
use Rattle.fab_wire.proofs.Tokens.{known_text}
use Rattle.fab_wire.proofs.serving.handle.Goals as goal

pub unreachable-requires : goal.unreachable-requires
unreachable-requires g c = c.in-Err.ensures.cases.0 (known_text (policy_of c.args.desk.now) c.args.token.now c.policy_is_sound.ensures c.requires)
