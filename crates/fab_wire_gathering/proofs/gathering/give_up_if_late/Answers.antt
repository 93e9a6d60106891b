use Rattle.std.proofs.lemmas.Bool.{le-leb}
use Rattle.fab_wire_deadlines.specs.Deadlines.{end_of, seen_by}
use Rattle.fab_wire_gathering.proofs.Rounds.{given_up_when_late}
use Rattle.fab_wire_gathering.proofs.gathering.give_up_if_late.Goals as goal

pub returns-then-is_late : goal.returns-then-is_late
returns-then-is_late c =
    let late = c.is_late.new.self in
    let is_late = le-leb (end_of late.deadline) (seen_by late.deadline) (c.is_late.ensures.late c.if-is_late.true) in (
      late.deadline,
      c.args.waited.now,
      c.is_late.ensures.end,
      c.is_late.ensures.seen,
      given_up_when_late c.args.waited.now late c.give_up.new.guest (record c.args.guest.now { deadline = late.deadline }) is_late c.is_late.ensures.rest c.give_up.ensures,
    )
