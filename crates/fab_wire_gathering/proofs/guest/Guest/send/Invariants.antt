use Rattle.std.proofs.Common.{◌≡◌}
use Rattle.fab_wire_gathering.proofs.guest.Guest.send.Given as goal

abbrev pub invariant-loop : goal.invariant-loop
invariant-loop l = l.self ≡ record l.fn.self { sent = l.self.sent }
