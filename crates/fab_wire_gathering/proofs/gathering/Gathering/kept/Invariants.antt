use Rattle.std.proofs.Common.{◌≡◌, ◌≤◌, ◌+◌, ◌-◌, ◌^◌, drop, min}
use Rattle.fab_wire_gathering.specs.Seats.{kept_in}
use Rattle.fab_wire_gathering.proofs.gathering.Gathering.kept.Given as goal

abbrev pub invariant-loop-seat : goal.invariant-loop-seat
invariant-loop-seat l = (l.seat-items ≡ l.self.seats.items) × (min (l.all + kept_in (drop l.seat-index l.self.seats.items)) (2 ^ 64 - 1) ≡ min (kept_in l.self.seats.items) (2 ^ 64 - 1)) × (l.all ≤ 2 ^ 64 - 1)
