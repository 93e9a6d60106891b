use Rattle.std.proofs.Common.{◌≡◌, map, take, drop}
use Rattle.fab_wire_gathering.specs.Seats.{without_gone}
use Rattle.fab_wire_gathering.proofs.gathering.Gathering.free_gone.Given as goal

abbrev pub invariant-loop-seat : goal.invariant-loop-seat
invariant-loop-seat l = (take l.seat-index l.seat-items ≡ map without_gone (take l.seat-index l.fn.self.seats.items)) × (drop l.seat-index l.seat-items ≡ drop l.seat-index l.fn.self.seats.items)
