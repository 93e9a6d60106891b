use Rattle.std.proofs.Common.{◌≡◌, ◌++◌, List, ℕ}
use Rattle.fab_wire_gathering.specs.declared.guest.Stage.TheVariants as stage
use Rattle.fab_wire_gathering.proofs.guest.Guest.receive.Given as goal

abbrev pub invariant-loop : goal.invariant-loop
invariant-loop g l =
    ((more : List ℕ) × (l.self.bytes.items ≡ l.fn.self.bytes.items ++ more))
    × (l.fn.self.stage ≡ stage.Sends → l.self.stage ≡ stage.Sends)
    × (l.self ≡ record l.fn.self { bytes = l.self.bytes; stage = l.self.stage; ending = l.self.ending; heard = l.self.heard; wanted = l.self.wanted })
