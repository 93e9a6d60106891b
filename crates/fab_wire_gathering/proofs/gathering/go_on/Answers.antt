use Rattle.std.proofs.Common.{ap, ◌∙◌}
use Rattle.fab_wire_gathering.specs.Seats.{numbered_in}
use Rattle.fab_wire_gathering.proofs.Rounds.{numbered_goes_on}
use Rattle.fab_wire_gathering.proofs.gathering.go_on.Goals as goal

pub returns-clause-on : goal.returns-clause-on
returns-clause-on g c =
    let number = c.args.waited.now in
    let came = c.go_on.new.self in
    let is = c.number.ensures.guest ∙ ap (λ was. numbered_in was came.stage number came) c.stage-was.ensures in
    numbered_goes_on number c.args.guest.now came c.number.new.guest is c.go_on.ensures.stream c.go_on.ensures.comes
