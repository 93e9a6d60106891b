use Rattle.std.specs.Time.{instant_nanos}
use Rattle.fab_wire_gathering.specs.Rounds.{HasGoneOn}
use Rattle.fab_wire_gathering.proofs.Each.{all_again}
use Rattle.fab_wire_gathering.proofs.Resting.{keep_resting, nobody_late}
use Rattle.fab_wire_gathering.proofs.Rounds.{goes_on_twice}
use Rattle.fab_wire_gathering.proofs.gathering.Gathering.go_on.Goals as goal

pub returns-clause-round : goal.returns-clause-round
returns-clause-round g c =
    let old = c.args.self.now.seats.items in
    let ready = c.go_on_with_ready.new.self.seats.items in
    let tried = c.try_all-are_tried.new.self.seats.items in
    (tried, c.give_up_late.new.self.seats.items, all_again HasGoneOn old goes_on_twice ready tried c.go_on_with_ready.ensures.each c.try_all-are_tried.ensures.each, c.give_up_late.ensures, c.let_go.ensures)

pub returns-clause-resting : goal.returns-clause-resting
returns-clause-resting g c =
    let old = c.args.self.now.seats.items in
    let ready = c.go_on_with_ready.new.self.seats.items in
    let tried = c.try_all-are_tried.new.self.seats.items in
    let timed = c.give_up_late.new.self.seats.items in
    let gone_on = all_again HasGoneOn old goes_on_twice ready tried c.go_on_with_ready.ensures.each c.try_all-are_tried.ensures.each in
    keep_resting (instant_nanos c.args.now) old tried timed c.let_go.new.self.seats.items gone_on c.give_up_late.ensures c.let_go.ensures

pub returns-clause-late : goal.returns-clause-late
returns-clause-late g c = nobody_late (instant_nanos c.args.now) c.try_all-are_tried.new.self.seats.items c.give_up_late.new.self.seats.items c.let_go.new.self.seats.items c.give_up_late.ensures c.let_go.ensures
