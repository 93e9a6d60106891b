use Rattle.std.proofs.Common.{rules, ◌≡◌, ◌∙◌, ◌++◌, None, Some, ap, Option}
use Rattle.std.specs.Option.{option_to_list}
use Rattle.fab_wire_gathering.proofs.Taken.{same_without}
use Rattle.fab_wire_gathering.specs.declared.guest.Guest.{Guest}
use Rattle.fab_wire_gathering.proofs.gathering.Gathering.forget_free.Goals as goal

pub loop-preserved : goal.loop-preserved
loop-preserved c =
    let last : c.pop.result ≡ Some None = search rules in
    same_without c.args.self.now.seats.items c.loop.self.seats.items c.pop.new.self.items c.loop.invariant (c.pop.ensures.items ∙ ap (λ (o : Option (Option Guest)). c.pop.new.self.items ++ option_to_list o) last)
