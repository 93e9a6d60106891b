use Rattle.std.proofs.Common.{◌≡◌, ◌∙◌, rules}
use Rattle.fab_reach_base.specs.Views.{seen}
use Rattle.fab_looks.proofs.Services.{named_are}
use Rattle.fab_looks.proofs.holding.named_ports.Goals as goal

pub returns : goal.returns
returns g c =
    let items : c.in_ok-names.names.items ≡ c.args.names.now.keys = search rules in
    named_are (seen c.args.view.now) c.args.names.now c.deref.result.now c.in_ok-ports.ports.items (c.deref.ensures.value ∙ items) c.in_ok-ports.ensures
