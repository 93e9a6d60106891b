use Rattle.std.proofs.Common.{ℕ, List, subst}
use Rattle.fab_reach_base.specs.Views.{seen}
use Rattle.fab_reach_base.proofs.Adding.{Before}
use Rattle.fab_looks.specs.Inner.Offers.{AreJust, IsLoggedIn}
use Rattle.fab_looks.proofs.Ways.{logins_are}
use Rattle.fab_looks.proofs.finding.logins.Goals as goal

pub returns : goal.returns
returns g c =
    logins_are (seen c.args.view.now) c.args.host.now c.in_ok-names.names.items c.in_ok-ports.ports.items c.requires c.in_ok-names.ensures
    (subst (λ (ns : List ℕ). AreJust (Before (IsLoggedIn (seen c.args.view.now)) ns) c.in_ok-ports.ports.items) c.deref.ensures.value c.in_ok-ports.ensures)
