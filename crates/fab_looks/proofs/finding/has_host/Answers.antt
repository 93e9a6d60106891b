use Rattle.std.proofs.Common.{sym, ap, ◌∙◌}
use Rattle.std.specs.FinSet as set
use Rattle.fab_mapping_base.specs.Groups.{HostGroupRows}
use Rattle.fab_reach_base.proofs.Same.{same_some}
use Rattle.fab_looks.proofs.finding.has_host.Goals as goal

pub returns-in-Some : goal.returns-in-Some
returns-in-Some g c = (
  λ t. (c.in-Some.hosts.now, sym c.in-Some.ensures, sym c.has_host.ensures ∙ t),
  λ h. c.has_host.ensures ∙ ap (λ (x : HostGroupRows). set.contains x.hosts c.args.host.now) (same_some (sym c.in-Some.ensures) h.1) ∙ h.2,
)
