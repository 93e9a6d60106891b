use Rattle.std.proofs.Common.{◌≡◌, true, sym, subst}
use Rattle.fab_reach_base.specs.fab_mapping_base.Groups.{StorageGroupRows}
use Rattle.fab_reach_base.proofs.Same.{same_some}
use Rattle.fab_reach_base.specs.Gathering.{Serves}
use Rattle.fab_looks_ways.proofs.offers.is_offer.Goals as goal

pub returns-in-Some : goal.returns-in-Some
returns-in-Some g c = (
  λ t. let k = c.offers.ensures.0 t in (c.in-Some.group.now, sym c.in-Some.ensures, k.0, k.1),
  λ h. c.offers.ensures.1 (subst (λ (x : StorageGroupRows). (x.exposed ≡ true) × Serves c.args.mapping.now x c.args.host.now) (same_some h.1 (sym c.in-Some.ensures)) (h.2, h.3)),
)
