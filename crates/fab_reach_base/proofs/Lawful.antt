-- What is true of each path, and of each world that is sound.
use Rattle.fab_reach_base.specs.Records.{Records}
use Rattle.fab_reach_base.specs.Reach.{Reaches, AreJoined, IsOffered}
use Rattle.fab_reach_base.specs.declared.path.Path.{Path}
use Rattle.fab_reach_base.proofs.Same.{same_fabric}
use Rattle.std.proofs.Common.{subst}
use Rattle.fab_zoning.specs.fab_zoning_rows.Holding.{IsLoggedInAt}
use Rattle.fab_reach_base.specs.Records.{zoning_at}
use Rattle.fab_reach_base.specs.Serving.{IsServing}
use Rattle.fab_reach_base.specs.Soundness.{IsSoundBeside}

pub joined : (w : Records) (x : Path) → Reaches w x → AreJoined w x
joined w x h = record {
  from = h.from;
  from_is = h.from_is;
  to = h.to;
  to_is = h.to_is;
  from_here = h.meets.here;
  to_here = subst (λ f. IsLoggedInAt f h.to) (same_fabric h.from (zoning_at w.config x.fabric).fabric x.fabric h.meets.joined.here h.meets.here) h.meets.joined.there;
  by = h.meets.joined;
}

pub offered : (w : Records) (x : Path) → Reaches w x → IsOffered w x
offered w x h = let m = h.mapped in record { name = m.0; group = m.1; there = m.2; exposed = m.3; target = m.4.4.1; volume = m.4.4.2 }

pub serves : (w : Records) → IsSoundBeside w.inventory w.config → IsServing w
serves w h = record {
  fabrics = h.parts.zonings.fabrics;
  hosts = λ n k at. h.fits.host_groups n k at;
  targets = λ n g at q there. let fits = h.fits.groups n g at in (g.array, fits.targets q there, fits.on_array);
}
