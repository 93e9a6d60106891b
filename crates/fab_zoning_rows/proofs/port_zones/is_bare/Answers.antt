use Rattle.fab_zoning_rows.proofs.PortZoneLemmas.{bare, bare_back}
use Rattle.fab_zoning_rows.proofs.port_zones.is_bare.Goals as goal

pub returns-in-Some : goal.returns-in-Some
returns-in-Some g c = rw c.in-Some.is ((λ e. bare c.in-Some.zones.now (c.is_empty.ensures.0 e)), λ none. c.is_empty.ensures.1 (bare_back c.in-Some.zones.now none))
