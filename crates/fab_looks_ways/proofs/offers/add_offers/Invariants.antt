use Rattle.std.proofs.Common.{◌≡◌, ℕ, List, ◌++◌}
use Rattle.fab_reach_base.specs.Adding.{Adds}
use Rattle.fab_reach_base.proofs.Adding.{Before}
use Rattle.fab_desk_base.specs.Tenants.{Has}
use Rattle.fab_looks_ways.proofs.Offered.{ByOffer}
use Rattle.fab_looks_ways.proofs.offers.add_offers.Given as goal

abbrev pub invariant-loop-name : goal.invariant-loop-name
invariant-loop-name g l = (before : List (List ℕ)) × (l.names.keys ≡ before ++ l.name-iterator) × Adds (Before (ByOffer l.mapping l.host) before) (Has l.fn.offers) (Has l.offers)
