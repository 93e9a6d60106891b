use Rattle.std.proofs.Common.{◌≡◌, ℕ, List, ◌++◌}
use Rattle.std.specs.FinSet as set
use Rattle.fab_inventory.specs.fab_lemmas.Adding.{Adds}
use Rattle.fab_inventory.proofs.fab_lemmas.Adding.{Before}
use Rattle.fab_mapping_base.specs.ClashSearch.{lists}
use Rattle.fab_mapping_base.proofs.Serving.{ByHost}
use Rattle.fab_mapping_base.proofs.served.serve_hosts.Given as goal

abbrev pub invariant-loop-host : goal.invariant-loop-host
invariant-loop-host g l = (listed : List (List ℕ)) × (set.from_list listed ≡ l.hosts.hosts) × (before : List (List ℕ)) × (listed ≡ before ++ l.host-iterator) × Adds (Before (ByHost l.place) before) (lists l.fn.served) (lists l.served)
