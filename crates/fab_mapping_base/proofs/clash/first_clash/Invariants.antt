use Rattle.std.proofs.Common.{Bor, ◌≡◌, ℕ, List, ◌++◌, map}
use Rattle.std.specs.BTreeSet.{BTreeSet}
use Rattle.std.specs.List.{AllByRecursion}
use Rattle.fab_mapping_base.specs.Groups.{StorageGroupRows}
use Rattle.fab_mapping_base.specs.ClashSearch.{AreFine}
use Rattle.fab_mapping_base.proofs.ClashSearch.{MeetsFor}
use Rattle.fab_mapping_base.proofs.clash.first_clash.Given as goal

abbrev pub invariant-loop-host : goal.invariant-loop-host
invariant-loop-host g l =
    (before : List (List ℕ × BTreeSet ℕ)) × (l.served.entries ≡ before ++ l.host-iterator) × AllByRecursion (λ (e : List ℕ × BTreeSet ℕ). ¬ MeetsFor l.served (map (λ (r : Bor StorageGroupRows). r.now) l.groups) e.0) before
    × AreFine (map (λ (r : Bor StorageGroupRows). r.now) l.groups) l.known.marks.items
