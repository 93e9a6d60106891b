use Rattle.std.proofs.Common.{Bor, ◌≡◌, ℕ, List, ◌++◌, map}
use Rattle.fab_inventory.proofs.fab_lemmas.Adding.{Before}
use Rattle.fab_mapping_base.specs.Groups.{StorageGroupRows}
use Rattle.fab_mapping_base.specs.ClashSearch.{MeetsAt, AreFine, IsLeastOf}
use Rattle.fab_mapping_base.proofs.clash.clash_with.Given as goal

abbrev pub invariant-loop-second : goal.invariant-loop-second
invariant-loop-second g l =
    (before : List ℕ) × (l.places.keys ≡ before ++ l.second-iterator) × IsLeastOf (Before (MeetsAt (map (λ (r : Bor StorageGroupRows). r.now) l.groups) l.host l.first) before) l.least × AreFine (map (λ (r : Bor StorageGroupRows). r.now) l.groups) l.known.marks.items
