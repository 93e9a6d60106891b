use Rattle.std.proofs.Common.{Bor, ◌≡◌, ℕ, List, ◌++◌, map}
use Rattle.std.specs.Ordering.{nat_cmp}
use Rattle.fab_inventory.specs.fab_lemmas.Adding.{Among}
use Rattle.fab_inventory.proofs.fab_lemmas.Adding.{Before}
use Rattle.fab_mapping_base.specs.Groups.{StorageGroupRows}
use Rattle.fab_mapping_base.specs.ClashSearch.{MeetsAt, AreFine, IsLeastOf}
use Rattle.fab_mapping_base.proofs.clash.clash_among.Given as goal

abbrev pub invariant-loop-first : goal.invariant-loop-first
invariant-loop-first g l =
    (before : List ℕ) × (l.places.keys ≡ before ++ l.first-iterator) × IsLeastOf (Before (λ i. Among nat_cmp l.places (MeetsAt (map (λ (r : Bor StorageGroupRows). r.now) l.groups) l.host i)) before) l.least × AreFine (map (λ (r : Bor StorageGroupRows). r.now) l.groups) l.known.marks.items
