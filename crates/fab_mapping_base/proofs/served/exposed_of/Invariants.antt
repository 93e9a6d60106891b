use Rattle.std.proofs.Common.{Bor, ◌≡◌, ℕ, List, ◌++◌, map}
use Rattle.fab_mapping_base.specs.Groups.{StorageGroupRows}
use Rattle.fab_mapping_base.proofs.Serving.{AreExposed}
use Rattle.fab_mapping_base.proofs.served.exposed_of.Given as goal

abbrev pub invariant-loop-name : goal.invariant-loop-name
invariant-loop-name g l =
    (before : List (List ℕ × StorageGroupRows)) × (l.groups.entries ≡ before ++ l._name-iterator) × AreExposed (map (λ (r : Bor StorageGroupRows). r.now) l.exposed.items) before
