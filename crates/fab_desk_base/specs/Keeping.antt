-- What each step of the desk keeps.
use Rattle.std.specs.Prelude.{ℕ, ◌≡◌, List}
use Rattle.std.specs.FinMap as map
use Rattle.fab_reach_base.specs.fab_inventory.Holders.{Holds}
use Rattle.fab_reach_base.specs.Records.{Records}

-- no port passes straight from one holder to another: a port that is held before and after has one
-- holder
abbrev pub KeepsHosts : Records → Records → Type 0
KeepsHosts w v = (q : ℕ) (h g : List ℕ) → Holds (map.get w.inventory.ports) h q → Holds (map.get v.inventory.ports) g q → g ≡ h
