-- The parts that a path captures.
use Rattle.std.specs.Prelude.{ℕ, List, Option, MatchOption}
use Rattle.percent_encoding.specs.Percent.{percent_decode}
use Rattle.fab_names.specs.Fabrics.{SpellsFabric}
use Rattle.fab_names.specs.WorldWideNames.{SpellsWwn}
use Rattle.fab_names.specs.Names.{IsNameText, SpellsName}
use Rattle.fab_names.specs.declared.fabric.Fabric.{Fabric}
use Rattle.fab_wire_base.specs.Segments.{segment_at}

-- the part of a path behind so many slashes, with its escapes read
abbrev pub part_at : ℕ → List ℕ → List ℕ
part_at slashes path = percent_decode (segment_at slashes path)

-- the world-wide name that the part spells, or none where it spells none
abbrev pub IsWwnPart : ℕ → List ℕ → Option ℕ → Type 0
IsWwnPart slashes path found = MatchOption found ((n : ℕ) → ¬ (SpellsWwn (part_at slashes path) n)) (SpellsWwn (part_at slashes path))

-- the fabric that the part spells, or none where it spells none
abbrev pub IsFabricPart : ℕ → List ℕ → Option Fabric → Type 0
IsFabricPart slashes path found = MatchOption found ((fabric : Fabric) → ¬ (SpellsFabric (part_at slashes path) fabric)) (SpellsFabric (part_at slashes path))

-- the name that the part is, or none where it is none
abbrev pub IsNamePart : ℕ → List ℕ → Option (List ℕ) → Type 0
IsNamePart slashes path found = MatchOption found (¬ (IsNameText (part_at slashes path))) (SpellsName (part_at slashes path))
