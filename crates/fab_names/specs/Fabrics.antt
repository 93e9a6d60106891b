-- The texts of the fabrics.
use Rattle.std.specs.Prelude.{ℕ, ◌≡◌, List, codes}
use Rattle.fab_names.specs.declared.fabric.Fabric.{Fabric}
use Rattle.fab_names.specs.declared.fabric.Fabric.TheVariants.{A, B}

-- the letter of a fabric
abbrev pub fabric_text : Fabric → List ℕ
fabric_text A = codes "A"
fabric_text B = codes "B"

-- the text is the letter of the fabric
abbrev pub SpellsFabric : List ℕ → Fabric → Type 0
SpellsFabric text fabric = text ≡ fabric_text fabric
