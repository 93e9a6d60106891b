-- The words of kinds of holders.
use Rattle.std.specs.Prelude.{ℕ, List, codes}
use Rattle.fab_inventory.specs.declared.holder.HolderKind.{HolderKind}
use Rattle.fab_inventory.specs.declared.holder.HolderKind.TheVariants.{Host, Array}

-- the word of a kind of holder
abbrev pub kind_text : HolderKind → List ℕ
kind_text Host = codes "host"
kind_text Array = codes "array"
