-- What a fault of rows says.
use Rattle.fab_store_load.specs.declared.fault.LoadFault.{LoadFault}
use Rattle.fab_store_load.specs.declared.fault.LoadFault.TheVariants.{Damaged, Memory}
use Rattle.fab_store_load.specs.declared.fault.Table.{Table}

-- this holds of the table that was found damaged, if one was
abbrev pub OfTable : (Table → Type 0) → LoadFault → Type 0
OfTable P (Damaged t) = P t
OfTable P Memory = Unit {0}
