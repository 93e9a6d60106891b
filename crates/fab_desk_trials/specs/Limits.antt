-- Why a limit refuses a command.
use Rattle.std.specs.Prelude.{◌≡◌, ◌⊎◌}
use Rattle.fab_desk_base.specs.declared.fault.DeskFault.{DeskFault}
use Rattle.fab_desk_base.specs.declared.fault.DeskFault.TheVariants.{Memory}

-- want of memory, or this fault because P holds
abbrev pub IsLimitFault : DeskFault → Type 0 → DeskFault → Type 0
IsLimitFault q P r = (r ≡ Memory) ⊎ ((r ≡ q) × P)
