-- The numbers of turns whose lines wait.
use Rattle.std.specs.Prelude.{ℕ, ◌+◌, ◌-◌, ◌^◌, length, min}
use Rattle.fab_wire_log.specs.declared.pending.Pending.{Pending}

-- that of the first of them
abbrev pub first_of : Pending → ℕ
first_of pending = pending.first

-- that of the next turn
abbrev pub next_of : Pending → ℕ
next_of pending = min (pending.first + length pending.lines.items) (2 ^ 64 - 1)
