use Rattle.std.proofs.Common.{◌≡◌, ◌++◌}
use Rattle.fab_desk_base.proofs.listed.units_listed.Given as goal

abbrev pub invariant-loop-unit : goal.invariant-loop-unit
invariant-loop-unit g l = l.fn.units ≡ l.items.items ++ l.unit-iterator
