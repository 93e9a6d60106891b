use Rattle.std.proofs.Common.{◌≡◌, ◌++◌}
use Rattle.fab_looks_tries.proofs.order.in_order.Given as goal

abbrev pub invariant-loop-key : goal.invariant-loop-key
invariant-loop-key g l = l.set.keys ≡ l.list.items ++ l.key-iterator
