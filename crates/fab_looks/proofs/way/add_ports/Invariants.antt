use Rattle.std.proofs.Common.{◌≡◌, ℕ, ◌++◌, map, take}
use Rattle.fab_desk_base.specs.declared.command.Query.TheVariants as query
use Rattle.fab_looks.proofs.way.add_ports.Given as goal

abbrev pub invariant-loop-port : goal.invariant-loop-port
invariant-loop-port g l = l.queries.items ≡ l.fn.queries.items ++ map (λ (a : ℕ). query.Port a) (take l.port-index l.ports)
