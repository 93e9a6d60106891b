use Rattle.std.proofs.Common.{◌≡◌, ℕ, ◌++◌, map}
use Rattle.fab_desk_base.specs.declared.command.Query.TheVariants as query
use Rattle.fab_looks.proofs.rows.port_queries.Given as goal

abbrev pub invariant-loop-port : goal.invariant-loop-port
invariant-loop-port g l = map (λ (a : ℕ). query.Port a) l.ports.keys ≡ l.queries.items ++ map (λ (a : ℕ). query.Port a) l.port-iterator
