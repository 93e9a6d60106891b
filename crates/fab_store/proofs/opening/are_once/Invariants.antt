use Rattle.std.proofs.Common.{ℕ, List, map, take, Bor}
use Rattle.fab_store_columns.specs.PlanLines.{PlanColumns}
use Rattle.fab_store.proofs.Names.{AreNamed}
use Rattle.fab_store.proofs.opening.are_once.Given as goal

abbrev pub invariant-loop-line : goal.invariant-loop-line
invariant-loop-line l = AreNamed (λ (k : Bor (List ℕ)). k.now) (map (λ (p : PlanColumns). p.name) (take l.line-index l.lines)) l.names.keys
