use Rattle.std.proofs.Common.{ℕ, take}
use Rattle.fab_store.specs.Loading.{TellOther}
use Rattle.fab_store.proofs.opening.other_schema.Given as goal

abbrev pub invariant-loop-line : goal.invariant-loop-line
invariant-loop-line l = (n : ℕ) → ¬ TellOther (take l.line-index l.lines) n
