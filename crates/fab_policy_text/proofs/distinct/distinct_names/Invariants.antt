use Rattle.std.proofs.Common.{ℕ, ◌<◌, map}
use Rattle.fab_policy_base.specs.Sound.{RepeatsAt}
use Rattle.fab_policy_text.proofs.distinct.distinct_names.Given as goal

abbrev pub invariant-loop-i : goal.invariant-loop-i
invariant-loop-i g l = (k : ℕ) → k < l.i → ¬ RepeatsAt (map g.T.Named.name_of l.items) k
