use Rattle.std.proofs.Common.{◌≡◌, drop}
use Rattle.fab_policy_looks.specs.Inner.Candidates.{opening_of, with_ends}
use Rattle.fab_policy_looks.proofs.openings.opening_of.Given as goal

abbrev pub invariant-loop-freeze : goal.invariant-loop-freeze
invariant-loop-freeze l = with_ends l.window l.from l.best (drop l.freeze-index l.window.freeze) ≡ opening_of l.window l.from
