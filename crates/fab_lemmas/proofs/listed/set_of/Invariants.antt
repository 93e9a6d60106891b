use Rattle.std.proofs.Common.{◌≡◌, take}
use Rattle.std.specs.List.{list_any}
use Rattle.std.specs.Ordering.{eq_by_cmp}
use Rattle.std.specs.BTreeSet.{contains}
use Rattle.fab_lemmas.proofs.listed.set_of.Given as goal

abbrev pub invariant-loop-key : goal.invariant-loop-key
invariant-loop-key g l = (x : _) → contains g.K.Ord.cmp l.set x ≡ list_any (eq_by_cmp g.K.Ord.cmp x) (take l.key-index l.keys)
