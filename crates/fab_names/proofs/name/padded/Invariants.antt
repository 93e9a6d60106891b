use Rattle.std.proofs.Common.{◌≡◌}
use Rattle.fab_names.proofs.Copies.{copied}
use Rattle.fab_names.proofs.name.padded.Given as goal

abbrev pub invariant-loop-i : goal.invariant-loop-i
invariant-loop-i l = l.bytes ≡ copied l.text l.i
