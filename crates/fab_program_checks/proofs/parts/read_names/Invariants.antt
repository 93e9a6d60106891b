use Rattle.std.proofs.Common.{ℕ, ◌++◌, List, map, drop}
use Rattle.fab_names.specs.Names.{SpellsName}
use Rattle.fab_program_checks.specs.Parts.{AreRead}
use Rattle.fab_program_checks.proofs.parts.read_names.Given as goal

abbrev pub invariant-loop-part : goal.invariant-loop-part
invariant-loop-part l = (rest : List (List ℕ)) → AreRead SpellsName (map (λ part. part.now) (drop l.part-index l.parts)) rest → AreRead SpellsName (map (λ part. part.now) l.fn.parts) (l.names.items ++ rest)
