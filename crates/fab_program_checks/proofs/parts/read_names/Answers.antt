use Rattle.std.proofs.Common.{map}
use Rattle.fab_names.specs.Names.{SpellsName}
use Rattle.fab_program_checks.specs.Parts.{AreRead}
use Rattle.fab_program_checks.proofs.Gathered.{read_more, read_all}
use Rattle.fab_program_checks.proofs.parts.read_names.Goals as goal

pub loop-part-preserved : goal.loop-part-preserved
loop-part-preserved c = read_more SpellsName (AreRead SpellsName (map (λ part. part.now) c.args.parts.now)) (λ part. part.now) c.args.parts.now c.loop-part.part-index _ c.loop-part.names.items c.add_name.new.names.items c.loop-part-test.true c.loop-part.invariant c.in_ok-add_name.ensures

pub returns : goal.returns
returns c = read_all SpellsName (AreRead SpellsName (map (λ part. part.now) c.args.parts.now)) (λ part. part.now) c.args.parts.now c.loop-part.part-index c.loop-part.names.items c.loop-part-test.false c.loop-part.invariant
