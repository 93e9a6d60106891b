use Rattle.fab_zoning.proofs.Keeping.{nothing_is_sound}
use Rattle.fab_zoning.proofs.zoning.Zoning.new.Goals as goal

pub returns-clause-sound : goal.returns-clause-sound
returns-clause-sound g c = nothing_is_sound c.args.fabric c.new.result.entries c.new-2.result.entries c.new-3.result.entries c.new-4.result c.new.ensures.empty c.new-2.ensures.empty c.new-3.ensures.empty c.new-4.ensures
