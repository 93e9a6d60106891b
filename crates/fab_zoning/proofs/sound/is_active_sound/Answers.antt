use Rattle.fab_zoning.proofs.Keeping.{unnamed, unnamed_back}
use Rattle.fab_zoning.proofs.sound.is_active_sound.Goals as goal

pub returns-in-None : goal.returns-in-None
returns-in-None g c = rw c.in-None.is (unnamed c.args.rows.now c.count-count.result c.count-count.ensures, unnamed_back c.args.rows.now c.count-count.result c.count-count.ensures)
