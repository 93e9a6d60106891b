use Rattle.std.proofs.Common.{sym, subst}
use Rattle.fab_desk_machine.proofs.fab_desk_commands.SoundAfter.{sound_serves}
use Rattle.fab_reach_base.specs.Serving.{IsServing}
use Rattle.fab_world.specs.Worlds.{WorldRows, records_of}
use Rattle.fab_program_looks.proofs.books.book_of.Goals as goal

pub open-requires : goal.open-requires
open-requires g c = subst IsServing (sym c.of.ensures) (subst (λ (w : WorldRows). IsServing (records_of w)) (sym c.world.view_is) (sound_serves c.args.world.now c.requires))
