use Rattle.fab_desk_base.proofs.SameLists.{tells_activation}
use Rattle.fab_desk_base.proofs.dry_runs.dry_run_tells_activation.Goals as goal

pub returns : goal.returns
returns g c p o w i j caller other moment later n a b h k = tells_activation p o w i j caller other moment later n c.args.tried.now c.args.done.now a b h k
