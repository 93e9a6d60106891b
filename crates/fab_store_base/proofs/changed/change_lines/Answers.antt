use Rattle.fab_store_base.proofs.Moves.{are_moves}
use Rattle.fab_store_base.proofs.changed.change_lines.Goals as goal

pub returns : goal.returns
returns g c before after sound_before sound_after changed = are_moves c.args.changes.now (record { removed = c.in_ok-removed.removed; added = c.in_ok-added.added }) c.in_ok-removed.ensures c.in_ok-added.ensures before after sound_before sound_after changed
