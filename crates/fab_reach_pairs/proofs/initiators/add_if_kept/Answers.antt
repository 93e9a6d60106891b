use Rattle.std.proofs.Common.{sym, ◌∙◌}
use Rattle.fab_reach_pairs.proofs.OfInitiators.{kept_name}
use Rattle.fab_reach_books.specs.Inner.Sets.{HasName}
use Rattle.fab_reach_books.proofs.SetLoops.{adds_name}
use Rattle.fab_reach_pairs.proofs.initiators.add_if_kept.Goals as goal

pub returns-in_ok-insert : goal.returns-in_ok-insert
returns-in_ok-insert g c = kept_name c.args.touched.now c.args.name.now (HasName c.args.names.now) (HasName c.insert.new.self) (sym c.contains.ensures ∙ c.if-not-contains.true) (adds_name c.args.names.now c.insert.new.self c.args.name.now c.in_ok-insert.ensures.updates.0)
