use Rattle.std.proofs.Common.{sym, ◌∙◌}
use mathlib.Core.Bool.{true≢false}
use Rattle.fab_reach_pairs.proofs.LooseLoops.{one_loose, none_loose}
use Rattle.fab_reach_books.proofs.SetLoops.{adds_port}
use Rattle.fab_reach_base.specs.Views.{seen}
use Rattle.fab_reach_books.specs.Inner.Sets.{HasPortIn}
use Rattle.fab_reach_pairs.proofs.loose.add_if_loose.Goals as goal

pub returns-in_ok-insert : goal.returns-in_ok-insert
returns-in_ok-insert g c = one_loose (seen c.args.view.now) c.requires c.args.fabric c.args.port.now (HasPortIn c.args.loose.now) (HasPortIn c.insert.new.self) (c.is_loose.ensures.0 c.if-is_loose.true) (adds_port c.args.loose.now c.insert.new.self c.args.port.now c.in_ok-insert.ensures.updates.0)

pub returns-else-is_loose : goal.returns-else-is_loose
returns-else-is_loose g c = none_loose (seen c.args.view.now) c.requires c.args.fabric c.args.port.now (HasPortIn c.args.loose.now) (λ l. true≢false (sym (c.is_loose.ensures.1 l) ∙ c.if-is_loose.false))
