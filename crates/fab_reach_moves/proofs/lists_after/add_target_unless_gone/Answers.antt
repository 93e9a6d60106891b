use Rattle.std.proofs.Common.{ℕ, sym, ◌∙◌}
use Rattle.std.specs.Option.{option_copied}
use Rattle.std.specs.Ordering.{nat_cmp}
use Rattle.fab_lemmas.specs.MapsOfSets.{in_tree}
use Rattle.fab_reach_books.specs.Inner.Sets.{HasPortIn}
use Rattle.fab_reach_books.proofs.SetLoops.{adds_port}
use Rattle.fab_reach_moves.proofs.ListsAfter.{is_left, is_gone}
use Rattle.fab_reach_moves.proofs.lists_after.add_target_unless_gone.Goals as goal

pub returns-in_ok-insert : goal.returns-in_ok-insert
returns-in_ok-insert g c = is_left (λ (x : ℕ). in_tree nat_cmp (option_copied c.args.gone) x) c.args.target.now (HasPortIn c.args.ports.now) (HasPortIn c.insert.new.self) (sym c.has_port.ensures ∙ c.if-not-has_port.true) (adds_port c.args.ports.now c.insert.new.self c.args.target.now c.in_ok-insert.ensures.updates.0)

pub returns-else-not-has_port : goal.returns-else-not-has_port
returns-else-not-has_port g c = is_gone (λ (x : ℕ). in_tree nat_cmp (option_copied c.args.gone) x) c.args.target.now (HasPortIn c.args.ports.now) (sym c.has_port.ensures ∙ c.if-not-has_port.false)
