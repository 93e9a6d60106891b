use Rattle.std.proofs.Common.{ℕ, List, sym, ◌∙◌}
use Rattle.std.specs.Option.{option_copied}
use Rattle.fab_lemmas.specs.MapsOfSets.{in_tree}
use Rattle.fab_names.specs.Orders.{name_cmp}
use Rattle.fab_reach_books.specs.Inner.Sets.{HasName}
use Rattle.fab_reach_books.proofs.SetLoops.{adds_name}
use Rattle.fab_reach_moves.proofs.ListsAfter.{is_left, is_gone}
use Rattle.fab_reach_moves.proofs.lists_after.add_unless_gone.Goals as goal

pub returns-in_ok-insert : goal.returns-in_ok-insert
returns-in_ok-insert g c = is_left (λ (x : List ℕ). in_tree name_cmp (option_copied c.args.gone) x) c.args.name.now (HasName c.args.names.now) (HasName c.insert.new.self) (sym c.has_name.ensures ∙ c.if-not-has_name.true) (adds_name c.args.names.now c.insert.new.self c.args.name.now c.in_ok-insert.ensures.updates.0)

pub returns-else-not-has_name : goal.returns-else-not-has_name
returns-else-not-has_name g c = is_gone (λ (x : List ℕ). in_tree name_cmp (option_copied c.args.gone) x) c.args.name.now (HasName c.args.names.now) (sym c.has_name.ensures ∙ c.if-not-has_name.false)
