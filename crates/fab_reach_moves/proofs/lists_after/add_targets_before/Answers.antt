use Rattle.std.proofs.Common.{◌≡◌, ℕ, true, sym, ap, ◌∙◌}
use Rattle.std.specs.FinMap as map
use Rattle.std.specs.FinSet as set
use Rattle.std.specs.Option.{option_copied}
use Rattle.std.specs.Ordering.{nat_cmp}
use Rattle.fab_lemmas.specs.MapsOfSets.{in_tree}
use Rattle.fab_mapping.specs.Mappings.{MappingRows}
use Rattle.fab_reach_base.specs.Views.{seen}
use Rattle.fab_reach_books.specs.Inner.Sets.{HasPortIn}
use Rattle.fab_reach_books.specs.Rows.{Stands}
use Rattle.fab_reach_moves.specs.Inner.Listing.{target_row}
use Rattle.fab_reach_moves.proofs.ListsAfter.{stand_left, targets_stand}
use Rattle.fab_reach_moves.proofs.lists_after.add_targets_before.Goals as goal

pub returns-in_ok-add_targets_but : goal.returns-in_ok-add_targets_but
returns-in_ok-add_targets_but g c =
    stand_left (λ (q : ℕ). in_tree nat_cmp (option_copied c.args.gone) q) (λ q. set.contains c.in-Some.group.now.targets q ≡ true) (λ q. Stands (seen c.args.before.now) (target_row c.args.name.now q)) (HasPortIn c.args.ports.now) (HasPortIn c.add_targets_but.new.ports)
    (targets_stand (seen c.args.before.now) c.args.name.now c.in-Some.group.now (ap (λ (m : MappingRows). map.get m.groups c.args.name.now) (sym c.mapping.ensures) ∙ sym c.in-Some.ensures)) c.in_ok-add_targets_but.ensures
