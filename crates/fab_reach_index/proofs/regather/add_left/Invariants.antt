use Rattle.std.proofs.Common.{◌≡◌, List, ◌++◌}
use Rattle.std.specs.Option.{option_copied}
use Rattle.fab_lemmas.specs.MapsOfSets.{in_tree}
use Rattle.fab_reach_base.specs.Adding.{Adds}
use Rattle.fab_reach_base.proofs.Adding.{Before}
use Rattle.fab_reach_index.specs.Inner.Regathering.{HasIn}
use Rattle.fab_reach_index.proofs.Regathering.{IfLeft}
use Rattle.fab_reach_index.proofs.regather.add_left.Given as goal

abbrev pub invariant-loop-item : goal.invariant-loop-item
invariant-loop-item g l = (before : List _) × (l.initial.item-iterator ≡ before ++ l.item-iterator) × Adds (Before (IfLeft g.K.Ord.cmp (λ x. in_tree g.K.Ord.cmp (option_copied l.gone) x)) before) (HasIn g.K.Ord.cmp l.fn.items) (HasIn g.K.Ord.cmp l.items)
