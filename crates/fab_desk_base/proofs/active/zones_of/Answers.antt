use Rattle.std.proofs.Common.{[], ◌∷◌, ◌++◌, sym, ◌∙◌, subst, append_assoc}
use Rattle.std.specs.List.Sorted.{IsStrictlySortedBy}
use Rattle.std.specs.Map.Iter.{deref}
use Rattle.std.proofs.lemmas.Map.Iter.{rest_more, rest_all}
use Rattle.fab_reach_base.proofs.fab_lemmas.Walks.{walked, walk_end}
use Rattle.fab_reach_base.specs.fab_zoning_rows.Rows.{Row, row_cmp}
use Rattle.fab_desk_base.specs.Grouping.{IsGrouped}
use Rattle.fab_desk_base.proofs.Zones.{grouped_none, grouped_more}
use Rattle.fab_desk_base.proofs.active.zones_of.Goals as goal

pub loop-zone-init : goal.loop-zone-init
loop-zone-init g c = ([], sym c.into_iter-zone-iterator.ensures.into_iter_gives.0, grouped_none c.new-zones.result.items c.new-zones.ensures.items)

pub loop-zone-preserved : goal.loop-zone-preserved
loop-zone-preserved g c =
    let i = c.loop-zone.invariant in
    let row : Row = c.in-Some.field-0.now in
    let whole = walked c.args.rows.now.keys i.0 c.loop-zone.zone-iterator c.next.new.self row i.1 (rest_more deref c.loop-zone.zone-iterator c.next.new.self c.next.result c.in-Some.field-0 c.in-Some.is c.next.ensures.steps) in
    let sorted = subst (IsStrictlySortedBy row_cmp) (whole ∙ append_assoc i.0 (row ∷ []) c.next.new.self) c.len-count.ensures.ordered in
    (i.0 ++ row ∷ [], whole, grouped_more i.0 c.next.new.self row c.loop-zone.zones.items c.add_row.new.zones.items sorted i.2 c.in_ok-add_row.ensures)

pub returns : goal.returns
returns g c =
    let i = c.loop-zone.invariant in
    subst (λ rows. IsGrouped rows c.loop-zone.zones.items) (walk_end c.args.rows.now.keys i.0 c.loop-zone.zone-iterator i.1 (rest_all deref c.loop-zone.zone-iterator c.next.new.self c.next.result c.in-None.is c.next.ensures.steps)) i.2
