use Rattle.std.proofs.Common.{ℕ, List, ◌∷◌, [], ◌++◌, sym, ◌∙◌}
use Rattle.std.specs.Map.Iter.{deref_pair}
use Rattle.std.proofs.lemmas.Map.Iter.{rest_more, rest_all}
use Rattle.fab_lemmas.proofs.Walks.{walked, walk_end}
use Rattle.fab_mapping_base.specs.Groups.{StorageGroupRows}
use Rattle.fab_plans_rows.specs.Inner.Beside.{AreClear}
use Rattle.fab_plans_rows.proofs.Clearing.{all_none, all_more, clear_of_all}
use Rattle.fab_plans_rows.proofs.beside.is_clear.Goals as goal

pub loop-other-init : goal.loop-other-init
loop-other-init g c =
    let P = λ (e : List ℕ × StorageGroupRows). AreClear c.args.mapping.now c.args.group.now e.1 in
    (c.groups-other-items.result, c.groups-other-items.ensures, [], sym c.into_iter-other-iterator.ensures.into_iter_gives, all_none P)

pub loop-other-preserved : goal.loop-other-preserved
loop-other-preserved g c =
    let P = λ (e : List ℕ × StorageGroupRows). AreClear c.args.mapping.now c.args.group.now e.1 in
    let i = c.loop-other.invariant in
    let e : List ℕ × StorageGroupRows = (c.in-Some.field-0-0.now, c.in-Some.other.now) in (
      i.0,
      i.1,
      i.2 ++ e ∷ [],
      walked i.0 i.2 c.loop-other.other-iterator c.next.new.self e i.3 (rest_more deref_pair c.loop-other.other-iterator c.next.new.self c.next.result (c.in-Some.field-0-0, c.in-Some.other) c.in-Some.is c.next.ensures.steps),
      all_more P i.2 e i.4 (c.is_clear_of.ensures c.if-not-is_clear_of.false),
    )

pub returns : goal.returns
returns g c is =
    let i = c.loop-other.invariant in
    clear_of_all c.args.mapping.now c.args.group.now i.2
    (walk_end i.0 i.2 c.loop-other.other-iterator i.3 (rest_all deref_pair c.loop-other.other-iterator c.next.new.self c.next.result c.in-None.is c.next.ensures.steps) ∙ i.1) i.4
