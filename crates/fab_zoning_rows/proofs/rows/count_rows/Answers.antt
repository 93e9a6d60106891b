use Rattle.std.proofs.Common.{ℕ, List, ◌∷◌, [], ◌++◌, sym, ap, arith}
use Rattle.std.specs.FinSet as set
use Rattle.std.specs.BTreeSet.{BTreeSet}
use Rattle.fab_inventory.specs.fab_names.declared.member.Member.{Member}
use Rattle.fab_zoning_rows.specs.Rows.{row_cmp}
use Rattle.fab_zoning_rows.specs.Views.{seen_rows}
use Rattle.fab_inventory.proofs.fab_lemmas.Walks.{walked, walk_end}
use Rattle.fab_zoning_rows.proofs.RowSets.{count_step, count_within}
use Rattle.fab_zoning_rows.proofs.rows.count_rows.Goals as goal

pub loop-zones-init : goal.loop-zones-init
loop-zones-init g c = ([], sym c.into_iter-zones-iterator.ensures.into_iter_gives.0, sym (set.len-empty row_cmp), omega arith)

pub loop-zones-preserved : goal.loop-zones-preserved
loop-zones-preserved g c =
    let es = c.args.zones_by_member.now.entries in
    let before = c.loop-zones.invariant.0 in
    let e : Member × BTreeSet (List ℕ) = (c.in-Some.field-0-0.now, c.in-Some.zones.now) in
    let more = count_step es before c.loop-zones.zones-iterator c.next.new.self e c.loop-zones.invariant.1 c.in-Some.ensures.steps c.into_iter-zones-iterator.ensures.into_iter_gives.5 c.len-more.ensures.ordered in
    let count = c.loop-zones.invariant.2 in
    let few = c.loop-zones.invariant.3 in
    let len = c.len-more.ensures.len in
    let room = c.if-more-count.false in
    (before ++ e ∷ [], walked es before c.loop-zones.zones-iterator c.next.new.self e c.loop-zones.invariant.1 c.in-Some.ensures.steps, omega (arith, more, count, len), omega (arith, few, room))

pub returns-then-more-count-clause-count : goal.returns-then-more-count-clause-count
returns-then-more-count-clause-count g c =
    let es = c.args.zones_by_member.now.entries in
    let before = c.loop-zones.invariant.0 in
    let e : Member × BTreeSet (List ℕ) = (c.in-Some.field-0-0.now, c.in-Some.zones.now) in
    let more = count_step es before c.loop-zones.zones-iterator c.next.new.self e c.loop-zones.invariant.1 c.in-Some.ensures.steps c.into_iter-zones-iterator.ensures.into_iter_gives.5 c.len-more.ensures.ordered in
    let within = count_within es before c.loop-zones.zones-iterator c.next.new.self e c.loop-zones.invariant.1 c.in-Some.ensures.steps in
    let count = c.loop-zones.invariant.2 in
    let few = c.loop-zones.invariant.3 in
    let len = c.len-more.ensures.len in
    let many = c.if-more-count.true in
    omega (arith, more, within, count, few, len, many)

pub returns-clause-count : goal.returns-clause-count
returns-clause-count g c =
    let es = c.args.zones_by_member.now.entries in
    let all = walk_end es c.loop-zones.invariant.0 c.loop-zones.zones-iterator c.loop-zones.invariant.1 c.in-None.ensures.steps.0 in
    let len = ap (λ x. set.len (seen_rows x)) all in
    let count = c.loop-zones.invariant.2 in
    let few = c.loop-zones.invariant.3 in
    omega (arith, len, count, few)
