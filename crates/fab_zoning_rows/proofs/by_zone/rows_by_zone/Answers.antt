use Rattle.std.proofs.Common.{ℕ, List, ◌∷◌, [], ◌++◌, sym}
use Rattle.std.specs.BTreeSet.{BTreeSet}
use Rattle.fab_inventory.specs.fab_names.declared.member.Member.{Member}
use Rattle.fab_inventory.proofs.fab_lemmas.Walks.{walked, walk_end}
use Rattle.fab_zoning_rows.proofs.Listing.{none_listed, more_listed, all_listed}
use Rattle.fab_zoning_rows.proofs.by_zone.rows_by_zone.Goals as goal

pub loop-member-init : goal.loop-member-init
loop-member-init g c = ([], sym c.into_iter-member-iterator.ensures.into_iter_gives.0, none_listed c.new-rows.result c.new-rows.ensures.empty)

pub loop-member-preserved : goal.loop-member-preserved
loop-member-preserved g c =
    let before = c.loop-member.invariant.0 in
    let e : Member × BTreeSet (List ℕ) = (c.in-Some.member.now, c.in-Some.zones.now) in (
      before ++ e ∷ [],
      walked c.args.zones_by_member.now.entries before c.loop-member.member-iterator c.next.new.self e c.loop-member.invariant.1 c.in-Some.ensures.steps,
      more_listed before e c.loop-member.rows c.add_rows_of.new.rows c.loop-member.invariant.2 c.in_ok-add_rows_of.ensures,
    )

pub returns : goal.returns
returns g c =
    all_listed c.args.zones_by_member.now.entries c.loop-member.invariant.0 c.loop-member.rows
    (walk_end c.args.zones_by_member.now.entries c.loop-member.invariant.0 c.loop-member.member-iterator c.loop-member.invariant.1 c.in-None.ensures.steps.0) c.loop-member.invariant.2 c.len-count.ensures.ordered
