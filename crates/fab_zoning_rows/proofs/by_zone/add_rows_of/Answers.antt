use Rattle.std.proofs.Common.{◌∷◌, [], ◌++◌, sym}
use Rattle.fab_inventory.proofs.fab_lemmas.Walks.{walked, walk_end}
use Rattle.fab_zoning_rows.proofs.Listing.{listed_none, listed_more, listed_all}
use Rattle.fab_zoning_rows.proofs.by_zone.add_rows_of.Goals as goal

pub loop-zone-init : goal.loop-zone-init
loop-zone-init g c = ([], sym c.into_iter-zone-iterator.ensures.into_iter_gives.0, listed_none c.args.rows.now)

pub loop-zone-preserved : goal.loop-zone-preserved
loop-zone-preserved g c =
    let before = c.loop-zone.invariant.0 in (
      before ++ c.in-Some.zone.now ∷ [],
      walked c.args.zones.now.keys before c.loop-zone.zone-iterator c.next.new.self c.in-Some.zone.now c.loop-zone.invariant.1 c.in-Some.ensures.steps,
      listed_more c.args.member.now before c.in-Some.zone.now c.args.rows.now c.loop-zone.rows c.insert.new.self c.loop-zone.invariant.2 c.in_ok-insert.ensures.updates.0,
    )

pub returns : goal.returns
returns g c =
    listed_all c.args.member.now c.loop-zone.invariant.0 c.args.zones.now.keys c.args.rows.now c.loop-zone.rows
    (walk_end c.args.zones.now.keys c.loop-zone.invariant.0 c.loop-zone.zone-iterator c.loop-zone.invariant.1 c.in-None.ensures.steps.0) c.loop-zone.invariant.2
