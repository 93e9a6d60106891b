use Rattle.std.proofs.Common.{[], ◌∷◌, ◌++◌, sym}
use Rattle.fab_reach_base.proofs.fab_lemmas.Walks.{walked, walk_end}
use Rattle.fab_desk_base.specs.Tenants.{Has}
use Rattle.fab_reach_base.proofs.Adding.{before_none, before_more}
use Rattle.fab_looks_ways.proofs.Gains.{Same, adds_name, all_added}
use Rattle.fab_looks_ways.proofs.zoned.add_all.Goals as goal

pub loop-name-init : goal.loop-name-init
loop-name-init g c = ([], sym c.into_iter-name-iterator.ensures.into_iter_gives.0, before_none Same (Has c.args.names.now))

pub loop-name-preserved : goal.loop-name-preserved
loop-name-preserved g c =
    let i = c.loop-name.invariant in
    let n = c.in-Some.name.now in (
      i.0 ++ n ∷ [],
      walked c.args.more.now.keys i.0 c.loop-name.name-iterator c.next.new.self n i.1 c.in-Some.ensures.steps,
      before_more Same i.0 n (Has c.args.names.now) (Has c.loop-name.names) (Has c.insert.new.self) i.2 (adds_name c.loop-name.names c.insert.new.self n c.in_ok-insert.ensures.updates.0),
    )

pub returns : goal.returns
returns g c =
    let i = c.loop-name.invariant in
    all_added c.args.more.now i.0 (Has c.args.names.now) (Has c.loop-name.names) (walk_end c.args.more.now.keys i.0 c.loop-name.name-iterator i.1 c.in-None.ensures.steps.0) i.2
