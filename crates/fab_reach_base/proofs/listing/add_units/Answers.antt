use Rattle.std.proofs.Common.{◌∷◌, [], ◌++◌, sym, ◌∙◌}
use Rattle.std.specs.Map.Iter.{deref_pair}
use Rattle.std.proofs.lemmas.Map.Iter.{rest_more, rest_all}
use Rattle.fab_mapping.proofs.fab_mapping_base.fab_lemmas.Walks.{walked, walk_end}
use Rattle.fab_reach_base.specs.Orders.{Has}
use Rattle.fab_reach_base.proofs.Adding.{before_none, before_more}
use Rattle.fab_reach_base.proofs.Gathering.{ByUnit, adds_path, path_of, units_added}
use Rattle.fab_reach_base.proofs.listing.add_units.Goals as goal

pub loop-unit-init : goal.loop-unit-init
loop-unit-init g c = (c.units-unit-items.result, c.units-unit-items.ensures, [], sym c.into_iter-unit-iterator.ensures.into_iter_gives, before_none (ByUnit c.args.fabric c.args.initiator c.args.target) (Has c.args.paths.now))

pub loop-unit-preserved : goal.loop-unit-preserved
loop-unit-preserved g c =
    let i = c.loop-unit.invariant in (
      i.0,
      i.1,
      i.2 ++ (c.in-Some.unit.now, c.in-Some.volume.now) ∷ [],
      walked i.0 i.2 c.loop-unit.unit-iterator c.next.new.self (c.in-Some.unit.now, c.in-Some.volume.now) i.3 (rest_more deref_pair c.loop-unit.unit-iterator c.next.new.self c.next.result (c.in-Some.unit, c.in-Some.volume) c.in-Some.is c.next.ensures.steps),
      before_more (ByUnit c.args.fabric c.args.initiator c.args.target) i.2 (c.in-Some.unit.now, c.in-Some.volume.now) (Has c.args.paths.now) (Has c.loop-unit.paths) (Has c.insert.new.self) i.4
          (adds_path c.loop-unit.paths c.insert.new.self (path_of c.args.fabric c.args.initiator c.args.target (c.in-Some.unit.now, c.in-Some.volume.now)) c.in_ok-insert.ensures.updates.0),
    )

pub returns : goal.returns
returns g c =
    let i = c.loop-unit.invariant in
    units_added c.args.fabric c.args.initiator c.args.target c.args.group.now i.2 (Has c.args.paths.now) (Has c.loop-unit.paths)
    (walk_end i.0 i.2 c.loop-unit.unit-iterator i.3 (rest_all deref_pair c.loop-unit.unit-iterator c.next.new.self c.next.result c.in-None.is c.next.ensures.steps) ∙ i.1) i.4
