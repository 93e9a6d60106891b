use Rattle.std.proofs.Common.{◌∷◌, [], ◌++◌, sym, ◌∙◌}
use mathlib.Core.Bool.{true≢false}
use Rattle.std.specs.Cmp.Lexicographic.{bytes_decides}
use Rattle.std.specs.Map.Iter.{deref_pair}
use Rattle.std.proofs.lemmas.Map.Iter.{rest_more, rest_all}
use Rattle.fab_lemmas.proofs.Walks.{walked, walk_end}
use Rattle.fab_reach_base.specs.Orders.{Has}
use Rattle.fab_reach_base.proofs.Adding.{before_none, before_more, before_skip}
use Rattle.fab_reach_base.proofs.Gathering.{adds_path, path_of}
use Rattle.fab_looks.proofs.Gains.{ByUnit, unit_added, units_added}
use Rattle.fab_looks.proofs.offering.add_units.Goals as goal

pub loop-unit-init : goal.loop-unit-init
loop-unit-init g c = (
  c.units-unit-items.result,
  c.units-unit-items.ensures,
  [],
  sym c.into_iter-unit-iterator.ensures.into_iter_gives,
  before_none (ByUnit c.args.fabric c.args.initiator c.args.target c.args.volume.now) (Has c.args.paths.now),
)

pub loop-unit-preserved-in_ok-insert : goal.loop-unit-preserved-in_ok-insert
loop-unit-preserved-in_ok-insert g c =
    let i = c.loop-unit.invariant in
    let Q = ByUnit c.args.fabric c.args.initiator c.args.target c.args.volume.now in
    let path = path_of c.args.fabric c.args.initiator c.args.target (c.in-Some.unit.now, c.args.volume.now) in (
      i.0,
      i.1,
      i.2 ++ (c.in-Some.unit.now, c.in-Some.there.now) ∷ [],
      walked i.0 i.2 c.loop-unit.unit-iterator c.next.new.self (c.in-Some.unit.now, c.in-Some.there.now) i.3 (rest_more deref_pair c.loop-unit.unit-iterator c.next.new.self c.next.result (c.in-Some.unit, c.in-Some.there) c.in-Some.is c.next.ensures.steps),
      before_more Q i.2 (c.in-Some.unit.now, c.in-Some.there.now) (Has c.args.paths.now) (Has c.loop-unit.paths) (Has c.insert.new.self) i.4
          (unit_added c.args.fabric c.args.initiator c.args.target c.args.volume.now (c.in-Some.unit.now, c.in-Some.there.now) (Has c.loop-unit.paths) (Has c.insert.new.self)
          ((bytes_decides c.in-Some.there.now c.args.volume.now).0 (sym c.eq.ensures ∙ c.if-eq.true))
          (adds_path c.loop-unit.paths c.insert.new.self path c.in_ok-insert.ensures.updates.0)),
    )

pub loop-unit-preserved : goal.loop-unit-preserved
loop-unit-preserved g c =
    let i = c.loop-unit.invariant in
    let Q = ByUnit c.args.fabric c.args.initiator c.args.target c.args.volume.now in (
      i.0,
      i.1,
      i.2 ++ (c.in-Some.unit.now, c.in-Some.there.now) ∷ [],
      walked i.0 i.2 c.loop-unit.unit-iterator c.next.new.self (c.in-Some.unit.now, c.in-Some.there.now) i.3 (rest_more deref_pair c.loop-unit.unit-iterator c.next.new.self c.next.result (c.in-Some.unit, c.in-Some.there) c.in-Some.is c.next.ensures.steps),
      before_skip Q i.2 (c.in-Some.unit.now, c.in-Some.there.now) (Has c.args.paths.now) (Has c.loop-unit.paths) i.4 (λ x h. true≢false (sym ((bytes_decides c.in-Some.there.now c.args.volume.now).1 h.0) ∙ sym c.eq.ensures ∙ c.if-eq.false)),
    )

pub returns : goal.returns
returns g c =
    let i = c.loop-unit.invariant in
    units_added c.args.fabric c.args.initiator c.args.target c.args.group.now c.args.volume.now i.2 (Has c.args.paths.now) (Has c.loop-unit.paths)
    (walk_end i.0 i.2 c.loop-unit.unit-iterator i.3 (rest_all deref_pair c.loop-unit.unit-iterator c.next.new.self c.next.result c.in-None.is c.next.ensures.steps) ∙ i.1) i.4
