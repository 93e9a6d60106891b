use Rattle.std.proofs.Common.{◌≡◌, ℕ, List, ◌∷◌, [], ◌++◌, sym, ◌∙◌}
use mathlib.Core.Bool.{true≢false}
use Rattle.std.specs.Cmp.Lexicographic.{bytes_decides}
use Rattle.std.specs.Map.Iter.{deref_pair}
use Rattle.std.proofs.lemmas.Map.Iter.{rest_more, rest_all}
use Rattle.fab_reach_base.proofs.fab_lemmas.Walks.{walked, walk_end}
use Rattle.fab_reach_base.proofs.Adding.{adds_as, before_none, before_more, before_skip}
use Rattle.fab_looks_ways.specs.Inner.Offers.{HasUnit}
use Rattle.fab_looks_ways.proofs.Offered.{ByUnit, adds_unit, units_added}
use Rattle.fab_looks_ways.proofs.offers.add_units.Goals as goal

pub loop-unit-init : goal.loop-unit-init
loop-unit-init g c = (
  c.units-unit-items.result,
  c.units-unit-items.ensures,
  [],
  sym c.into_iter-unit-iterator.ensures.into_iter_gives,
  before_none (ByUnit c.args.volume.now) (HasUnit c.args.units.now),
)

pub loop-unit-preserved-in_ok-insert : goal.loop-unit-preserved-in_ok-insert
loop-unit-preserved-in_ok-insert g c =
    let i = c.loop-unit.invariant in
    let u = c.in-Some.unit.now in
    let e : ℕ × List ℕ = (u, c.in-Some.there.now) in (
      i.0,
      i.1,
      i.2 ++ e ∷ [],
      walked i.0 i.2 c.loop-unit.unit-iterator c.next.new.self e i.3 (rest_more deref_pair c.loop-unit.unit-iterator c.next.new.self c.next.result (c.in-Some.unit, c.in-Some.there) c.in-Some.is c.next.ensures.steps),
      before_more (ByUnit c.args.volume.now) i.2 e (HasUnit c.args.units.now) (HasUnit c.loop-unit.units) (HasUnit c.insert.new.self) i.4
          (adds_as (λ (y : ℕ). y ≡ u) (ByUnit c.args.volume.now e) (HasUnit c.loop-unit.units) (HasUnit c.insert.new.self) (λ y h. ((bytes_decides c.in-Some.there.now c.args.volume.now).0 (sym c.eq.ensures ∙ c.if-eq.true), h)) (λ y h. h.1)
          (adds_unit c.loop-unit.units c.insert.new.self u c.in_ok-insert.ensures.updates.0)),
    )

pub loop-unit-preserved : goal.loop-unit-preserved
loop-unit-preserved g c =
    let i = c.loop-unit.invariant in
    let e : ℕ × List ℕ = (c.in-Some.unit.now, c.in-Some.there.now) in (
      i.0,
      i.1,
      i.2 ++ e ∷ [],
      walked i.0 i.2 c.loop-unit.unit-iterator c.next.new.self e i.3 (rest_more deref_pair c.loop-unit.unit-iterator c.next.new.self c.next.result (c.in-Some.unit, c.in-Some.there) c.in-Some.is c.next.ensures.steps),
      before_skip (ByUnit c.args.volume.now) i.2 e (HasUnit c.args.units.now) (HasUnit c.loop-unit.units) i.4 (λ x h. true≢false (sym ((bytes_decides c.in-Some.there.now c.args.volume.now).1 h.0) ∙ sym c.eq.ensures ∙ c.if-eq.false)),
    )

pub returns : goal.returns
returns g c =
    let i = c.loop-unit.invariant in
    units_added c.args.group.now c.args.volume.now i.2 (HasUnit c.args.units.now) (HasUnit c.loop-unit.units)
    (walk_end i.0 i.2 c.loop-unit.unit-iterator i.3 (rest_all deref_pair c.loop-unit.unit-iterator c.next.new.self c.next.result c.in-None.is c.next.ensures.steps) ∙ i.1) i.4
