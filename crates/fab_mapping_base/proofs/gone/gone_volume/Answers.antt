use Rattle.std.proofs.Common.{ℕ, [], ◌∷◌, ◌++◌, List, sym, ◌∙◌, subst, MatchOption}
use Rattle.std.specs.Cmp.{nat_cmp_total}
use Rattle.std.specs.FinSet as set
use Rattle.std.specs.Map.Iter.{deref_pair}
use Rattle.std.proofs.lemmas.Map.Iter.{rest_more, rest_all}
use Rattle.fab_inventory.specs.fab_lemmas.Firsts.{IsFirstOf}
use Rattle.fab_inventory.proofs.fab_lemmas.Adding.{Before}
use Rattle.fab_inventory.proofs.fab_lemmas.Leasts.{least_none, least_more}
use Rattle.fab_inventory.proofs.fab_lemmas.Walks.{walked, walk_end}
use Rattle.fab_inventory.specs.fab_names.Orders.{name_cmp}
use Rattle.fab_inventory.proofs.fab_names.OrderLaws.{name_total}
use Rattle.fab_mapping_base.specs.Fitting.{IsVolumeOn}
use Rattle.fab_mapping_base.proofs.Lacking.{Lacking, lacking_one, lacking_values}
use Rattle.fab_mapping_base.proofs.gone.gone_volume.Goals as goal

pub loop-unit-init : goal.loop-unit-init
loop-unit-init g c =
    (c.units-unit-items.result, c.units-unit-items.ensures, [], sym c.into_iter-unit-iterator.ensures.into_iter_gives, c.array-array.ensures, least_none name_total (λ (e : ℕ × List ℕ). Lacking (IsVolumeOn c.args.inventory.now c.args.group.now.array) e.1))

pub loop-unit-preserved : goal.loop-unit-preserved
loop-unit-preserved g c =
    let i = c.loop-unit.invariant in
    let Good = IsVolumeOn c.args.inventory.now c.args.group.now.array in
    let entry : ℕ × List ℕ = (c.in-Some._unit.now, c.in-Some.volume.now) in (
      i.0,
      i.1,
      i.2 ++ entry ∷ [],
      walked i.0 i.2 c.loop-unit._unit-iterator c.next.new.self entry i.3 (rest_more deref_pair c.loop-unit._unit-iterator c.next.new.self c.next.result (c.in-Some._unit, c.in-Some.volume) c.in-Some.is c.next.ensures.steps),
      i.4,
      subst (IsFirstOf name_cmp (Before (λ (e : ℕ × List ℕ). Lacking Good e.1) (i.2 ++ entry ∷ []))) (sym c.lesser-least.ensures)
          (least_more name_total (λ (e : ℕ × List ℕ). Lacking Good e.1) i.2 entry c.loop-unit.least c.unless_volume_on.result i.5 (lacking_one name_total Good c.in-Some.volume.now c.unless_volume_on.result (subst (λ (a : List ℕ). MatchOption c.unless_volume_on.result (IsVolumeOn c.args.inventory.now a c.in-Some.volume.now) (Lacking (IsVolumeOn c.args.inventory.now a) c.in-Some.volume.now)) i.4 c.unless_volume_on.ensures))),
    )

pub returns : goal.returns
returns g c =
    let i = c.loop-unit.invariant in
    lacking_values name_total (IsVolumeOn c.args.inventory.now c.args.group.now.array) nat_cmp_total set.nat_cmp-IsAntisymmetric c.args.group.now.units i.2 c.loop-unit.least
    (walk_end i.0 i.2 c.loop-unit._unit-iterator i.3 (rest_all deref_pair c.loop-unit._unit-iterator c.next.new.self c.next.result c.in-None.is c.next.ensures.steps) ∙ i.1) i.5
