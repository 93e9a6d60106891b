use Rattle.std.proofs.Common.{ℕ, [], ◌∷◌, ◌++◌, List, sym, ap, ◌∙◌, subst, MatchOption}
use Rattle.std.specs.Cmp.{nat_cmp_total}
use Rattle.std.specs.FinSet as set
use Rattle.std.specs.Map.Iter.{deref}
use Rattle.std.specs.Ordering.{nat_cmp}
use Rattle.std.proofs.lemmas.Map.Iter.{rest_more, rest_all}
use Rattle.fab_inventory.specs.fab_lemmas.Firsts.{IsFirstOf}
use Rattle.fab_inventory.proofs.fab_lemmas.Adding.{Before}
use Rattle.fab_inventory.proofs.fab_lemmas.Leasts.{least_none, least_more}
use Rattle.fab_inventory.proofs.fab_lemmas.Walks.{walked, walk_end}
use Rattle.fab_mapping_base.specs.Fitting.{IsPortOf}
use Rattle.fab_mapping_base.proofs.Lacking.{Lacking, lacking_one, lacking_members}
use Rattle.fab_mapping_base.proofs.gone.gone_target.Goals as goal

pub loop-port-init : goal.loop-port-init
loop-port-init g c = (c.targets-port-items.result, c.targets-port-items.ensures.targets, [], sym c.into_iter-port-iterator.ensures.into_iter_gives, c.array-array.ensures, least_none nat_cmp_total (Lacking (IsPortOf c.args.inventory.now c.args.group.now.array)))

pub loop-port-preserved : goal.loop-port-preserved
loop-port-preserved g c =
    let i = c.loop-port.invariant in
    let Good = IsPortOf c.args.inventory.now c.args.group.now.array in (
      i.0,
      i.1,
      i.2 ++ c.in-Some.port.now ∷ [],
      walked i.0 i.2 c.loop-port.port-iterator c.next.new.self c.in-Some.port.now i.3 (rest_more deref c.loop-port.port-iterator c.next.new.self c.next.result c.in-Some.port c.in-Some.is c.next.ensures.steps),
      i.4,
      subst (IsFirstOf nat_cmp (Before (Lacking Good) (i.2 ++ c.in-Some.port.now ∷ []))) (sym c.lesser-least.ensures)
          (least_more nat_cmp_total (Lacking Good) i.2 c.in-Some.port.now c.loop-port.least c.unless_port_of.result i.5 (lacking_one nat_cmp_total Good c.in-Some.port.now c.unless_port_of.result (subst (λ (a : List ℕ). MatchOption c.unless_port_of.result (IsPortOf c.args.inventory.now a c.in-Some.port.now) (Lacking (IsPortOf c.args.inventory.now a) c.in-Some.port.now)) i.4 c.unless_port_of.ensures))),
    )

pub returns : goal.returns
returns g c =
    let i = c.loop-port.invariant in
    lacking_members nat_cmp_total (IsPortOf c.args.inventory.now c.args.group.now.array) set.nat_cmp-IsAntisymmetric c.args.group.now.targets i.2 c.loop-port.least
    (ap set.from_list (walk_end i.0 i.2 c.loop-port.port-iterator i.3 (rest_all deref c.loop-port.port-iterator c.next.new.self c.next.result c.in-None.is c.next.ensures.steps)) ∙ i.1) i.5
