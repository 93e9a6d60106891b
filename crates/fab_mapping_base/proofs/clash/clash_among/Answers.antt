use Rattle.std.proofs.Common.{Bor, [], ◌∷◌, ◌++◌, map, sym, subst}
use Rattle.std.specs.Ordering.{nat_cmp}
use Rattle.std.specs.Cmp.{nat_cmp_total}
use Rattle.std.specs.FinSet as set
use Rattle.std.specs.Map.Iter.{deref}
use Rattle.std.proofs.lemmas.Map.Iter.{rest_more, rest_all}
use Rattle.fab_inventory.specs.fab_lemmas.Adding.{Among}
use Rattle.fab_inventory.proofs.fab_lemmas.Adding.{Before}
use Rattle.fab_inventory.proofs.fab_lemmas.Walks.{walked, walk_end}
use Rattle.fab_mapping_base.specs.Groups.{StorageGroupRows}
use Rattle.fab_mapping_base.specs.ClashSearch.{MeetsAt, IsLeastOf}
use Rattle.fab_inventory.proofs.fab_lemmas.Leasts.{least_none, least_more, least_all}
use Rattle.fab_mapping_base.proofs.NexusOrder.{nexus_total}
use Rattle.fab_mapping_base.proofs.clash.clash_among.Goals as goal

pub loop-first-init : goal.loop-first-init
loop-first-init g c = ([], sym c.into_iter-first-iterator.ensures.into_iter_gives.0, least_none nexus_total (λ i. Among nat_cmp c.args.places.now (MeetsAt (map (λ (r : Bor StorageGroupRows). r.now) c.args.groups.now) c.args.host i)), c.requires)

pub loop-first-preserved : goal.loop-first-preserved
loop-first-preserved g c =
    let i = c.loop-first.invariant in (
      i.0 ++ c.in-Some.first.now ∷ [],
      walked c.args.places.now.keys i.0 c.loop-first.first-iterator c.next.new.self c.in-Some.first.now i.1 (rest_more deref c.loop-first.first-iterator c.next.new.self c.next.result c.in-Some.first c.in-Some.is c.next.ensures.steps),
      subst (IsLeastOf (Before (λ i. Among nat_cmp c.args.places.now (MeetsAt (map (λ (r : Bor StorageGroupRows). r.now) c.args.groups.now) c.args.host i)) (i.0 ++ c.in-Some.first.now ∷ []))) (sym c.lesser-least.ensures) (least_more nexus_total (λ i. Among nat_cmp c.args.places.now (MeetsAt (map (λ (r : Bor StorageGroupRows). r.now) c.args.groups.now) c.args.host i)) i.0 c.in-Some.first.now c.loop-first.least c.clash_with.result i.2 c.clash_with.ensures.least),
      c.clash_with.ensures.fine,
    )

pub returns-clause-least : goal.returns-clause-least
returns-clause-least g c =
    let i = c.loop-first.invariant in
    least_all nexus_total (λ i. Among nat_cmp c.args.places.now (MeetsAt (map (λ (r : Bor StorageGroupRows). r.now) c.args.groups.now) c.args.host i)) nat_cmp_total set.nat_cmp-IsAntisymmetric c.args.places.now i.0 c.loop-first.least (walk_end c.args.places.now.keys i.0 c.loop-first.first-iterator i.1 (rest_all deref c.loop-first.first-iterator c.next.new.self c.next.result c.in-None.is c.next.ensures.steps)) i.2
