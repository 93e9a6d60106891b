use Rattle.std.proofs.Common.{Bor, [], ◌∷◌, ◌++◌, map, sym, subst}
use Rattle.std.specs.Cmp.{nat_cmp_total}
use Rattle.std.specs.FinSet as set
use Rattle.std.specs.Map.Iter.{deref}
use Rattle.std.proofs.lemmas.Map.Iter.{rest_more, rest_all}
use Rattle.fab_inventory.proofs.fab_lemmas.Adding.{Before}
use Rattle.fab_inventory.proofs.fab_lemmas.Walks.{walked, walk_end}
use Rattle.fab_mapping_base.specs.Groups.{StorageGroupRows}
use Rattle.fab_mapping_base.specs.ClashSearch.{MeetsAt, IsLeastOf}
use Rattle.fab_inventory.proofs.fab_lemmas.Leasts.{least_none, least_more, least_all}
use Rattle.fab_mapping_base.proofs.NexusOrder.{nexus_total}
use Rattle.fab_mapping_base.proofs.clash.clash_with.Goals as goal

pub loop-second-init : goal.loop-second-init
loop-second-init g c = ([], sym c.into_iter-second-iterator.ensures.into_iter_gives.0, least_none nexus_total (MeetsAt (map (λ (r : Bor StorageGroupRows). r.now) c.args.groups.now) c.args.host c.args.first), c.requires)

pub loop-second-preserved : goal.loop-second-preserved
loop-second-preserved g c =
    let i = c.loop-second.invariant in (
      i.0 ++ c.in-Some.second.now ∷ [],
      walked c.args.places.now.keys i.0 c.loop-second.second-iterator c.next.new.self c.in-Some.second.now i.1 (rest_more deref c.loop-second.second-iterator c.next.new.self c.next.result c.in-Some.second c.in-Some.is c.next.ensures.steps),
      subst (IsLeastOf (Before (MeetsAt (map (λ (r : Bor StorageGroupRows). r.now) c.args.groups.now) c.args.host c.args.first) (i.0 ++ c.in-Some.second.now ∷ []))) (sym c.lesser-least.ensures) (least_more nexus_total (MeetsAt (map (λ (r : Bor StorageGroupRows). r.now) c.args.groups.now) c.args.host c.args.first) i.0 c.in-Some.second.now c.loop-second.least c.clash_at.result i.2 c.clash_at.ensures.least),
      c.clash_at.ensures.fine,
    )

pub returns-clause-least : goal.returns-clause-least
returns-clause-least g c =
    let i = c.loop-second.invariant in
    least_all nexus_total (MeetsAt (map (λ (r : Bor StorageGroupRows). r.now) c.args.groups.now) c.args.host c.args.first) nat_cmp_total set.nat_cmp-IsAntisymmetric c.args.places.now i.0 c.loop-second.least (walk_end c.args.places.now.keys i.0 c.loop-second.second-iterator i.1 (rest_all deref c.loop-second.second-iterator c.next.new.self c.next.result c.in-None.is c.next.ensures.steps)) i.2
