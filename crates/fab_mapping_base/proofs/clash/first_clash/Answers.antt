use Rattle.std.proofs.Common.{Bor, ℕ, List, [], ◌∷◌, ◌++◌, map, sym, ap, ◌∙◌}
use Rattle.std.specs.BTreeSet.{BTreeSet}
use Rattle.std.specs.Map.Iter.{deref_pair}
use Rattle.std.proofs.lemmas.Map.Iter.{rest_more, rest_all}
use Rattle.fab_inventory.proofs.fab_lemmas.Walks.{walked, walk_end, all_push}
use Rattle.fab_inventory.proofs.fab_names.OrderLaws.{name_total}
use Rattle.fab_mapping_base.specs.Groups.{StorageGroupRows}
use Rattle.fab_mapping_base.proofs.Walked.{here_looked_up}
use Rattle.fab_mapping_base.proofs.ClashSearch.{MeetsFor, host_without, first_least, no_least}
use Rattle.fab_mapping_base.proofs.clash.first_clash.Goals as goal

pub loop-host-init : goal.loop-host-init
loop-host-init g c = ([], sym c.into_iter-host-iterator.ensures.into_iter_gives.0, tt, c.requires)

pub returns-in-Some-clash_among : goal.returns-in-Some-clash_among
returns-in-Some-clash_among g c =
    let i = c.loop-host.invariant in
    let t = c.args.served.now in
    let next = rest_more deref_pair c.loop-host.host-iterator c.next.new.self c.next.result (c.in-Some.host, c.in-Some.places) c.in-Some.is c.next.ensures.steps in
    let sorted = c.into_iter-host-iterator.ensures.into_iter_gives.5 in
    first_least t (map (λ (r : Bor StorageGroupRows). r.now) c.args.groups.now) i.0 c.in-Some.host.now c.in-Some.places.now c.next.new.self c.in-Some-clash_among.nexus (i.1 ∙ ap (λ (x : List (List ℕ × BTreeSet ℕ)). i.0 ++ x) next) sorted
    (here_looked_up name_total t.entries i.0 c.loop-host.host-iterator c.next.new.self (c.in-Some.host.now, c.in-Some.places.now) i.1 next sorted) i.2 c.in-Some-clash_among.ensures.least

pub loop-host-preserved : goal.loop-host-preserved
loop-host-preserved g c =
    let i = c.loop-host.invariant in
    let t = c.args.served.now in
    let gs = map (λ (r : Bor StorageGroupRows). r.now) c.args.groups.now in
    let next = rest_more deref_pair c.loop-host.host-iterator c.next.new.self c.next.result (c.in-Some.host, c.in-Some.places) c.in-Some.is c.next.ensures.steps in (
      i.0 ++ (c.in-Some.host.now, c.in-Some.places.now) ∷ [],
      walked t.entries i.0 c.loop-host.host-iterator c.next.new.self (c.in-Some.host.now, c.in-Some.places.now) i.1 next,
      all_push (λ (e : List ℕ × BTreeSet ℕ). ¬ MeetsFor t gs e.0) i.0 (c.in-Some.host.now, c.in-Some.places.now) i.2
          (host_without t gs c.in-Some.host.now c.in-Some.places.now
          (here_looked_up name_total t.entries i.0 c.loop-host.host-iterator c.next.new.self (c.in-Some.host.now, c.in-Some.places.now) i.1 next c.into_iter-host-iterator.ensures.into_iter_gives.5) c.in_default.ensures.least),
      c.clash_among.ensures.fine,
    )

pub returns : goal.returns
returns g c =
    let i = c.loop-host.invariant in
    no_least c.args.served.now (map (λ (r : Bor StorageGroupRows). r.now) c.args.groups.now) i.0 (walk_end c.args.served.now.entries i.0 c.loop-host.host-iterator i.1 (rest_all deref_pair c.loop-host.host-iterator c.next.new.self c.next.result c.in-None.is c.next.ensures.steps)) i.2
