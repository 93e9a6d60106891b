use Rattle.std.proofs.Common.{ℕ, List, [], ◌∷◌, ◌++◌, Contains, sym, subst}
use Rattle.std.specs.List.{AllZip}
use Rattle.std.specs.Map.Iter.{deref_pair}
use Rattle.std.proofs.lemmas.List.Elements.{Contains-append_left, Contains-push}
use Rattle.std.proofs.lemmas.Map.Iter.{rest_more, rest_all}
use Rattle.fab_desk_base.specs.Tenants.{Has}
use Rattle.fab_reach_base.proofs.fab_lemmas.Walks.{walked, walk_end}
use Rattle.fab_looks.proofs.Answered.{zip_more}
use Rattle.fab_looks.specs.declared.reaching.Counts.{Counts}
use Rattle.fab_looks_ways.specs.Offers.{TellsReacher}
use Rattle.fab_looks_ways.proofs.Offered.{entry_at}
use Rattle.fab_looks_ways.proofs.reachers.reachers_of.Goals as goal

pub loop-host-init : goal.loop-host-init
loop-host-init g c =
    (c.into_iter-host-iterator.ensures.into_iter_gives.5, ([], sym c.into_iter-host-iterator.ensures.into_iter_gives.0, subst (AllZip (TellsReacher c.args.world.now c.args.volume.now (Has c.args.groups.now)) []) (sym c.new-reachers.ensures.items) tt))

pub reacher_of-requires : goal.reacher_of-requires
reacher_of-requires g c =
    let i = c.loop-host.invariant.1 in
    let e : List ℕ × Counts = (c.in-Some.host.now, c.in-Some.counts.now) in
    let all = walked c.args.hosts.now.entries i.0 c.loop-host.host-iterator c.next.new.self e i.1 (rest_more deref_pair c.loop-host.host-iterator c.next.new.self c.next.result (c.in-Some.host, c.in-Some.counts) c.in-Some.is c.next.ensures.steps) in
    record { there = c.requires.there c.in-Some.host.now c.in-Some.counts.now (entry_at c.args.hosts.now c.in-Some.host.now c.in-Some.counts.now c.loop-host.invariant.0 (subst (λ (es : List (List ℕ × Counts)). Contains es e) (sym all) (Contains-append_left (i.0 ++ e ∷ []) c.next.new.self e (Contains-push i.0 e)))) }

pub loop-host-preserved : goal.loop-host-preserved
loop-host-preserved g c =
    let i = c.loop-host.invariant.1 in
    let e : List ℕ × Counts = (c.in-Some.host.now, c.in-Some.counts.now) in
    let R = TellsReacher c.args.world.now c.args.volume.now (Has c.args.groups.now) in (
      c.loop-host.invariant.0,
      (
        i.0 ++ e ∷ [],
        walked c.args.hosts.now.entries i.0 c.loop-host.host-iterator c.next.new.self e i.1 (rest_more deref_pair c.loop-host.host-iterator c.next.new.self c.next.result (c.in-Some.host, c.in-Some.counts) c.in-Some.is c.next.ensures.steps),
        subst (AllZip R (i.0 ++ e ∷ [])) (sym c.in_ok-push.ensures.items) (zip_more R i.0 c.loop-host.reachers.items e c.in_ok-reacher.reacher i.2 c.in_ok-reacher.ensures),
      ),
    )

pub returns : goal.returns
returns g c =
    let i = c.loop-host.invariant.1 in
    subst (λ (es : List (List ℕ × Counts)). AllZip (TellsReacher c.args.world.now c.args.volume.now (Has c.args.groups.now)) es c.loop-host.reachers.items)
    (walk_end c.args.hosts.now.entries i.0 c.loop-host.host-iterator i.1 (rest_all deref_pair c.loop-host.host-iterator c.next.new.self c.next.result c.in-None.is c.next.ensures.steps)) i.2
