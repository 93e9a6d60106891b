use Rattle.std.proofs.Common.{ℕ, List, [], ◌∷◌, ◌++◌, sym, ap, ◌∙◌}
use Rattle.std.proofs.lemmas.List.{append-nil}
use Rattle.fab_reach_base.proofs.fab_lemmas.Walks.{walked, walk_end}
use Rattle.fab_reach_base.specs.fab_zoning_rows.PortZones.{in_zones}
use Rattle.fab_desk_base.specs.declared.command.Query.TheVariants as query
use Rattle.fab_looks.specs.Inner.Gathered.{zone_reads}
use Rattle.fab_looks.proofs.Filtered.{filter_kept, filter_passed}
use Rattle.fab_looks.proofs.zones.add_those.Goals as goal

pub loop-name-init : goal.loop-name-init
loop-name-init g c = ([], sym c.into_iter-name-iterator.ensures.into_iter_gives.0, sym (append-nil c.args.queries.now.items))

pub loop-name-preserved-in-Continue-1 : goal.loop-name-preserved-in-Continue-1
loop-name-preserved-in-Continue-1 g c =
    let i = c.loop-name.invariant in
    let n = c.in-Some.name.now in
    let read = λ (z : List ℕ). query.Zone c.args.fabric z in (
      i.0 ++ n ∷ [],
      walked c.args.names.now.keys i.0 c.loop-name.name-iterator c.next.new.self n i.1 c.in-Some.ensures.steps,
      filter_kept (in_zones c.args.zones.now) read i.0 n c.args.queries.now.items c.loop-name.queries.items c.push.new.self.items i.2 (sym c.contains.ensures ∙ c.if-contains.true) c.in_ok-push.ensures.items,
    )

pub loop-name-preserved : goal.loop-name-preserved
loop-name-preserved g c =
    let i = c.loop-name.invariant in
    let n = c.in-Some.name.now in
    let read = λ (z : List ℕ). query.Zone c.args.fabric z in (
      i.0 ++ n ∷ [],
      walked c.args.names.now.keys i.0 c.loop-name.name-iterator c.next.new.self n i.1 c.in-Some.ensures.steps,
      filter_passed (in_zones c.args.zones.now) read i.0 n c.args.queries.now.items c.loop-name.queries.items c.loop-name.queries.items i.2 (sym c.contains.ensures ∙ c.if-contains.false),
    )

pub returns : goal.returns
returns g c =
    let i = c.loop-name.invariant in
    i.2
    ∙ ap (λ (names : List (List ℕ)). c.args.queries.now.items ++ zone_reads c.args.zones.now c.args.fabric names) (walk_end c.args.names.now.keys i.0 c.loop-name.name-iterator i.1 c.in-None.ensures.steps.0)
