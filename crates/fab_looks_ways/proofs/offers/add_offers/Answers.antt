use Rattle.std.proofs.Common.{◌≡◌, ℕ, List, [], ◌∷◌, ◌++◌, sym, ◌∙◌}
use mathlib.Core.Bool.{true≢false}
use Rattle.fab_reach_base.proofs.fab_lemmas.Walks.{walked, walk_end}
use Rattle.fab_desk_base.specs.Tenants.{Has}
use Rattle.fab_reach_base.proofs.Adding.{adds_as, before_none, before_more, before_skip}
use Rattle.fab_looks_ways.proofs.Gains.{adds_name}
use Rattle.fab_looks_ways.proofs.Offered.{ByOffer, offers_added}
use Rattle.fab_looks_ways.proofs.offers.add_offers.Goals as goal

pub loop-name-init : goal.loop-name-init
loop-name-init g c = ([], sym c.into_iter-name-iterator.ensures.into_iter_gives.0, before_none (ByOffer c.args.mapping.now c.args.host.now) (Has c.args.offers.now))

pub loop-name-preserved-in_ok-insert : goal.loop-name-preserved-in_ok-insert
loop-name-preserved-in_ok-insert g c =
    let i = c.loop-name.invariant in
    let n = c.in-Some.name.now in
    let Q = ByOffer c.args.mapping.now c.args.host.now in (
      i.0 ++ n ∷ [],
      walked c.args.names.now.keys i.0 c.loop-name.name-iterator c.next.new.self n i.1 c.in-Some.ensures.steps,
      before_more Q i.0 n (Has c.args.offers.now) (Has c.loop-name.offers) (Has c.insert.new.self) i.2
          (adds_as (λ (y : List ℕ). y ≡ n) (Q n) (Has c.loop-name.offers) (Has c.insert.new.self) (λ y e. (e, c.is_offer.ensures.0 c.if-is_offer.true)) (λ y h. h.0) (adds_name c.loop-name.offers c.insert.new.self n c.in_ok-insert.ensures.updates.0)),
    )

pub loop-name-preserved : goal.loop-name-preserved
loop-name-preserved g c =
    let i = c.loop-name.invariant in
    let n = c.in-Some.name.now in (
      i.0 ++ n ∷ [],
      walked c.args.names.now.keys i.0 c.loop-name.name-iterator c.next.new.self n i.1 c.in-Some.ensures.steps,
      before_skip (ByOffer c.args.mapping.now c.args.host.now) i.0 n (Has c.args.offers.now) (Has c.loop-name.offers) i.2 (λ y h. true≢false (sym (c.is_offer.ensures.1 h.1) ∙ c.if-is_offer.false)),
    )

pub returns : goal.returns
returns g c =
    let i = c.loop-name.invariant in
    offers_added c.args.mapping.now c.args.host.now c.args.names.now i.0 (Has c.args.offers.now) (Has c.loop-name.offers) (walk_end c.args.names.now.keys i.0 c.loop-name.name-iterator i.1 c.in-None.ensures.steps.0) i.2
