use Rattle.std.proofs.Common.{map, sym, ◌∙◌}
use Rattle.fab_reach_base.specs.Orders.{Has}
use Rattle.fab_reach_base.specs.Views.{seen}
use Rattle.fab_reach_base.specs.declared.path.Path.{Path}
use Rattle.fab_reach_base.proofs.Gathering.{listed_all}
use Rattle.fab_looks.specs.Links.{PathTo}
use Rattle.fab_looks.specs.Inner.Offers.{IsOffer}
use Rattle.fab_looks.proofs.Filled.{bare, not_bare}
use Rattle.fab_looks.proofs.Gains.{now}
use Rattle.fab_looks.proofs.Ways.{offers_are, none_met, none_joined, all_joined, passed}
use Rattle.fab_looks.proofs.explaining.explain_offered.Goals as goal
use mathlib.Core.Bool.{true≢false}

pub returns-then-is_empty : goal.returns-then-is_empty
returns-then-is_empty g c =
    let w = seen c.args.view.now in
    let host = c.args.host.now in
    let volume = c.args.volume.now in
    let s = c.in_ok-offers.offers in
    let is = offers_are w host volume c.args.ports.now (map now c.args.groups.now) c.requires.ports c.requires.groups in
    none_met w host volume s c.requires.exposed (bare s.keys (c.is_empty.ensures.0 c.if-is_empty.true)) (λ x o. (c.in_ok-offers.ensures x).1 ((is x).1 o))

pub returns-then-is_empty-2 : goal.returns-then-is_empty-2
returns-then-is_empty-2 g c =
    let w = seen c.args.view.now in
    let host = c.args.host.now in
    let volume = c.args.volume.now in
    let s = c.in_ok-offers.offers in
    let t = c.in_ok-paths.paths in
    let is = offers_are w host volume c.args.ports.now (map now c.args.groups.now) c.requires.ports c.requires.groups in
    let has : (x : Path) → (Has s x → IsOffer w host volume x) × (IsOffer w host volume x → Has s x) = λ x. ((λ h. (is x).0 ((c.in_ok-offers.ensures x).0 h)), λ o. (c.in_ok-offers.ensures x).1 ((is x).1 o)) in
    let pass = passed w host volume s t has c.in_ok-paths.ensures in
    none_joined w host volume s t c.requires.exposed.0 (not_bare s.keys (λ e. true≢false (sym (c.is_empty.ensures.1 e) ∙ c.if-is_empty.false))) (λ x h. (has x).0 h) (bare t.keys (c.is_empty-2.ensures.0 c.if-is_empty-2.true)) (λ x p. (pass x).1 p)

pub returns : goal.returns
returns g c =
    let w = seen c.args.view.now in
    let host = c.args.host.now in
    let volume = c.args.volume.now in
    let s = c.in_ok-offers.offers in
    let t = c.in_ok-paths.paths in
    let is = offers_are w host volume c.args.ports.now (map now c.args.groups.now) c.requires.ports c.requires.groups in
    let has : (x : Path) → (Has s x → IsOffer w host volume x) × (IsOffer w host volume x → Has s x) = λ x. ((λ h. (is x).0 ((c.in_ok-offers.ensures x).0 h)), λ o. (c.in_ok-offers.ensures x).1 ((is x).1 o)) in
    let pass = passed w host volume s t has c.in_ok-paths.ensures in (
      all_joined w host volume t c.requires.exposed.0 (not_bare t.keys (λ e. true≢false (sym (c.is_empty-2.ensures.1 e) ∙ c.if-is_empty-2.false))) (λ x h. (pass x).0 h),
      listed_all (PathTo w host volume) t c.in_ok-items.items.items c.len-count.ensures.ordered c.in_ok-items.ensures pass,
    )
