use Rattle.std.proofs.Common.{◌≡◌, true, is_some, sym, ap, ◌∙◌}
use mathlib.Core.Bool.{true≢false}
use Rattle.std.specs.FinMap as map
use Rattle.fab_reach_base.specs.fab_lemmas.MapsOfSets.{has, seen_set}
use Rattle.fab_reach_base.specs.fab_names.Orders.{member_cmp}
use Rattle.fab_reach_base.specs.fab_zoning.Zonings.{FabricZoning}
use Rattle.fab_reach_base.specs.Records.{zoning_at}
use Rattle.fab_store_drafts.specs.declared.uses.Used.TheVariants as used
use Rattle.fab_store_drafts.proofs.IfThere.{is_seen}
use Rattle.fab_store_drafts.proofs.Using.{spared_by}
use Rattle.fab_store_drafts.proofs.goers.zone_may_lose.Goals as goal

pub returns : goal.returns
returns g c =
    let v = zoning_at c.args.config.now c.args.fabric in
    let w = used.Zone c.args.fabric c.args.name.now in
    let there : c.is_some.result ≡ map.contains_key v.zones c.args.name.now = c.is_some.ensures ∙ is_seen (seen_set member_cmp) c.zone.result ∙ ap is_some c.zone.ensures ∙ ap (λ (z : FabricZoning). map.contains_key z.zones c.args.name.now) c.zoning.ensures in
    spared_by (map.contains_key v.zones c.args.name.now ≡ true) (λ n. has v.sets n (c.args.name.now)) c.is_used.result (λ k. true≢false (sym k ∙ sym there ∙ c.if-is_some.false))
    ((λ t. let x = c.is_used.ensures.0 t in (x.0, (c.requires (w, x.0)).0 x.1)), λ x. c.is_used.ensures.1 (x.0, (c.requires (w, x.0)).1 x.1))
