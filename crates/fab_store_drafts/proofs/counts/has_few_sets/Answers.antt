use Rattle.std.proofs.Common.{◌≡◌, sym, ◌∙◌, arith}
use mathlib.Core.Bool.{true≢false}
use Rattle.std.specs.FinMap as map
use Rattle.fab_reach_base.specs.fab_names.Orders.{name_cmp, member_cmp}
use Rattle.fab_reach_base.specs.fab_zoning.Limits.{most_sets}
use Rattle.fab_store_drafts.proofs.Counted.{is_few, sets_counted}
use Rattle.fab_store_drafts.proofs.counts.has_few_sets.Goals as goal

pub returns-then-len-gt-MOST_ALIASES : goal.returns-then-len-gt-MOST_ALIASES
returns-then-len-gt-MOST_ALIASES g c = (
  λ t. absurd (true≢false (sym t)),
  λ few.
      let e : c.len.result ≡ map.len c.args.zoning.now.aliases = c.len.ensures.value ∙ sym (sets_counted member_cmp c.aliases.result c.args.zoning.now.aliases c.aliases.ensures.aliases c.aliases.ensures.ordered) in
      let n = few.few_aliases in
      let h = c.if-len-gt-MOST_ALIASES.true in
      absurd (omega (arith, e, n, h)),
)

pub returns-then-len-gt-MOST_ZONES : goal.returns-then-len-gt-MOST_ZONES
returns-then-len-gt-MOST_ZONES g c = (
  λ t. absurd (true≢false (sym t)),
  λ few.
      let e : c.len-2.result ≡ map.len c.args.zoning.now.zones = c.len-2.ensures.value ∙ sym (sets_counted member_cmp c.zones.result c.args.zoning.now.zones c.zones.ensures.zones c.zones.ensures.ordered) in
      let n = few.few_zones in
      let h = c.if-len-gt-MOST_ZONES.true in
      absurd (omega (arith, e, n, h)),
)

pub returns : goal.returns
returns g c =
    let e : c.len.result ≡ map.len c.args.zoning.now.aliases = c.len.ensures.value ∙ sym (sets_counted member_cmp c.aliases.result c.args.zoning.now.aliases c.aliases.ensures.aliases c.aliases.ensures.ordered) in
    let f : c.len-2.result ≡ map.len c.args.zoning.now.zones = c.len-2.ensures.value ∙ sym (sets_counted member_cmp c.zones.result c.args.zoning.now.zones c.zones.ensures.zones c.zones.ensures.ordered) in
    let h = c.if-len-gt-MOST_ALIASES.false in
    let k = c.if-len-gt-MOST_ZONES.false in
    let few = is_few c.len-3.result (map.len c.args.zoning.now.sets) most_sets (c.len-3.ensures.value ∙ sym (sets_counted name_cmp c.zone_sets.result c.args.zoning.now.sets c.zone_sets.ensures.sets c.zone_sets.ensures.ordered)) in
    ((λ t. record { few_aliases = omega (arith, e, h); few_zones = omega (arith, f, k); few_sets = few.0 t }), λ all. few.1 all.few_sets)
