use Rattle.std.proofs.Common.{◌≡◌, length, sym, ap, ◌∙◌, arith}
use mathlib.Core.Bool.{true≢false}
use Rattle.std.specs.FinMap as map
use Rattle.fab_reach_base.specs.fab_mapping_base.declared.limits.TheConstants.{MOST_STORAGE_GROUPS}
use Rattle.fab_store_drafts.proofs.Counted.{is_few}
use Rattle.fab_store_drafts.proofs.counts.has_few_groups.Goals as goal

pub returns-then-len-gt-MOST_HOST_GROUPS : goal.returns-then-len-gt-MOST_HOST_GROUPS
returns-then-len-gt-MOST_HOST_GROUPS g c = (
  λ t. absurd (true≢false (sym t)),
  λ few.
      let e : c.len.result ≡ map.len c.args.mapping.now.host_groups = c.len.ensures.value ∙ ap length c.host_groups.ensures ∙ sym (map.len-entries c.args.mapping.now.host_groups) in
      let n = few.few_host_groups in
      let h = c.if-len-gt-MOST_HOST_GROUPS.true in
      absurd (omega (arith, e, n, h)),
)

pub returns : goal.returns
returns g c =
    let e : c.len.result ≡ map.len c.args.mapping.now.host_groups = c.len.ensures.value ∙ ap length c.host_groups.ensures ∙ sym (map.len-entries c.args.mapping.now.host_groups) in
    let h = c.if-len-gt-MOST_HOST_GROUPS.false in
    let few = is_few c.len-2.result (map.len c.args.mapping.now.groups) MOST_STORAGE_GROUPS (c.len-2.ensures.value ∙ ap length c.groups.ensures ∙ sym (map.len-entries c.args.mapping.now.groups)) in
    ((λ t. record { few_host_groups = omega (arith, e, h); few_groups = few.0 t }), λ all. few.1 all.few_groups)
