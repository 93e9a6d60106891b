use Rattle.std.proofs.Common.{◌≡◌, is_some, IsSome, sym, ap, ◌∙◌}
use mathlib.Core.Bool.{true≢false}
use Rattle.std.specs.FinMap as map
use Rattle.fab_reach_base.specs.fab_mapping.Mappings.{MappingRows, Serves}
use Rattle.fab_store_drafts.specs.declared.uses.Used.TheVariants as used
use Rattle.fab_store_drafts.proofs.IfThere.{is_copied}
use Rattle.fab_store_drafts.proofs.Using.{spared}
use Rattle.fab_store_drafts.proofs.goers.hosts_may_go.Goals as goal

pub returns : goal.returns
returns g c =
    let v = c.args.config.now.mapping in
    let k = c.args.row.now.name in
    let w = used.HostGroup k in
    let there : c.is_some.result ≡ is_some (map.get v.host_groups k) = c.is_some.ensures ∙ is_copied c.host_group.result ∙ ap is_some c.host_group.ensures ∙ ap (λ (m : MappingRows). is_some (map.get m.host_groups k)) c.mapping.ensures in
    spared (IsSome (map.get v.host_groups k)) (Serves (map.get v.groups) k) (λ s. true≢false (sym s ∙ sym there ∙ c.if-is_some.false)) c.is_used.result
    ((λ t. let x = c.is_used.ensures.0 t in (x.0, (c.requires (w, x.0)).0 x.1)), λ x. c.is_used.ensures.1 (x.0, (c.requires (w, x.0)).1 x.1))
