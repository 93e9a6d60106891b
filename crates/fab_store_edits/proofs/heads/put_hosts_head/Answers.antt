use Rattle.std.proofs.Common.{sym, ap, ◌∙◌, subst}
use Rattle.std.specs.FinMap as map
use Rattle.fab_reach_base.specs.fab_mapping.Mappings.{MappingRows}
use Rattle.fab_reach_base.specs.Records.{ConfigRows}
use Rattle.fab_store_rows.specs.declared.config_row.GroupRow.TheVariants as group
use Rattle.fab_store_rows.specs.declared.config_row.ConfigRow.TheVariants as config
use Rattle.fab_store_rows.specs.Gathering.{Has}
use Rattle.fab_store_edits.specs.Inner.Edits.{IsPut}
use Rattle.fab_store_rows.specs.Tidy.{IsTidy}
use Rattle.fab_store_edits.proofs.GroupMoves.{host_head_put, tidy_mapped}
use Rattle.fab_store_edits.proofs.Refusing.{hosts_rival}
use Rattle.fab_store_edits.proofs.heads.put_hosts_head.Goals as goal

pub returns-then-not-may_head_hosts-clause-refused : goal.returns-then-not-may_head_hosts-clause-refused
returns-then-not-may_head_hosts-clause-refused g c e =
    let w = c.may_head_hosts.ensures.not c.if-not-may_head_hosts.true in
    hosts_rival (Has c.args.going.now) c.args.config.now c.args.row.now c.requires.fresh w.0 (ap (λ (m : MappingRows). map.get m.host_groups c.args.row.now.name) (sym c.mapping.ensures) ∙ w.1) w.2

pub returns-in_err-put_host_head-clause-tidy : goal.returns-in_err-put_host_head-clause-tidy
returns-in_err-put_host_head-clause-tidy g c = subst (λ (old : ConfigRows). IsTidy old → IsTidy (record { a = c.config.inside.a; b = c.config.inside.b; mapping = c.put_host_head.new.mapping })) c.config.view_is (tidy_mapped (record { a = c.config.inside.a; b = c.config.inside.b; mapping = c.config.inside.mapping }) c.put_host_head.new.mapping)

pub returns-clause-put : goal.returns-clause-put
returns-clause-put g c e =
    subst (λ (old : ConfigRows). IsPut (Has c.args.going.now) (config.Group (group.Host c.args.row.now)) old (record { a = c.config.inside.a; b = c.config.inside.b; mapping = c.put_host_head.new.mapping })) c.config.view_is
    (host_head_put (record { a = c.config.inside.a; b = c.config.inside.b; mapping = c.config.inside.mapping }) c.put_host_head.new.mapping (Has c.args.going.now) c.args.row.now (map.get c.config.inside.mapping.host_groups c.args.row.now.name) c.in_ok-put_host_head.ensures
    (λ g at. c.may_head_hosts.ensures.may c.if-not-may_head_hosts.false g (ap (λ (m : MappingRows). map.get m.host_groups c.args.row.now.name) (c.mapping.ensures ∙ ap (λ (x : ConfigRows). x.mapping) (sym c.config.view_is)) ∙ at)))

pub returns-clause-tidy : goal.returns-clause-tidy
returns-clause-tidy g c = subst (λ (old : ConfigRows). IsTidy old → IsTidy (record { a = c.config.inside.a; b = c.config.inside.b; mapping = c.put_host_head.new.mapping })) c.config.view_is (tidy_mapped (record { a = c.config.inside.a; b = c.config.inside.b; mapping = c.config.inside.mapping }) c.put_host_head.new.mapping)
