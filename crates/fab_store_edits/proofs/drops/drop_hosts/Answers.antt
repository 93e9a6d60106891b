use Rattle.std.proofs.Common.{Some, sym, ap, ◌∙◌, subst}
use Rattle.std.specs.FinMap as map
use Rattle.fab_reach_base.specs.fab_mapping.Mappings.{MappingRows}
use Rattle.fab_reach_base.specs.Records.{ConfigRows}
use Rattle.fab_store_rows.specs.declared.config_row.GroupRow.TheVariants as group
use Rattle.fab_store_rows.specs.declared.config_row.ConfigRow.TheVariants as config
use Rattle.fab_store_edits.specs.Inner.Edits.{IsTaken}
use Rattle.fab_store_rows.specs.Tidy.{IsTidy}
use Rattle.fab_store_edits.proofs.Becoming.{hosts_out}
use Rattle.fab_store_edits.proofs.GroupMoves.{hosts_dropped, tidy_mapped}
use Rattle.fab_store_edits.proofs.Holding.{hosts_held}
use Rattle.fab_store_edits.proofs.drops.drop_hosts.Goals as goal

pub returns-then-not-has_no_host-clause-held : goal.returns-then-not-has_no_host-clause-held
returns-then-not-has_no_host-clause-held g c e =
    let w = c.has_no_host.ensures.some c.if-not-has_no_host.true in
    hosts_held c.args.config.now c.args.row.now w.0 (ap (λ (m : MappingRows). map.get m.host_groups c.args.row.now.name) (sym c.mapping.ensures) ∙ w.1) w.2

pub returns-clause-taken : goal.returns-clause-taken
returns-clause-taken g c e =
    let s = c.requires.stands in
    let b = c.has_no_host.ensures.none c.if-not-has_no_host.false s.0 (ap (λ (m : MappingRows). map.get m.host_groups c.args.row.now.name) c.mapping.ensures ∙ s.1) in
    subst (λ (old : ConfigRows). IsTaken (config.Group (group.Host c.args.row.now)) old (record { a = c.config.inside.a; b = c.config.inside.b; mapping = c.take_host_group-own.new.self })) c.config.view_is
    (hosts_dropped (record { a = c.config.inside.a; b = c.config.inside.b; mapping = c.config.inside.mapping }) c.take_host_group-own.new.self c.args.row.now s.0
    (hosts_out c.config.inside.mapping c.take_host_group-own.new.self c.args.row.now.name (Some s.0) (sym (ap (λ (x : ConfigRows). map.get x.mapping.host_groups c.args.row.now.name) c.config.view_is ∙ s.1)) c.take_host_group-own.ensures.ok) s.2 b)

pub returns-clause-tidy : goal.returns-clause-tidy
returns-clause-tidy g c = subst (λ (old : ConfigRows). IsTidy old → IsTidy (record { a = c.config.inside.a; b = c.config.inside.b; mapping = c.take_host_group-own.new.self })) c.config.view_is (tidy_mapped (record { a = c.config.inside.a; b = c.config.inside.b; mapping = c.config.inside.mapping }) c.take_host_group-own.new.self)
