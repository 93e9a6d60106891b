use Rattle.std.proofs.Common.{sym, subst}
use Rattle.sqlite.specs.Held.{state}
use Rattle.fab_store_load.specs.declared.fault.Table.TheVariants as table
use Rattle.fab_store_tables.specs.Columns.{meta_row, port_row, address_row, holder_row, volume_row, zoning_row, active_row, group_row, part_row, plan_row, approval_row, undo_row, path_row}
use Rattle.fab_store.specs.Reads.{IsTableOf}
use Rattle.fab_store.proofs.Told.{all_told}
use Rattle.fab_store.proofs.reading.read_tables.Goals as goal

pub returns-in-Ok-clause-told : goal.returns-in-Ok-clause-told
returns-in-Ok-clause-told g c clean =
    let db = (state g.S.Store c.args.conn.now).now in
    let told = c.in-Ok.ensures.told clean in
    let is = c.gathered.ensures in (
      all_told c.gathered.result db (record {
        meta = subst (λ v. IsTableOf table.Meta meta_row v.items db) (sym is.meta) told.0.0.0;
        ports = subst (λ v. IsTableOf table.Ports port_row v.items db) (sym is.ports) told.0.0.1.0;
        addresses = subst (λ v. IsTableOf table.Addresses address_row v.items db) (sym is.addresses) told.0.0.1.1.0;
        holders = subst (λ v. IsTableOf table.Holders holder_row v.items db) (sym is.holders) told.0.0.1.1.1.0;
        volumes = subst (λ v. IsTableOf table.Volumes volume_row v.items db) (sym is.volumes) told.0.0.1.1.1.1;
        zoning = subst (λ v. IsTableOf table.Zoning zoning_row v.items db) (sym is.zoning) told.0.1.0.0;
        active = subst (λ v. IsTableOf table.Active active_row v.items db) (sym is.active) told.0.1.0.1.0;
        groups = subst (λ v. IsTableOf table.Groups group_row v.items db) (sym is.groups) told.0.1.0.1.1.0;
        parts = subst (λ v. IsTableOf table.GroupParts part_row v.items db) (sym is.parts) told.0.1.0.1.1.1;
        plans = subst (λ v. IsTableOf table.Plans plan_row v.items db) (sym is.plans) told.0.1.1.0;
        approvals = subst (λ v. IsTableOf table.Approvals approval_row v.items db) (sym is.approvals) told.0.1.1.1.0;
        undo = subst (λ v. IsTableOf table.Undo undo_row v.items db) (sym is.undo) told.0.1.1.1.1.0;
        paths = subst (λ v. IsTableOf table.Paths path_row v.items db) (sym is.paths) told.0.1.1.1.1.1;
      }),
      told.1,
    )
