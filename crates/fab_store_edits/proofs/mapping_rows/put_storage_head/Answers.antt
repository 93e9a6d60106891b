use Rattle.std.proofs.Common.{Some, refl, ◌∙◌, subst}
use Rattle.std.specs.FinMap as map
use Rattle.fab_reach_base.specs.fab_mapping_base.Groups.{StorageGroupRows}
use Rattle.fab_store_edits.specs.Inner.MappingEdits.{StorageBecomes}
use Rattle.fab_store_edits.proofs.Answering.{on_ok}
use Rattle.fab_store_edits.proofs.Becoming.{storage_back}
use Rattle.fab_store_edits.proofs.mapping_rows.put_storage_head.Goals as goal

pub returns : goal.returns
returns g c =
    let n = c.args.row.now.name in
    let v = c.args.mapping.now in
    on_ok c.restore_group.result
    (λ ok. subst (λ (x : StorageGroupRows). StorageBecomes n (map.get v.groups n) (Some x) v c.restore_group.new.self) (c.set_head.ensures ∙ c.group_of-group.ensures.group)
    (storage_back v c.group_of-group.new.mapping c.restore_group.new.self n (map.get v.groups n) c.set_head.new.self refl c.group_of-group.ensures.rest ok))
    c.restore_group.ensures.ok
