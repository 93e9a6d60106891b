use Rattle.std.proofs.Common.{List, subst}
use Rattle.fab_store_rows.specs.declared.config_row.ConfigRow.{ConfigRow}
use Rattle.fab_store_drafts.specs.Users.{PutsUses}
use Rattle.fab_store_drafts.proofs.ManyUses.{users_all}
use Rattle.fab_store_drafts.proofs.users.users_of.Goals as goal

pub returns : goal.returns
returns g c =
    users_all c.args.config.now c.in_ok-rows.rows.items c.new-users.result c.put_rows.new.self c.in_ok-rows.ensures c.new-users.ensures
    (subst (λ (xs : List ConfigRow). PutsUses xs c.new-users.result c.put_rows.new.self) c.as_slice.ensures.value c.in_ok-put_rows.ensures)
