use Rattle.std.proofs.Common.{◌≡◌, true, false, IfOk, subst}
use Rattle.fab_reach_base.specs.Records.{ConfigRows}
use Rattle.fab_store_edits.specs.Rows.{host_row}
use Rattle.fab_store_edits.specs.Inner.Edits.{NoRow, IsPut, IsOrphan}
use Rattle.fab_store_rows.specs.Tidy.{IsTidy}
use Rattle.fab_store_edits.proofs.GroupMoves.{host_put, tidy_mapped}
use Rattle.fab_store_edits.proofs.Refusing.{if_ok, host_orphan}
use Rattle.fab_store_edits.proofs.edits.put_host_row.Goals as goal

pub returns-clause-put : goal.returns-clause-put
returns-clause-put g c =
    subst (λ (old : ConfigRows). IfOk c.put_host.result (λ is. is ≡ true → IsPut NoRow (host_row c.args.name.now c.args.host.now) old (record { a = c.config.inside.a; b = c.config.inside.b; mapping = c.put_host.new.mapping }))) c.config.view_is
    (if_ok c.put_host.result (λ is h e. host_put (record { a = c.config.inside.a; b = c.config.inside.b; mapping = c.config.inside.mapping }) c.put_host.new.mapping c.args.name.now c.args.host.now (h e)) c.put_host.ensures.put)

pub returns-clause-refused : goal.returns-clause-refused
returns-clause-refused g c =
    subst (λ (old : ConfigRows). IfOk c.put_host.result (λ is. is ≡ false → IsOrphan old (host_row c.args.name.now c.args.host.now))) c.config.view_is
    (if_ok c.put_host.result (λ is h e. host_orphan NoRow (record { a = c.config.inside.a; b = c.config.inside.b; mapping = c.config.inside.mapping }) c.args.name.now c.args.host.now (h e)) c.put_host.ensures.none)

pub returns-clause-tidy : goal.returns-clause-tidy
returns-clause-tidy g c = subst (λ (old : ConfigRows). IsTidy old → IsTidy (record { a = c.config.inside.a; b = c.config.inside.b; mapping = c.put_host.new.mapping })) c.config.view_is (tidy_mapped (record { a = c.config.inside.a; b = c.config.inside.b; mapping = c.config.inside.mapping }) c.put_host.new.mapping)
