use Rattle.std.proofs.Common.{◌≡◌, true, false, IfOk, subst}
use Rattle.fab_reach_base.specs.Records.{ConfigRows}
use Rattle.fab_store_rows.specs.Gathering.{Has}
use Rattle.fab_store_edits.specs.Rows.{part_row}
use Rattle.fab_store_edits.specs.Inner.Edits.{NoRow, IsPut, IsRefused}
use Rattle.fab_store_rows.specs.Tidy.{IsTidy}
use Rattle.fab_store_edits.proofs.GroupMoves.{part_put, tidy_mapped}
use Rattle.fab_store_edits.proofs.Refusing.{if_ok, part_refused}
use Rattle.fab_store_edits.proofs.edits.put_storage_row.Goals as goal

pub returns-clause-put : goal.returns-clause-put
returns-clause-put g c =
    subst (λ (old : ConfigRows). IfOk c.put_part.result (λ is. is ≡ true → IsPut NoRow (part_row c.args.name.now c.args.part.now) old (record { a = c.config.inside.a; b = c.config.inside.b; mapping = c.put_part.new.mapping }))) c.config.view_is
    (if_ok c.put_part.result (λ is h e. part_put (record { a = c.config.inside.a; b = c.config.inside.b; mapping = c.config.inside.mapping }) c.put_part.new.mapping c.args.name.now c.args.part.now (h e)) c.put_part.ensures.put)

pub returns-clause-refused : goal.returns-clause-refused
returns-clause-refused g c =
    subst (λ (old : ConfigRows). IfOk c.put_part.result (λ is. is ≡ false → IsRefused (Has c.args.going.now) old (part_row c.args.name.now c.args.part.now))) c.config.view_is
    (if_ok c.put_part.result (λ is h e. part_refused (Has c.args.going.now) (record { a = c.config.inside.a; b = c.config.inside.b; mapping = c.config.inside.mapping }) c.args.name.now c.args.part.now (h e)) c.put_part.ensures.refused)

pub returns-clause-tidy : goal.returns-clause-tidy
returns-clause-tidy g c = subst (λ (old : ConfigRows). IsTidy old → IsTidy (record { a = c.config.inside.a; b = c.config.inside.b; mapping = c.put_part.new.mapping })) c.config.view_is (tidy_mapped (record { a = c.config.inside.a; b = c.config.inside.b; mapping = c.config.inside.mapping }) c.put_part.new.mapping)
