use Rattle.std.proofs.Common.{OnOk, subst}
use Rattle.fab_reach_base.specs.Records.{ConfigRows}
use Rattle.fab_store_rows.specs.declared.config_row.PartRow.TheVariants as parts
use Rattle.fab_store_rows.specs.declared.config_row.ConfigRow.TheVariants as config
use Rattle.fab_store_edits.specs.Inner.Edits.{IsTaken}
use Rattle.fab_store_rows.specs.Tidy.{IsTidy}
use Rattle.fab_store_edits.proofs.GroupMoves.{host_taken, part_taken, tidy_mapped}
use Rattle.fab_store_edits.proofs.Answering.{on_ok}
use Rattle.fab_store_edits.proofs.edits.take_part_row.Goals as goal

pub returns-in-Host-clause-taken : goal.returns-in-Host-clause-taken
returns-in-Host-clause-taken g c =
    rw c.in-Host.is (subst (λ (old : ConfigRows). OnOk c.take_host.result (IsTaken (config.Part (parts.Host c.in-Host.name c.in-Host.host)) old (record { a = c.config.inside.a; b = c.config.inside.b; mapping = c.take_host.new.mapping }))) c.config.view_is
    (on_ok c.take_host.result (host_taken (record { a = c.config.inside.a; b = c.config.inside.b; mapping = c.config.inside.mapping }) c.take_host.new.mapping c.in-Host.name c.in-Host.host) c.take_host.ensures))

pub returns-in-Host-clause-tidy : goal.returns-in-Host-clause-tidy
returns-in-Host-clause-tidy g c = subst (λ (old : ConfigRows). IsTidy old → IsTidy (record { a = c.config.inside.a; b = c.config.inside.b; mapping = c.take_host.new.mapping })) c.config.view_is (tidy_mapped (record { a = c.config.inside.a; b = c.config.inside.b; mapping = c.config.inside.mapping }) c.take_host.new.mapping)

pub returns-in-Storage-clause-taken : goal.returns-in-Storage-clause-taken
returns-in-Storage-clause-taken g c =
    rw c.in-Storage.is (subst (λ (old : ConfigRows). OnOk c.take_part.result (IsTaken (config.Part (parts.Storage c.in-Storage.name c.in-Storage.part)) old (record { a = c.config.inside.a; b = c.config.inside.b; mapping = c.take_part.new.mapping }))) c.config.view_is
    (on_ok c.take_part.result (part_taken (record { a = c.config.inside.a; b = c.config.inside.b; mapping = c.config.inside.mapping }) c.take_part.new.mapping c.in-Storage.name c.in-Storage.part) c.take_part.ensures))

pub returns-in-Storage-clause-tidy : goal.returns-in-Storage-clause-tidy
returns-in-Storage-clause-tidy g c = subst (λ (old : ConfigRows). IsTidy old → IsTidy (record { a = c.config.inside.a; b = c.config.inside.b; mapping = c.take_part.new.mapping })) c.config.view_is (tidy_mapped (record { a = c.config.inside.a; b = c.config.inside.b; mapping = c.config.inside.mapping }) c.take_part.new.mapping)
