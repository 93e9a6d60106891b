use Rattle.fab_store_tables.proofs.Entries.{no_entry, entry_read}
use Rattle.fab_store_tables.proofs.read.read_entry.Goals as goal

pub returns-in_default : goal.returns-in_default
returns-in_default c = no_entry c.args.entry.now c.in_default.ensures

pub returns : goal.returns
returns c = entry_read c.args.entry.now c.in-Some.parts.0.now c.in-Some.parts.1.now c.read_columns.result c.in-Some.ensures c.read_columns.ensures
