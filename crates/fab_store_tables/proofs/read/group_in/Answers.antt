use Rattle.fab_store_tables.proofs.Entries.{no_group, group_read}
use Rattle.fab_store_tables.specs.Words.{words_of}
use Rattle.fab_store_tables.proofs.read.group_in.Goals as goal

pub returns-in_default-read_digit : goal.returns-in_default-read_digit
returns-in_default-read_digit c = no_group (words_of c.args.columns.now) _ _ _ _ _ c.in-Some.ensures c.in_default-read_digit.ensures

pub returns : goal.returns
returns c = group_read (words_of c.args.columns.now) c.in-Some.words.0.now c.in-Some.words.1.now c.in-Some.words.2.now c.in-Some.words.3.now c.in-Some.words.4.now c.group_at.result c.in-Some-read_digit.exposed c.in-Some.ensures c.in-Some-read_digit.ensures c.group_at.ensures
