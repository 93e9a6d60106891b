use Rattle.std.proofs.Common.{map, string_bytes}
use Rattle.fab_program_options.proofs.Reasons.{asks, asks_nothing, reason, refused}
use Rattle.fab_program_options.proofs.reading.read_words.Goals as goal

pub returns-in-Some-clause-ok : goal.returns-in-Some-clause-ok
returns-in-Some-clause-ok c =
    asks _ c.in-Ok.ensures (map string_bytes c.args.words.now) c.in-Ok-try_get_matches_from.matches c.in-Some.words c.in-Ok-try_get_matches_from.ensures.kinds c.in-Ok-try_get_matches_from.ensures.matches c.in-Some.ensures

pub returns-in-Ok-try_get_matches_from-clause-err : goal.returns-in-Ok-try_get_matches_from-clause-err
returns-in-Ok-try_get_matches_from-clause-err c =
    asks_nothing _ c.in-Ok.ensures (map string_bytes c.args.words.now) c.in-Ok-try_get_matches_from.matches c.in-Ok-try_get_matches_from.ensures.kinds c.in-Ok-try_get_matches_from.ensures.matches c.in-None.ensures

pub returns-clause-err : goal.returns-clause-err
returns-clause-err c =
    let line = map string_bytes c.args.words.now in
    reason line c.in-Err.error c.fault_of.result (refused _ c.in-Ok.ensures line c.in-Err.error c.in-Err.ensures.kinds) c.fault_of.ensures
