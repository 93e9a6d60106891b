use Rattle.std.proofs.Common.{Some, None, lit<, inl, refl}
use Rattle.std.proofs.lemmas.Str.Pattern.{split_parts}
use Rattle.fab_names.proofs.Readings.{on_err, no_place}
use Rattle.fab_names.proofs.Splits.{cut_has}
use Rattle.fab_names.proofs.place.Place.read.Goals as goal

pub returns-in-None-clause-err : goal.returns-in-None-clause-err
returns-in-None-clause-err c place s = cut_has 44 c.args.text.now s.0 s.1 s.2 (split_parts 44 c.args.text.now None c.in-None.ensures.cases (lit< tt))

pub returns-in-None-clause-fault : goal.returns-in-None-clause-fault
returns-in-None-clause-fault c = inl (refl, λ domain slot is. cut_has 44 c.args.text.now domain slot is (split_parts 44 c.args.text.now None c.in-None.ensures.cases (lit< tt)))

pub returns-in-Some-clause-err : goal.returns-in-Some-clause-err
returns-in-Some-clause-err c =
    let cut = split_parts 44 c.args.text.now (Some (c.in-Some.domain, c.in-Some.slot)) c.in-Some.ensures.cases (lit< tt) in
    on_err c.from_texts.result
    (λ none. no_place c.args.text.now c.in-Some.domain.now c.in-Some.slot.now cut.0 cut.1
    (λ p s. none p (rw (c.as_bytes.ensures.value, c.as_bytes-in-Some.ensures.value) s)))
    c.from_texts.ensures.err
