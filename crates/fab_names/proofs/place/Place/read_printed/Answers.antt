use Rattle.std.proofs.Common.{Some, None, lit<, ◌∙◌, sym}
use mathlib.Core.Bool.{true≢false}
use Rattle.std.proofs.lemmas.Str.Pattern.{split_parts}
use Rattle.fab_names.proofs.Readings.{no_place}
use Rattle.fab_names.proofs.Splits.{cut_has}
use Rattle.fab_names.proofs.Printed.{place_printed, place_not_printed}
use Rattle.fab_names.proofs.place.Place.read_printed.Goals as goal

pub returns-in_default : goal.returns-in_default
returns-in_default c place s = cut_has 44 c.args.text.now s.0.0 s.0.1 s.0.2 (split_parts 44 c.args.text.now None c.in_default.ensures.cases (lit< tt))

pub returns-then-has_leading_zero : goal.returns-then-has_leading_zero
returns-then-has_leading_zero c place s =
    let cut = split_parts 44 c.args.text.now (Some (c.in-Some.domain, c.in-Some.slot)) c.in-Some.ensures.cases (lit< tt) in
    (place_not_printed c.args.text.now c.in-Some.domain.now c.in-Some.slot.now place cut.0 cut.1 s).0 (c.has_leading_zero.ensures.0 c.if-has_leading_zero.true)

pub returns-then-has_leading_zero-2 : goal.returns-then-has_leading_zero-2
returns-then-has_leading_zero-2 c place s =
    let cut = split_parts 44 c.args.text.now (Some (c.in-Some.domain, c.in-Some.slot)) c.in-Some.ensures.cases (lit< tt) in
    (place_not_printed c.args.text.now c.in-Some.domain.now c.in-Some.slot.now place cut.0 cut.1 s).1 (c.has_leading_zero-2.ensures.0 c.if-has_leading_zero-2.true)

pub returns-in-Ok : goal.returns-in-Ok
returns-in-Ok c =
    let cut = split_parts 44 c.args.text.now (Some (c.in-Some.domain, c.in-Some.slot)) c.in-Some.ensures.cases (lit< tt) in
    place_printed c.args.text.now c.in-Some.domain.now c.in-Some.slot.now c.in-Ok.place cut.0 (rw (sym c.as_bytes.ensures.value, sym c.as_bytes-2.ensures.value) c.in-Ok.ensures.ok)
    (λ z. true≢false (sym (c.has_leading_zero.ensures.1 z) ∙ c.if-has_leading_zero.false)) (λ z. true≢false (sym (c.has_leading_zero-2.ensures.1 z) ∙ c.if-has_leading_zero-2.false))

pub returns-in-Err : goal.returns-in-Err
returns-in-Err c place s =
    let cut = split_parts 44 c.args.text.now (Some (c.in-Some.domain, c.in-Some.slot)) c.in-Some.ensures.cases (lit< tt) in
    no_place c.args.text.now c.in-Some.domain.now c.in-Some.slot.now cut.0 cut.1 (λ p t. c.in-Err.ensures.err p (rw (c.as_bytes.ensures.value, c.as_bytes-2.ensures.value) t)) place s.0
