use Rattle.std.proofs.Common.{arith, refl, ap, take}
use Rattle.httparse.specs.Spans.{span_bytes}
use Rattle.fab_wire_base.specs.Lines.{lines_of}
use Rattle.std.proofs.lemmas.List.{length-append}
use Rattle.fab_wire_base.specs.Asking.{asks}
use Rattle.fab_wire_base.proofs.HearLemmas.{asked-same, lines-within, target-text}
use Rattle.fab_wire_base.proofs.WholeLemmas.{refused-whole, bare-whole, body-whole, body-lacks, behind-length, asked-size}
use Rattle.fab_wire_base.proofs.whole.lacks_behind.Goals as goal

pub overflow_add-result : goal.overflow_add-result
overflow_add-result g c =
    let arm = c.in-Asks-default-default-Some in
    let judged = asked-same (g.C.Callers.knows_token c.args.callers.now) _ _ _ _ (lines_of c.args.got.now (take c.args.spans.headers c.args.headers.now)) _ _ c.of.ensures c.of-2.ensures (ap (asks arm.field-0.now arm.field-1) arm.field-2-is) arm.ensures in
    let small = asked-size (g.C.Callers.knows_token c.args.callers.now) (span_bytes c.args.got.now c.args.spans.method) (span_bytes c.args.got.now c.args.spans.path)
    (lines_of c.args.got.now (take c.args.spans.headers c.args.headers.now)) arm.field-0.now arm.field-1 arm.size judged in
    omega (arith, small, c.requires.short, c.requires.within.section.len_fits)

pub returns-in-Refused-clause-whole : goal.returns-in-Refused-clause-whole
returns-in-Refused-clause-whole g c =
    let judged = asked-same (g.C.Callers.knows_token c.args.callers.now) _ _ _ _ (lines_of c.args.got.now (take c.args.spans.headers c.args.headers.now)) _ _ c.of.ensures c.of-2.ensures refl c.in-Refused.ensures in
    refused-whole _ c.args.got.now c.args.behind.now c.args.headers.now c.args.spans c.in-Refused.field-0
    c.requires.head c.requires.short c.requires.within.section.len_fits judged

pub returns-in-Asks-default-default-None-clause-whole :
    goal.returns-in-Asks-default-default-None-clause-whole
returns-in-Asks-default-default-None-clause-whole g c =
    let arm = c.in-Asks-default-default-None in
    let judged = asked-same (g.C.Callers.knows_token c.args.callers.now) _ _ _ _ (lines_of c.args.got.now (take c.args.spans.headers c.args.headers.now)) _ _ c.of.ensures c.of-2.ensures (ap (asks arm.field-0.now arm.field-1) arm.field-2-is) arm.ensures in
    bare-whole _ c.args.got.now c.args.behind.now c.args.headers.now c.args.spans arm.field-0.now arm.field-1
    c.requires.head c.requires.short c.requires.within.section.len_fits judged

pub returns-then-saturating_sub-behind-clause-whole :
    goal.returns-then-saturating_sub-behind-clause-whole
returns-then-saturating_sub-behind-clause-whole g c =
    let arm = c.in-Asks-default-default-Some in
    let judged = asked-same (g.C.Callers.knows_token c.args.callers.now) _ _ _ _ (lines_of c.args.got.now (take c.args.spans.headers c.args.headers.now)) _ _ c.of.ensures c.of-2.ensures (ap (asks arm.field-0.now arm.field-1) arm.field-2-is) arm.ensures in
    body-whole _ c.args.got.now c.args.behind.now c.args.headers.now c.args.spans arm.field-0.now arm.field-1 arm.size
    c.requires.head c.requires.short c.requires.within.section.len_fits judged
    (omega (arith, c.saturating_sub.ensures, c.if-saturating_sub-behind.true, behind-length c.args.spans.len c.args.got.now c.args.behind.now))

pub returns-else-saturating_sub-behind-clause-lacks :
    goal.returns-else-saturating_sub-behind-clause-lacks
returns-else-saturating_sub-behind-clause-lacks g c =
    let arm = c.in-Asks-default-default-Some in
    let judged = asked-same (g.C.Callers.knows_token c.args.callers.now) _ _ _ _ (lines_of c.args.got.now (take c.args.spans.headers c.args.headers.now)) _ _ c.of.ensures c.of-2.ensures (ap (asks arm.field-0.now arm.field-1) arm.field-2-is) arm.ensures in
    body-lacks _ c.args.got.now c.args.behind.now c.args.headers.now c.args.spans arm.field-0.now arm.field-1 arm.size
    c.requires.head c.requires.short c.requires.within.section.len_fits judged
    (omega (arith, c.saturating_sub.ensures, c.if-saturating_sub-behind.false, behind-length c.args.spans.len c.args.got.now c.args.behind.now))

pub returns-else-saturating_sub-behind-clause-bound :
    goal.returns-else-saturating_sub-behind-clause-bound
returns-else-saturating_sub-behind-clause-bound g c =
    let arm = c.in-Asks-default-default-Some in
    let judged = asked-same (g.C.Callers.knows_token c.args.callers.now) _ _ _ _ (lines_of c.args.got.now (take c.args.spans.headers c.args.headers.now)) _ _ c.of.ensures c.of-2.ensures (ap (asks arm.field-0.now arm.field-1) arm.field-2-is) arm.ensures in
    let small = asked-size (g.C.Callers.knows_token c.args.callers.now) (span_bytes c.args.got.now c.args.spans.method) (span_bytes c.args.got.now c.args.spans.path)
    (lines_of c.args.got.now (take c.args.spans.headers c.args.headers.now)) arm.field-0.now arm.field-1 arm.size judged in
    let fits = c.requires.within.section.len_fits in (
      omega (arith, c.saturating_sub.ensures, c.if-saturating_sub-behind.false, length-append c.args.got.now c.args.behind.now, fits),
      omega (arith, small, c.requires.short, fits),
    )

pub judge_head-requires : goal.judge_head-requires
judge_head-requires g c = record {
  lines = lines-within c.args.got.now c.args.headers.now c.args.spans c.requires.within;
  text = target-text c.args.got.now c.args.headers.now c.args.spans c.of-2.result.now c.requires.head c.of-2.ensures;
}
