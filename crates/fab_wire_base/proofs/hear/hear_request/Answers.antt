use Rattle.std.proofs.Common.{refl, ap, Some, None, take}
use Rattle.httparse.specs.Spans.{span_bytes}
use Rattle.fab_wire_base.specs.Lines.{lines_of}
use Rattle.fab_wire_base.specs.Asking.{refuses, asks}
use Rattle.fab_wire_base.specs.Spelling.{refused}
use Rattle.fab_wire_base.proofs.KnownLemmas.{asks-known}
use Rattle.fab_wire_base.proofs.HearLemmas.{IfSome-all, IfSome-map, asked-same, lines-within, target-text, spells-read, some-read, kept-known, kept-count, heard-bare, heard-whole, behind-short}
use Rattle.fab_wire_base.specs.declared.requests.Refusal.TheVariants as no
use Rattle.fab_wire_base.proofs.hear.hear_request.Goals as goal

pub returns-in-Refused-clause-spelled : goal.returns-in-Refused-clause-spelled
returns-in-Refused-clause-spelled g c =
    let judged = asked-same (g.C.Callers.knows_token c.args.callers.now) _ _ _ _ (lines_of c.args.got.now (take c.args.spans.headers c.args.headers.now)) _ _ c.of.ensures c.of-target.ensures refl c.in-Refused.ensures in
    IfSome-all _ _ (λ more. spells-read _ c.args.got.now more c.args.headers.now c.args.spans (refuses c.in-Refused.why) (refused c.in-Refused.why)
    c.requires.head c.requires.short c.requires.within.section.len_fits judged refl)

pub returns-in-Asks-default-default-None-clause-spelled :
    goal.returns-in-Asks-default-default-None-clause-spelled
returns-in-Asks-default-default-None-clause-spelled g c =
    let arm = c.in-Asks-default-default-None in
    let judged = asked-same (g.C.Callers.knows_token c.args.callers.now) _ _ _ _ (lines_of c.args.got.now (take c.args.spans.headers c.args.headers.now)) _ _ c.of.ensures c.of-target.ensures (ap (asks arm.token.now arm.kind) arm.field-2-is) arm.ensures in
    let kept = rw c.new.ensures.items at (rw c.of-target.ensures at c.keep.ensures) in
    IfSome-all _ _ (λ more. heard-bare _ _ c.args.got.now more c.args.headers.now c.args.spans arm.token.now arm.kind
    c.requires.head c.requires.short c.requires.within.section.len_fits judged kept)

pub returns-in-Asks-default-default-None-clause-known :
    goal.returns-in-Asks-default-default-None-clause-known
returns-in-Asks-default-default-None-clause-known g c =
    let arm = c.in-Asks-default-default-None in
    let judged = asked-same (g.C.Callers.knows_token c.args.callers.now) _ _ _ _ (lines_of c.args.got.now (take c.args.spans.headers c.args.headers.now)) _ _ c.of.ensures c.of-target.ensures (ap (asks arm.token.now arm.kind) arm.field-2-is) arm.ensures in
    kept-known _ _ _ (asks-known (g.C.Callers.knows_token c.args.callers.now) (span_bytes c.args.got.now c.args.spans.method) (span_bytes c.args.got.now c.args.spans.path)
    (lines_of c.args.got.now (take c.args.spans.headers c.args.headers.now)) (asks arm.token.now arm.kind None) judged) c.keep.ensures

pub returns-in-Whole-clause-spelled : goal.returns-in-Whole-clause-spelled
returns-in-Whole-clause-spelled g c =
    let arm = c.in-Asks-default-default-Some in
    let judged = asked-same (g.C.Callers.knows_token c.args.callers.now) _ _ _ _ (lines_of c.args.got.now (take c.args.spans.headers c.args.headers.now)) _ _ c.of.ensures c.of-target.ensures (ap (asks arm.token.now arm.kind) arm.field-2-is) arm.ensures in
    let kept = rw c.of-target.ensures at c.keep-in-Whole.ensures in
    IfSome-map _ _ _ (λ more k. heard-whole _ _ c.args.got.now more c.args.headers.now c.args.spans arm.token.now arm.kind arm.size _
    c.requires.head c.requires.short c.requires.within.section.len_fits judged k.0 k.1 kept) (rw c.split_at.ensures.back at c.in-Whole.ensures.body)

pub returns-in-Whole-clause-known : goal.returns-in-Whole-clause-known
returns-in-Whole-clause-known g c =
    let arm = c.in-Asks-default-default-Some in
    let judged = asked-same (g.C.Callers.knows_token c.args.callers.now) _ _ _ _ (lines_of c.args.got.now (take c.args.spans.headers c.args.headers.now)) _ _ c.of.ensures c.of-target.ensures (ap (asks arm.token.now arm.kind) arm.field-2-is) arm.ensures in
    kept-known _ _ _ (asks-known (g.C.Callers.knows_token c.args.callers.now) (span_bytes c.args.got.now c.args.spans.method) (span_bytes c.args.got.now c.args.spans.path)
    (lines_of c.args.got.now (take c.args.spans.headers c.args.headers.now)) (asks arm.token.now arm.kind (Some arm.size)) judged) c.keep-in-Whole.ensures

pub returns-in-Short-clause-spelled : goal.returns-in-Short-clause-spelled
returns-in-Short-clause-spelled g c =
    let arm = c.in-Asks-default-default-Some in
    let judged = asked-same (g.C.Callers.knows_token c.args.callers.now) _ _ _ _ (lines_of c.args.got.now (take c.args.spans.headers c.args.headers.now)) _ _ c.of.ensures c.of-target.ensures (ap (asks arm.token.now arm.kind) arm.field-2-is) arm.ensures in
    IfSome-map _ _ _ (λ more k. spells-read _ c.args.got.now more c.args.headers.now c.args.spans (asks arm.token.now arm.kind (Some arm.size)) (refused (no.BadBody 0))
    c.requires.head c.requires.short c.requires.within.section.len_fits judged (behind-short arm.token.now arm.kind _ _ arm.size k)) (rw c.split_at.ensures.back at c.in-Short.ensures.body)

pub returns-in-Memory-clause-spelled : goal.returns-in-Memory-clause-spelled
returns-in-Memory-clause-spelled g c = IfSome-all _ _ (λ more. some-read c.args.got.now more c.args.headers.now c.args.spans c.requires.head)

pub returns-in-Asks-default-default-None-clause-count : goal.returns-in-Asks-default-default-None-clause-count
returns-in-Asks-default-default-None-clause-count g c = kept-count c.keep.result _ _ _ c.keep.ensures refl

pub returns-in-Whole-clause-count : goal.returns-in-Whole-clause-count
returns-in-Whole-clause-count g c = kept-count c.keep-in-Whole.result _ _ _ c.keep-in-Whole.ensures c.in-Whole.ensures.count

pub judge_head-requires : goal.judge_head-requires
judge_head-requires g c = record {
  lines = lines-within c.args.got.now c.args.headers.now c.args.spans c.requires.within;
  text = target-text c.args.got.now c.args.headers.now c.args.spans c.of-target.result.now c.requires.head c.of-target.ensures;
}
