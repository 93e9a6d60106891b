use Rattle.std.proofs.Common.{◌≡◌, ◌∙◌, false, sym, rules}
use mathlib.Core.Bool.{true≢false}
use Rattle.fab_program_words.specs.Lists.{IsPart}
use Rattle.fab_program_words.proofs.Parts.{first_is, last_part, one_part_more}
use Rattle.fab_program_words.proofs.lists.is_list.Goals as goal

pub cut_part-requires-text-text : goal.cut_part-requires-text-text
cut_part-requires-text-text c κs = c.loop-part.invariant.text

pub returns-then-not-is_part : goal.returns-then-not-is_part
returns-then-not-is_part c =
    let refused : c.is_part.result ≡ false = search (rules, c.if-not-is_part.true) in (
      λ h. absurd (true≢false (sym h)),
      λ all. absurd (true≢false (sym (c.is_part.ensures.1 (first_is (IsPart c.args.kind) c.loop-part.rest.now c.in-Some.part.now c.in-Some.more.now c.in-Some.ensures.some (c.loop-part.invariant.same.1 all))) ∙ refused)),
    )

pub loop-part-preserved : goal.loop-part-preserved
loop-part-preserved c =
    let step = one_part_more (IsPart c.args.kind) c.loop-part.rest.now c.in-Some.part.now c.in-Some.more.now c.in-Some.ensures.some (c.is_part.ensures.0 (search (rules, c.if-not-is_part.false))) in
    record { text = c.in-Some.ensures.text; same = (λ h. c.loop-part.invariant.same.0 (step.0 h), λ h. step.1 (c.loop-part.invariant.same.1 h)) }

pub returns : goal.returns
returns c =
    let last = last_part (IsPart c.args.kind) c.loop-part.rest.now c.in_default.ensures.none in
    (λ h. c.loop-part.invariant.same.0 (last.0 (c.is_part-2.ensures.0 h)), λ h. c.is_part-2.ensures.1 (last.1 (c.loop-part.invariant.same.1 h)))
