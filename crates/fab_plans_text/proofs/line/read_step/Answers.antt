use Rattle.std.proofs.Common.{◌∙◌, ap, sym, subst, count_by, eqb}
use Rattle.fab_plans_base.specs.Values.{texts_of}
use Rattle.fab_plans_base.specs.Forms.{form_of, Takes}
use Rattle.fab_plans_text.specs.Faults.{ReadsWords}
use Rattle.fab_plans_text.proofs.Readings.{begins, miscounted, counted, texts_after_one, length_after_one, line_read}
use Rattle.fab_plans_text.proofs.line.read_step.Goals as goal

pub returns-then-not-takes : goal.returns-then-not-takes
returns-then-not-takes g c =
    let b = begins c.args.line.now c.first_word.result.now c.in-Some.keyword c.first_word.ensures.0 _ c.first_word.ensures.1 c.in-Some.ensures.some (c.count_spaces.ensures ∙ ap (count_by (λ x. eqb x 32)) c.as_bytes.ensures.value) in
    miscounted c.args.line.now c.in-Some.keyword c.first_word.ensures.0 _ _ b c.takes.ensures c.if-not-takes.true

pub read_words-requires : goal.read_words-requires
read_words-requires g c =
    let b = begins c.args.line.now c.first_word.result.now c.in-Some.keyword c.first_word.ensures.0 _ c.first_word.ensures.1 c.in-Some.ensures.some (c.count_spaces.ensures ∙ ap (count_by (λ x. eqb x 32)) c.as_bytes.ensures.value) in
    let rest = texts_after_one c.deref.result.now _ _ (ap texts_of c.deref.ensures.value ∙ c.in_ok-words.ensures ∙ c.first_word.ensures.1) in
    subst (Takes (form_of c.in-Some.keyword)) (sym (length_after_one c.deref.result.now c.first_word.ensures.0 rest)) (counted c.args.line.now c.in-Some.keyword c.first_word.ensures.0 _ _ b c.takes.ensures c.if-not-takes.false)

pub returns : goal.returns
returns g c =
    let b = begins c.args.line.now c.first_word.result.now c.in-Some.keyword c.first_word.ensures.0 _ c.first_word.ensures.1 c.in-Some.ensures.some (c.count_spaces.ensures ∙ ap (count_by (λ x. eqb x 32)) c.as_bytes.ensures.value) in
    let rest = texts_after_one c.deref.result.now _ _ (ap texts_of c.deref.ensures.value ∙ c.in_ok-words.ensures ∙ c.first_word.ensures.1) in
    line_read _ c.in-Some.keyword c.first_word.ensures.0 _ b.words (counted c.args.line.now c.in-Some.keyword c.first_word.ensures.0 _ _ b c.takes.ensures c.if-not-takes.false)
    (subst (λ others. ReadsWords c.in-Some.keyword others c.read_words.result) rest c.read_words.ensures)
