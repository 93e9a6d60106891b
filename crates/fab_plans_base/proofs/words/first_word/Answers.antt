use Rattle.std.proofs.Common.{◌∙◌, ap, Some, None, lit<}
use Rattle.std.proofs.lemmas.Str.Pattern.{split_parts}
use Rattle.fab_plans_base.specs.Texts.{words_of}
use Rattle.fab_plans_base.proofs.Cuts.{first_word_cut, only_word}
use Rattle.fab_plans_base.proofs.words.first_word.Goals as goal

pub returns-in-Some : goal.returns-in-Some
returns-in-Some c =
    let cut = split_parts 32 c.args.line.now (Some (c.in-Some.word, c.in-Some.field-0-1)) c.in-Some.ensures.cases (lit< tt) in
    (words_of c.in-Some.field-0-1.now, ap words_of cut.0 ∙ first_word_cut c.in-Some.word.now c.in-Some.field-0-1.now cut.1)

pub returns-in-None : goal.returns-in-None
returns-in-None c = (_, only_word c.args.line.now (split_parts 32 c.args.line.now None c.in-None.ensures.cases (lit< tt)))
