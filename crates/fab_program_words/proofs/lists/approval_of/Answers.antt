use Rattle.std.proofs.Common.{Some, None, lit<}
use Rattle.std.proofs.lemmas.Str.Pattern.{split_parts}
use Rattle.fab_program_words.proofs.Parts.{no_approval, no_cut}
use Rattle.fab_program_words.proofs.lists.approval_of.Goals as goal

pub returns-in_default : goal.returns-in_default
returns-in_default c a s = no_cut c.args.text.now (split_parts 64 c.args.text.now None c.in_default.ensures.cases (lit< tt)) a s

pub returns-in_default-read : goal.returns-in_default-read
returns-in_default-read c a s =
    let cut = split_parts 64 c.args.text.now (Some (c.in-Some.name, c.in-Some.revision)) c.in-Some.ensures.cases (lit< tt) in
    no_approval c.args.text.now c.in-Some.name.now c.in-Some.revision.now cut.0 cut.1 (λ b named same numbered. c.in_default-read.ensures.err named) a s

pub returns-in_default-number_of : goal.returns-in_default-number_of
returns-in_default-number_of c a s =
    let cut = split_parts 64 c.args.text.now (Some (c.in-Some.name, c.in-Some.revision)) c.in-Some.ensures.cases (lit< tt) in
    no_approval c.args.text.now c.in-Some.name.now c.in-Some.revision.now cut.0 cut.1 (λ b named same numbered. c.in_default-number_of.ensures b.revision numbered) a s
