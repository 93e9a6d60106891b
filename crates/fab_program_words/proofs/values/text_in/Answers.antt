use Rattle.std.proofs.Common.{◌∙◌, ℕ, List, ap}
use Rattle.clap.specs.Words.{first_of, found_of, rows_of}
use Rattle.clap.proofs.WalkLemmas.{first_value-rows}
use Rattle.fab_program_words.proofs.values.text_in.Goals as goal

pub returns : goal.returns
returns c =
    let found = found_of c.args.given.now in
    c.get_str.ensures ∙ first_value-rows found c.name.result.now ∙ ap (λ (id : List ℕ). first_of id (rows_of found)) c.name.ensures
