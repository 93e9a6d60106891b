use Rattle.std.proofs.Common.{inl, inr}
use Rattle.std.proofs.lemmas.Result.{err_from_is_err_and}
use Rattle.fab_plans_base.specs.Values.{of_name}
use Rattle.fab_plans_text.proofs.Words.{three_texts, of_kind}
use Rattle.fab_plans_text.proofs.word.three_names.Goals as goal

pub returns-in_err-second : goal.returns-in_err-second
returns-in_err-second c =
    let p = err_from_is_err_and c.from_residual-in_err-second.result c.from_residual-in_err-second.ensures.1 in
    rw (p.1, p.2, three_texts c.args.words.now c.requires) (inr (of_kind _ (of_name c.in_ok-first.first) c.in_ok-first.ensures, inl c.in_err-second.ensures))

pub returns-in_err-third : goal.returns-in_err-third
returns-in_err-third c =
    let p = err_from_is_err_and c.from_residual-in_err-third.result c.from_residual-in_err-third.ensures.1 in
    rw (p.1, p.2, three_texts c.args.words.now c.requires) (inr (of_kind _ (of_name c.in_ok-first.first) c.in_ok-first.ensures, inr (of_kind _ (of_name c.in_ok-second.second) c.in_ok-second.ensures, inl c.in_err-third.ensures)))
