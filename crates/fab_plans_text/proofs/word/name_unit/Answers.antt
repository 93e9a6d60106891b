use Rattle.std.proofs.Common.{inl, inr}
use Rattle.std.proofs.lemmas.Result.{err_from_is_err_and}
use Rattle.fab_plans_base.specs.Values.{of_name}
use Rattle.fab_plans_text.proofs.Words.{two_texts, of_kind}
use Rattle.fab_plans_text.proofs.word.name_unit.Goals as goal

pub returns-in_err-unit : goal.returns-in_err-unit
returns-in_err-unit c =
    let p = err_from_is_err_and c.from_residual-in_err-unit.result c.from_residual-in_err-unit.ensures.1 in
    rw (p.1, p.2, two_texts c.args.words.now c.requires) (inr (of_kind _ (of_name c.in_ok-name.name) c.in_ok-name.ensures, inl c.in_err-unit.ensures))
