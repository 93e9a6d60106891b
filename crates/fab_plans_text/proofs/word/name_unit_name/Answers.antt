use Rattle.std.proofs.Common.{inl, inr}
use Rattle.std.proofs.lemmas.Result.{err_from_is_err_and}
use Rattle.fab_plans_base.specs.Values.{of_name, of_unit}
use Rattle.fab_plans_text.proofs.Words.{three_texts, of_kind}
use Rattle.fab_plans_text.proofs.word.name_unit_name.Goals as goal

pub returns-in_err-unit : goal.returns-in_err-unit
returns-in_err-unit c =
    let p = err_from_is_err_and c.from_residual-in_err-unit.result c.from_residual-in_err-unit.ensures.1 in
    rw (p.1, p.2, three_texts c.args.words.now c.requires) (inr (of_kind _ (of_name c.in_ok-name.name) c.in_ok-name.ensures, inl c.in_err-unit.ensures))

pub returns-in_err-last : goal.returns-in_err-last
returns-in_err-last c =
    let p = err_from_is_err_and c.from_residual-in_err-last.result c.from_residual-in_err-last.ensures.1 in
    rw (p.1, p.2, three_texts c.args.words.now c.requires) (inr (of_kind _ (of_name c.in_ok-name.name) c.in_ok-name.ensures, inr (of_kind _ (of_unit c.in_ok-unit.unit) c.in_ok-unit.ensures, inl c.in_err-last.ensures)))
