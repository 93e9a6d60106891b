use Rattle.std.proofs.Common.{inl, inr}
use Rattle.std.proofs.lemmas.Result.{err_from_is_err_and}
use Rattle.fab_plans_base.specs.Values.{of_fabric}
use Rattle.fab_plans_text.proofs.Words.{two_texts, of_kind}
use Rattle.fab_plans_text.proofs.word.fabric_name.Goals as goal

pub returns-in_err-name : goal.returns-in_err-name
returns-in_err-name c =
    let p = err_from_is_err_and c.from_residual-in_err-name.result c.from_residual-in_err-name.ensures.1 in
    rw (p.1, p.2, two_texts c.args.words.now c.requires) (inr (of_kind _ (of_fabric c.in_ok-fabric.fabric) c.in_ok-fabric.ensures, inl c.in_err-name.ensures))
