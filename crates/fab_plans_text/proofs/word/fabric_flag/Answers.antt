use Rattle.std.proofs.Common.{inl, inr}
use Rattle.std.proofs.lemmas.Result.{err_from_is_err_and}
use Rattle.fab_plans_base.specs.Values.{of_fabric}
use Rattle.fab_plans_text.proofs.Words.{two_texts, of_kind}
use Rattle.fab_plans_text.proofs.word.fabric_flag.Goals as goal

pub returns-in_err-read_flag : goal.returns-in_err-read_flag
returns-in_err-read_flag c =
    let p = err_from_is_err_and c.from_residual-in_err-read_flag.result c.from_residual-in_err-read_flag.ensures.1 in
    rw (p.1, p.2, two_texts c.args.words.now c.requires) (inr (of_kind _ (of_fabric c.in_ok-read_fabric.field-0) c.in_ok-read_fabric.ensures, inl c.in_err-read_flag.ensures))
