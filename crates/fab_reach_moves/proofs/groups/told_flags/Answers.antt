use Rattle.std.proofs.Common.{subst, IsTrue, List}
use Rattle.fab_reach_books.specs.declared.row.Row.{Row}
use Rattle.fab_reach_moves.specs.Inner.Naming.{SaysFlag}
use Rattle.fab_names.specs.declared.fabric.Fabric.TheVariants.{A, B}
use Rattle.fab_reach_moves.proofs.Kept.{flags_are}
use Rattle.fab_reach_moves.proofs.groups.told_flags.Goals as goal

pub returns : goal.returns
returns g c w v d = flags_are w v c.args.diff.now.gone.items c.args.diff.now.come.items d (c.says_flag_among-a.result, c.says_flag_among-b.result)
    (subst (λ (xs : List Row). (IsTrue c.says_flag_among-a.result → SaysFlag xs A) × (SaysFlag xs A → IsTrue c.says_flag_among-a.result)) c.as_slice.ensures.value c.says_flag_among-a.ensures)
    (subst (λ (xs : List Row). (IsTrue c.says_flag_among-b.result → SaysFlag xs B) × (SaysFlag xs B → IsTrue c.says_flag_among-b.result)) c.as_slice-2.ensures.value c.says_flag_among-b.ensures)
