use Rattle.std.proofs.Common.{ℕ, List, refl, inl, subst}
use Rattle.fab_program_outside.specs.Contents.{IsUnread}
use Rattle.fab_program_checks.proofs.checking.check.Goals as goal

pub returns-in-Err : goal.returns-in-Err
returns-in-Err g c =
    inl (c.in-Err.fault, subst (λ (path : List ℕ). IsUnread (g.O.Files.opens c.args.outside.now path) c.in-Err.fault) c.path_of.ensures c.in-Err.ensures, refl)
