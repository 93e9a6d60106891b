use Rattle.std.proofs.Common.{ℕ, List, subst, sym}
use Rattle.fab_names.specs.Names.{IsNameText}
use Rattle.fab_names.proofs.Copies.{name_utf8}
use Rattle.fab_names.proofs.bytes.read_name.Goals as goal

pub returns-in_default : goal.returns-in_default
returns-in_default c s = c.in_default.ensures.cases.0 (name_utf8 _ s)

pub returns-in-Err : goal.returns-in-Err
returns-in-Err c s = c.in-Err.ensures.err (subst (λ (t : List ℕ). IsNameText t) (sym c.in-Ok.ensures.cases.0) s)
