use Rattle.std.proofs.Common.{ℕ, List, subst, sym}
use Rattle.fab_names.specs.Addresses.{SpellsAddress}
use Rattle.fab_names.proofs.WwnText.{IsUtf8-address}
use Rattle.fab_names.proofs.bytes.read_address.Goals as goal

pub returns-in_default : goal.returns-in_default
returns-in_default c n s = c.in_default.ensures.cases.0 (IsUtf8-address _ n s)

pub returns-in-Err : goal.returns-in-Err
returns-in-Err c n s = c.in-Err.ensures.err n (subst (λ (t : List ℕ). SpellsAddress t n) (sym c.in-Ok.ensures.cases.0) s)
