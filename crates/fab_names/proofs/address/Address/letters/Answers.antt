use Rattle.std.proofs.Common.{sym, subst, arith}
use Rattle.std.specs.Str.{IsUtf8}
use Rattle.fab_names.proofs.Printed.{address_utf8}
use Rattle.fab_names.proofs.address.Address.letters.Goals as goal

pub returns-clause-text : goal.returns-clause-text
returns-clause-text c = subst IsUtf8 (sym c.letters_of.ensures) (address_utf8 c.self.inside.number (omega (arith, c.self.invariant.few)))
