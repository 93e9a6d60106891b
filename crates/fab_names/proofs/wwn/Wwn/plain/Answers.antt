use Rattle.std.proofs.Common.{sym, subst}
use Rattle.std.specs.Str.{IsUtf8}
use Rattle.fab_names.proofs.Printed.{plain_utf8}
use Rattle.fab_names.proofs.wwn.Wwn.plain.Goals as goal

pub invariant_of-result : goal.invariant_of-result
invariant_of-result c = subst IsUtf8 (sym c.plain_digits_of.ensures) (plain_utf8 _)
