use Rattle.std.proofs.Common.{sym, subst}
use Rattle.std.specs.Str.{IsUtf8}
use Rattle.fab_names.proofs.Printed.{text_utf8}
use Rattle.fab_names.proofs.wwn.WwnDisplay.fmt.Goals as goal

pub from_utf8_unchecked-requires : goal.from_utf8_unchecked-requires
from_utf8_unchecked-requires g c = subst IsUtf8 (sym c.letters-letters.ensures) (text_utf8 _)
