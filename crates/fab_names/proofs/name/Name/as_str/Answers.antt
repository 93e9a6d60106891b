use Rattle.fab_names.proofs.Copies.{name_utf8}
use Rattle.fab_names.proofs.name.Name.as_str.Goals as goal

pub from_utf8_unchecked-requires : goal.from_utf8_unchecked-requires
from_utf8_unchecked-requires c = name_utf8 _ c.self.invariant.3
