use Rattle.std.proofs.Common.{refl}
use Rattle.fab_names.specs.Addresses.{address_text}
use Rattle.fab_store_columns_base.proofs.columns.address_member_is_spelled.Goals as goal

pub returns : goal.returns
returns c = (address_text c.args.address, refl, c.address_is_spelled.ensures)
