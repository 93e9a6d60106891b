use Rattle.std.proofs.Common.{◌<◌, ◌^◌, arith, refl}
use Rattle.fab_names.specs.WorldWideNames.{wwn_text}
use Rattle.fab_names.proofs.Printed.{printed_spells}
use Rattle.fab_store_columns_base.proofs.columns.port_is_spelled.Goals as goal

pub returns : goal.returns
returns c =
    let some : 0 < c.args.name = omega (arith, c.number-number.ensures.value, c.number-number.ensures.nonzero) in
    let fits : c.args.name < 2 ^ 64 = omega (arith, c.number-number.ensures.value) in
    (wwn_text c.args.name, refl, printed_spells c.args.name some fits)
