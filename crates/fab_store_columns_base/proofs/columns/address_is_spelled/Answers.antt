use Rattle.std.proofs.Common.{arith}
use Rattle.fab_names.specs.Addresses.{IsAddress}
use Rattle.fab_names.proofs.Printed.{printed_address}
use Rattle.fab_store_columns_base.proofs.columns.address_is_spelled.Goals as goal

pub returns : goal.returns
returns c =
    let range : IsAddress c.args.address = record {
      some = omega (arith, c.number-number.ensures.value, c.number-number.ensures.low);
      few = omega (arith, c.number-number.ensures.value, c.number-number.ensures.high);
    } in
    printed_address c.args.address range
