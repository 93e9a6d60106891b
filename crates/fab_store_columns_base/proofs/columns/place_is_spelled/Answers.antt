use Rattle.std.proofs.Common.{arith, refl}
use Rattle.fab_names.specs.Places.{place_text, IsPosition}
use Rattle.fab_store_columns_base.proofs.Texts.{place_spells}
use Rattle.fab_store_columns_base.proofs.columns.place_is_spelled.Goals as goal

pub returns : goal.returns
returns c =
    let range : IsPosition c.args.place = record {
      some = omega (arith, c.domain-domain.ensures.value, c.domain-domain.ensures.low);
      few = omega (arith, c.domain-domain.ensures.value, c.domain-domain.ensures.high);
      slot = omega (arith, c.slot-slot.ensures.value, c.slot-slot.ensures.high);
    } in
    (place_text c.args.place, refl, place_spells c.args.place range)
