use Rattle.std.proofs.Common.{inl, inr, sym}
use Rattle.fab_zoning_rows.specs.fab_inventory.declared.port.Port.{Port}
use Rattle.fab_zoning.specs.declared.why.Why.{Why}
use Rattle.fab_zoning.specs.declared.why.Why.TheVariants as why
use Rattle.fab_zoning.specs.Zonings.{FabricZoning}
use Rattle.fab_zoning.specs.Joins.{Explains}
use Rattle.fab_zoning.proofs.laws.joined_is_symmetric.Goals as goal

pub returns-clause-joined : goal.returns-clause-joined
returns-clause-joined c v p q j = record {
  differ = λ e. j.differ (sym e);
  here = j.there;
  there = j.here;
  by = elim j.by [ inl w ↦ inl (w.0, w.2, w.1) | inr d ↦ inr (d.0, d.2, d.1) ];
}

turned : (v : FabricZoning) (p q : Port) (w : Why) → Explains v p q w → Explains v q p w
turned v p q (why.Zone z) h = record { one = h.other; other = h.one; first = λ y a b. h.first y b a }
turned v p q why.Default d = (d.0, d.2, d.1)

pub returns-clause-why : goal.returns-clause-why
returns-clause-why c = turned
