use Rattle.std.proofs.Common.{arith}
use Rattle.fab_names.proofs.place.Place.from_texts.Goals.{then-domain-via-then-domain, then-domain-via-else-domain+then-domain-2, then-domain-via-else-domain+else-domain-2+then-slot}
use Rattle.fab_names.proofs.place.Place.from_texts.Goals as goal

pub returns-then-domain-clause-fault : goal.returns-then-domain-clause-fault
returns-then-domain-clause-fault c = record {
  place = record { domain = c.in-Some.domain; slot = c.in-Some-read_number.slot };
  domain_number = c.in-Some.ensures;
  slot_number = c.in-Some-read_number.ensures;
  outside = λ h. elim c.then-domain.branch [
    | then-domain-via-then-domain w ↦ omega (arith, h.some)
    | then-domain-via-else-domain+then-domain-2 w ↦ omega (arith, h.few)
    | then-domain-via-else-domain+else-domain-2+then-slot w ↦ omega (arith, h.slot)
  ];
}
