use Rattle.std.proofs.Common.{arith, refl, inl, inr, ap, ◌∙◌, length-take}
use Rattle.fab_wire_base.specs.Hearing.{failures_after_heard}
use Rattle.fab_wire_base.proofs.HearLemmas.{IfSome-all, IfSome-map, heard-behind}
use Rattle.fab_wire_base.proofs.hear.hear.Goals as goal

pub read_head-requires : goal.read_head-requires
read_head-requires g c = record { room = refl; lines = refl }

pub hear_request-requires : goal.hear_request-requires
hear_request-requires g c = record {
  within = c.in-Head.ensures.head.3;
  head = c.in-Head.ensures.head.2;
  short = omega (arith, length-take c.in-Head.filled c.read_head.new.buf);
}

pub returns-in-Head : goal.returns-in-Head
returns-in-Head g c = record {
  spelled = heard-behind _ _ _ _ c.hear_request.result c.in-Head.ensures.head.1 c.hear_request.ensures.spelled;
  known = c.hear_request.ensures.known;
  count = c.hear_request.ensures.count ∙ ap (failures_after_heard c.hear_request.result) c.in-Head.ensures.count;
}

pub returns-in-BadHead-clause-spelled : goal.returns-in-BadHead-clause-spelled
returns-in-BadHead-clause-spelled g c = IfSome-map _ _ _ (λ input k. inr (inl (k.0, k.1, refl))) c.in-BadHead.ensures.head

pub returns-in-BadHead-clause-count : goal.returns-in-BadHead-clause-count
returns-in-BadHead-clause-count g c = c.in-BadHead.ensures.count

pub returns-in-ReadFailed : goal.returns-in-ReadFailed
returns-in-ReadFailed g c = record { spelled = IfSome-all _ _ (λ input. tt); known = tt; count = c.in-ReadFailed.ensures.count }
