use Rattle.fab_names.proofs.Digits.{plain_form, prefixed_form, paired_form}
use Rattle.fab_names.proofs.wwn.digits_in.Goals as goal

pub returns-then-t-eq16 : goal.returns-then-t-eq16
returns-then-t-eq16 c = plain_form c.args.t.now c.if-t-eq16.true

pub returns-then-t-eq120 : goal.returns-then-t-eq120
returns-then-t-eq120 c = prefixed_form c.args.t.now c.if-t-eq18.true c.if-t-eq48.true c.if-t-eq120.true

pub returns-then-has_colons : goal.returns-then-has_colons
returns-then-has_colons c = paired_form c.args.t.now c.if-t-eq23.true (c.has_colons.ensures.0 c.if-has_colons.true)
