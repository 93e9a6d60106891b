use Rattle.fab_reach_base.specs.Views.{seen}
use Rattle.fab_reach_moves.proofs.HeadsAfter.{exposed_come, exposed_gone, exposed_kept}
use Rattle.fab_reach_moves.proofs.heads.is_exposed_after.Goals as goal

pub returns-in-Some : goal.returns-in-Some
returns-in-Some g c v t = exposed_come (seen c.args.before.now) v t.gone t.come t.diff c.args.name.now c.in-Some.exposed (c.in-Some.ensures t.come t.new)

pub returns-in-Some-said_head : goal.returns-in-Some-said_head
returns-in-Some-said_head g c v t = exposed_gone (seen c.args.before.now) v t.gone t.come t.diff c.args.name.now c.in-Some-said_head._exposed (c.in-Some-said_head.ensures t.gone t.left) (c.in_default.ensures t.come t.new)

pub returns : goal.returns
returns g c v t =
    let k = exposed_kept (seen c.args.before.now) v t.gone t.come t.diff c.args.name.now (c.in_default-said_head.ensures t.gone t.left) (c.in_default.ensures t.come t.new) in
    ((λ h. k.0 (c.is_exposed_before.ensures.0 h)), λ h. c.is_exposed_before.ensures.1 (k.1 h))
