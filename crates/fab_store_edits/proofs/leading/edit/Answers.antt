use Rattle.fab_store_rows.specs.Gathering.{Has}
use Rattle.fab_store_edits.proofs.Outcomes.{stay, leads, no_head, no_part, no_drop}
use Rattle.fab_store_edits.proofs.leading.edit.Goals as goal

pub put_all-requires : goal.put_all-requires
put_all-requires g c = record { stay = stay c.args.config.now c.args.go.now c.args.come.now c.requires.can (Has c.args.going.now) c.requires.only c.requires.every }

pub returns-then-not-branch-clause-none : goal.returns-then-not-branch-clause-none
returns-then-not-branch-clause-none g c e b x =
    no_head c.args.config.now c.args.go.now c.args.come.now c.requires.can (Has c.args.going.now) c.requires.only c.requires.every b x c.take_all.new.config c.in_ok-take_all.ensures.taken (c.in_ok-put_all.ensures.stopped c.if-not-branch.true)

pub returns-then-not-branch-2-clause-none : goal.returns-then-not-branch-2-clause-none
returns-then-not-branch-2-clause-none g c e b x =
    no_part c.args.config.now c.args.go.now c.args.come.now c.requires.can (Has c.args.going.now) c.requires.only c.requires.every b x c.take_all.new.config c.in_ok-take_all.ensures.taken c.put_all.new.config (c.in_ok-put_all.ensures.put c.if-not-branch.false)
    (c.in_ok-put_all-2.ensures.stopped c.if-not-branch-2.true)

pub returns-clause-led : goal.returns-clause-led
returns-clause-led g c e =
    leads c.args.config.now c.args.go.now c.args.come.now c.requires.can (Has c.args.going.now) c.requires.only c.requires.every c.take_all.new.config c.put_all.new.config c.put_all-2.new.config c.drop_all.new.config
    c.in_ok-take_all.ensures.taken (c.in_ok-put_all.ensures.put c.if-not-branch.false) (c.in_ok-put_all-2.ensures.put c.if-not-branch-2.false) (c.drop_all.ensures.dropped e)

pub returns-clause-none : goal.returns-clause-none
returns-clause-none g c e b x =
    no_drop c.args.config.now c.args.go.now c.args.come.now c.requires.can (Has c.args.going.now) c.requires.only c.requires.every b x c.take_all.new.config c.in_ok-take_all.ensures.taken c.put_all.new.config (c.in_ok-put_all.ensures.put c.if-not-branch.false)
    c.put_all-2.new.config (c.in_ok-put_all-2.ensures.put c.if-not-branch-2.false) (c.drop_all.ensures.held e)
