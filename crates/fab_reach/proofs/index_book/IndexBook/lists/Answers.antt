use Rattle.std.proofs.Common.{sym, subst, arith}
use Rattle.fab_reach_base.specs.Views.{seen}
use Rattle.fab_reach_books.specs.Pairs.{AreChanged}
use Rattle.fab_reach_books.proofs.Bounds.{bounded}
use Rattle.fab_reach.proofs.AtMost.{at_most, at_most_none}
use Rattle.fab_reach.proofs.index_book.IndexBook.lists.Goals as goal

pub returns-in_err-pairs-clause-limits : goal.returns-in_err-pairs-clause-limits
returns-in_err-pairs-clause-limits g c = at_most_none (seen c.args.before.now) (g.S.Sight.world c.args.sight.now) (g.S.Sight.count c.args.sight.now)

pub returns-in_err-delta-clause-limits : goal.returns-in_err-delta-clause-limits
returns-in_err-delta-clause-limits g c =
    let w = seen c.args.before.now in
    let v = g.S.Sight.world c.args.sight.now in
    at_most w v c.as_slice.result.now (subst (AreChanged w v) (sym c.as_slice.ensures.value) (c.in_ok-pairs.ensures v c.requires.sound c.requires.told c.requires.moved)) (g.S.Sight.count c.args.sight.now) (g.S.Sight.count c.delta_by.new.sight) c.delta_by.ensures.most

pub returns-clause-delta : goal.returns-clause-delta
returns-clause-delta g c =
    let w = seen c.args.before.now in
    let v = g.S.Sight.world c.args.sight.now in
    c.in_ok-delta.ensures.delta w c.requires.stands.1.rows (subst (AreChanged w v) (sym c.as_slice.ensures.value) (c.in_ok-pairs.ensures v c.requires.sound c.requires.told c.requires.moved))

pub returns-clause-asked : goal.returns-clause-asked
returns-clause-asked g c =
    let w = seen c.args.before.now in
    let v = g.S.Sight.world c.args.sight.now in
    let changed : AreChanged w v c.as_slice.result.now = subst (AreChanged w v) (sym c.as_slice.ensures.value) (c.in_ok-pairs.ensures v c.requires.sound c.requires.told c.requires.moved) in record {
      bounded = bounded w v c.as_slice.result.now changed (g.S.Sight.count c.args.sight.now) (g.S.Sight.count c.delta_by.new.sight) c.delta_by.ensures.most c.in_ok-delta.ensures.least;
      few = let m = c.delta_by.ensures.most in let l = c.as_slice.type_inv.1 in omega (arith, m, l);
    }

pub returns-clause-limits : goal.returns-clause-limits
returns-clause-limits g c =
    let w = seen c.args.before.now in
    let v = g.S.Sight.world c.args.sight.now in
    at_most w v c.as_slice.result.now (subst (AreChanged w v) (sym c.as_slice.ensures.value) (c.in_ok-pairs.ensures v c.requires.sound c.requires.told c.requires.moved)) (g.S.Sight.count c.args.sight.now) (g.S.Sight.count c.delta_by.new.sight) c.delta_by.ensures.most
