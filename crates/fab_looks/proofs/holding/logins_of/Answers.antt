use Rattle.std.proofs.Common.{◌∷◌, [], ◌++◌, sym, ◌∙◌}
use Rattle.std.specs.Map.Iter.{deref_pair}
use Rattle.std.proofs.lemmas.Map.Iter.{rest_more, rest_all}
use Rattle.fab_lemmas.proofs.Walks.{walked, walk_end}
use Rattle.fab_reach_base.specs.Views.{seen}
use Rattle.fab_reach_base.proofs.Adding.{before_none, before_more}
use Rattle.fab_looks.specs.Inner.Serving.{ListsPort}
use Rattle.fab_looks.proofs.Services.{ByPort, all_logins}
use Rattle.fab_looks.proofs.holding.logins_of.Goals as goal

pub loop-name-init : goal.loop-name-init
loop-name-init g c = (
  c.new-logins.result,
  c.new-logins.ensures.empty,
  c.ports-name-items.result,
  c.ports-name-items.ensures,
  [],
  sym c.into_iter-name-iterator.ensures.into_iter_gives,
  before_none (ByPort (seen c.args.view.now) c.args.served.now) (ListsPort c.new-logins.result),
)

pub loop-name-preserved : goal.loop-name-preserved
loop-name-preserved g c =
    let i = c.loop-name.invariant in (
      i.0,
      i.1,
      i.2,
      i.3,
      i.4 ++ (c.in-Some.name.now, c.in-Some._known.now) ∷ [],
      walked i.2 i.4 c.loop-name.name-iterator c.next.new.self (c.in-Some.name.now, c.in-Some._known.now) i.5 (rest_more deref_pair c.loop-name.name-iterator c.next.new.self c.next.result (c.in-Some.name, c.in-Some._known) c.in-Some.is c.next.ensures.steps),
      before_more (ByPort (seen c.args.view.now) c.args.served.now) i.4 (c.in-Some.name.now, c.in-Some._known.now) (ListsPort i.0) (ListsPort c.loop-name.logins) (ListsPort c.add_login.new.logins) i.6 c.in_ok-add_login.ensures,
    )

pub returns : goal.returns
returns g c =
    let i = c.loop-name.invariant in
    all_logins (seen c.args.view.now) c.args.served.now i.4 i.0 c.loop-name.logins i.1
    (walk_end i.2 i.4 c.loop-name.name-iterator i.5 (rest_all deref_pair c.loop-name.name-iterator c.next.new.self c.next.result c.in-None.is c.next.ensures.steps) ∙ i.3) i.6
