use Rattle.std.proofs.Common.{sym, arith, inl, refl}
use Rattle.toml.specs.Data.{as_array}
use Rattle.toml.specs.View.{view, array_view}
use Rattle.fab_policy_text.proofs.Items.{each_length, item_there, on_some}
use Rattle.fab_policy_text.proofs.read.list.Goals as goal

pub returns-then-len-limit-clause-fault : goal.returns-then-len-limit-clause-fault
returns-then-len-limit-clause-fault g c m =
    on_some _ _ (as_array (view c.args.value.now)) (array_view c.in-Some.items.now) c.in-Some.ensures
    (inl (refl, item_there c.in-Some.items.now.items c.args.limit (omega (arith, c.if-len-limit.true))))

pub returns-in-Ok-clause-ok : goal.returns-in-Ok-clause-ok
returns-in-Ok-clause-ok g c = record {
  items = array_view c.in-Some.items.now;
  array = sym c.in-Some.ensures;
  each = c.in-Ok.ensures.ok;
  short = omega (arith, each_length g.T.Read.means c.in-Some.items.now.items _ c.in-Ok.ensures.ok, c.if-len-limit.false);
}
