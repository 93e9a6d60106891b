use Rattle.std.proofs.Common.{◌≡◌, true, subst, rules}
use Rattle.std.specs.BTreeMap.{get}
use Rattle.std.specs.BTreeSet.{contains}
use Rattle.fab_zoning_rows.specs.fab_lemmas.MapsOfSets.{in_tree}
use Rattle.fab_zoning.specs.Edits.{Takes}
use Rattle.fab_zoning.proofs.Taking.{takes_under, tree_takes_one}
use Rattle.fab_zoning.proofs.items.take_from.Goals as goal

pub returns-in-Some-clause-takes : goal.returns-in-Some-clause-takes
returns-in-Some-clause-takes g c =
    takes_under g.met.Q.Ord.total g.met.Q.Key.exact (λ s x. in_tree g.X.Ord.cmp s x ≡ true) (get g.Q.Ord.cmp c.args.sets.now) (get g.Q.Ord.cmp (c.get_mut.follows.lender c.remove.new.self)) c.args.key.now c.remove.new.self c.args.item.now
    ((c.get_mut.follows.holds c.remove.new.self).3 (search rules)).0
    (subst (λ o. Takes c.args.item.now (λ x. in_tree g.X.Ord.cmp o x ≡ true) (λ x. contains g.X.Ord.cmp c.remove.new.self x ≡ true)) c.in-Some.ensures.value
    (tree_takes_one g.met.X.Ord.total g.met.X.Key.exact c.in-Some.set.now c.remove.new.self c.args.item.now c.remove.ensures.updates.0))
