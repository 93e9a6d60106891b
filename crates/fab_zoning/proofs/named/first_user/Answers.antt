use Rattle.std.proofs.Common.{◌≡◌, ℕ, List, ◌∷◌, [], ◌++◌, sym, ◌∙◌, true}
use mathlib.Core.Bool.{true≢false}
use Rattle.std.specs.BTreeSet.{BTreeSet, contains}
use Rattle.fab_names.proofs.OrderLaws.{name_total, name_exact}
use Rattle.fab_zoning_rows.proofs.fab_lemmas.Walks.{walked, walk_end, all_push}
use Rattle.fab_zoning_rows.proofs.fab_lemmas.MapsOfSets as maps
use Rattle.fab_zoning.proofs.named.first_user.Goals as goal

pub returns-then-contains : goal.returns-then-contains
returns-then-contains g c =
    maps.first_user g.K.Ord.cmp name_total g.met.K.Ord.total name_exact c.args.sets.now c.args.key.now c.loop-name.invariant.0 c.loop-name.name-iterator c.next.new.self c.in-Some.name.now c.in-Some.set.now
    c.loop-name.invariant.1 c.in-Some.ensures.steps c.into_iter-name-iterator.ensures.into_iter_gives.5 c.loop-name.invariant.2 (sym c.contains.ensures ∙ c.if-contains.true)

pub loop-name-preserved : goal.loop-name-preserved
loop-name-preserved g c = (
  c.loop-name.invariant.0 ++ (c.in-Some.name.now, c.in-Some.set.now) ∷ [],
  walked c.args.sets.now.entries c.loop-name.invariant.0 c.loop-name.name-iterator c.next.new.self (c.in-Some.name.now, c.in-Some.set.now) c.loop-name.invariant.1 c.in-Some.ensures.steps,
  all_push (λ (e : List ℕ × BTreeSet _). ¬ (contains g.K.Ord.cmp e.1 c.args.key.now ≡ true)) c.loop-name.invariant.0 (c.in-Some.name.now, c.in-Some.set.now) c.loop-name.invariant.2
      (λ h. true≢false (sym h ∙ sym c.contains.ensures ∙ c.if-contains.false)),
)

pub returns : goal.returns
returns g c =
    maps.no_user g.K.Ord.cmp name_total g.met.K.Ord.total name_exact c.args.sets.now c.args.key.now c.loop-name.invariant.0
    (walk_end c.args.sets.now.entries c.loop-name.invariant.0 c.loop-name.name-iterator c.loop-name.invariant.1 c.in-None.ensures.steps.0) c.loop-name.invariant.2
