use Rattle.std.proofs.Common.{List, [], ◌∷◌, ◌++◌, Contains, sym, subst}
use Rattle.std.specs.List.{AllZip}
use Rattle.std.proofs.lemmas.List.Elements.{Contains-append_left, Contains-push}
use Rattle.std.proofs.lemmas.Map.Views.{btree_set_contains_iff}
use Rattle.fab_reach_base.proofs.fab_lemmas.Walks.{walked, walk_end}
use Rattle.fab_looks.proofs.Answered.{zip_more}
use Rattle.fab_world.specs.Worlds.{records_of}
use Rattle.fab_looks_ways.specs.Pairs.{TellsPair}
use Rattle.fab_looks_ways.specs.declared.ends.Ends.{Ends}
use Rattle.fab_looks_ways.proofs.EndsOrder.{ends_total, ends_exact}
use Rattle.fab_looks_ways.proofs.Tied.{memo_none}
use Rattle.fab_looks_ways.proofs.pairing.pairs_of.Goals as goal

pub loop-these-init : goal.loop-these-init
loop-these-init g c =
    let w = records_of c.args.world.now in (
      [],
      sym c.into_iter-these-iterator.ensures.into_iter_gives.0,
      memo_none w c.new-memo.result c.new-memo.ensures.empty,
      subst (AllZip (TellsPair w) []) (sym c.new-pairs.ensures.items) tt,
    )

pub pair_of-requires-clause-up : goal.pair_of-requires-clause-up
pair_of-requires-clause-up g c =
    let i = c.loop-these.invariant in
    let e = c.in-Some.these.now in
    let all = walked c.args.ends.now.keys i.0 c.loop-these.these-iterator c.next.new.self e i.1 c.in-Some.ensures.steps in
    c.requires.up e ((btree_set_contains_iff ends_total ends_exact c.args.ends.now e).1 (subst (λ (es : List Ends). Contains es e) (sym all) (Contains-append_left (i.0 ++ e ∷ []) c.next.new.self e (Contains-push i.0 e))))

pub pair_of-requires-clause-memo : goal.pair_of-requires-clause-memo
pair_of-requires-clause-memo g c = c.loop-these.invariant.2

pub loop-these-preserved : goal.loop-these-preserved
loop-these-preserved g c =
    let i = c.loop-these.invariant in
    let e = c.in-Some.these.now in
    let w = records_of c.args.world.now in (
      i.0 ++ e ∷ [],
      walked c.args.ends.now.keys i.0 c.loop-these.these-iterator c.next.new.self e i.1 c.in-Some.ensures.steps,
      c.in_ok-pair.ensures.memo,
      subst (AllZip (TellsPair w) (i.0 ++ e ∷ [])) (sym c.in_ok-push.ensures.items) (zip_more (TellsPair w) i.0 c.loop-these.pairs.items e c.in_ok-pair.pair i.3 c.in_ok-pair.ensures.pair),
    )

pub returns : goal.returns
returns g c =
    let i = c.loop-these.invariant in
    subst (λ (es : List Ends). AllZip (TellsPair (records_of c.args.world.now)) es c.loop-these.pairs.items) (walk_end c.args.ends.now.keys i.0 c.loop-these.these-iterator i.1 c.in-None.ensures.steps.0) i.3
