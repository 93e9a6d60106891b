use Rattle.std.proofs.Common.{List, [], ◌∷◌, ◌++◌, map, sym, ap, ◌∙◌}
use Rattle.fab_desk_base.specs.declared.command.Query.{Query}
use Rattle.fab_looks.specs.Lists.{query_of}
use Rattle.fab_reach_base.proofs.fab_lemmas.Walks.{walked, walk_end}
use Rattle.fab_looks.proofs.rows.name_queries.Goals as goal

pub loop-name-init : goal.loop-name-init
loop-name-init g c =
    let f = (query_of c.args.kind) in
    ap (map f) (sym c.into_iter-name-iterator.ensures.into_iter_gives.0)
    ∙ ap (λ (xs : List Query). xs ++ map f c.into_iter-name-iterator.result) (sym c.new-queries.ensures.items)

pub loop-name-preserved : goal.loop-name-preserved
loop-name-preserved g c =
    let f = (query_of c.args.kind) in
    walked (map f c.args.names.now.keys) c.loop-name.queries.items (map f c.loop-name.name-iterator) (map f c.next.new.self) (f c.in-Some.name.now) c.loop-name.invariant (ap (map f) c.in-Some.ensures.steps)
    ∙ ap (λ (q : Query). (c.loop-name.queries.items ++ q ∷ []) ++ map f c.next.new.self) (sym c.query_of.ensures)
    ∙ ap (λ (xs : List Query). xs ++ map f c.next.new.self) (sym c.in_ok-push.ensures.items)

pub returns : goal.returns
returns g c =
    let f = (query_of c.args.kind) in
    walk_end (map f c.args.names.now.keys) c.loop-name.queries.items (map f c.loop-name.name-iterator) c.loop-name.invariant (ap (map f) c.in-None.ensures.steps.0)
