use Rattle.std.proofs.Common.{ℕ, List, ◌++◌, map, sym, ap, ◌∙◌}
use Rattle.fab_desk_base.specs.declared.command.Query.{Query}
use Rattle.fab_desk_base.specs.declared.command.Query.TheVariants as query
use Rattle.fab_reach_base.proofs.fab_lemmas.Walks.{walked, walk_end}
use Rattle.fab_looks.proofs.rows.port_queries.Goals as goal

pub loop-port-init : goal.loop-port-init
loop-port-init g c =
    let f = (λ (a : ℕ). query.Port a) in
    ap (map f) (sym c.into_iter-port-iterator.ensures.into_iter_gives.0)
    ∙ ap (λ (xs : List Query). xs ++ map f c.into_iter-port-iterator.result) (sym c.new-queries.ensures.items)

pub loop-port-preserved : goal.loop-port-preserved
loop-port-preserved g c =
    let f = (λ (a : ℕ). query.Port a) in
    walked (map f c.args.ports.now.keys) c.loop-port.queries.items (map f c.loop-port.port-iterator) (map f c.next.new.self) (f c.in-Some.port.now) c.loop-port.invariant (ap (map f) c.in-Some.ensures.steps)
    ∙ ap (λ (xs : List Query). xs ++ map f c.next.new.self) (sym c.in_ok-push.ensures.items)

pub returns : goal.returns
returns g c =
    let f = (λ (a : ℕ). query.Port a) in
    walk_end (map f c.args.ports.now.keys) c.loop-port.queries.items (map f c.loop-port.port-iterator) c.loop-port.invariant (ap (map f) c.in-None.ensures.steps.0)
