use Rattle.std.proofs.Common.{ℕ, OnOk, sym, ◌∙◌, subst}
use Rattle.fab_reach_base.specs.Adding.{Adds}
use Rattle.fab_reach_base.specs.Orders.{Has}
use Rattle.fab_reach_base.specs.Reach.{PathOf}
use Rattle.fab_reach_base.specs.Views.{seen}
use Rattle.fab_reach_base.proofs.Adding.{adds_none}
use Rattle.fab_reach_base.proofs.Gathering.{no_port, none_from, no_host, from_pair, name_of, is_own}
use Rattle.fab_reach_books.proofs.sight.add_known_pair.Goals as goal

pub returns-in_default : goal.returns-in_default
returns-in_default g c =
    let w = seen c.args.view.now in
    adds_none (PathOf w c.args.p.now c.args.q.now) (Has c.args.paths.now) (λ x h. none_from w c.args.p.now (sym c.in_default.ensures.port) x (from_pair w c.args.p.now c.args.q.now x h))

pub returns-in_default-port : goal.returns-in_default-port
returns-in_default-port g c =
    let w = seen c.args.view.now in
    adds_none (PathOf w c.args.p.now c.args.q.now) (Has c.args.paths.now) (no_port w c.args.p.now c.args.q.now (sym c.in_default-port.ensures.port))

pub returns-in_default-host_of : goal.returns-in_default-host_of
returns-in_default-host_of g c =
    let w = seen c.args.view.now in
    adds_none (PathOf w c.args.p.now c.args.q.now) (Has c.args.paths.now) (λ x h. no_host w c.args.p.now c.in-Some.from (sym c.in-Some.ensures.port) c.in_default-host_of.ensures x (from_pair w c.args.p.now c.args.q.now x h))

pub add_pair_of-requires-clause-groups : goal.add_pair_of-requires-clause-groups
add_pair_of-requires-clause-groups g c = λ n. (λ e. (c.requires _ n).0 (sym (c.of.ensures n) ∙ e), λ s. c.of.ensures n ∙ (c.requires _ n).1 s)

pub add_pair_of-requires-clause-p : goal.add_pair_of-requires-clause-p
add_pair_of-requires-clause-p g c = is_own (seen c.args.view.now) c.args.p.now c.in-Some.from (sym c.in-Some.ensures.port)

pub add_pair_of-requires-clause-q : goal.add_pair_of-requires-clause-q
add_pair_of-requires-clause-q g c = is_own (seen c.args.view.now) c.args.q.now c.in-Some-port.to (sym c.in-Some-port.ensures.port)

pub returns : goal.returns
returns g c =
    let w = seen c.args.view.now in
    subst (λ (a : ℕ). OnOk c.add_pair_of.result (Adds (PathOf w a c.args.q.now) (Has c.args.paths.now) (Has c.add_pair_of.new.paths))) (name_of w c.args.p.now c.in-Some.from (sym c.in-Some.ensures.port))
    (subst (λ (b : ℕ). OnOk c.add_pair_of.result (Adds (PathOf w c.in-Some.from.name b) (Has c.args.paths.now) (Has c.add_pair_of.new.paths))) (name_of w c.args.q.now c.in-Some-port.to (sym c.in-Some-port.ensures.port)) c.add_pair_of.ensures)
