use Rattle.std.proofs.Common.{◌≡◌, true, ◌∷◌, [], ◌++◌, sym, ◌∙◌}
use Rattle.std.specs.FinSet as set
use mathlib.Core.Bool.{true≢false}
use Rattle.std.specs.Map.Iter.{deref}
use Rattle.std.proofs.lemmas.Map.Iter.{rest_more, rest_all}
use Rattle.fab_lemmas.proofs.Walks.{walked, walk_end}
use Rattle.fab_plans_rows.proofs.Clearing.{all_none, all_more, all_in}
use Rattle.fab_plans_rows.proofs.beside.have_host.Goals as goal

pub loop-host-init : goal.loop-host-init
loop-host-init g c = (c.hosts-host-items.result, c.hosts-host-items.ensures.hosts, [], sym c.into_iter-host-iterator.ensures.into_iter_gives, all_none (λ n. ¬ (set.contains c.args.other.now.hosts n ≡ true)))

pub loop-host-preserved : goal.loop-host-preserved
loop-host-preserved g c =
    let i = c.loop-host.invariant in (
      i.0,
      i.1,
      i.2 ++ c.in-Some.host.now ∷ [],
      walked i.0 i.2 c.loop-host.host-iterator c.next.new.self c.in-Some.host.now i.3 (rest_more deref c.loop-host.host-iterator c.next.new.self c.next.result c.in-Some.host c.in-Some.is c.next.ensures.steps),
      all_more (λ n. ¬ (set.contains c.args.other.now.hosts n ≡ true)) i.2 c.in-Some.host.now i.4 (λ there. true≢false (sym there ∙ sym c.has_host.ensures ∙ c.if-has_host.false)),
    )

pub returns : goal.returns
returns g c found_none =
    let i = c.loop-host.invariant in
    all_in (λ n. ¬ (set.contains c.args.other.now.hosts n ≡ true)) c.args.one.now.hosts i.2 i.0 (walk_end i.0 i.2 c.loop-host.host-iterator i.3 (rest_all deref c.loop-host.host-iterator c.next.new.self c.next.result c.in-None.is c.next.ensures.steps)) i.1 i.4
