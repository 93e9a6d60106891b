use Rattle.std.proofs.Common.{ℕ, List, ◌∷◌, [], ◌++◌, refl, sym, ◌∙◌}
use mathlib.Core.Bool.{true≢false}
use Rattle.std.specs.Map.Iter.{deref}
use Rattle.std.proofs.lemmas.Map.Iter.{rest_more, rest_all}
use Rattle.fab_names.proofs.OrderLaws.{name_total, name_exact}
use Rattle.fab_lemmas.proofs.Walks.{walked, walk_end}
use Rattle.fab_reach_base.proofs.Scanning.{one_more, is_in_set, all_in_set}
use Rattle.fab_reach_base.specs.Gathering.{ServesBy}
use Rattle.fab_looks.proofs.finding.serves.Goals as goal

pub loop-hosts-preserved : goal.loop-hosts-preserved
loop-hosts-preserved g c =
    let i = c.loop-hosts.invariant in (
      i.0,
      i.1,
      i.2 ++ c.in-Some.hosts.now ∷ [],
      walked i.0 i.2 c.loop-hosts.hosts-iterator c.next.new.self c.in-Some.hosts.now i.3 (rest_more deref c.loop-hosts.hosts-iterator c.next.new.self c.next.result c.in-Some.hosts c.in-Some.is c.next.ensures.steps),
      one_more (λ (k : List ℕ). ¬ ServesBy c.args.mapping.now k c.args.host.now) i.2 c.in-Some.hosts.now i.4 (λ h. true≢false (sym (c.has_host.ensures.1 h) ∙ c.if-has_host.false)),
    )

pub returns-then-has_host : goal.returns-then-has_host
returns-then-has_host g c =
    let i = c.loop-hosts.invariant in (
      λ t. (
        c.in-Some.hosts.now,
        is_in_set name_total name_exact c.args.group.now.host_groups i.0 i.2 c.loop-hosts.hosts-iterator c.next.new.self c.in-Some.hosts.now i.1 i.3 (rest_more deref c.loop-hosts.hosts-iterator c.next.new.self c.next.result c.in-Some.hosts c.in-Some.is c.next.ensures.steps),
        c.has_host.ensures.0 c.if-has_host.true,
      ),
      λ h. refl,
    )

pub returns : goal.returns
returns g c =
    let i = c.loop-hosts.invariant in (
      λ t. absurd (true≢false (sym t)),
      λ h. absurd (all_in_set name_total name_exact (λ (k : List ℕ). ¬ ServesBy c.args.mapping.now k c.args.host.now) c.args.group.now.host_groups i.0 i.2 i.1
          (walk_end i.0 i.2 c.loop-hosts.hosts-iterator i.3 (rest_all deref c.loop-hosts.hosts-iterator c.next.new.self c.next.result c.in-None.is c.next.ensures.steps)) i.4 h.0 h.1 h.2),
    )
