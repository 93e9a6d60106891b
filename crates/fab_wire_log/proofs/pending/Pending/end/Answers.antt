use Rattle.std.proofs.Common.{rules, ◌≡◌, ℕ, inl, subst, ◌<◌, ◌≤◌, ◌-◌, arith, length, slice_set}
use Rattle.fab_wire_log.specs.Pending.{EndsAt}
use Rattle.fab_wire_log.proofs.PendingLemmas.{are_marked_refl, are_marked_at, ends_at}
use Rattle.fab_wire_log.proofs.pending.Pending.end.Goals as goal

pub returns-in_default-clause-marked : goal.returns-in_default-clause-marked
returns-in_default-clause-marked g c = are_marked_refl _ _ c.args.self.now.lines.items

pub returns-in-Some-get_mut-clause-marked : goal.returns-in-Some-get_mut-clause-marked
returns-in-Some-get_mut-clause-marked g c =
    are_marked_at _ _ c.args.self.now.lines.items c.in-Ok.place c.in-Some-get_mut.line.now c.marked.result c.in-Some-get_mut.ensures.value c.marked.ensures.marked

pub returns-in_default-get_mut-clause-marked : goal.returns-in_default-get_mut-clause-marked
returns-in_default-get_mut-clause-marked g c = are_marked_refl _ _ c.args.self.now.lines.items

pub returns-in-Some-get_mut-clause-ended : goal.returns-in-Some-get_mut-clause-ended
returns-in-Some-get_mut-clause-ended g c =
    let tells = g.C.Ticks.tells c.args.watch.now.clock.now in let fails = g.C.Ticks.fails c.args.watch.now.clock.now in
    let lines = c.args.self.now.lines.items in let place = c.in-Ok.place in let new = c.marked.result in
    let behind : c.args.self.now.first ≤ c.args.ended.number = omega arith in
    let is : place ≡ c.args.ended.number - c.args.self.now.first = omega arith in
    let there : place < length lines = search rules in
    inl (
      behind,
      subst (λ (i : ℕ). EndsAt tells fails i c.args.ended.is_taken lines (slice_set lines place new)) is
          (ends_at tells fails lines place c.args.ended.is_taken c.in-Some-get_mut.line.now new there c.in-Some-get_mut.ensures.value c.marked.ensures.ended),
    )
