use Rattle.std.proofs.Common.{rules, arith, ◌≡◌, ◌<◌, ◌+◌, ◌++◌, ℕ, length, subst}
use Rattle.std.proofs.lemmas.List.{length-append}
use Rattle.fab_wire_base.specs.Limits.{most_head}
use Rattle.fab_wire_base.specs.Whole.{Lacks}
use Rattle.fab_wire_base.proofs.WholeLemmas.{full-whole, never-whole, none-empty, empty-may, head-lacks}
use Rattle.fab_wire_base.proofs.whole.lacks_parted.Goals as goal

pub returns-else-got-lt-MOST_HEAD-clause-whole : goal.returns-else-got-lt-MOST_HEAD-clause-whole
returns-else-got-lt-MOST_HEAD-clause-whole g c =
    full-whole _ c.args.got.now c.args.behind.now (omega (arith, c.requires.short, c.if-got-lt-MOST_HEAD.false)) c.in-Partial.ensures.0

pub returns-in-Never-clause-whole : goal.returns-in-Never-clause-whole
returns-in-Never-clause-whole g c =
    let some : 0 < length c.args.got.now = search rules in
    never-whole _ c.args.got.now c.args.behind.now some c.in-Never.ensures

pub returns-then-is_empty-clause-lacks : goal.returns-then-is_empty-clause-lacks
returns-then-is_empty-clause-lacks g c =
    let none : length c.args.got.now ≡ 0 = search rules in
    let short : length c.args.got.now < most_head = omega (arith, none) in
    let one : length c.args.got.now + 1 ≡ 1 = omega (arith, none) in
    subst (λ (n : ℕ). Lacks (g.C.Callers.knows_token c.args.callers.now) (c.args.got.now ++ c.args.behind.now) n) one
    (head-lacks _ c.args.got.now c.args.behind.now short (c.requires.full short) (none-empty c.args.got.now none) (empty-may c.args.got.now none))

pub parse_so_far-requires : goal.parse_so_far-requires
parse_so_far-requires g c = c.requires.lines

pub lacks_behind-requires : goal.lacks_behind-requires
lacks_behind-requires g c = record {
  within = c.in-Whole.ensures.1;
  head = c.in-Whole.ensures.0;
  short = c.requires.short;
}

pub returns-in-Whole : goal.returns-in-Whole
returns-in-Whole g c = c.lacks_behind.ensures

pub overflow_add-result : goal.overflow_add-result
overflow_add-result g c = omega arith

pub returns-then-got-lt-MOST_HEAD-clause-lacks : goal.returns-then-got-lt-MOST_HEAD-clause-lacks
returns-then-got-lt-MOST_HEAD-clause-lacks g c =
    let short : length c.args.got.now < most_head = c.if-got-lt-MOST_HEAD.true in
    head-lacks _ c.args.got.now c.args.behind.now short (c.requires.full short) c.in-Partial.ensures.0 c.in-Partial.ensures.1

pub returns-then-got-lt-MOST_HEAD-clause-bound : goal.returns-then-got-lt-MOST_HEAD-clause-bound
returns-then-got-lt-MOST_HEAD-clause-bound g c =
    let short : length c.args.got.now < most_head = c.if-got-lt-MOST_HEAD.true in
    let none : length c.args.behind.now ≡ 0 = c.requires.full short in
    let all = length-append c.args.got.now c.args.behind.now in
    (omega arith, omega arith)

pub returns-then-is_empty-clause-bound : goal.returns-then-is_empty-clause-bound
returns-then-is_empty-clause-bound g c =
    let none : length c.args.got.now ≡ 0 = search rules in
    let short : length c.args.got.now < most_head = omega (arith, none) in
    let empty : length c.args.behind.now ≡ 0 = c.requires.full short in
    (omega (arith, none, empty, length-append c.args.got.now c.args.behind.now), omega arith)
