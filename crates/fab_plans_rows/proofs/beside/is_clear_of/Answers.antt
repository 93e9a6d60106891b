use Rattle.std.proofs.Common.{sym, ◌∙◌}
use mathlib.Core.Bool.{true≢false}
use Rattle.fab_plans_rows.proofs.Clearing.{by_units, by_hosts, not_true}
use Rattle.fab_plans_rows.proofs.beside.is_clear_of.Goals as goal

pub returns-then-not-are_at_odds : goal.returns-then-not-are_at_odds
returns-then-not-are_at_odds g c is = by_units c.args.mapping.now c.args.group.now c.args.other.now (λ odds. true≢false (sym (c.are_at_odds.ensures.1 odds) ∙ c.if-not-are_at_odds.true))

pub returns : goal.returns
returns g c is = by_hosts c.args.mapping.now c.args.group.now c.args.other.now (c.serve_one.ensures (not_true c.serve_one.result is))
