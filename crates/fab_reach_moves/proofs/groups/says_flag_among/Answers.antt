use Rattle.std.proofs.Common.{sym, ◌∙◌, subst, ◌≡◌, Bool, Contains, refl}
use mathlib.Core.Bool.{true≢false}
use Rattle.fab_reach_books.specs.declared.row.Row.TheVariants.{DefaultZone}
use Rattle.fab_reach_moves.proofs.RowLoops.{none_next, none_last, item_there}
use Rattle.fab_reach_books.specs.declared.row.Row.{Row}
use Rattle.fab_reach_moves.proofs.groups.says_flag_among.Goals as goal

pub loop-row-preserved : goal.loop-row-preserved
loop-row-preserved c = none_next (λ (r : Row). (p : Bool) × (r ≡ DefaultZone c.args.fabric p)) c.args.rows.now c.loop-row.row-index c.row-item.result c.loop-row-test.true c.row-item.is c.loop-row.invariant (λ h. true≢false (sym (c.says_flag.ensures.1 h) ∙ c.if-says_flag.false))

pub returns-then-says_flag : goal.returns-then-says_flag
returns-then-says_flag c =
    let h = c.says_flag.ensures.0 c.if-says_flag.true in
    let there = item_there c.args.rows.now c.loop-row.row-index c.row-item.result c.loop-row-test.true c.row-item.is in
    ((λ _. (h.0, subst (Contains c.args.rows.now) h.1 there)), λ _. refl)

pub returns : goal.returns
returns c =
    let none = none_last (λ (r : Row). (p : Bool) × (r ≡ DefaultZone c.args.fabric p)) c.args.rows.now c.loop-row.row-index c.loop-row-test.false c.loop-row.invariant in
    ((λ e. absurd (true≢false (sym e))), λ s. absurd (none (DefaultZone c.args.fabric s.0) s.1 (s.0, refl)))
