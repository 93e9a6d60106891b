use Rattle.std.proofs.Common.{sym, ◌∙◌}
use mathlib.Core.Bool.{true≢false}
use Rattle.std.proofs.lemmas.Map.Made.{is_member-Decides}
use Rattle.fab_reach_base.proofs.fab_lemmas.SeenSets.{tie_decides}
use Rattle.fab_store_rows.specs.OrderOfRows.{row_total, row_exact}
use Rattle.fab_store_edits.proofs.Outcomes.{can_of}
use Rattle.fab_store_edits.proofs.leading.lead.Goals as goal

pub edit-requires-clause-only : goal.edit-requires-clause-only
edit-requires-clause-only g c r h = (is_member-Decides (tie_decides row_total row_exact) c.args.go.now r).0 (sym (c.in_ok-going.ensures r) ∙ h)

pub edit-requires-clause-every : goal.edit-requires-clause-every
edit-requires-clause-every g c r h = c.in_ok-going.ensures r ∙ (is_member-Decides (tie_decides row_total row_exact) c.args.go.now r).1 h

pub returns-then-not-can_lead-clause-none : goal.returns-then-not-can_lead-clause-none
returns-then-not-can_lead-clause-none g c e b x = true≢false (sym (c.can_lead.ensures.1 (can_of c.args.config.now b c.args.go.now c.args.come.now x)) ∙ c.if-not-can_lead.true)
