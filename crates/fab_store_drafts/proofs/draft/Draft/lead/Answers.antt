use Rattle.std.proofs.Common.{subst}
use Rattle.fab_reach_base.specs.Records.{ConfigRows}
use Rattle.fab_store_rows.specs.Differences.{IsDifference}
use Rattle.fab_store_drafts.proofs.ManyUses.{users_led}
use Rattle.fab_store_drafts.proofs.draft.Draft.lead.Goals as goal

pub returns-then-not-branch-clause-none : goal.returns-then-not-branch-clause-none
returns-then-not-branch-clause-none g c e = subst (λ (old : ConfigRows). (b : ConfigRows) → ¬ IsDifference b old c.args.come.now c.args.go.now) c.self.view_is (c.in_ok-lead.ensures.none c.if-not-branch.true)

pub invariant_of-self-2 : goal.invariant_of-self-2
invariant_of-self-2 g c = (
  c.lead.ensures.tidy c.self.invariant.0,
  λ known. users_led c.self.inside.config c.lead.new.config c.args.go.now c.args.come.now c.self.inside.users c.take_rows.new.self c.put_rows.new.self (c.in_ok-lead.ensures.led c.if-not-branch.false) (c.self.invariant.1 known) c.take_rows.ensures c.in_ok-put_rows.ensures,
)
