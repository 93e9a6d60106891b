use Rattle.std.proofs.Common.{sym, ◌∙◌}
use mathlib.Core.Bool.{true≢false}
use Rattle.std.specs.BTreeSet.{contains}
use Rattle.fab_store_rows.specs.RowOrder.{row_cmp}
use Rattle.fab_store_edits.specs.Rows.{host_head}
use Rattle.fab_store_edits.proofs.heads.may_head_hosts.Goals as goal

pub returns-in-Some-clause-not : goal.returns-in-Some-clause-not
returns-in-Some-clause-not g c e = (
  c.in-Some.group.now,
  sym c.in-Some.ensures,
  λ h. true≢false (sym h ∙ sym (c.contains.ensures ∙ (λ i. contains row_cmp c.args.going.now (host_head c.args.name.now (c.tenant.ensures i)))) ∙ e),
)
