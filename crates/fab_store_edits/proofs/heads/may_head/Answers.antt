use Rattle.std.proofs.Common.{sym, ◌∙◌}
use mathlib.Core.Bool.{true≢false}
use Rattle.std.specs.BTreeSet.{contains}
use Rattle.fab_store_rows.specs.declared.config_row.GroupRow.TheVariants as group
use Rattle.fab_store_rows.specs.declared.config_row.ConfigRow.TheVariants as config
use Rattle.fab_store_rows.specs.RowOrder.{row_cmp}
use Rattle.fab_store_edits.proofs.heads.may_head.Goals as goal

pub returns-in-Some-clause-not : goal.returns-in-Some-clause-not
returns-in-Some-clause-not g c e = (
  c.in-Some.group.now,
  sym c.in-Some.ensures,
  λ h. true≢false (sym h ∙ sym (c.contains.ensures ∙ (λ i. contains row_cmp c.args.going.now (config.Group (group.Storage (record { name = c.args.name.now; tenant = c.tenant.ensures i; array = c.array.ensures i; exposed = c.is_exposed.ensures i }))))) ∙ e),
)
