use Rattle.std.proofs.Common.{◌∙◌, subst}
use Rattle.fab_store_drafts.specs.There.{IsClear}
use Rattle.fab_plans_rows.proofs.Clearing.{same_some}
use Rattle.fab_plans_rows.proofs.beside.is_clear_at.Goals as goal

pub returns : goal.returns
returns g c is o at exposed = subst (IsClear c.args.mapping.now) (same_some c.in-Some.group.now o (c.in-Some.ensures ∙ at)) (c.is_clear.ensures is)
