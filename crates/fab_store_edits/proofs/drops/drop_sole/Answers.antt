use Rattle.std.proofs.Common.{sym}
use mathlib.Core.Bool.{true≢false}
use Rattle.fab_store_edits.proofs.Holding.{setting_held}
use Rattle.fab_store_edits.proofs.drops.drop_sole.Goals as goal

pub returns-in-Group-clause-held : goal.returns-in-Group-clause-held
returns-in-Group-clause-held g c = rw c.in-Group.is c.drop_group.ensures.held

pub returns-in_default : goal.returns-in_default
returns-in_default g c = record {
  taken = λ e. absurd (true≢false (sym e));
  held = λ e. setting_held c.args.config.now c.args.row.now c.requires.sole c.in_default.not-Group;
  tidy = λ t. t;
}
