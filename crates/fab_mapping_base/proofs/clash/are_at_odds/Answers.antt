use Rattle.std.proofs.Common.{sym}
use mathlib.Core.Bool.{true≢false}
use Rattle.fab_mapping_base.proofs.clash.are_at_odds.Goals as goal

pub returns-in-None-unlike_unit : goal.returns-in-None-unlike_unit
returns-in-None-unlike_unit g c = (λ e. absurd (true≢false (sym e)), λ odds. absurd (c.in-None-unlike_unit.ensures odds.unit.0 (odds.unit.1, odds.unit.2, (odds.unit.3, odds.unit.4, odds.unit.5))))
