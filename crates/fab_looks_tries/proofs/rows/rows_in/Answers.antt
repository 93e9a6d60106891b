use Rattle.std.proofs.Common.{sym, subst}
use Rattle.fab_desk_machine.specs.fab_desk_commands.Nexts.{next_world}
use Rattle.fab_store_rows.specs.Differences.{IsDifference}
use Rattle.fab_looks_tries.proofs.rows.rows_in.Goals as goal

pub returns-in-Same : goal.returns-in-Same
returns-in-Same g c w suits = subst (λ n. IsDifference w.config (next_world w n).config c.no_rows.result.taken.items c.no_rows.result.added.items) (sym c.in-Same.is) (c.no_rows.ensures w.config)

pub returns-in-Stock : goal.returns-in-Stock
returns-in-Stock g c w suits = subst (λ n. IsDifference w.config (next_world w n).config c.no_rows-in-Stock.result.taken.items c.no_rows-in-Stock.result.added.items) (sym c.in-Stock.is) (c.no_rows-in-Stock.ensures w.config)

pub returns-in-Staged : goal.returns-in-Staged
returns-in-Staged g c w suits = subst (λ n. IsDifference w.config (next_world w n).config c.no_rows-in-Staged.result.taken.items c.no_rows-in-Staged.result.added.items) (sym c.in-Staged.is) (c.no_rows-in-Staged.ensures w.config)

pub returns-in-Turned : goal.returns-in-Turned
returns-in-Turned g c w suits = subst (λ n. IsDifference w.config (next_world w n).config c.no_rows-in-Turned.result.taken.items c.no_rows-in-Turned.result.added.items) (sym c.in-Turned.is) (c.no_rows-in-Turned.ensures w.config)
