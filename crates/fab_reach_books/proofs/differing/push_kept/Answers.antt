use Rattle.std.proofs.Common.{◌≡◌, Contains, List, sym, subst}
use Rattle.fab_reach_base.specs.Adding.{Adds}
use Rattle.fab_reach_books.specs.declared.row.Row.{Row}
use Rattle.fab_reach_books.proofs.RowsTold.{one_kept, none_kept, row_pushed}
use Rattle.fab_reach_books.proofs.differing.push_kept.Goals as goal

pub returns-in_ok-push : goal.returns-in_ok-push
returns-in_ok-push g c = one_kept c.args.row.now c.in-Some.kept (Contains c.args.rows.now.items) (Contains c.push.new.self.items) (sym c.in-Some.ensures)
    (subst (λ (ys : List Row). Adds (λ r. r ≡ c.in-Some.kept) (Contains c.args.rows.now.items) (Contains ys)) (sym c.in_ok-push.ensures.items) (row_pushed c.args.rows.now.items c.in-Some.kept))

pub returns-in_default : goal.returns-in_default
returns-in_default g c = none_kept c.args.row.now (Contains c.args.rows.now.items) (sym c.in_default.ensures)
