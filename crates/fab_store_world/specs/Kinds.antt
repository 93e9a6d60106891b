-- The kinds of rows of approvals and of changes to undo: what a row says, and the row that says it.
use Rattle.std.proofs.Common.{ℕ, ◌≡◌, List, Option, None, Some, refl, ap}
use Rattle.fab_world.specs.fab_store_rows.declared.config_row.ConfigRow.{ConfigRow}
use Rattle.fab_world.specs.fab_store_rows.declared.record_row.ApprovalRow.{ApprovalRow}
use Rattle.fab_world.specs.fab_store_rows.declared.record_row.UndoRow.{UndoRow}
use Rattle.fab_world.specs.fab_store_rows.declared.record_row.Sign.{Sign}
use Rattle.fab_world.specs.fab_store_rows.declared.record_row.Sign.TheVariants.{Taken, Added}

-- the plan and the caller of an approval, and its revision
abbrev pub approval_said : ApprovalRow → Option ((List ℕ × List ℕ) × ℕ)
approval_said r = Some ((r.plan, r.caller), r.revision)

abbrev pub approval_row : (List ℕ × List ℕ) × ℕ → ApprovalRow
approval_row e = record { plan = e.0.0; caller = e.0.1; revision = e.1 }

-- the row, where the sign is this one
abbrev pub under : Sign → Sign → List ℕ × ConfigRow → Option (List ℕ × ConfigRow)
under Taken Taken e = Some e
under Added Added e = Some e
under _ _ e = None

-- the plan whose activation took a row away, and the row
abbrev pub taken_said : UndoRow → Option (List ℕ × ConfigRow)
taken_said r = under r.sign Taken (r.plan, r.row)

abbrev pub taken_row : List ℕ × ConfigRow → UndoRow
taken_row e = record { plan = e.0; sign = Taken; row = e.1 }

-- the plan whose activation added a row, and the row
abbrev pub added_said : UndoRow → Option (List ℕ × ConfigRow)
added_said r = under r.sign Added (r.plan, r.row)

abbrev pub added_row : List ℕ × ConfigRow → UndoRow
added_row e = record { plan = e.0; sign = Added; row = e.1 }

-- ---- what a row says is said by one row: laws of the trait of kinds

-- the entry that is said is the one
said_is : {E : Type 0} (d e : E) → ◌≡◌ {A = Option E} (Some d) (Some e) → d ≡ e
said_is d e is = cc

pub approval_only : (r : ApprovalRow) (e : (List ℕ × List ℕ) × ℕ) → approval_said r ≡ Some e → r ≡ approval_row e
approval_only r e is = ap approval_row (said_is ((r.plan, r.caller), r.revision) e is)

by_sign : (s want : Sign) (d e : List ℕ × ConfigRow) → under s want d ≡ Some e → (s ≡ want) × (d ≡ e)
by_sign Taken Taken d e is = (refl, said_is d e is)
by_sign Added Added d e is = (refl, said_is d e is)
by_sign Taken Added d e is = let no : ◌≡◌ {A = Option (List ℕ × ConfigRow)} None (Some e) = is in absurd cc
by_sign Added Taken d e is = let no : ◌≡◌ {A = Option (List ℕ × ConfigRow)} None (Some e) = is in absurd cc

pub taken_only : (r : UndoRow) (e : List ℕ × ConfigRow) → taken_said r ≡ Some e → r ≡ taken_row e
taken_only r e is = let own = by_sign r.sign Taken (r.plan, r.row) e is in λ i. record { plan = (own.1 i).0; sign = own.0 i; row = (own.1 i).1 }

pub added_only : (r : UndoRow) (e : List ℕ × ConfigRow) → added_said r ≡ Some e → r ≡ added_row e
added_only r e is = let own = by_sign r.sign Added (r.plan, r.row) e is in λ i. record { plan = (own.1 i).0; sign = own.0 i; row = (own.1 i).1 }
