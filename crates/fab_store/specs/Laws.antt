-- What a stop of a store over a connection leaves.
use Rattle.std.specs.Prelude.{◌≡◌, IsTrue}
use Rattle.std.proofs.Common.{sym, ap, ◌∙◌}
use Rattle.sqlite.specs.Effect.{Database}
use Rattle.sqlite.specs.State.{State}
use Rattle.sqlite.specs.Tree.{Trees}
use Rattle.fab_store_tables.specs.Tables.{Tables}
use Rattle.fab_store_sql.specs.States.{IsReady}
use Rattle.fab_store_sql.specs.Trees.{tables_of}

-- trees that may be left have these tables
abbrev pub Leaves : (Trees → Type 0) → Tables → Type 0
Leaves may_leave left = (db : Trees) × may_leave db × (tables_of db ≡ left)

pub settled_tables : (s : State) (left : Tables) → IsTrue s.is_open → IsReady s → ((db : Trees) → IsTrue s.is_open → s.may_leave db → db ≡ s.committed.trees) → Leaves s.may_leave left → left ≡ tables_of s.now.trees
settled_tables s left is_open ready law may =
    sym may.2 ∙ ap tables_of (law may.0 is_open may.1 ∙ ap (λ (d : Database). d.trees) (sym (ready is_open).same))
