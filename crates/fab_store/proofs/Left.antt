-- What a stop leaves of the tables.
use Rattle.std.proofs.Common.{◌⊎◌, inl, inr, subst}
use Rattle.sqlite.specs.State.{State, HasCleanDisk, Survives}
use Rattle.fab_store_tables.specs.Tables.{Tables}
use Rattle.fab_store_sql.specs.Trees.{tables_of}
use Rattle.fab_store.specs.Laws.{Leaves}

-- what may be left was left before, or is made by the call
pub left_after : (old new : State) (Made : Tables → Type 0) → Survives old new (λ trees. Made (tables_of trees)) → HasCleanDisk new → (left : Tables) → Leaves new.may_leave left → Leaves old.may_leave left ⊎ Made left
left_after old new Made s clean left may =
    elim (s.crash clean may.0 may.1) [ inl before ↦ inl (may.0, before, may.2) | inr made ↦ inr (subst Made may.2 made) ]
