-- When rows may lead from a configuration, and how one row at a time does.
use Rattle.std.specs.Prelude.{◌≡◌, ◌⊎◌, List, Contains, Bool, true}
use Rattle.std.specs.List.Sorted.{IsStrictlySortedBy}
use Rattle.fab_reach_base.specs.Records.{ConfigRows}
use Rattle.fab_store_rows.specs.declared.config_row.ConfigRow.{ConfigRow}
use Rattle.fab_store_rows.specs.RowOrder.{row_order}
use Rattle.fab_store_rows.specs.Standing.{Stands}
use Rattle.fab_store_edits.specs.Inner.Edits.{is_sole, is_head, IsRefused, IsHeld}

-- both lists are in order, each row once; those that go stand, and those that come do not
pub record CanLead (c : ConfigRows) (go come : List ConfigRow) : Type 0 where
  pub go_in_order : IsStrictlySortedBy row_order go
  pub come_in_order : IsStrictlySortedBy row_order come
  pub stand : (r : ConfigRow) → Contains go r → Stands c r
  pub fresh : (r : ConfigRow) → Contains come r → ¬ Stands c r

-- the row was taken out, if it is of this kind
pub record TakesIf (sole : Bool) (r : ConfigRow) (old new : ConfigRows) : Type 0 where
  pub gone : is_sole r ≡ sole → ¬ Stands new r
  pub kept : (x : ConfigRow) → Stands new x → Stands old x
  pub left : (x : ConfigRow) → Stands old x → Stands new x ⊎ ((x ≡ r) × (is_sole r ≡ sole))

-- the row was put in, if it is of this kind
pub record PutsIf (Goes : ConfigRow → Type 0) (head : Bool) (r : ConfigRow) (old new : ConfigRows) : Type 0 where
  pub there : is_head r ≡ head → Stands new r
  pub kept : (x : ConfigRow) → Stands new x → Stands old x ⊎ ((x ≡ r) × (is_head r ≡ head))
  pub left : (x : ConfigRow) → Stands old x → Stands new x ⊎ Goes x

-- it is of this kind, and refused
pub record RefusesIf (Goes : ConfigRow → Type 0) (head : Bool) (r : ConfigRow) (old : ConfigRows) : Type 0 where
  pub is : is_head r ≡ head
  pub refused : IsRefused Goes old r

-- it is a sole row that stands, and is held
pub record HoldsIf (r : ConfigRow) (old : ConfigRows) : Type 0 where
  pub is : is_sole r ≡ true
  pub stands : Stands old r
  pub held : IsHeld old r
