-- Who uses what: the uses that are known, and that rows of a configuration tell.
use Rattle.std.specs.Prelude.{◌≡◌, ◌↔◌, ◌⊎◌, List, Contains}
use Rattle.fab_reach_base.specs.fab_names.Orders.{name_cmp}
use Rattle.fab_reach_base.specs.fab_zoning.Edits.{IsIn}
use Rattle.fab_reach_base.specs.Records.{ConfigRows}
use Rattle.fab_store_rows.specs.declared.config_row.ConfigRow.{ConfigRow}
use Rattle.fab_store_rows.specs.Standing.{Stands}
use Rattle.fab_store_drafts.specs.Uses.{Use, use_row}
use Rattle.fab_store_drafts.specs.UsedKeys.{used_cmp}
use Rattle.fab_store_drafts.specs.declared.users.Users.{Users}

-- the use is known
abbrev pub IsUse : {A : Type 0} → Users A → Use → Type 0
IsUse u x = IsIn used_cmp name_cmp u.users x

-- just the uses whose rows stand in the configuration are known
abbrev pub AreUsers : {A : Type 0} → ConfigRows → Users A → Type 0
AreUsers c u = (x : Use) → IsUse u x ↔ Stands c (use_row x.0 x.1)

-- the use that the row tells, if it tells one, is known too
abbrev pub PutsUse : {A : Type 0} → ConfigRow → Users A → Users A → Type 0
PutsUse row old new = (x : Use) → IsUse new x ↔ IsUse old x ⊎ (use_row x.0 x.1 ≡ row)

-- the use that the row tells, if it tells one, is known no more
abbrev pub TakesUse : {A : Type 0} → ConfigRow → Users A → Users A → Type 0
TakesUse row old new = (x : Use) → IsUse new x ↔ IsUse old x × ¬ (use_row x.0 x.1 ≡ row)

-- the uses that the rows tell are known too
abbrev pub PutsUses : {A : Type 0} → List ConfigRow → Users A → Users A → Type 0
PutsUses rows old new = (x : Use) → IsUse new x ↔ IsUse old x ⊎ Contains rows (use_row x.0 x.1)

-- the uses that the rows tell are known no more
abbrev pub TakesUses : {A : Type 0} → List ConfigRow → Users A → Users A → Type 0
TakesUses rows old new = (x : Use) → IsUse new x ↔ IsUse old x × ¬ Contains rows (use_row x.0 x.1)
