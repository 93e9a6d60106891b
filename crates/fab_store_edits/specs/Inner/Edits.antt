-- A configuration edited by rows: what one row put in or taken out does, and what refuses it.
use Rattle.std.specs.Prelude.{◌≡◌, ◌⊎◌, List, Contains, Bool, true, false}
use Rattle.fab_store_rows.specs.declared.config_row.GroupRow.{GroupRow}
use Rattle.fab_store_rows.specs.declared.config_row.ConfigRow.{ConfigRow}
use Rattle.fab_store_rows.specs.declared.config_row.ConfigRow.TheVariants as config
use Rattle.fab_store_rows.specs.Standing.{Stands}
use Rattle.fab_reach_base.specs.Records.{ConfigRows}

-- no row
abbrev pub NoRow : ConfigRow → Type 0
NoRow r = ⊥

-- this row
abbrev pub Is : ConfigRow → ConfigRow → Type 0
Is q x = x ≡ q

-- whether there is at most one row of its key: a setting, or the head of a group
abbrev pub is_sole : ConfigRow → Bool
is_sole (config.Setting r) = true
is_sole (config.Zoning r) = false
is_sole (config.Active r) = false
is_sole (config.Group r) = true
is_sole (config.Part r) = false

-- whether it is the head of a group
abbrev pub is_head : ConfigRow → Bool
is_head (config.Setting r) = false
is_head (config.Zoning r) = false
is_head (config.Active r) = false
is_head (config.Group r) = true
is_head (config.Part r) = false

-- ---- one row

-- the row was put in: it stands, nothing else came, and nothing went but rows that go
pub record IsPut (Goes : ConfigRow → Type 0) (r : ConfigRow) (old new : ConfigRows) : Type 0 where
  pub there : Stands new r
  pub kept : (x : ConfigRow) → Stands new x → Stands old x ⊎ (x ≡ r)
  pub left : (x : ConfigRow) → Stands old x → Stands new x ⊎ Goes x

-- the row was taken out: it does not stand, nothing came, and nothing else went
pub record IsTaken (r : ConfigRow) (old new : ConfigRows) : Type 0 where
  pub gone : ¬ Stands new r
  pub kept : (x : ConfigRow) → Stands new x → Stands old x
  pub left : (x : ConfigRow) → Stands old x → Stands new x ⊎ (x ≡ r)

-- ---- what refuses a row

-- both stand in no configuration
abbrev pub AreApart : ConfigRow → ConfigRow → Type 0
AreApart q r = (b : ConfigRows) → Stands b q → ¬ Stands b r

-- a row stands there that stands nowhere beside this one, and does not go, or is no sole one
pub record HasRival (Goes : ConfigRow → Type 0) (c : ConfigRows) (r : ConfigRow) : Type 0 where
  pub rival : ConfigRow
  pub stands : Stands c rival
  pub stays : Goes rival → is_sole rival ≡ false
  pub apart : AreApart rival r

-- it is no head, and where it stands a head stands that does not stand there
pub record IsOrphan (c : ConfigRows) (r : ConfigRow) : Type 0 where
  pub part : is_head r ≡ false
  pub head : (b : ConfigRows) → Stands b r → (q : GroupRow) × Stands b (config.Group q) × ¬ Stands c (config.Group q)

abbrev pub IsRefused : (ConfigRow → Type 0) → ConfigRows → ConfigRow → Type 0
IsRefused Goes c r = HasRival Goes c r ⊎ IsOrphan c r

-- the row, or one that stands nowhere beside it
abbrev pub IsOrApart : ConfigRow → ConfigRow → Type 0
IsOrApart r q = (q ≡ r) ⊎ AreApart q r

-- a configuration in which what stands here stands, sole rows aside, has this row or one that stands
-- nowhere beside it
abbrev pub IsHeld : ConfigRows → ConfigRow → Type 0
IsHeld c r = (b : ConfigRows) → ((x : ConfigRow) → Stands c x → is_sole x ≡ false → Stands b x) → ¬ ((q : ConfigRow) → Stands b q → ¬ IsOrApart r q)

-- ---- many rows

-- rows with P were taken out
pub record AreTaken (P : ConfigRow → Type 0) (old new : ConfigRows) : Type 0 where
  pub gone : (x : ConfigRow) → P x → ¬ Stands new x
  pub kept : (x : ConfigRow) → Stands new x → Stands old x
  pub left : (x : ConfigRow) → Stands old x → Stands new x ⊎ P x

-- rows with P were put in
pub record ArePut (Goes P : ConfigRow → Type 0) (old new : ConfigRows) : Type 0 where
  pub there : (x : ConfigRow) → P x → Stands new x
  pub kept : (x : ConfigRow) → Stands new x → Stands old x ⊎ P x
  pub left : (x : ConfigRow) → Stands old x → Stands new x ⊎ Goes x

-- a row of the list with this answer to the test
abbrev pub Of : (ConfigRow → Bool) → Bool → List ConfigRow → ConfigRow → Type 0
Of test is rows x = Contains rows x × (test x ≡ is)

-- some rows were put in, and one is refused
pub record StopsAt (Goes : ConfigRow → Type 0) (heads : Bool) (rows : List ConfigRow) (old : ConfigRows) : Type 0 where
  pub config : ConfigRows
  pub kept : (x : ConfigRow) → Stands config x → Stands old x ⊎ Of is_head heads rows x
  pub left : (x : ConfigRow) → Stands old x → Stands config x ⊎ Goes x
  pub row : ConfigRow
  pub is : Of is_head heads rows row
  pub refused : IsRefused Goes config row

-- some sole rows were taken out, and one is held
pub record HoldsOne (rows : List ConfigRow) (old : ConfigRows) : Type 0 where
  pub config : ConfigRows
  pub kept : (x : ConfigRow) → Stands config x → Stands old x
  pub left : (x : ConfigRow) → Stands old x → Stands config x ⊎ Contains rows x
  pub row : ConfigRow
  pub is : Of is_sole true rows row
  pub stands : Stands config row
  pub held : IsHeld config row
