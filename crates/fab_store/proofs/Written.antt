-- Worlds whose rows are written in lines.
use Rattle.std.proofs.Common.{ℕ, zero, suc, ◌≡◌, ◌<◌, ◌⊎◌, inl, inr, List, [], ◌∷◌, slice_get, Some, Contains, refl, sym, ap, subst}
use Rattle.std.proofs.lemmas.Option.{slice_get_within, get_or_from_slice_get}
use Rattle.fab_store_world.specs.Standing.{HaveRows}
use Rattle.fab_store_columns.specs.MetaLines.{MetaColumns, ShowsMeta}
use Rattle.fab_store_columns.specs.declared.meta_lines.MetaRow.{MetaRow}
use Rattle.fab_store_columns.specs.declared.meta_lines.MetaRow.TheVariants as meta
use Rattle.fab_store_load.specs.declared.fault.Table.{Table}
use Rattle.fab_store_load.specs.declared.fault.Table.TheVariants as table
use Rattle.fab_store_base.proofs.Columns.{one_meta}
use Rattle.fab_store_base.proofs.Distinct.{in_map, map_in}
use Rattle.fab_store_base.specs.Opened.{tables_of, HasLines, HasNoWorld}
use Rattle.fab_store_base.specs.Standing.{StandsRow}
use Rattle.fab_store_tables.specs.Listing.{AreDistinct}
use Rattle.fab_store_tables.specs.Rows.{AnyRow, count, port, address, holder, volume, config_row, plan, approval, undo, path, ShowsRow}
use Rattle.fab_store_tables.specs.declared.lines.TableLines.{TableLines}
use Rattle.fab_store_rows.specs.declared.config_row.ConfigRow.TheVariants as config
use Rattle.fab_store_rows.specs.declared.table_rows.CountRow.TheVariants.{Schema, Revision}
use Rattle.fab_store_rows.specs.declared.table_rows.TheConstants.{SCHEMA}
use Rattle.fab_store_base.specs.Calls.{IsOtherSchema, OpensNot}
use Rattle.fab_store_base.specs.Worlds.{IsMetaRow, IsWritten}
use Rattle.fab_store_load.specs.declared.fault.OpenFault.{OpenFault}
use Rattle.fab_store_load.specs.declared.fault.OpenFault.TheVariants.{Damaged, NewerSchema, OldSchema}
use Rattle.fab_store_tables.specs.Columns.{meta_row}
use Rattle.fab_store_tables.specs.Versions.{TellsSchema, TellsVersion}
use Rattle.fab_store_tables.specs.declared.stored_line.TableLine.{TableLine}
use Rattle.fab_store_tables.specs.declared.stored_line.TableLine.TheVariants as line
use Rattle.fab_world.specs.Worlds.{WorldRows}
use Rattle.fab_store.specs.Loading.{HaveNamesOnce, TellOther}
use Rattle.fab_store.proofs.Names.{lines_once}

module _ (A : Type 0) (w : WorldRows) where
  module _ (has : HasLines A w) where
    setting_shown : (m : MetaRow) → IsMetaRow w m → (l : MetaColumns) × ShowsMeta l m
    setting_shown (meta.Schema n) stands = let f = has.rows (count (Schema n)) stands in (f.1.columns, f.1.shows)
    setting_shown (meta.Revision n) stands = let f = has.rows (count (Revision n)) stands in (f.1.columns, f.1.shows)
    setting_shown (meta.Setting r) stands = let f = has.rows (config_row (config.Setting r)) stands in (f.1.columns, f.1.shows)

    -- a world that has lines is written in them
    pub written : IsWritten w
    written table.Meta = setting_shown
    written table.Ports = λ r stands. let f = has.rows (port r) stands in (f.1.columns, f.1.shows)
    written table.Addresses = λ r stands. let f = has.rows (address r) stands in (f.1.columns, f.1.shows)
    written table.Holders = λ r stands. let f = has.rows (holder r) stands in (f.1.columns, f.1.shows)
    written table.Volumes = λ r stands. let f = has.rows (volume r) stands in (f.1.columns, f.1.shows)
    written table.Zoning = λ r stands. let f = has.rows (config_row (config.Zoning r)) stands in (f.1.columns, f.1.shows)
    written table.Active = λ r stands. let f = has.rows (config_row (config.Active r)) stands in (f.1.columns, f.1.shows)
    written table.Groups = λ r stands. let f = has.rows (config_row (config.Group r)) stands in (f.1.columns, f.1.shows)
    written table.GroupParts = λ r stands. let f = has.rows (config_row (config.Part r)) stands in (f.1.columns, f.1.shows)
    written table.Plans = λ r stands. let f = has.rows (plan r) stands in (f.1.columns, f.1.shows)
    written table.Approvals = λ r stands. let f = has.rows (approval r) stands in (f.1.columns, f.1.shows)
    written table.Undo = λ r stands. let f = has.rows (undo r) stands in (f.1.columns, f.1.shows)
    written table.Paths = λ r stands. let f = has.rows (path r) stands in (f.1.columns, f.1.shows)

  module _ (is : IsWritten w) where
    row_lined : (x : AnyRow) → StandsRow w x → (l : TableLine A) × ShowsRow x l
    row_lined (count (Schema n)) stands = let f = is table.Meta (meta.Schema n) stands in (line.Meta f.0, record { columns = f.0; shows = f.1; is = refl })
    row_lined (count (Revision n)) stands = let f = is table.Meta (meta.Revision n) stands in (line.Meta f.0, record { columns = f.0; shows = f.1; is = refl })
    row_lined (port r) stands = let f = is table.Ports r stands in (line.Port f.0, record { columns = f.0; shows = f.1; is = refl })
    row_lined (address r) stands = let f = is table.Addresses r stands in (line.Address f.0, record { columns = f.0; shows = f.1; is = refl })
    row_lined (holder r) stands = let f = is table.Holders r stands in (line.Holder f.0, record { columns = f.0; shows = f.1; is = refl })
    row_lined (volume r) stands = let f = is table.Volumes r stands in (line.Volume f.0, record { columns = f.0; shows = f.1; is = refl })
    row_lined (config_row (config.Setting r)) stands = let f = is table.Meta (meta.Setting r) stands in (line.Meta f.0, record { columns = f.0; shows = f.1; is = refl })
    row_lined (config_row (config.Zoning r)) stands = let f = is table.Zoning r stands in (line.Zoning f.0, record { columns = f.0; shows = f.1; is = refl })
    row_lined (config_row (config.Active r)) stands = let f = is table.Active r stands in (line.Active f.0, record { columns = f.0; shows = f.1; is = refl })
    row_lined (config_row (config.Group r)) stands = let f = is table.Groups r stands in (line.Group f.0, record { columns = f.0; shows = f.1; is = refl })
    row_lined (config_row (config.Part r)) stands = let f = is table.GroupParts r stands in (line.Part f.0, record { columns = f.0; shows = f.1; is = refl })
    row_lined (plan r) stands = let f = is table.Plans r stands in (line.Plan f.0, record { columns = f.0; shows = f.1; is = refl })
    row_lined (approval r) stands = let f = is table.Approvals r stands in (line.Approval f.0, record { columns = f.0; shows = f.1; is = refl })
    row_lined (undo r) stands = let f = is table.Undo r stands in (line.Undo f.0, record { columns = f.0; shows = f.1; is = refl })
    row_lined (path r) stands = let f = is table.Paths r stands in (line.Path f.0, record { columns = f.0; shows = f.1; is = refl })

    pub lined : HaveRows w → HasLines A w
    lined texts = record { rows = row_lined; texts = texts }

found_in : {X : Type 0} (xs : List X) (i : ℕ) (x : X) → slice_get xs i ≡ Some x → Contains xs x
found_in xs i x h = (i, slice_get_within xs i x h, get_or_from_slice_get xs i x x h)

-- an item of a list of distinct items stands at one place
one_place : {X : Type 0} (xs : List X) → AreDistinct xs → (i j : ℕ) (x : X) → slice_get xs i ≡ Some x → slice_get xs j ≡ Some x → i ≡ j
one_place [] d i j x h k = absurd cc
one_place (y ∷ ys) d zero zero x h k = refl
one_place (y ∷ ys) d zero (suc j) x h k = let same : y ≡ x = cc in absurd (d.0 (rw same (found_in ys j x k)))
one_place (y ∷ ys) d (suc i) zero x h k = let same : y ≡ x = cc in absurd (d.0 (rw same (found_in ys i x h)))
one_place (y ∷ ys) d (suc i) (suc j) x h k = ap suc (one_place ys d.1 i j x h k)

-- the tables tell no other schema, where no line does
no_other : (found : TableLines) → ((n : ℕ) → ¬ TellOther found.meta.items n) → (n : ℕ) → TellsVersion (tables_of found) n → ¬ IsOtherSchema n
no_other found none n (l, there, tells) other =
    let line = in_map meta_row found.meta.items (meta_row l) there in
    none n (line.0, line.1, (subst (λ (m : MetaColumns). TellsSchema m n) (one_meta l line.0 (sym line.2)) tells, other))

-- where no other schema is told, and no name of a plan stands twice, no written world has the rows
pub damaged : (A : Type 0) (found : TableLines) (t : Table) → ((n : ℕ) → ¬ TellOther found.meta.items n) → HaveNamesOnce found.plans.items → HasNoWorld A found → OpensNot (tables_of found) (Damaged t)
damaged A found t others once none = (no_other found others, λ w is rows holds. none (λ i j l. one_place found.plans.items (lines_once found.plans.items once) i j l) w (lined A w is rows) holds)

-- a setting tells another schema, which is newer or older
pub told_other : (found : TableLines) (n : ℕ) (f : OpenFault) → TellOther found.meta.items n → ((SCHEMA < n) × (f ≡ NewerSchema n)) ⊎ ((n < SCHEMA) × (f ≡ OldSchema n)) → OpensNot (tables_of found) f
told_other found n f (l, there, tells) (inl newer) = subst (OpensNot (tables_of found)) (sym newer.1) ((l, map_in meta_row found.meta.items l there, tells.0), newer.0)
told_other found n f (l, there, tells) (inr older) = subst (OpensNot (tables_of found)) (sym older.1) ((l, map_in meta_row found.meta.items l there, tells.0), older.0)
