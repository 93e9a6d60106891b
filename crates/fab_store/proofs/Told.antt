-- The lines of all tables, and tables with the same rows.
use Rattle.std.proofs.Common.{ℕ, ◌≡◌, ◌↔◌, ◌∙◌, List, map, Contains, IsTrue, false, sym, subst, arith}
use Rattle.sqlite.specs.Effect.{Database}
use Rattle.sqlite.specs.Order.{Row}
use Rattle.sqlite.specs.State.{State, HasCleanDisk, Survives}
use Rattle.sqlite.proofs.StateLemmas.{survives_then}
use Rattle.fab_store_load.specs.declared.fault.Table.{Table}
use Rattle.fab_store_load.specs.declared.fault.Table.TheVariants as table
use Rattle.fab_store_base.proofs.Distinct.{in_map, map_in}
use Rattle.fab_store_base.specs.Opened.{tables_of}
use Rattle.fab_store_tables.specs.declared.lines.TableLines.{TableLines}
use Rattle.fab_store_sql.specs.Reading.{IsAny, AreLinesOf, Stays}
use Rattle.fab_store_sql.specs.Rows.{IsKeyed}
use Rattle.fab_store_sql.specs.Trees.{tree_of, show_of}
use Rattle.fab_store_sql.specs.Trees as sql
use Rattle.fab_store_base.specs.Calls.{OpensNot}
use Rattle.fab_store_base.specs.Worlds.{HoldsWorld}
use Rattle.fab_store_load.specs.declared.fault.OpenFault.{OpenFault}
use Rattle.fab_store_load.specs.declared.fault.OpenFault.TheVariants.{Damaged, NewerSchema, OldSchema, Store, Memory}
use Rattle.fab_store_tables.specs.Columns.{meta_row, port_row, address_row, holder_row, volume_row, zoning_row, active_row, group_row, part_row, plan_row, approval_row, undo_row, path_row}
use Rattle.fab_store_tables.specs.Tables.{Tables}
use Rattle.fab_store_tables.specs.Versions.{TellsVersion}
use Rattle.fab_world.specs.Worlds.{WorldRows}
use Rattle.fab_store.specs.Reads.{IsTableOf, HaveSame, OnlyReads, SeesSame, AreTablesOf}

-- a table has the columns of its lines
same_rows : {L : Type 0} (row : L → Row) (rows : List Row) (found : List L) → AreLinesOf row IsAny rows found → (r : Row) → Contains rows r ↔ Contains (map row found) r
same_rows row rows found are r = (
  λ there. let f = (are r).0 (there, tt) in subst (Contains (map row found)) f.2 (map_in row found f.0 f.1),
  λ there. let s = in_map row found r there in ((are r).1 (s.0, s.1, s.2)).0,
)

-- the tables, read one behind the other
pub record AreRead (found : TableLines) (db : Database) : Type 0 where
  pub meta : IsTableOf table.Meta meta_row found.meta.items db
  pub ports : IsTableOf table.Ports port_row found.ports.items db
  pub addresses : IsTableOf table.Addresses address_row found.addresses.items db
  pub holders : IsTableOf table.Holders holder_row found.holders.items db
  pub volumes : IsTableOf table.Volumes volume_row found.volumes.items db
  pub zoning : IsTableOf table.Zoning zoning_row found.zoning.items db
  pub active : IsTableOf table.Active active_row found.active.items db
  pub groups : IsTableOf table.Groups group_row found.groups.items db
  pub parts : IsTableOf table.GroupParts part_row found.parts.items db
  pub plans : IsTableOf table.Plans plan_row found.plans.items db
  pub approvals : IsTableOf table.Approvals approval_row found.approvals.items db
  pub undo : IsTableOf table.Undo undo_row found.undo.items db
  pub paths : IsTableOf table.Paths path_row found.paths.items db

module _ (found : TableLines) (db : Database) (read : AreRead found db) where
  all_keyed : (t : Table) → IsKeyed (show_of t) (db.trees (tree_of t))
  all_keyed table.Meta = read.meta.keyed
  all_keyed table.Ports = read.ports.keyed
  all_keyed table.Addresses = read.addresses.keyed
  all_keyed table.Holders = read.holders.keyed
  all_keyed table.Volumes = read.volumes.keyed
  all_keyed table.Zoning = read.zoning.keyed
  all_keyed table.Active = read.active.keyed
  all_keyed table.Groups = read.groups.keyed
  all_keyed table.GroupParts = read.parts.keyed
  all_keyed table.Plans = read.plans.keyed
  all_keyed table.Approvals = read.approvals.keyed
  all_keyed table.Undo = read.undo.keyed
  all_keyed table.Paths = read.paths.keyed

  all_rows : HaveSame (sql.tables_of db.trees) (tables_of found)
  all_rows table.Meta = same_rows meta_row (sql.tables_of db.trees table.Meta) found.meta.items read.meta.are
  all_rows table.Ports = same_rows port_row (sql.tables_of db.trees table.Ports) found.ports.items read.ports.are
  all_rows table.Addresses = same_rows address_row (sql.tables_of db.trees table.Addresses) found.addresses.items read.addresses.are
  all_rows table.Holders = same_rows holder_row (sql.tables_of db.trees table.Holders) found.holders.items read.holders.are
  all_rows table.Volumes = same_rows volume_row (sql.tables_of db.trees table.Volumes) found.volumes.items read.volumes.are
  all_rows table.Zoning = same_rows zoning_row (sql.tables_of db.trees table.Zoning) found.zoning.items read.zoning.are
  all_rows table.Active = same_rows active_row (sql.tables_of db.trees table.Active) found.active.items read.active.are
  all_rows table.Groups = same_rows group_row (sql.tables_of db.trees table.Groups) found.groups.items read.groups.are
  all_rows table.GroupParts = same_rows part_row (sql.tables_of db.trees table.GroupParts) found.parts.items read.parts.are
  all_rows table.Plans = same_rows plan_row (sql.tables_of db.trees table.Plans) found.plans.items read.plans.are
  all_rows table.Approvals = same_rows approval_row (sql.tables_of db.trees table.Approvals) found.approvals.items read.approvals.are
  all_rows table.Undo = same_rows undo_row (sql.tables_of db.trees table.Undo) found.undo.items read.undo.are
  all_rows table.Paths = same_rows path_row (sql.tables_of db.trees table.Paths) found.paths.items read.paths.are

  pub all_told : AreTablesOf found db
  all_told = record { schema = read.meta.schema; keyed = all_keyed; rows = all_rows }

-- a look before that left the connection as it was, if it is still open, changed none of them
pub told_before : (found : TableLines) (old mid new : State) → (IsTrue old.is_open → old.now ≡ old.committed) → (HasCleanDisk mid → Stays old mid) → OnlyReads mid new → (HasCleanDisk new → AreTablesOf found mid.now × SeesSame mid new) → HasCleanDisk new
    → AreTablesOf found old.now
told_before found old mid new settled stays only told clean =
    let early : HasCleanDisk mid = omega (arith, clean, only.survives.clean) in
    let seen = told clean in subst (AreTablesOf found) (stays early settled seen.1.was_open).1 seen.0

-- such a look and a read behind it only read
pub looked_before : (old mid new : State) → Survives old mid (λ _. ⊥) → (HasCleanDisk mid → Stays old mid) → mid.in_transaction ≡ false → OnlyReads mid new → OnlyReads old new
looked_before old mid new survives stays outside only = record {
  survives = survives_then old mid new (λ _. ⊥) (λ _. ⊥) (λ _. ⊥) (λ _ _ h. h) (λ _ _ h. h) survives only.survives;
  stays = λ clean settled is_open.
      let early : HasCleanDisk mid = omega (arith, clean, only.survives.clean) in
      let later = only.stays clean (λ open_mid. let e = stays early settled open_mid in e.1 ∙ settled e.0 ∙ sym e.2) is_open in
      let first = stays early settled later.0 in (first.0, later.1 ∙ first.1, later.2 ∙ first.2);
  outside = λ _. only.outside outside;
}

module _ (a b : Tables) (same : HaveSame a b) where
  pub holds_there : (w : WorldRows) → HoldsWorld b w → HoldsWorld a w
  holds_there w holds t r = (λ there. (holds t r).0 ((same t r).0 there), λ stands. (same t r).1 ((holds t r).1 stands))

  holds_here : (w : WorldRows) → HoldsWorld a w → HoldsWorld b w
  holds_here w holds t r = (λ there. (holds t r).0 ((same t r).1 there), λ stands. (same t r).0 ((holds t r).1 stands))

  version_there : (n : ℕ) → TellsVersion b n → TellsVersion a n
  version_there n (l, there, tells) = (l, (same table.Meta (meta_row l)).1 there, tells)

  version_here : (n : ℕ) → TellsVersion a n → TellsVersion b n
  version_here n (l, there, tells) = (l, (same table.Meta (meta_row l)).0 there, tells)

  pub opens_there : (f : OpenFault) → OpensNot b f → OpensNot a f
  opens_there (Damaged t) not = (λ n told. not.0 n (version_here n told), λ w is rows holds. not.1 w is rows (holds_here w holds))
  opens_there (NewerSchema n) told = (version_there n told.0, told.1)
  opens_there (OldSchema n) told = (version_there n told.0, told.1)
  opens_there Store h = tt
  opens_there Memory h = tt
