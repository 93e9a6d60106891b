-- What the texts of the statements mean.
use Rattle.std.proofs.Common.{◌≡◌, ℕ, zero, suc, List, [], ◌∷◌, ◌+◌, codes, refl, false}
use Rattle.sqlite_tied.specs.Compute.{everything}
use Rattle.sqlite.specs.Listing.{understood, reads_listing}
use Rattle.sqlite.specs.Schema.{Schema}
use Rattle.sqlite.specs.Term.{Term, lit, col, op2}
use Rattle.sqlite_sql.specs.declared.ops.BinaryOp.TheVariants.{Compare}
use Rattle.sqlite_sql.specs.declared.ops.CompareOp.TheVariants.{Eq}
use Rattle.sqlite.specs.Collation.TheVariants.{Binary}
use Rattle.sqlite_value.specs.Keys.{ascending}
use Rattle.sqlite_value.specs.declared.keys.Key.{Key}
use Rattle.sqlite.specs.declared.types.Value.TheVariants.{Null}
use Rattle.sqlite.specs.Command.TheVariants.{Insert, Select, Delete}
use Rattle.sqlite.specs.Source.TheVariants.{Values}
use Rattle.sqlite.proofs.Callers.{IsPlain, command_of}
use Rattle.fab_store_load.specs.declared.fault.Table.{Table}
use Rattle.fab_store_load.specs.declared.fault.Table.TheVariants as table
use Rattle.fab_store_sql.specs.Schema.{desk_schema, place_of}
use Rattle.fab_store_sql.specs.Statements.{insert_text, delete_text, select_text, paths_text}
use Rattle.fab_store_sql.proofs.Queries.{table_query}
use Rattle.fab_store_sql.specs.Trees.{tree_of, width_of, key_width}

-- so many parameters, from this one on
abbrev pub params_from : ℕ → ℕ → List Term
params_from at zero = []
params_from at (suc n) = col 0 at ∷ params_from (at + 1) n

-- so many columns, from this one on
abbrev pub columns_from : ℕ → ℕ → List Term
columns_from at zero = []
columns_from at (suc n) = col 1 at ∷ columns_from (at + 1) n

-- so many columns from this one on are the parameters with their numbers
abbrev pub keys_from : ℕ → ℕ → List Term
keys_from at zero = []
keys_from at (suc n) = op2 (Compare Eq Binary) (col 1 (at + 1)) (col 0 at) ∷ keys_from (at + 1) n

pub inserts_is : (t : Table) → (command_of (understood desk_schema (insert_text t)) ≡ Insert (place_of t) (Values (lit Null ∷ params_from 0 (width_of t)) (width_of t + 1))) × IsPlain (understood desk_schema (insert_text t))
unfolding understood everything
inserts_is table.Meta = (refl, (refl, refl))
inserts_is table.Ports = (refl, (refl, refl))
inserts_is table.Holders = (refl, (refl, refl))
inserts_is table.Volumes = (refl, (refl, refl))
inserts_is table.Zoning = (refl, (refl, refl))
inserts_is table.Active = (refl, (refl, refl))
inserts_is table.Groups = (refl, (refl, refl))
inserts_is table.GroupParts = (refl, (refl, refl))
inserts_is table.Plans = (refl, (refl, refl))
inserts_is table.Approvals = (refl, (refl, refl))
inserts_is table.Undo = (refl, (refl, refl))
inserts_is table.Paths = (refl, (refl, refl))
inserts_is table.Addresses = (refl, (refl, refl))

pub deletes_is : (t : Table) → (command_of (understood desk_schema (delete_text t)) ≡ Delete (place_of t) (record { lets = []; body = table_query (tree_of t) (keys_from 0 (key_width t)) (col 1 0 ∷ []) [] [] })) × IsPlain (understood desk_schema (delete_text t))
unfolding understood everything
deletes_is table.Meta = (refl, (refl, refl))
deletes_is table.Ports = (refl, (refl, refl))
deletes_is table.Holders = (refl, (refl, refl))
deletes_is table.Volumes = (refl, (refl, refl))
deletes_is table.Zoning = (refl, (refl, refl))
deletes_is table.Active = (refl, (refl, refl))
deletes_is table.Groups = (refl, (refl, refl))
deletes_is table.GroupParts = (refl, (refl, refl))
deletes_is table.Plans = (refl, (refl, refl))
deletes_is table.Approvals = (refl, (refl, refl))
deletes_is table.Undo = (refl, (refl, refl))
deletes_is table.Paths = (refl, (refl, refl))
deletes_is table.Addresses = (refl, (refl, refl))

-- the names of the columns that a read shows
abbrev pub names_of : Table → List (List ℕ)
names_of table.Meta = codes "rowid" ∷ codes "key" ∷ codes "value" ∷ []
names_of table.Ports = codes "rowid" ∷ codes "wwpn" ∷ codes "wwnn" ∷ codes "fabric" ∷ codes "domain" ∷ codes "slot" ∷ codes "holder" ∷ []
names_of table.Holders = codes "rowid" ∷ codes "name" ∷ codes "kind" ∷ codes "tenant" ∷ []
names_of table.Volumes = codes "rowid" ∷ codes "name" ∷ codes "array" ∷ codes "tenant" ∷ codes "bytes" ∷ []
names_of table.Zoning = codes "rowid" ∷ codes "fabric" ∷ codes "kind" ∷ codes "name" ∷ codes "item" ∷ []
names_of table.Active = codes "rowid" ∷ codes "fabric" ∷ codes "zone" ∷ codes "member" ∷ []
names_of table.Groups = codes "rowid" ∷ codes "kind" ∷ codes "name" ∷ codes "tenant" ∷ codes "array" ∷ codes "exposed" ∷ []
names_of table.GroupParts = codes "rowid" ∷ codes "kind" ∷ codes "name" ∷ codes "part" ∷ codes "item" ∷ codes "volume" ∷ []
names_of table.Plans = codes "rowid" ∷ codes "name" ∷ codes "author" ∷ codes "text" ∷ codes "state" ∷ codes "position" ∷ []
names_of table.Approvals = codes "rowid" ∷ codes "plan" ∷ codes "caller" ∷ codes "revision" ∷ []
names_of table.Undo = codes "rowid" ∷ codes "plan" ∷ codes "sign" ∷ codes "entry" ∷ []
names_of table.Paths = codes "rowid" ∷ codes "host" ∷ codes "fabric" ∷ codes "initiator" ∷ codes "target" ∷ codes "volume" ∷ codes "lun" ∷ []
names_of table.Addresses = codes "rowid" ∷ codes "wwpn" ∷ codes "address" ∷ []

-- the text that shows the rows of the table means that in the schema
abbrev pub Selects : Schema → Table → Type 0
Selects schema t = (command_of (understood schema (select_text t)) ≡ Select (record { lets = []; body = table_query (tree_of t) [] (columns_from 0 (width_of t + 1)) [] ((col 1 0, ascending Binary) ∷ []) }) (names_of t)) × IsPlain (understood schema (select_text t)) × (reads_listing schema (select_text t) ≡ false)

pub selects_is : (t : Table) → Selects desk_schema t
unfolding understood everything
selects_is table.Meta = (refl, (refl, refl), refl)
selects_is table.Ports = (refl, (refl, refl), refl)
selects_is table.Holders = (refl, (refl, refl), refl)
selects_is table.Volumes = (refl, (refl, refl), refl)
selects_is table.Zoning = (refl, (refl, refl), refl)
selects_is table.Active = (refl, (refl, refl), refl)
selects_is table.Groups = (refl, (refl, refl), refl)
selects_is table.GroupParts = (refl, (refl, refl), refl)
selects_is table.Plans = (refl, (refl, refl), refl)
selects_is table.Approvals = (refl, (refl, refl), refl)
selects_is table.Undo = (refl, (refl, refl), refl)
selects_is table.Paths = (refl, (refl, refl), refl)
selects_is table.Addresses = (refl, (refl, refl), refl)

-- the order of paths
abbrev pub path_order : List (Term × Key)
path_order = (col 1 1, ascending Binary) ∷ (col 1 2, ascending Binary) ∷ (col 1 3, ascending Binary) ∷ (col 1 4, ascending Binary) ∷ (col 1 5, ascending Binary) ∷ (col 1 6, ascending Binary) ∷ []

pub paths_is : (command_of (understood desk_schema paths_text) ≡ Select (record { lets = []; body = table_query (tree_of table.Paths) (keys_from 0 1) (columns_from 0 7) [] path_order }) (names_of table.Paths)) × IsPlain (understood desk_schema paths_text) × (reads_listing desk_schema paths_text ≡ false)
unfolding understood everything
paths_is = (refl, (refl, refl), refl)
