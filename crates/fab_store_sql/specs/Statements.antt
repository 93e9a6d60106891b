-- The texts of the statements.
use Rattle.std.specs.Prelude.{ℕ, List, codes}
use Rattle.fab_store_load.specs.declared.fault.Table.{Table}
use Rattle.fab_store_load.specs.declared.fault.Table.TheVariants as table

-- adds a row
abbrev pub insert_text : Table → List ℕ
insert_text table.Meta = codes "INSERT INTO meta VALUES (?1, ?2)"
insert_text table.Ports = codes "INSERT INTO ports VALUES (?1, ?2, ?3, ?4, ?5, ?6)"
insert_text table.Holders = codes "INSERT INTO holders VALUES (?1, ?2, ?3)"
insert_text table.Volumes = codes "INSERT INTO volumes VALUES (?1, ?2, ?3, ?4)"
insert_text table.Zoning = codes "INSERT INTO zoning VALUES (?1, ?2, ?3, ?4)"
insert_text table.Active = codes "INSERT INTO active VALUES (?1, ?2, ?3)"
insert_text table.Groups = codes "INSERT INTO groups VALUES (?1, ?2, ?3, ?4, ?5)"
insert_text table.GroupParts = codes "INSERT INTO group_parts VALUES (?1, ?2, ?3, ?4, ?5)"
insert_text table.Plans = codes "INSERT INTO plans VALUES (?1, ?2, ?3, ?4, ?5)"
insert_text table.Approvals = codes "INSERT INTO approvals VALUES (?1, ?2, ?3)"
insert_text table.Undo = codes "INSERT INTO undo VALUES (?1, ?2, ?3)"
insert_text table.Paths = codes "INSERT INTO paths VALUES (?1, ?2, ?3, ?4, ?5, ?6)"
insert_text table.Addresses = codes "INSERT INTO addresses VALUES (?1, ?2)"

-- removes the rows with a key
abbrev pub delete_text : Table → List ℕ
delete_text table.Meta = codes "DELETE FROM meta WHERE key = ?1"
delete_text table.Ports = codes "DELETE FROM ports WHERE wwpn = ?1"
delete_text table.Holders = codes "DELETE FROM holders WHERE name = ?1"
delete_text table.Volumes = codes "DELETE FROM volumes WHERE name = ?1"
delete_text table.Zoning = codes "DELETE FROM zoning WHERE fabric = ?1 AND kind = ?2 AND name = ?3 AND item = ?4"
delete_text table.Active = codes "DELETE FROM active WHERE fabric = ?1 AND zone = ?2 AND member = ?3"
delete_text table.Groups = codes "DELETE FROM groups WHERE kind = ?1 AND name = ?2"
delete_text table.GroupParts = codes "DELETE FROM group_parts WHERE kind = ?1 AND name = ?2 AND part = ?3 AND item = ?4"
delete_text table.Plans = codes "DELETE FROM plans WHERE name = ?1"
delete_text table.Approvals = codes "DELETE FROM approvals WHERE plan = ?1 AND caller = ?2"
delete_text table.Undo = codes "DELETE FROM undo WHERE plan = ?1 AND sign = ?2 AND entry = ?3"
delete_text table.Paths = codes "DELETE FROM paths WHERE host = ?1 AND fabric = ?2 AND initiator = ?3 AND target = ?4 AND volume = ?5 AND lun = ?6"
delete_text table.Addresses = codes "DELETE FROM addresses WHERE wwpn = ?1"

-- shows the rows, each behind its rowid
abbrev pub select_text : Table → List ℕ
select_text table.Meta = codes "SELECT rowid, key, value FROM meta ORDER BY rowid"
select_text table.Ports = codes "SELECT rowid, wwpn, wwnn, fabric, domain, slot, holder FROM ports ORDER BY rowid"
select_text table.Holders = codes "SELECT rowid, name, kind, tenant FROM holders ORDER BY rowid"
select_text table.Volumes = codes "SELECT rowid, name, array, tenant, bytes FROM volumes ORDER BY rowid"
select_text table.Zoning = codes "SELECT rowid, fabric, kind, name, item FROM zoning ORDER BY rowid"
select_text table.Active = codes "SELECT rowid, fabric, zone, member FROM active ORDER BY rowid"
select_text table.Groups = codes "SELECT rowid, kind, name, tenant, array, exposed FROM groups ORDER BY rowid"
select_text table.GroupParts = codes "SELECT rowid, kind, name, part, item, volume FROM group_parts ORDER BY rowid"
select_text table.Plans = codes "SELECT rowid, name, author, text, state, position FROM plans ORDER BY rowid"
select_text table.Approvals = codes "SELECT rowid, plan, caller, revision FROM approvals ORDER BY rowid"
select_text table.Undo = codes "SELECT rowid, plan, sign, entry FROM undo ORDER BY rowid"
select_text table.Paths = codes "SELECT rowid, host, fabric, initiator, target, volume, lun FROM paths ORDER BY rowid"
select_text table.Addresses = codes "SELECT rowid, wwpn, address FROM addresses ORDER BY rowid"

-- makes the table
abbrev pub create_text : Table → List ℕ
create_text table.Meta = codes "CREATE TABLE meta (key TEXT NOT NULL, value TEXT NOT NULL, PRIMARY KEY (key)) STRICT"
create_text table.Ports = codes "CREATE TABLE ports (wwpn TEXT NOT NULL, wwnn TEXT NOT NULL, fabric TEXT, domain INTEGER, slot INTEGER, holder TEXT, PRIMARY KEY (wwpn)) STRICT"
create_text table.Holders = codes "CREATE TABLE holders (name TEXT NOT NULL, kind TEXT NOT NULL, tenant TEXT NOT NULL, PRIMARY KEY (name)) STRICT"
create_text table.Volumes = codes "CREATE TABLE volumes (name TEXT NOT NULL, array TEXT NOT NULL, tenant TEXT NOT NULL, bytes INTEGER NOT NULL, PRIMARY KEY (name)) STRICT"
create_text table.Zoning = codes "CREATE TABLE zoning (fabric TEXT NOT NULL, kind TEXT NOT NULL, name TEXT NOT NULL, item TEXT NOT NULL, PRIMARY KEY (fabric, kind, name, item)) STRICT"
create_text table.Active = codes "CREATE TABLE active (fabric TEXT NOT NULL, zone TEXT NOT NULL, member TEXT NOT NULL, PRIMARY KEY (fabric, zone, member)) STRICT"
create_text table.Groups = codes "CREATE TABLE groups (kind TEXT NOT NULL, name TEXT NOT NULL, tenant TEXT NOT NULL, array TEXT NOT NULL, exposed INTEGER NOT NULL, PRIMARY KEY (kind, name)) STRICT"
create_text table.GroupParts = codes "CREATE TABLE group_parts (kind TEXT NOT NULL, name TEXT NOT NULL, part TEXT NOT NULL, item TEXT NOT NULL, volume TEXT NOT NULL, PRIMARY KEY (kind, name, part, item)) STRICT"
create_text table.Plans = codes "CREATE TABLE plans (name TEXT NOT NULL, author TEXT NOT NULL, text TEXT NOT NULL, state TEXT NOT NULL, position INTEGER NOT NULL, PRIMARY KEY (name)) STRICT"
create_text table.Approvals = codes "CREATE TABLE approvals (plan TEXT NOT NULL, caller TEXT NOT NULL, revision INTEGER NOT NULL, PRIMARY KEY (plan, caller)) STRICT"
create_text table.Undo = codes "CREATE TABLE undo (plan TEXT NOT NULL, sign TEXT NOT NULL, entry TEXT NOT NULL, PRIMARY KEY (plan, sign, entry)) STRICT"
create_text table.Paths = codes "CREATE TABLE paths (host TEXT NOT NULL, fabric TEXT NOT NULL, initiator TEXT NOT NULL, target TEXT NOT NULL, volume TEXT NOT NULL, lun INTEGER NOT NULL, PRIMARY KEY (host, fabric, initiator, target, volume, lun)) STRICT"
create_text table.Addresses = codes "CREATE TABLE addresses (wwpn TEXT NOT NULL, address TEXT NOT NULL, PRIMARY KEY (wwpn)) STRICT"

-- shows the paths of a host in their order, each behind its rowid
abbrev pub paths_text : List ℕ
paths_text = codes "SELECT rowid, host, fabric, initiator, target, volume, lun FROM paths WHERE host = ?1 ORDER BY host, fabric, initiator, target, volume, lun"
