-- The rows of a port list.
use Rattle.std.specs.Prelude.{ℕ, ◌≡◌, ◌≢◌, ◌+◌, ◌⊎◌, Bool, true, false, Option, None, Some, List, [], ◌∷◌, ◌++◌, codes, length}
use Rattle.csv.specs.Reading.{default_config, strip_bom, AreRecords, Reached}
use Rattle.csv.specs.declared.parser.State.{State}
use Rattle.csv.specs.declared.parser.State.TheVariants as state
use Rattle.fab_names.specs.Addresses.{SpellsAddress}
use Rattle.fab_names.specs.WorldWideNames.{SpellsWwn}
use Rattle.fab_names.specs.Places.{SpellsPosition}
use Rattle.fab_inventory.specs.declared.port.PortRow.{PortRow}
use Rattle.fab_wire_requests.specs.declared.port_list.FileFault.{FileFault}
use Rattle.fab_wire_requests.specs.declared.port_list.FileFault.TheVariants.{Line, Memory}

-- a record: its fields
abbrev pub Record : Type 0
Record = List (List ℕ)

-- the column of addresses in the first record, where a port list has one
abbrev pub address_column : Bool → Record
address_column false = []
address_column true = codes "address" ∷ []

-- the names of the first four columns, and then others
abbrev pub four_columns : Record → Record
four_columns others = codes "port_name" ∷ codes "node_name" ∷ codes "domain" ∷ codes "port" ∷ others

-- the first record of a port list, without or with a column of addresses
abbrev pub header_of : Bool → Record
header_of addressed = four_columns (address_column addressed)

-- a field spells an address, or is empty where there is none
abbrev pub SpellsAddressOrNone : List ℕ → Option ℕ → Type 0
SpellsAddressOrNone field None = field ≡ []
SpellsAddressOrNone field (Some address) = SpellsAddress field address

-- what stands behind the four fields: nothing without a column of addresses, and with one a field
abbrev pub IsAddressPart : Bool → Record → Option ℕ → Type 0
IsAddressPart false others address = (others ≡ []) × (address ≡ None)
IsAddressPart true others address = (field : List ℕ) × (others ≡ field ∷ []) × SpellsAddressOrNone field address

-- the fields of a record spell an N_Port_Name, a Node_Name, a Domain_ID and a physical port of it, and an
-- N_Port_ID or none
pub record SpellsRow (addressed : Bool) (fields : Record) (row : PortRow) : Type 0 where
  pub name : List ℕ
  pub node : List ℕ
  pub domain : List ℕ
  pub slot : List ℕ
  pub others : Record
  pub all : fields ≡ name ∷ node ∷ domain ∷ slot ∷ others
  pub port_name : SpellsWwn name row.name
  pub node_name : SpellsWwn node row.node
  pub position : SpellsPosition domain slot row.place
  pub address : IsAddressPart addressed others row.address

-- each record spells its row
abbrev pub SpellRows : Bool → List Record → List PortRow → Type 0
SpellRows addressed [] [] = Unit {0}
SpellRows addressed [] (row ∷ rows) = ⊥
SpellRows addressed (fields ∷ records) [] = ⊥
SpellRows addressed (fields ∷ records) (row ∷ rows) = SpellsRow addressed fields row × SpellRows addressed records rows

-- these are the records of a text, as csv reads them, behind a byte order mark if it begins with one
abbrev pub AreAllRecords : List ℕ → List Record → Type 0
AreAllRecords text records = AreRecords default_config state.StartRecord (strip_bom text) records

-- the records of a text begin with these
abbrev pub BeginsWith : List ℕ → List Record → Type 0
BeginsWith text records = (s : State) × (rest : List ℕ) × Reached default_config state.StartRecord (strip_bom text) records s rest

-- a text lists these rows: a header, and then a record for each row
abbrev pub ListsPorts : List ℕ → List PortRow → Type 0
ListsPorts text rows = (addressed : Bool) × (records : List Record) × AreAllRecords text (header_of addressed ∷ records) × SpellRows addressed records rows

-- the record is no header
abbrev pub IsNoHeader : Record → Type 0
IsNoHeader first = (addressed : Bool) → first ≢ header_of addressed

-- the first record is no header, or there is none
abbrev pub HasNoHeader : List ℕ → Type 0
HasNoHeader text = AreAllRecords text [] ⊎ ((first : Record) × BeginsWith text (first ∷ []) × IsNoHeader first)

-- behind a header and so many rows comes a record that spells none
pub record HasBadRowBehind (text : List ℕ) (before : ℕ) : Type 0 where
  pub addressed : Bool
  pub records : List Record
  pub rows : List PortRow
  pub bad : Record
  pub begins : BeginsWith text (header_of addressed ∷ records ++ bad ∷ [])
  pub spelled : SpellRows addressed records rows
  pub none : (row : PortRow) → ¬ (SpellsRow addressed bad row)
  pub count : before ≡ length rows

-- the first faulty record of a port list is the one of this number, of which the header is 1
abbrev pub IsFaultAt : List ℕ → ℕ → Type 0
IsFaultAt text line = ((line ≡ 1) × HasNoHeader text) ⊎ ((before : ℕ) × (line ≡ before + 2) × HasBadRowBehind text before)

-- what a fault says of the text that is refused
abbrev pub IsFileFault : List ℕ → FileFault → Type 0
IsFileFault text (Line line) = IsFaultAt text line
IsFileFault text Memory = Unit {0}
