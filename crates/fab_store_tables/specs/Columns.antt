-- The columns of a line as SQL values, in the order of its table.
use Rattle.std.specs.Prelude.{ℕ, ℤ, List, [], ◌∷◌, Option, None, Some}
use Rattle.sqlite.specs.Order.{Row}
use Rattle.sqlite.specs.declared.types.Value.{Value}
use Rattle.sqlite.specs.declared.types.Value.TheVariants.{Null, Int, Text}
use Rattle.fab_store_columns.specs.MetaLines.{MetaColumns}
use Rattle.fab_store_columns.specs.InventoryLines.{PortColumns, AddressColumns, HolderColumns, VolumeColumns}
use Rattle.fab_store_columns.specs.ZoningLines.{ZoningColumns, ActiveColumns}
use Rattle.fab_store_columns.specs.GroupLines.{GroupColumns, PartColumns}
use Rattle.fab_store_columns.specs.PlanLines.{PlanColumns}
use Rattle.fab_store_columns.specs.RecordLines.{ApprovalColumns, PathColumns}
use Rattle.fab_store_tables.specs.UndoLines.{UndoColumns}

abbrev pub text_or_null : Option (List ℕ) → Value
text_or_null None = Null
text_or_null (Some text) = Text text

abbrev pub number_or_null : Option ℤ → Value
number_or_null None = Null
number_or_null (Some n) = Int n

abbrev pub meta_row : MetaColumns → Row
meta_row l = Text l.key ∷ Text l.value ∷ []

abbrev pub port_row : PortColumns → Row
port_row l = Text l.wwpn ∷ Text l.wwnn ∷ text_or_null l.fabric ∷ number_or_null l.domain ∷ number_or_null l.slot ∷ text_or_null l.holder ∷ []

abbrev pub address_row : AddressColumns → Row
address_row l = Text l.wwpn ∷ Text l.address ∷ []

abbrev pub holder_row : HolderColumns → Row
holder_row l = Text l.name ∷ Text l.kind ∷ Text l.tenant ∷ []

abbrev pub volume_row : VolumeColumns → Row
volume_row l = Text l.name ∷ Text l.array ∷ Text l.tenant ∷ Int l.bytes ∷ []

abbrev pub zoning_row : ZoningColumns → Row
zoning_row l = Text l.fabric ∷ Text l.kind ∷ Text l.name ∷ Text l.item ∷ []

abbrev pub active_row : ActiveColumns → Row
active_row l = Text l.fabric ∷ Text l.zone ∷ Text l.member ∷ []

abbrev pub group_row : GroupColumns → Row
group_row l = Text l.kind ∷ Text l.name ∷ Text l.tenant ∷ Text l.array ∷ Int l.exposed ∷ []

abbrev pub part_row : PartColumns → Row
part_row l = Text l.kind ∷ Text l.name ∷ Text l.part ∷ Text l.item ∷ Text l.volume ∷ []

abbrev pub plan_row : PlanColumns → Row
plan_row l = Text l.name ∷ Text l.author ∷ Text l.text ∷ Text l.state ∷ Int l.position ∷ []

abbrev pub approval_row : ApprovalColumns → Row
approval_row l = Text l.plan ∷ Text l.caller ∷ Int l.revision ∷ []

abbrev pub undo_row : UndoColumns → Row
undo_row l = Text l.plan ∷ Text l.sign ∷ Text l.entry ∷ []

abbrev pub path_row : PathColumns → Row
path_row l = Text l.host ∷ Text l.fabric ∷ Text l.initiator ∷ Text l.target ∷ Text l.volume ∷ Int l.lun ∷ []
