pub mod InventoryLines
pub mod MetaLines
pub mod ZoningLines
pub mod GroupLines
pub mod RecordLines
pub mod PlanLines
