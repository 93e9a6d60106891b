-- What private loops and single rows are proved by. No public contract names it.
pub mod Edits
pub mod Leads
pub mod ZoningEdits
pub mod MappingEdits
