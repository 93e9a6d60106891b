use Rattle.fab_store_columns.proofs.zoning_lines.read_active.Goals as goal

pub returns-in_default-read_name : goal.returns-in_default-read_name
returns-in_default-read_name c r h = c.in_default-read_name.ensures r.zone h.zone
