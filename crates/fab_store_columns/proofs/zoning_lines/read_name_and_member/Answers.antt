use Rattle.fab_store_columns.proofs.zoning_lines.read_name_and_member.Goals as goal

pub returns-in_default : goal.returns-in_default
returns-in_default c n m s p = c.in_default.ensures n s
