use Rattle.std.proofs.Common.{refl, sym, subst}
use Rattle.fab_store_rows.specs.declared.config_row.ConfigRow.{ConfigRow}
use Rattle.fab_store_tables.specs.declared.stored_line.TableLine.TheVariants as line
use Rattle.fab_store_tables.specs.Rows.{ShowsConfig}
use Rattle.fab_store_tables.proofs.row.config_line.Goals as goal

pub returns-in_ok-of_setting-in-Setting : goal.returns-in_ok-of_setting-in-Setting
returns-in_ok-of_setting-in-Setting g c = subst (λ (r : ConfigRow). ShowsConfig r (line.Meta c.in_ok-of_setting-in-Setting.field-0)) (sym c.in-Setting.is) (record { columns = c.in_ok-of_setting-in-Setting.field-0; shows = c.in_ok-of_setting-in-Setting.ensures; is = refl })

pub returns-in_ok-print-in-Zoning : goal.returns-in_ok-print-in-Zoning
returns-in_ok-print-in-Zoning g c = subst (λ (r : ConfigRow). ShowsConfig r (line.Zoning c.in_ok-print-in-Zoning.field-0)) (sym c.in-Zoning.is) (record { columns = c.in_ok-print-in-Zoning.field-0; shows = c.in_ok-print-in-Zoning.ensures; is = refl })

pub returns-in_ok-print-in-Active : goal.returns-in_ok-print-in-Active
returns-in_ok-print-in-Active g c = subst (λ (r : ConfigRow). ShowsConfig r (line.Active c.in_ok-print-in-Active.field-0)) (sym c.in-Active.is) (record { columns = c.in_ok-print-in-Active.field-0; shows = c.in_ok-print-in-Active.ensures; is = refl })

pub returns-in_ok-print-in-Group : goal.returns-in_ok-print-in-Group
returns-in_ok-print-in-Group g c = subst (λ (r : ConfigRow). ShowsConfig r (line.Group c.in_ok-print-in-Group.field-0)) (sym c.in-Group.is) (record { columns = c.in_ok-print-in-Group.field-0; shows = c.in_ok-print-in-Group.ensures; is = refl })

pub returns-in_ok-print-in-Part : goal.returns-in_ok-print-in-Part
returns-in_ok-print-in-Part g c = subst (λ (r : ConfigRow). ShowsConfig r (line.Part c.in_ok-print-in-Part.field-0)) (sym c.in-Part.is) (record { columns = c.in_ok-print-in-Part.field-0; shows = c.in_ok-print-in-Part.ensures; is = refl })
