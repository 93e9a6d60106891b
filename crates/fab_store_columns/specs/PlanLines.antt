-- Lines of the table of plans, and the rows that they show.
use Rattle.std.specs.Prelude.{◌≡◌, ℕ, ℤ, List}
use Rattle.fab_names.specs.Names.{SpellsName}
use Rattle.fab_store_rows.specs.PlanEntries.{PlanEntry}
use Rattle.fab_store_rows.specs.PlanStates.{state_text}
use Rattle.fab_store_columns_base.specs.Limits.{most_number}
use Rattle.fab_store_columns_base.specs.Columns.{ShowsNumber}

-- `plans`
pub record PlanColumns : Type 0 where
  pub name : List ℕ
  pub author : List ℕ
  pub text : List ℕ
  pub state : List ℕ
  pub position : ℤ

-- the text is the plan's as it stands
pub record ShowsPlan (l : PlanColumns) (r : PlanEntry) : Type 0 where
  pub name : SpellsName l.name r.name
  pub author : SpellsName l.author r.author
  pub text : l.text ≡ r.text
  pub state : l.state ≡ state_text r.state
  pub position : ShowsNumber 0 most_number l.position r.position
