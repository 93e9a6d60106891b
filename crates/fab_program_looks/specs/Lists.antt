-- Lists that a caller who looks is told.
use Rattle.std.specs.Prelude.{ℕ, ◌≡◌, ◌⊎◌, ◌++◌, List, Bool, true, false, nat_eq, filter, Option, None, Some, Result, Err}
use Rattle.std.specs.declared.alloc.Global.{Global}
use Rattle.fab_desk_base.specs.declared.reply.Shown.{Shown}
use Rattle.fab_desk_base.specs.declared.reply.Shown.TheVariants as shown
use Rattle.fab_files_base.specs.declared.printing.End.{End}
use Rattle.fab_files_base.specs.declared.printing.End.TheVariants.{Done}
use Rattle.fab_files_looks.specs.Lists.{rows_json, rows_text}
use Rattle.fab_files_looks.specs.declared.lists.Table.{Table}
use Rattle.fab_files_looks.specs.declared.lists.Table.TheVariants as table
use Rattle.fab_looks.specs.Rows.{AreRows, ArePortRows}
use Rattle.fab_looks.specs.declared.listing.Kind.{Kind}
use Rattle.fab_looks.specs.declared.listing.Kind.TheVariants as kind
use Rattle.fab_names.specs.declared.fabric.Fabric.TheVariants.{A, B}
use Rattle.fab_policy_base.specs.Policies.{PolicyRows}
use Rattle.fab_program_outside.specs.Printing.{Prints}
use Rattle.fab_program_words.specs.declared.words.ListKind.{ListKind}
use Rattle.fab_program_words.specs.declared.words.ListKind.TheVariants as list
use Rattle.fab_program_words.specs.declared.words.ListState.{ListState}
use Rattle.fab_program_words.specs.declared.words.ListState.TheVariants as state
use Rattle.fab_program_outside.specs.declared.faults.Fault.{Fault}
use Rattle.fab_program_outside.specs.declared.faults.Fault.TheVariants as fault
use Rattle.fab_store_rows.specs.declared.record_row.PlanState.{PlanState}
use Rattle.fab_store_rows.specs.declared.record_row.PlanState.TheVariants as plan
use Rattle.fab_world.specs.Worlds.{WorldRows}

-- the rows of two kinds, the one behind the other
abbrev pub AreBoth : {S : Type 0} → PolicyRows → WorldRows → ℕ → Kind → Kind → List (Shown S) → Type 0
AreBoth {S} p w id j k rows = (xs ys : List (Shown S)) × AreRows p w id j xs × AreRows p w id k ys × (rows ≡ xs ++ ys)

-- the rows of a kind that are open to the caller; of what is of a fabric those of both
abbrev pub AreListed : {S : Type 0} → PolicyRows → WorldRows → ℕ → ListKind → List (Shown S) → Type 0
AreListed p w id list.Hosts rows = AreRows p w id kind.Hosts rows
AreListed p w id list.Arrays rows = AreRows p w id kind.Arrays rows
AreListed p w id list.Volumes rows = AreRows p w id kind.Volumes rows
AreListed p w id list.Ports rows = ArePortRows p w id rows
AreListed p w id list.Aliases rows = AreBoth p w id (kind.Aliases A) (kind.Aliases B) rows
AreListed p w id list.Zones rows = AreBoth p w id (kind.Zones A) (kind.Zones B) rows
AreListed p w id list.Sets rows = AreBoth p w id (kind.Sets A) (kind.Sets B) rows
AreListed p w id list.HostGroups rows = AreRows p w id kind.HostGroups rows
AreListed p w id list.Groups rows = AreRows p w id kind.Groups rows
AreListed p w id list.Plans rows = AreRows p w id kind.Plans rows

-- the columns of a kind
abbrev pub table_of : ListKind → Table
table_of list.Hosts = table.Holders
table_of list.Arrays = table.Holders
table_of list.Volumes = table.Volumes
table_of list.Ports = table.Ports
table_of list.Aliases = table.Members
table_of list.Zones = table.Members
table_of list.Sets = table.Sets
table_of list.HostGroups = table.HostGroups
table_of list.Groups = table.Groups
table_of list.Plans = table.Plans

-- the places of states
abbrev pub number_asked : ListState → ℕ
number_asked state.Staged = 0
number_asked state.Active = 1
number_asked state.RolledBack = 2
number_asked state.Withdrawn = 3

abbrev pub number_of : PlanState → ℕ
number_of plan.Staged = 0
number_of plan.Active = 1
number_of plan.RolledBack = 2
number_of plan.Withdrawn = 3

-- whether the row is of a plan in the state
abbrev pub is_in : {S : Type 0} → ListState → Shown S → Bool
is_in s (shown.Plan x) = nat_eq (number_asked s) (number_of x.state)
is_in s other = false

-- only those rows, where a state is asked for
abbrev pub chosen : {S : Type 0} → Option ListState → List (Shown S) → List (Shown S)
chosen None rows = rows
chosen (Some s) rows = filter (is_in s) rows

abbrev pub list_output : {S : Type 0} → Bool → ListKind → ℕ → List (Shown S) → List ℕ
list_output true k revision rows = rows_json rows
list_output false k revision rows = rows_text (table_of k) revision rows

module _ {W : Type 0} (contents : W → Option (List ℕ)) (w : WorldRows) (p : PolicyRows) (id : ℕ) where
  -- there was no memory; or the rows are printed
  abbrev pub TellsList : ListKind → Option ListState → Bool → W → Result (W × End) Fault → Type 0
  TellsList k state json writer came =
      (came ≡ Err fault.Memory)
      ⊎ ((rows : List (Shown Global)) × AreListed p w id k rows × Prints contents writer (list_output json k w.revision (chosen state rows)) Done came)
