-- The command line of the program: its subcommands and their options.
use Rattle.std.specs.Prelude.{Bool, true, false, List, [], ◌∷◌, ◌++◌, Some, map, codes}
use Rattle.clap.specs.Words.{App, Rule, Shape, Text, new_app, new_rule, with_subcommand}
use Rattle.clap.specs.declared.builder.action.ArgAction.TheVariants.{Set, SetTrue}
use Rattle.fab_program_words.specs.declared.options.OptionKind.{OptionKind}
use Rattle.fab_program_words.specs.declared.options.OptionKind.TheVariants.{Db, Policy, Listen, Count, Now, Token, Fabric, File, Host, Plan, Volume, Kind, Json, PlanFile, Ports, State, Port, Rules, Caller, Action, Fabrics, Tenants, Author, Approved, Revision, MostLost}
use Rattle.fab_program_words.specs.declared.options.OptionShape.{OptionShape}
use Rattle.fab_program_words.specs.declared.options.OptionShape.TheVariants as shape
use Rattle.fab_program_words.specs.Options.{option_name, shape_of}
use Rattle.fab_program_options.specs.declared.subcommands.Subcommand.{Subcommand}
use Rattle.fab_program_options.specs.declared.subcommands.Subcommand.TheVariants.{Init, Serve, Once, Import, Paths, Report, Export, DryRun, Why, Who, Names, Check, Explain, TryImport, Diff}

-- ---- the words

abbrev pub subcommand_name : Subcommand → Text
subcommand_name Init = codes "init"
subcommand_name Serve = codes "serve"
subcommand_name Once = codes "once"
subcommand_name Import = codes "import"
subcommand_name Paths = codes "paths"
subcommand_name Report = codes "report"
subcommand_name Export = codes "export"
subcommand_name DryRun = codes "dryrun"
subcommand_name Why = codes "why"
subcommand_name Who = codes "who"
subcommand_name Names = codes "list"
subcommand_name Check = codes "check"
subcommand_name Explain = codes "explain"
subcommand_name TryImport = codes "tryimport"
subcommand_name Diff = codes "diff"

-- every subcommand
abbrev pub all_subcommands : List Subcommand
all_subcommands = Init ∷ Serve ∷ Once ∷ Import ∷ Paths ∷ Report ∷ Export ∷ DryRun ∷ Why ∷ Who ∷ Names ∷ Check ∷ Explain ∷ TryImport ∷ Diff ∷ []

-- the options by which a subcommand asks as a caller at a database
abbrev pub access_of : Subcommand → List OptionKind
access_of Init = []
access_of Serve = []
access_of Once = []
access_of Check = []
access_of Explain = []
access_of other = Db ∷ Policy ∷ Token ∷ []

-- the options that it must have beside those
abbrev pub required_of : Subcommand → List OptionKind
required_of Init = Db ∷ []
required_of Serve = Db ∷ Policy ∷ Listen ∷ []
required_of Once = []
required_of Import = Fabric ∷ File ∷ []
required_of Paths = Host ∷ []
required_of Report = Host ∷ []
required_of Export = Fabric ∷ []
required_of DryRun = Plan ∷ []
required_of Why = Host ∷ Volume ∷ []
required_of Who = []
required_of Names = Kind ∷ []
required_of Check = []
required_of Explain = Policy ∷ []
required_of TryImport = Fabric ∷ File ∷ []
required_of Diff = Plan ∷ []

-- the options that it may have
abbrev pub optional_of : Subcommand → List OptionKind
optional_of Init = []
optional_of Serve = Count ∷ []
optional_of Once = Policy ∷ Db ∷ Now ∷ []
optional_of Import = Now ∷ []
optional_of Paths = []
optional_of Report = []
optional_of Export = []
optional_of DryRun = Now ∷ []
optional_of Why = Json ∷ []
optional_of Who = Volume ∷ Port ∷ Json ∷ []
optional_of Names = State ∷ Json ∷ []
optional_of Check = Policy ∷ PlanFile ∷ Ports ∷ []
optional_of Explain = Rules ∷ Caller ∷ Action ∷ Fabrics ∷ Tenants ∷ Author ∷ Approved ∷ Revision ∷ Now ∷ []
optional_of TryImport = MostLost ∷ Json ∷ []
optional_of Diff = Json ∷ []

-- ---- the same, as clap reads it

-- a word behind --, with one value, at most once; a value alone; or a word behind -- alone
abbrev pub rule_by : OptionShape → Bool → Text → Rule
rule_by shape.Value is_required name = record (new_rule name) { long = Some name; action = Some Set; required = is_required; value_names = 1 }
rule_by shape.Place is_required name = record (new_rule name) { action = Some Set; required = is_required; value_names = 1 }
rule_by shape.Flag is_required name = record (new_rule name) { long = Some name; action = Some SetTrue; required = is_required }

unfoldable pub option_rule : Bool → OptionKind → Rule
option_rule is_required option = rule_by (shape_of option) is_required (option_name option)

abbrev pub option_rules : Bool → List OptionKind → List Rule
option_rules is_required options = map (option_rule is_required) options

abbrev pub subcommand_shape : Subcommand → Shape
subcommand_shape s = record (new_app (subcommand_name s)).top { rules = (option_rules true (access_of s) ++ option_rules true (required_of s)) ++ option_rules false (optional_of s) }

unfoldable pub subcommand_app : Subcommand → App
subcommand_app s = record { top = subcommand_shape s; subs = [] }

-- the program, without which no subcommand no words are understood
unfoldable pub program_app : App
program_app = let app = new_app (codes "sandesk") in record app { top = record app.top { subcommand_required = true } }

abbrev pub with_subcommands : App → List Shape → App
with_subcommands app [] = app
with_subcommands app (s ∷ rest) = with_subcommands (with_subcommand app s) rest

unfoldable pub desk_app : App
desk_app = with_subcommands program_app (map (λ s. (subcommand_app s).top) all_subcommands)
