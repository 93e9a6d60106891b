-- What the words of a command line ask for.
use Rattle.std.specs.Prelude.{◌≡◌, true, false, List, [], Option, Some, None, IfSome, option_map}
use Rattle.clap.specs.Words.{Row, Text, fault_of, subcommand_of}
use Rattle.fab_names.specs.Names.{SpellsName}
use Rattle.fab_names.specs.Fabrics.{SpellsFabric}
use Rattle.fab_names.specs.WorldWideNames.{SpellsWwn}
use Rattle.fab_program_options.specs.CommandLine.{desk_app, subcommand_name}
use Rattle.fab_program_words.specs.Options.{value_of}
use Rattle.fab_program_words.specs.Values.{Has, MayHave, SpellsText, SpellsToken, SpellsNumber64, SpellsKind, SpellsState, SpellsFabrics, SpellsAction, is_given}
use Rattle.fab_program_words.specs.Lists.{SpellsList}
use Rattle.fab_program_words.specs.declared.lists.Part.TheVariants as part
use Rattle.fab_program_words.specs.declared.options.OptionKind.TheVariants as option
use Rattle.fab_program_options.specs.declared.subcommands.Subcommand.{Subcommand}
use Rattle.fab_program_options.specs.declared.subcommands.Subcommand.TheVariants as subcommand
use Rattle.fab_program_options.specs.declared.reading.WordsFault.{WordsFault}
use Rattle.fab_program_options.specs.declared.reading.WordsFault.TheVariants.{Refused, BadText, Memory}
use Rattle.fab_program_words.specs.declared.words.Access.{Access}
use Rattle.fab_program_words.specs.declared.words.Init.{Init}
use Rattle.fab_program_words.specs.declared.words.Serve.{Serve}
use Rattle.fab_program_words.specs.declared.words.Over.{Over}
use Rattle.fab_program_words.specs.declared.words.Over.TheVariants as over
use Rattle.fab_program_words.specs.declared.words.Once.{Once}
use Rattle.fab_program_words.specs.declared.words.Import.{Import}
use Rattle.fab_program_words.specs.declared.words.Paths.{Paths}
use Rattle.fab_program_words.specs.declared.words.Export.{Export}
use Rattle.fab_program_words.specs.declared.words.DryRun.{DryRun}
use Rattle.fab_program_words.specs.declared.words.Why.{Why}
use Rattle.fab_program_words.specs.declared.words.Who.{Who}
use Rattle.fab_program_words.specs.declared.words.WhoOf.{WhoOf}
use Rattle.fab_program_words.specs.declared.words.WhoOf.TheVariants as of
use Rattle.fab_program_words.specs.declared.words.Names.{Names}
use Rattle.fab_program_words.specs.declared.words.ListKind.TheVariants as list
use Rattle.fab_program_words.specs.declared.words.Deed.{Deed}
use Rattle.fab_program_words.specs.declared.words.Explain.{Explain}
use Rattle.fab_program_words.specs.declared.words.ExplainOf.{ExplainOf}
use Rattle.fab_program_words.specs.declared.words.ExplainOf.TheVariants as explain
use Rattle.fab_program_words.specs.declared.words.TryImport.{TryImport}
use Rattle.fab_program_words.specs.declared.words.Diff.{Diff}
use Rattle.fab_program_words.specs.declared.words.Check.{Check}
use Rattle.fab_program_words.specs.declared.words.Check.TheVariants as check
use Rattle.fab_program_words.specs.declared.words.Words.{Words}
use Rattle.fab_program_words.specs.declared.words.Words.TheVariants as words

-- ---- what the values of a subcommand's options ask for

pub record IsAccess (rows : List Row) (w : Access) : Type 0 where
  pub db : Has SpellsText (value_of option.Db rows) w.db.now
  pub policy : Has SpellsText (value_of option.Policy rows) w.policy.now
  pub token : Has SpellsToken (value_of option.Token rows) w.token.now

pub record IsInit (rows : List Row) (w : Init) : Type 0 where
  pub db : Has SpellsText (value_of option.Db rows) w.db.now

pub record IsServe (rows : List Row) (w : Serve) : Type 0 where
  pub db : Has SpellsText (value_of option.Db rows) w.db.now
  pub policy : Has SpellsText (value_of option.Policy rows) w.policy.now
  pub listen : Has SpellsText (value_of option.Listen rows) w.listen.now
  pub count : MayHave SpellsNumber64 (value_of option.Count rows) w.count

-- a new desk in memory, under the sample policy or another, or the desk of a database under a policy
abbrev pub IsOver : List Row → Over → Type 0
IsOver rows over.Trial = (value_of option.Policy rows ≡ None) × (value_of option.Db rows ≡ None)
IsOver rows (over.Memory policy) = Has SpellsText (value_of option.Policy rows) policy.now × (value_of option.Db rows ≡ None)
IsOver rows (over.Database policy db) = Has SpellsText (value_of option.Policy rows) policy.now × Has SpellsText (value_of option.Db rows) db.now

pub record IsOnce (rows : List Row) (w : Once) : Type 0 where
  pub over : IsOver rows w.over
  pub now : MayHave SpellsNumber64 (value_of option.Now rows) w.now

pub record IsImport (rows : List Row) (w : Import) : Type 0 where
  pub access : IsAccess rows w.access
  pub fabric : Has SpellsFabric (value_of option.Fabric rows) w.fabric
  pub file : Has SpellsText (value_of option.File rows) w.file.now
  pub now : MayHave SpellsNumber64 (value_of option.Now rows) w.now

pub record IsPaths (rows : List Row) (w : Paths) : Type 0 where
  pub access : IsAccess rows w.access
  pub host : Has SpellsName (value_of option.Host rows) w.host

pub record IsExport (rows : List Row) (w : Export) : Type 0 where
  pub access : IsAccess rows w.access
  pub fabric : Has SpellsFabric (value_of option.Fabric rows) w.fabric

pub record IsDryRun (rows : List Row) (w : DryRun) : Type 0 where
  pub access : IsAccess rows w.access
  pub plan : Has SpellsName (value_of option.Plan rows) w.plan
  pub now : MayHave SpellsNumber64 (value_of option.Now rows) w.now

pub record IsWhy (rows : List Row) (w : Why) : Type 0 where
  pub access : IsAccess rows w.access
  pub host : Has SpellsName (value_of option.Host rows) w.host
  pub volume : Has SpellsName (value_of option.Volume rows) w.volume
  pub json : w.is_json ≡ is_given (value_of option.Json rows)

-- a volume or a port, and not both
abbrev pub IsWhoOf : List Row → WhoOf → Type 0
IsWhoOf rows (of.Volume volume) = Has SpellsName (value_of option.Volume rows) volume × (value_of option.Port rows ≡ None)
IsWhoOf rows (of.Port port) = (value_of option.Volume rows ≡ None) × Has SpellsWwn (value_of option.Port rows) port

pub record IsWho (rows : List Row) (w : Who) : Type 0 where
  pub access : IsAccess rows w.access
  pub of : IsWhoOf rows w.of
  pub json : w.is_json ≡ is_given (value_of option.Json rows)

pub record IsNames (rows : List Row) (w : Names) : Type 0 where
  pub access : IsAccess rows w.access
  pub kind : Has SpellsKind (value_of option.Kind rows) w.kind
  pub state : MayHave SpellsState (value_of option.State rows) w.state
  pub of_plans : IfSome w.state (λ s. w.kind ≡ list.Plans)
  pub json : w.is_json ≡ is_given (value_of option.Json rows)

-- the file of one of the three kinds, and of no other
abbrev pub IsCheck : List Row → Check → Type 0
IsCheck rows (check.Policy path) = Has SpellsText (value_of option.Policy rows) path.now × (value_of option.PlanFile rows ≡ None) × (value_of option.Ports rows ≡ None)
IsCheck rows (check.Plan path) = (value_of option.Policy rows ≡ None) × Has SpellsText (value_of option.PlanFile rows) path.now × (value_of option.Ports rows ≡ None)
IsCheck rows (check.Ports path) = (value_of option.Policy rows ≡ None) × (value_of option.PlanFile rows ≡ None) × Has SpellsText (value_of option.Ports rows) path.now

-- a command: its values, and a list for itself
pub record IsDeed (rows : List Row) (w : Deed) : Type 0 where
  pub caller : Has SpellsName (value_of option.Caller rows) w.caller
  pub action : Has SpellsAction (value_of option.Action rows) w.action
  pub fabrics : MayHave SpellsFabrics (value_of option.Fabrics rows) w.fabrics
  pub tenants : MayHave (SpellsList part.Name) (value_of option.Tenants rows) (option_map (λ text. text.now) w.tenants)
  pub author : MayHave SpellsName (value_of option.Author rows) w.author
  pub approved : MayHave (SpellsList part.Approval) (value_of option.Approved rows) (option_map (λ text. text.now) w.approved)
  pub revision : MayHave SpellsNumber64 (value_of option.Revision rows) w.revision
  pub now : MayHave SpellsNumber64 (value_of option.Now rows) w.now

-- the rules and no command, or a command and not the rules
abbrev pub IsExplainOf : List Row → ExplainOf → Type 0
IsExplainOf rows explain.Rules = (is_given (value_of option.Rules rows) ≡ true) × (value_of option.Caller rows ≡ None) × (value_of option.Action rows ≡ None)
IsExplainOf rows (explain.Deed deed) = (is_given (value_of option.Rules rows) ≡ false) × IsDeed rows deed

pub record IsExplain (rows : List Row) (w : Explain) : Type 0 where
  pub policy : Has SpellsText (value_of option.Policy rows) w.policy.now
  pub of : IsExplainOf rows w.of

pub record IsTryImport (rows : List Row) (w : TryImport) : Type 0 where
  pub access : IsAccess rows w.access
  pub fabric : Has SpellsFabric (value_of option.Fabric rows) w.fabric
  pub file : Has SpellsText (value_of option.File rows) w.file.now
  pub most_lost : MayHave SpellsNumber64 (value_of option.MostLost rows) w.most_lost
  pub json : w.is_json ≡ is_given (value_of option.Json rows)

pub record IsDiff (rows : List Row) (w : Diff) : Type 0 where
  pub access : IsAccess rows w.access
  pub plan : Has SpellsName (value_of option.Plan rows) w.plan
  pub json : w.is_json ≡ is_given (value_of option.Json rows)

-- ---- what the words ask for

abbrev pub subcommand_in : Words → Subcommand
subcommand_in (words.Init w) = subcommand.Init
subcommand_in (words.Serve w) = subcommand.Serve
subcommand_in (words.Once w) = subcommand.Once
subcommand_in (words.Import w) = subcommand.Import
subcommand_in (words.Paths w) = subcommand.Paths
subcommand_in (words.Report w) = subcommand.Report
subcommand_in (words.Export w) = subcommand.Export
subcommand_in (words.DryRun w) = subcommand.DryRun
subcommand_in (words.Why w) = subcommand.Why
subcommand_in (words.Who w) = subcommand.Who
subcommand_in (words.Names w) = subcommand.Names
subcommand_in (words.Check w) = subcommand.Check
subcommand_in (words.Explain w) = subcommand.Explain
subcommand_in (words.TryImport w) = subcommand.TryImport
subcommand_in (words.Diff w) = subcommand.Diff

abbrev pub HasValues : List Row → Words → Type 0
HasValues rows (words.Init w) = IsInit rows w
HasValues rows (words.Serve w) = IsServe rows w
HasValues rows (words.Once w) = IsOnce rows w
HasValues rows (words.Import w) = IsImport rows w
HasValues rows (words.Paths w) = IsPaths rows w
HasValues rows (words.Report w) = IsPaths rows w
HasValues rows (words.Export w) = IsExport rows w
HasValues rows (words.DryRun w) = IsDryRun rows w
HasValues rows (words.Why w) = IsWhy rows w
HasValues rows (words.Who w) = IsWho rows w
HasValues rows (words.Names w) = IsNames rows w
HasValues rows (words.Check w) = IsCheck rows w
HasValues rows (words.Explain w) = IsExplain rows w
HasValues rows (words.TryImport w) = IsTryImport rows w
HasValues rows (words.Diff w) = IsDiff rows w

-- the subcommand that clap found, and its options, ask for w
abbrev pub IsAsked : Option (Text × List Row) → Words → Type 0
IsAsked None w = ⊥
IsAsked (Some found) w = (found.0 ≡ subcommand_name (subcommand_in w)) × HasValues found.1 w

-- the words, of which the first is the program's name, are understood: clap finds no fault in them
abbrev pub AreUnderstood : List Text → Type 0
AreUnderstood line = fault_of desk_app line ≡ []

-- the words are understood, and ask for w
pub record Asks (line : List Text) (w : Words) : Type 0 where
  pub understood : AreUnderstood line
  pub asked : IsAsked (subcommand_of desk_app line) w

-- why the words ask for nothing: they are not understood, or they are and a value has not its text form
abbrev pub IsReason : List Text → WordsFault → Type 0
IsReason line (Refused error) = ¬ AreUnderstood line
IsReason line BadText = AreUnderstood line × ((w : Words) → ¬ IsAsked (subcommand_of desk_app line) w)
IsReason line Memory = Unit {0}
