-- Commands that grow by options and by subcommands.
use Rattle.std.proofs.Common.{◌≡◌, ℕ, ◌+◌, ◌<◌, List, [], ◌∷◌, ◌++◌, Bool, true, false, ◌||◌, Some, map, drop, get_or, length, refl, sym, ap, ◌∙◌, append_assoc, add-one}
use Rattle.std.proofs.Math.Seq.{drop-cons}
use Rattle.std.specs.Borrow.{Bor}
use Rattle.clap.specs.declared.builder.texts.Texts.TheVariants.{One}
use Rattle.clap.specs.Words.{AddsArg, AddsSubcommand, App, Rule, Shape, app_of, new_app, rule_of, shape_of, with_rule, with_subcommand}
use Rattle.clap.specs.declared.builder.action.ArgAction.TheVariants.{Set, SetTrue}
use Rattle.clap.specs.declared.builder.arg.Arg.{Arg}
use Rattle.clap.specs.declared.builder.command.Command.{Command}
use Rattle.clap.specs.declared.builder.command.Command.TheViews.{out-Command}
use Rattle.fab_program_words.specs.declared.options.OptionKind.{OptionKind}
use Rattle.fab_program_options.specs.declared.subcommands.Subcommand.{Subcommand}
use Rattle.fab_program_options.specs.CommandLine.{option_rule, option_rules, subcommand_app, with_subcommands}
use Rattle.fab_program_options.specs.Building.{Gains, with_rules}

or_false : (b : Bool) → (b || false) ≡ b
or_false true = refl
or_false false = refl

-- what the builder's methods make of an argument
pub option_made : (a : Arg) (long value help : Bor (List ℕ)) (r : Bool)
    → rule_of (record a { long = Some long; action = Some Set; required = r; val_names = One value; help = Some help }) ≡ record (rule_of a) { long = Some long.now; action = Some Set; required = r; value_names = 1 }
option_made a long value help r = refl

pub place_made : (a : Arg) (value help : Bor (List ℕ)) (r : Bool) → rule_of (record a { action = Some Set; required = r; val_names = One value; help = Some help }) ≡ record (rule_of a) { action = Some Set; required = r; value_names = 1 }
place_made a value help r = refl

pub flag_made : (a : Arg) (long help : Bor (List ℕ)) (r : Bool) → rule_of (record a { long = Some long; action = Some SetTrue; required = r; help = Some help }) ≡ record (rule_of a) { long = Some long.now; action = Some SetTrue; required = r }
flag_made a long help r = refl

one_rule : (a : App) (r : Rule) (rest : List Rule) → with_rules a (r ∷ rest) ≡ with_rules (with_rule a r) rest
one_rule a r rest = ap (λ (rules : List Rule). record a { top = record a.top { rules = rules } }) (sym (append_assoc a.top.rules (r ∷ []) rest))

-- the options from a place on are still to come
pub record IsGrowing (old now : Command) (whole left : List Rule) : Type 0 where
  pub app : with_rules (app_of now) left ≡ with_rules (app_of old) whole
  pub globals : (out-Command now).has_globals ≡ (out-Command old).has_globals

pub growing_more : (old now new : Command) (arg : Arg) (whole : List Rule) (is_required : Bool) (options : List OptionKind) (i : ℕ) (d : OptionKind) → i < length options
    → IsGrowing old now whole (option_rules is_required (drop i options)) → AddsArg now arg new → rule_of arg ≡ option_rule is_required (get_or options i d) → arg.global ≡ false
    → IsGrowing old new whole (option_rules is_required (drop (i + 1) options))
growing_more old now new arg whole is_required options i d lt so adds is local =
    let rest : List OptionKind = drop (i + 1) options in
    let cut : drop i options ≡ get_or options i d ∷ rest = rw add-one (drop-cons options i d lt) in
    let first : option_rules is_required (drop i options) ≡ rule_of arg ∷ option_rules is_required rest = ap (option_rules is_required) cut ∙ ap (λ (r : Rule). r ∷ option_rules is_required rest) (sym is) in
    let grown : with_rules (app_of new) (option_rules is_required rest) ≡ with_rules (app_of now) (rule_of arg ∷ option_rules is_required rest) = ap (λ (a : App). with_rules a (option_rules is_required rest)) (adds.shape local) ∙ sym (one_rule (app_of now) (rule_of arg) (option_rules is_required rest)) in
    record {
      app = grown ∙ ap (with_rules (app_of now)) (sym first) ∙ so.app;
      globals = adds.globals ∙ ap (λ (b : Bool). (out-Command now).has_globals || b) local ∙ or_false ((out-Command now).has_globals) ∙ so.globals;
    }

-- a subcommand more
pub subcommand_more : (now sub new : Command) (s : Shape) (rest whole : List Shape) (all : App) → with_subcommands (app_of now) whole ≡ all → whole ≡ s ∷ rest → AddsSubcommand now sub new
    → (out-Command sub).has_globals ≡ false → shape_of sub ≡ s → with_subcommands (app_of new) rest ≡ all
subcommand_more now sub new s rest whole all so cut adds local is =
    ap (λ (a : App). with_subcommands a rest) (adds.shape local ∙ ap (with_subcommand (app_of now)) is)
    ∙ ap (with_subcommands (app_of now)) (sym cut)
    ∙ so

-- a subcommand with its options
pub subcommand_made : (name : List ℕ) (base one two three : Command) (access required optional : List Rule) → app_of base ≡ new_app name → Gains base access one → Gains one required two → Gains two optional three
    → app_of three ≡ record { top = record (new_app name).top { rules = (access ++ required) ++ optional }; subs = [] }
subcommand_made name base one two three access required optional is first second third =
    third.app ∙ ap (λ (a : App). with_rules a optional) (second.app ∙ ap (λ (a : App). with_rules a required) (first.app ∙ ap (λ (a : App). with_rules a access) is))

abbrev shapes : List Subcommand → List Shape
shapes subcommands = map (λ s. (subcommand_app s).top) subcommands

-- the next subcommand of a list
pub subcommand_next : (now sub new : Command) (all : App) (list : List Subcommand) (i : ℕ) (d : Subcommand) → i < length list → with_subcommands (app_of now) (shapes (drop i list)) ≡ all → AddsSubcommand now sub new
    → (out-Command sub).has_globals ≡ false → app_of sub ≡ subcommand_app (get_or list i d) → with_subcommands (app_of new) (shapes (drop (i + 1) list)) ≡ all
subcommand_next now sub new all list i d lt so adds local is =
    let cut : drop i list ≡ get_or list i d ∷ drop (i + 1) list = rw add-one (drop-cons list i d lt) in
    subcommand_more now sub new (subcommand_app (get_or list i d)).top (shapes (drop (i + 1) list)) (shapes (drop i list)) all so (ap shapes cut) adds local (ap (λ (a : App). a.top) is)
