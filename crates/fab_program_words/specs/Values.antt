-- The text forms of values.
use Rattle.std.specs.Prelude.{ℕ, ◌≡◌, ◌<◌, ◌^◌, List, Option, Some, None, Bool, false, codes}
use Rattle.std.specs.Str.{bytes_eq}
use Rattle.fab_names.specs.Numbers.{SpellsNumber}
use Rattle.fab_names.specs.Tokens.{IsTokenText}
use Rattle.fab_program_words.specs.declared.words.ActionWord.{ActionWord}
use Rattle.fab_program_words.specs.declared.words.ActionWord.TheVariants as action
use Rattle.fab_program_words.specs.declared.words.NamedFabrics.{NamedFabrics}
use Rattle.fab_program_words.specs.declared.words.NamedFabrics.TheVariants as fabrics
use Rattle.fab_program_words.specs.declared.words.ListKind.{ListKind}
use Rattle.fab_program_words.specs.declared.words.ListKind.TheVariants as kind
use Rattle.fab_program_words.specs.declared.words.ListState.{ListState}
use Rattle.fab_program_words.specs.declared.words.ListState.TheVariants as state

-- a value was given, and its text spells x
abbrev pub Has : {X : Type 0} → (List ℕ → X → Type 0) → Option (List ℕ) → X → Type 0
Has Spells None x = ⊥
Has Spells (Some text) x = Spells text x

-- a value was given and its text spells x, or none was given
abbrev pub MayHave : {X : Type 0} → (List ℕ → X → Type 0) → Option (List ℕ) → Option X → Type 0
MayHave Spells None None = Unit {0}
MayHave Spells None (Some x) = ⊥
MayHave Spells (Some text) None = ⊥
MayHave Spells (Some text) (Some x) = Spells text x

-- any text, for itself
abbrev pub SpellsText : List ℕ → List ℕ → Type 0
SpellsText text x = x ≡ text

-- a text of the form of a token, for itself
abbrev pub SpellsToken : List ℕ → List ℕ → Type 0
SpellsToken text x = (x ≡ text) × IsTokenText text

-- the word of a kind of list
abbrev pub kind_text : ListKind → List ℕ
kind_text kind.Hosts = codes "hosts"
kind_text kind.Arrays = codes "arrays"
kind_text kind.Volumes = codes "volumes"
kind_text kind.Ports = codes "ports"
kind_text kind.Aliases = codes "aliases"
kind_text kind.Zones = codes "zones"
kind_text kind.Sets = codes "sets"
kind_text kind.HostGroups = codes "host-groups"
kind_text kind.Groups = codes "groups"
kind_text kind.Plans = codes "plans"

-- the word of a state of plans
abbrev pub list_state_text : ListState → List ℕ
list_state_text state.Staged = codes "staged"
list_state_text state.Active = codes "active"
list_state_text state.RolledBack = codes "rolled-back"
list_state_text state.Withdrawn = codes "withdrawn"

-- the word of a state of plans, for it
abbrev pub SpellsState : List ℕ → ListState → Type 0
SpellsState text s = text ≡ list_state_text s

-- the word of a kind of list, for it
abbrev pub SpellsKind : List ℕ → ListKind → Type 0
SpellsKind text k = text ≡ kind_text k

-- whether a word without a value was given: its text is that of true
abbrev pub is_given : Option (List ℕ) → Bool
is_given None = false
is_given (Some text) = bytes_eq text (codes "true")

-- the fabrics that a command names, with a comma between
abbrev pub fabrics_text : NamedFabrics → List ℕ
fabrics_text fabrics.A = codes "A"
fabrics_text fabrics.B = codes "B"
fabrics_text fabrics.Both = codes "A,B"

abbrev pub SpellsFabrics : List ℕ → NamedFabrics → Type 0
SpellsFabrics text f = text ≡ fabrics_text f

-- the word of an action
abbrev pub action_text : ActionWord → List ℕ
action_text action.Import = codes "import"
action_text action.Inventory = codes "inventory"
action_text action.Stage = codes "stage"
action_text action.Withdraw = codes "withdraw"
action_text action.Approve = codes "approve"
action_text action.DryRun = codes "dryrun"
action_text action.Activate = codes "activate"
action_text action.Rollback = codes "rollback"

-- the word of an action, for it
abbrev pub SpellsAction : List ℕ → ActionWord → Type 0
SpellsAction text a = text ≡ action_text a

-- a number text of 0 to 18446744073709551615
abbrev pub SpellsNumber64 : List ℕ → ℕ → Type 0
SpellsNumber64 text n = SpellsNumber text n × (n < 2 ^ 64)
