-- The lines of what is worth a look in a file.
use Rattle.std.specs.Prelude.{ℕ, ◌+◌, ◌/◌, ◌%◌, Bool, true, false, nat_eq, List, [], ◌∷◌, ◌++◌, Option, Some, None, codes, decimal}
use Rattle.std.specs.List.{flat_map}
use Rattle.fab_policy_base.specs.Words.{action_word}
use Rattle.fab_policy_looks.specs.declared.warnings.Warning.{Warning}
use Rattle.fab_policy_looks.specs.declared.warnings.Warning.TheVariants as warning
use Rattle.fab_program_checks.specs.declared.findings.Finding.{Finding}
use Rattle.fab_program_checks.specs.declared.findings.Finding.TheVariants as finding

-- what is worth a look in a file of which this is found
abbrev pub warnings_in : Finding → List Warning
warnings_in (finding.Warned ws) = ws.items
warnings_in other = []

-- a rule by its number and its name, and what is said of it
unfoldable pub rule_words : ℕ → List ℕ → List ℕ → List ℕ
rule_words number name said = codes "rule " ++ (decimal number ++ (codes " `" ++ (name ++ (codes "` " ++ said))))

-- and that with a word at its end
unfoldable pub naming_words : List ℕ → List ℕ → List ℕ
naming_words word said = word ++ said

-- fewer callers may approve than are asked for
unfoldable pub more_words : ℕ → ℕ → List ℕ
more_words asked there = decimal asked ++ (codes " > " ++ decimal there)

-- nobody may do it
unfoldable pub unruled_words : List ℕ → List ℕ
unruled_words word = codes "no rule is about `" ++ (word ++ codes "`: nobody may do it")

abbrev pub warning_words : Warning → List ℕ
warning_words (warning.Fabric n name) = rule_words n name (codes "is about a fabric, and no command of its actions names one")
warning_words (warning.Role n name role) = rule_words n name (codes "asks for role `") ++ naming_words role (codes "`, which no caller has")
warning_words (warning.Window n name window) = rule_words n name (codes "asks for window `") ++ naming_words window (codes "`, which is never open")
warning_words (warning.Plan n name) = rule_words n name (codes "asks for approvals, and no command of its actions is about a plan")
warning_words (warning.Early n name action) = rule_words n name (codes "asks for approvals of `") ++ naming_words (action_word action) (codes "`, before which a plan has none")
warning_words (warning.Approvals n name asked there) = rule_words n name (codes "asks for more approvals than callers may give: ") ++ more_words asked there
warning_words (warning.Unruled action) = unruled_words (action_word action)

-- the path, and that it is a warning
unfoldable pub warning_head : List ℕ → List ℕ
warning_head path = path ++ codes ": warning: "

abbrev pub warning_line : List ℕ → Warning → List ℕ
warning_line path w = warning_head path ++ (warning_words w ++ 10 ∷ [])

abbrev pub warning_lines : List ℕ → List Warning → List ℕ
warning_lines path ws = flat_map (warning_line path) ws

-- whether others than the owner and the group may read a file of this mode
abbrev pub is_open_mode : ℕ → Bool
is_open_mode mode = nat_eq (mode / 4 % 2) 1

-- an octal digit, and the last four of a number
abbrev pub octal_digit : ℕ → ℕ
octal_digit n = 48 + n % 8

unfoldable pub octal : ℕ → List ℕ
octal n = octal_digit (n / 512) ∷ octal_digit (n / 64) ∷ octal_digit (n / 8) ∷ octal_digit n ∷ []

unfoldable pub mode_words : ℕ → List ℕ
mode_words mode = codes "mode " ++ octal mode

abbrev pub open_line : List ℕ → ℕ → List ℕ
open_line path mode = warning_head path ++ (mode_words mode ++ codes ": others may read the tokens\n")

abbrev pub mode_line_if : Bool → List ℕ → ℕ → List ℕ
mode_line_if true path mode = open_line path mode
mode_line_if false path mode = []

abbrev pub mode_line : List ℕ → Option ℕ → List ℕ
mode_line path None = []
mode_line path (Some mode) = mode_line_if (is_open_mode mode) path mode
