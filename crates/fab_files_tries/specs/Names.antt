-- Names of hosts, one behind the other.
use Rattle.std.specs.Prelude.{ℕ, List, [], ◌∷◌, ◌++◌, length, Bool, true, false, nat_eq, codes, decimal}
use Rattle.std.specs.List.{flat_map}

abbrev pub hosts_word_if : Bool → List ℕ
hosts_word_if true = codes " host"
hosts_word_if false = codes " hosts"

-- host or hosts, behind a space
abbrev pub hosts_word : ℕ → List ℕ
hosts_word count = hosts_word_if (nat_eq count 1)

-- a name behind a space
unfoldable pub spaced : List ℕ → List ℕ
spaced name = codes " " ++ name

abbrev pub spaced_names : List (List ℕ) → List ℕ
spaced_names hosts = flat_map spaced hosts

-- how many hosts there are
unfoldable pub count_text : ℕ → List ℕ
count_text count = codes " " ++ (decimal count ++ (hosts_word count ++ codes ":"))

-- and their names
abbrev pub counted_text : List (List ℕ) → List ℕ
counted_text hosts = count_text (length hosts) ++ spaced_names hosts

-- the same, or that there is none
abbrev pub hosts_text : List (List ℕ) → List ℕ
hosts_text [] = codes " none"
hosts_text (host ∷ hosts) = counted_text (host ∷ hosts)

-- the names alone, or that there is none
abbrev pub listed_text : List (List ℕ) → List ℕ
listed_text [] = codes " none"
listed_text (host ∷ hosts) = spaced_names (host ∷ hosts)
