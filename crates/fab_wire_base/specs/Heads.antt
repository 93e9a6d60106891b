-- The head of a request at the beginning of an input, by httparse's grammar of RFC 9112.
use Rattle.std.specs.Prelude.{ℕ, ◌≤◌, List, length}
use Rattle.httparse.specs.Grammar.{RequestHead, ReadsRequest, print_request}
use Rattle.fab_wire_base.specs.Limits.{most_head}

-- the input is a head that is not too long, and then the rest
abbrev pub IsHead : List ℕ → RequestHead → List ℕ → Type 0
IsHead input head rest = ReadsRequest input head rest × (length (print_request head) ≤ most_head)

-- no beginning of the input that is not too long is a head
abbrev pub HasNoHead : List ℕ → Type 0
HasNoHead input = (head : RequestHead) (rest : List ℕ) → ¬ (IsHead input head rest)
