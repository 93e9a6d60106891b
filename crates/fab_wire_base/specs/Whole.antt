-- When the beginning of an input tells what all of it spells.
use Rattle.std.specs.Prelude.{ℕ, ◌≡◌, ◌<◌, ◌+◌, ◌⊎◌, List, ◌++◌, Bool, Some, length, map}
use Rattle.httparse.specs.Grammar.{MayBecomeRequest, RequestHead, print_request}
use Rattle.httparse.specs.Spans.{name_and_value}
use Rattle.fab_wire_base.specs.Limits.{most_head}
use Rattle.fab_wire_base.specs.Heads.{IsHead, HasNoHead}
use Rattle.fab_wire_base.specs.Asking.{asks, HeadAsks}
use Rattle.fab_wire_base.specs.Spelling.{Spelling, Spells}
use Rattle.fab_wire_base.specs.declared.kinds.Kind.{Kind}

-- every input that begins with these bytes spells one and the same, where these tokens are known
abbrev pub IsWhole : (List ℕ → Bool) → List ℕ → Type 0
IsWhole knows bytes = (spelling : Spelling) × ((more : List ℕ) → Spells knows (bytes ++ more) spelling)

-- the bytes have no head yet, and more bytes may make them one, for which there is room; or their head asks for a body of which some is lacking: so many bytes have to be there
abbrev pub Lacks : (List ℕ → Bool) → List ℕ → ℕ → Type 0
Lacks knows bytes size =
    (HasNoHead bytes × MayBecomeRequest bytes × (length bytes < most_head) × (size ≡ length bytes + 1))
    ⊎ ((head : RequestHead) × (rest : List ℕ) × (token : List ℕ) × (kind : Kind) × (body : ℕ)
    × IsHead bytes head rest × HeadAsks knows head.method head.target (map name_and_value head.fields) (asks token kind (Some body))
    × (length rest < body) × (size ≡ length (print_request head) + body))

-- what a beginning spells that is whole, each input spells that begins so
abbrev pub BeginningsTell : Type 0
BeginningsTell = (knows : List ℕ → Bool) (bytes more : List ℕ) (s : Spelling) → IsWhole knows bytes → Spells knows bytes s → Spells knows (bytes ++ more) s
