-- What the head of a request asks for: its checks, in their order.
use Rattle.std.specs.Prelude.{ℕ, ◌≡◌, List, [], ◌∷◌, Bool, false, ◌&&◌, ◌==◌, not, nat_le, if◌then◌else◌, Option, Some, None, codes}
use Rattle.std.specs.List.{list_any}
use Rattle.fab_wire_base.specs.Limits.{most_body}
use Rattle.fab_wire_base.specs.Lines.{Line, values_of}
use Rattle.fab_wire_base.specs.Fields.{IsLengthOf, is_given}
use Rattle.fab_wire_base.specs.Callers.{caller_of}
use Rattle.fab_wire_base.specs.Table.{kind_at, form_of, is_body}
use Rattle.fab_wire_base.specs.Routes.{route_of}
use Rattle.fab_wire_base.specs.declared.fields.Length.{Length}
use Rattle.fab_wire_base.specs.declared.fields.Length.TheVariants as lengths
use Rattle.fab_wire_base.specs.declared.kinds.Kind.{Kind}
use Rattle.fab_wire_base.specs.declared.kinds.Route.{Route}
use Rattle.fab_wire_base.specs.declared.requests.Refusal.{Refusal}
use Rattle.fab_wire_base.specs.declared.requests.Refusal.TheVariants as no
use Rattle.fab_wire_base.specs.declared.requests.Judged.{Judged}
use Rattle.fab_wire_base.specs.declared.requests.Judged.TheVariants as judged

-- what a head comes to: a refusal, or a caller's token, what it asks for, and the length of its body if it takes one
pub data Asking : Type 0 where
  refuses : Refusal → Asking
  asks : List ℕ → Kind → Option ℕ → Asking

-- the same of what the code answers
abbrev pub asking_of : Judged → Asking
asking_of (judged.Refused why) = refuses why
asking_of (judged.Asks token k size) = asks token.now k size

-- a target that is a path: it begins with a slash and has no question mark
abbrev pub is_path : List ℕ → Bool
is_path [] = false
is_path (b ∷ rest) = (b == 47) && not (list_any (λ c. c == 63) rest)

-- the route of a target
abbrev pub target_route : List ℕ → Option Route
target_route target = if is_path target then route_of target else None

-- the size of a body, which has a limit
abbrev pub by_size : List ℕ → Kind → Length → Asking
by_size token k lengths.Missing = refuses no.NoLength
by_size token k (lengths.Is size) = if nat_le size most_body then asks token k (Some size) else refuses no.TooLarge
by_size token k lengths.Bad = refuses no.BadHead

-- the length: what takes a body wants one, and no transfer coding
abbrev pub by_length : List ℕ → Kind → Bool → Length → Asking
by_length token k coded length =
    if is_body (form_of k) then (if coded then refuses no.NoLength else by_size token k length) else asks token k None

-- the method
abbrev pub by_method : List ℕ → Route → Option Kind → Bool → Length → Asking
by_method token r None coded length = refuses (no.BadMethod r)
by_method token r (Some k) coded length = by_length token k coded length

-- the route
abbrev pub by_route : List ℕ → Option Route → List ℕ → Bool → Length → Asking
by_route token None method coded length = refuses no.NoRoute
by_route token (Some r) method coded length = by_method token r (kind_at r method) coded length

-- the caller
abbrev pub by_caller : Option (List ℕ) → Option Route → List ℕ → Bool → Length → Asking
by_caller None r method coded length = refuses no.NoCaller
by_caller (Some token) r method coded length = by_route token r method coded length

-- the lengths, which are judged on every request, and before all else
abbrev pub by_head : Length → Option (List ℕ) → Option Route → List ℕ → Bool → Asking
by_head lengths.Bad caller r method coded = refuses no.BadHead
by_head lengths.Missing caller r method coded = by_caller caller r method coded lengths.Missing
by_head (lengths.Is size) caller r method coded = by_caller caller r method coded (lengths.Is size)

-- a head of this method, target and lines comes to this, where these tokens are known
abbrev pub HeadAsks : (List ℕ → Bool) → List ℕ → List ℕ → List Line → Asking → Type 0
HeadAsks knows method target lines asking =
    (length : Length) × IsLengthOf (values_of (codes "content-length") lines) length
    × (asking ≡ by_head length (caller_of knows lines) (target_route target) method (is_given (values_of (codes "transfer-encoding") lines)))

-- the same of what the code answers
abbrev pub JudgesHead : (List ℕ → Bool) → List ℕ → List ℕ → List Line → Judged → Type 0
JudgesHead knows method target lines answer = HeadAsks knows method target lines (asking_of answer)
