-- What the input of a connection spells.
use Rattle.std.specs.Prelude.{ℕ, ◌≡◌, ◌<◌, ◌⊎◌, List, [], Bool, true, Some, None, length, take, map, nat_le, MatchBool}
use Rattle.httparse.specs.Grammar.{RequestHead}
use Rattle.httparse.specs.Spans.{name_and_value}
use Rattle.fab_wire_base.specs.Heads.{IsHead, HasNoHead}
use Rattle.fab_wire_base.specs.Asking.{Asking, refuses, asks, HeadAsks}
use Rattle.fab_wire_base.specs.declared.kinds.Kind.{Kind}
use Rattle.fab_wire_base.specs.declared.requests.Refusal.{Refusal}
use Rattle.fab_wire_base.specs.declared.requests.Refusal.TheVariants as no

-- a request: the token that its sender shows, what it asks for, its target, and its body, which is empty where none is taken
pub record Request : Type 0 where
  pub token : List ℕ
  pub kind : Kind
  pub target : List ℕ
  pub body : List ℕ

abbrev pub request : List ℕ → Kind → List ℕ → List ℕ → Request
request token k target body = record { token = token; kind = k; target = target; body = body }

-- nothing, a refusal, or a request
pub data Spelling : Type 0 where
  nothing : Spelling
  refused : Refusal → Spelling
  asked : Request → Spelling

-- what a head asks for, and the bytes behind it, spell: a refusal; a request without a body; or one with the body, if all of it is there
abbrev pub SpellsBehind : List ℕ → List ℕ → Asking → Spelling → Type 0
SpellsBehind target rest (refuses why) spelling = spelling ≡ refused why
SpellsBehind target rest (asks token k None) spelling = spelling ≡ asked (request token k target [])
SpellsBehind target rest (asks token k (Some size)) spelling =
    MatchBool (nat_le size (length rest)) (spelling ≡ asked (request token k target (take size rest))) (spelling ≡ refused (no.BadBody 0))

-- a head and the bytes behind it spell, where these tokens are known
abbrev pub SpellsRequest : (List ℕ → Bool) → RequestHead → List ℕ → Spelling → Type 0
SpellsRequest knows head rest spelling =
    (asking : Asking) × HeadAsks knows head.method head.target (map name_and_value head.fields) asking × SpellsBehind head.target rest asking spelling

-- where these tokens are known, an input spells nothing where it is empty, a bad head where no beginning of it is a head, and else what its head and the bytes behind that spell
abbrev pub Spells : (List ℕ → Bool) → List ℕ → Spelling → Type 0
Spells knows input spelling =
    ((input ≡ []) × (spelling ≡ nothing))
    ⊎ (((0 < length input) × HasNoHead input × (spelling ≡ refused no.BadHead))
    ⊎ ((head : RequestHead) × (rest : List ℕ) × IsHead input head rest × SpellsRequest knows head rest spelling))

-- whoever sends what an input spells is known
abbrev pub AskedIsKnown : Type 0
AskedIsKnown = (knows : List ℕ → Bool) (input : List ℕ) (q : Request) → Spells knows input (asked q) → knows q.token ≡ true

-- an input spells one thing
abbrev pub SpellsOne : Type 0
SpellsOne = (knows : List ℕ → Bool) (input : List ℕ) (s t : Spelling) → Spells knows input s → Spells knows input t → s ≡ t

-- an input spells something: it can't be that it spells none of all
abbrev pub SpellsSome : Type 0
SpellsSome = (knows : List ℕ → Bool) (input : List ℕ) → ¬ ((spelling : Spelling) → ¬ (Spells knows input spelling))
