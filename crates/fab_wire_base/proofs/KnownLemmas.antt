-- Whoever asks is known.
use Rattle.std.proofs.Common.{◌≡◌, ℕ, List, [], Option, Some, None, Bool, true, false, refl, sym, subst, inl, inr, length, take, map}
use Rattle.std.specs.Prelude.{MatchBool, nat_le, if◌then◌else◌}
use Rattle.httparse.specs.Spans.{name_and_value}
use Rattle.fab_wire_base.specs.Callers.{known_token}
use Rattle.fab_wire_base.specs.Lines.{Line}
use Rattle.fab_wire_base.specs.Asking.{Asking, refuses, asks, HeadAsks, by_head, by_caller, by_route, by_method, by_length, by_size}
use Rattle.fab_wire_base.specs.Spelling.{Request, Spelling, request, refused, asked, SpellsBehind, Spells}
use Rattle.fab_wire_base.specs.Table.{kind_at, form_of, is_body}
use Rattle.fab_wire_base.specs.declared.fields.Length.{Length}
use Rattle.fab_wire_base.specs.declared.fields.Length.TheVariants as len
use Rattle.fab_wire_base.specs.declared.kinds.Kind.{Kind}
use Rattle.fab_wire_base.specs.declared.kinds.Route.{Route}
use Rattle.fab_wire_base.specs.declared.requests.Refusal.TheVariants as no

-- the token of what is asked for, if something is, has P
abbrev AsksBy : (List ℕ → Type 0) → Asking → Type 0
AsksBy P (refuses why) = Unit {0}
AsksBy P (asks token k size) = P token

by-if : (b : Bool) (P : List ℕ → Type 0) (x y : Asking) → AsksBy P x → AsksBy P y → AsksBy P (if b then x else y)
by-if true P x y h k = h
by-if false P x y h k = k

size-by : (P : List ℕ → Type 0) (token : List ℕ) (k : Kind) (length : Length) → P token → AsksBy P (by_size token k length)
size-by P token k len.Missing h = tt
size-by P token k (len.Is size) h = by-if (nat_le size 1048576) P _ _ h tt
size-by P token k len.Bad h = tt

length-by : (P : List ℕ → Type 0) (token : List ℕ) (k : Kind) (coded : Bool) (length : Length) → P token → AsksBy P (by_length token k coded length)
length-by P token k coded length h = by-if (is_body (form_of k)) P _ _ (by-if coded P _ _ tt (size-by P token k length h)) h

method-by : (P : List ℕ → Type 0) (token : List ℕ) (r : Route) (k : Option Kind) (coded : Bool) (length : Length) → P token → AsksBy P (by_method token r k coded length)
method-by P token r None coded length h = tt
method-by P token r (Some k) coded length h = length-by P token k coded length h

route-by : (P : List ℕ → Type 0) (token : List ℕ) (r : Option Route) (method : List ℕ) (coded : Bool) (length : Length) → P token → AsksBy P (by_route token r method coded length)
route-by P token None method coded length h = tt
route-by P token (Some r) method coded length h = method-by P token r (kind_at r method) coded length h

caller-by : (knows : List ℕ → Bool) (given : Option (List ℕ)) (r : Option Route) (method : List ℕ) (coded : Bool) (length : Length) → AsksBy (λ t. knows t ≡ true) (by_caller (known_token knows given) r method coded length)
caller-by knows None r method coded length = tt
caller-by knows (Some token) r method coded length = at (knows token) refl
  where
    at : (b : Bool) → knows token ≡ b → AsksBy (λ t. knows t ≡ true) (by_caller (if b then Some token else None) r method coded length)
    at true e = route-by (λ t. knows t ≡ true) token r method coded length e
    at false e = tt

head-by : (knows : List ℕ → Bool) (length : Length) (given : Option (List ℕ)) (r : Option Route) (method : List ℕ) (coded : Bool) → AsksBy (λ t. knows t ≡ true) (by_head length (known_token knows given) r method coded)
head-by knows len.Bad given r method coded = tt
head-by knows len.Missing given r method coded = caller-by knows given r method coded len.Missing
head-by knows (len.Is size) given r method coded = caller-by knows given r method coded (len.Is size)

-- a head asks by a known token
pub asks-known : (knows : List ℕ → Bool) (method target : List ℕ) (lines : List Line) (asking : Asking) → HeadAsks knows method target lines asking → AsksBy (λ t. knows t ≡ true) asking
asks-known knows method target lines asking (l, h, e) = subst (AsksBy (λ t. knows t ≡ true)) (sym e) (head-by knows l _ _ method _)

body-token : (b : Bool) (P : List ℕ → Type 0) (q p : Request) (other : Spelling) → P p.token → ((r : Request) → ¬ (asked r ≡ other)) → MatchBool b (asked q ≡ asked p) (asked q ≡ other) → P q.token
body-token true P q p other h no-other k = let same : p ≡ q = cc in subst (λ (r : Request). P r.token) same h
body-token false P q p other h no-other k = absurd (no-other q k)

-- the token of a request that is spelled is that of its head
same-token : (target rest : List ℕ) (asking : Asking) (P : List ℕ → Type 0) (q : Request) → AsksBy P asking → SpellsBehind target rest asking (asked q) → P q.token
same-token target rest (refuses why) P q h k = absurd (cc k)
same-token target rest (asks token what None) P q h k = let same : request token what target [] ≡ q = cc in subst (λ (p : Request). P p.token) same h
same-token target rest (asks token what (Some size)) P q h k =
    body-token (nat_le size (length rest)) P q (request token what target (take size rest)) (refused (no.BadBody 0)) h (λ r e. cc e) k

-- whoever sends the request that an input spells is known
pub asked_known : (knows : List ℕ → Bool) (input : List ℕ) (q : Request) → Spells knows input (asked q) → knows q.token ≡ true
asked_known knows input q (inl h) = absurd (cc h.1)
asked_known knows input q (inr (inl h)) = absurd (cc h.2)
asked_known knows input q (inr (inr (head, rest, is, (asking, h, k)))) =
    same-token head.target rest asking (λ t. knows t ≡ true) q (asks-known knows head.method head.target (map name_and_value head.fields) asking h) k
