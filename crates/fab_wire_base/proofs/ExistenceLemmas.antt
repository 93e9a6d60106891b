-- No input spells nothing at all.
use Rattle.std.proofs.Common.{◌≡◌, ℕ, List, [], ◌∷◌, length, take, map, Some, None, Bool, true, false, refl, arith, inl, inr, codes}
use Rattle.std.specs.Prelude.{MatchBool, nat_le}
use Rattle.httparse.specs.Grammar.{RequestHead}
use Rattle.httparse.specs.Spans.{name_and_value}
use Rattle.fab_wire_base.specs.Lines.{values_of}
use Rattle.fab_wire_base.specs.Fields.{IsLengthOf, is_given}
use Rattle.fab_wire_base.specs.Callers.{caller_of}
use Rattle.fab_wire_base.specs.Asking.{Asking, refuses, asks, by_head, target_route}
use Rattle.fab_wire_base.specs.Spelling.{Spelling, request, nothing, refused, asked, SpellsBehind, SpellsRequest, Spells}
use Rattle.fab_wire_base.specs.declared.fields.Length.{Length}
use Rattle.fab_wire_base.specs.declared.fields.Length.TheVariants as len
use Rattle.fab_wire_base.specs.declared.requests.Refusal.TheVariants as no

some-body : (b : Bool) (x y : Spelling) → ((s : Spelling) → ¬ (MatchBool b (s ≡ x) (s ≡ y))) → ⊥
some-body true x y none = none x refl
some-body false x y none = none y refl

some-behind : (target rest : List ℕ) (asking : Asking) → ((s : Spelling) → ¬ (SpellsBehind target rest asking s)) → ⊥
some-behind target rest (refuses why) none = none (refused why) refl
some-behind target rest (asks token k None) none = none (asked (request token k target [])) refl
some-behind target rest (asks token k (Some size)) none =
    some-body (nat_le size (length rest)) (asked (request token k target (take size rest))) (refused (no.BadBody 0)) none

-- header lines give a length
some-length : (values : List (List ℕ)) → ((l : Length) → ¬ (IsLengthOf values l)) → ⊥
some-length [] none = none len.Missing refl
some-length (v ∷ values) none = none len.Bad (λ n all. none (len.Is n) ((λ e. cc e), all))

some-request : (knows : List ℕ → Bool) (head : RequestHead) (rest : List ℕ) → ((s : Spelling) → ¬ (SpellsRequest knows head rest s)) → ⊥
some-request knows head rest none =
    let lines = map name_and_value head.fields in
    some-length (values_of (codes "content-length") lines) (λ l h.
    let asking = by_head l (caller_of knows lines) (target_route head.target) head.method (is_given (values_of (codes "transfer-encoding") lines)) in
    some-behind head.target rest asking (λ s k. none s (asking, (l, h, refl), k)))

-- an input spells something
pub spells_some : (knows : List ℕ → Bool) (input : List ℕ) → ¬ ((s : Spelling) → ¬ (Spells knows input s))
spells_some knows [] none = none nothing (inl (refl, refl))
spells_some knows (b ∷ input) none =
    none (refused no.BadHead) (inr (inl (omega arith, (λ head rest is. some-request knows head rest (λ s k. none s (inr (inr (head, rest, is, k))))), refl)))
