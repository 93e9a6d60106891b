-- An input spells one thing.
use Rattle.std.proofs.Common.{◌≡◌, ℕ, ◌<◌, List, [], ◌∷◌, length, take, map, Some, None, Bool, true, false, refl, sym, ap, ◌∙◌, subst, arith, inl, inr, length-append, codes, All}
use Rattle.std.specs.Prelude.{MatchBool, nat_le}
use Rattle.std.proofs.lemmas.List.Elements.{All-head, All-nil}
use Rattle.httparse.specs.Grammar.{RequestHead, ReadsRequest, print_request}
use Rattle.httparse.specs.Spans.{name_and_value}
use Rattle.httparse.proofs.GrammarLemmas.{request_unique}
use Rattle.fab_names.specs.Numbers.{SpellsNumber}
use Rattle.fab_names.proofs.Numerals.{one_number}
use Rattle.fab_wire_base.specs.Lines.{Line, values_of}
use Rattle.fab_wire_base.specs.Fields.{IsLengthOf, is_given}
use Rattle.fab_wire_base.specs.Callers.{caller_of}
use Rattle.fab_wire_base.specs.Asking.{Asking, refuses, asks, HeadAsks, by_head, target_route}
use Rattle.fab_wire_base.specs.Spelling.{Spelling, request, refused, asked, SpellsBehind, SpellsRequest, Spells}
use Rattle.fab_wire_base.specs.declared.fields.Length.{Length}
use Rattle.fab_wire_base.specs.declared.fields.Length.TheVariants as len
use Rattle.fab_wire_base.specs.declared.requests.Refusal.TheVariants as no

one_body : (b : Bool) (x y s t : Spelling) → MatchBool b (s ≡ x) (s ≡ y) → MatchBool b (t ≡ x) (t ≡ y) → s ≡ t
one_body true x y s t h k = h ∙ sym k
one_body false x y s t h k = h ∙ sym k

one_behind : (target rest : List ℕ) (asking : Asking) (s t : Spelling) → SpellsBehind target rest asking s → SpellsBehind target rest asking t → s ≡ t
one_behind target rest (refuses why) s t h k = h ∙ sym k
one_behind target rest (asks token what None) s t h k = h ∙ sym k
one_behind target rest (asks token what (Some size)) s t h k =
    one_body (nat_le size (length rest)) (asked (request token what target (take size rest))) (refused (no.BadBody 0)) s t h k

-- header lines give one length
one_length : (values : List (List ℕ)) (a b : Length) → IsLengthOf values a → IsLengthOf values b → a ≡ b
one_length values len.Missing len.Missing h k = refl
one_length values len.Missing (len.Is n) h k = absurd (k.0 h)
one_length values len.Missing len.Bad h k = absurd (k 0 (subst (λ (vs : List (List ℕ)). All (λ v. SpellsNumber v 0) vs) (sym h) (All-nil (λ v. SpellsNumber v 0))))
one_length values (len.Is m) len.Missing h k = absurd (h.0 k)
one_length [] (len.Is m) (len.Is n) h k = absurd (h.0 refl)
one_length (v ∷ values) (len.Is m) (len.Is n) h k =
    ap len.Is (one_number v m n (All-head (λ x. SpellsNumber x m) v values h.1) (All-head (λ x. SpellsNumber x n) v values k.1))
one_length values (len.Is m) len.Bad h k = absurd (k m h.1)
one_length values len.Bad len.Missing h k = absurd (h 0 (subst (λ (vs : List (List ℕ)). All (λ v. SpellsNumber v 0) vs) (sym k) (All-nil (λ v. SpellsNumber v 0))))
one_length values len.Bad (len.Is n) h k = absurd (h n k.1)
one_length values len.Bad len.Bad h k = refl

one_asking : (knows : List ℕ → Bool) (method target : List ℕ) (lines : List Line) (a b : Asking) → HeadAsks knows method target lines a → HeadAsks knows method target lines b → a ≡ b
one_asking knows method target lines a b (l, h, e) (m, k, f) =
    let same : l ≡ m = one_length (values_of (codes "content-length") lines) l m h k in
    e ∙ ap (λ x. by_head x (caller_of knows lines) (target_route target) method (is_given (values_of (codes "transfer-encoding") lines))) same ∙ sym f

one_request : (knows : List ℕ → Bool) (head : RequestHead) (rest : List ℕ) (s t : Spelling) → SpellsRequest knows head rest s → SpellsRequest knows head rest t → s ≡ t
one_request knows head rest s t (a, h, x) (b, k, y) =
    let same : a ≡ b = one_asking knows head.method head.target (map name_and_value head.fields) a b h k in
    one_behind head.target rest b s t (subst (λ z. SpellsBehind head.target rest z s) same x) y

-- a head has a byte
pub head-some : (input : List ℕ) (head : RequestHead) (rest : List ℕ) → ReadsRequest input head rest → 0 < length input
unfolding print_request
head-some input head rest (h, e) = rw e (simp length-append (omega (arith, h.target.0)))

-- an input spells one thing
pub spells_one : (knows : List ℕ → Bool) (input : List ℕ) (s t : Spelling) → Spells knows input s → Spells knows input t → s ≡ t
spells_one knows input s t (inl h) (inl k) = h.1 ∙ sym k.1
spells_one knows input s t (inl h) (inr (inl k)) = absurd (omega (arith, ap length h.0))
spells_one knows input s t (inl h) (inr (inr k)) = absurd (omega (arith, ap length h.0, head-some input k.0 k.1 k.2.0))
spells_one knows input s t (inr (inl h)) (inl k) = absurd (omega (arith, ap length k.0))
spells_one knows input s t (inr (inl h)) (inr (inl k)) = h.2 ∙ sym k.2
spells_one knows input s t (inr (inl h)) (inr (inr k)) = absurd (h.1 k.0 k.1 k.2)
spells_one knows input s t (inr (inr h)) (inl k) = absurd (omega (arith, ap length k.0, head-some input h.0 h.1 h.2.0))
spells_one knows input s t (inr (inr h)) (inr (inl k)) = absurd (k.1 h.0 h.1 h.2)
spells_one knows input s t (inr (inr (head, rest, is, h))) (inr (inr (head', rest', is', k))) =
    let same = request_unique input head head' rest rest' is.0 is'.0 in
    one_request knows head' rest' s t (subst (λ x. SpellsRequest knows x rest' s) same.0 (subst (λ x. SpellsRequest knows head x s) same.1 h)) k
