-- One more record.
use Rattle.std.proofs.Common.{ℕ, ◌≡◌, ◌≢◌, ◌<◌, ◌+◌, List, [], ◌∷◌, ◌++◌, length, take, Contains, Option, None, Some, Bool, true, false, cond, MatchOption, sym, ◌∙◌, ap, subst, refl, inl, inr, arith, eqb, not, ◌&&◌, get_or, drop, take-append-drop}
use Rattle.std.proofs.lemmas.List.{take_more}
use mathlib.Core.Bool.{true≢false}
use Rattle.std.specs.Option.{option_eq}
use Rattle.fab_lemmas.proofs.Tests.{left, right}
use Rattle.fab_names.specs.Places.{Position}
use Rattle.std.specs.Ordering.{nat_cmp}
use Rattle.std.specs.BTreeMap.{is_at}
use Rattle.std.specs.Cmp.{unsigned_tied}
use Rattle.std.proofs.lemmas.Bool.Decides.{eqb_tells, Decides-eqb}
use Rattle.std.proofs.lemmas.Bool.{eq-eqb, ne_eqb}
use Rattle.std.proofs.lemmas.List.Elements.{Contains-push_cases, Contains-append_left, Contains-push, Contains-get_or}
use Rattle.fab_inventory.specs.declared.port.PortRow.{PortRow}
use Rattle.fab_inventory.specs.declared.port.Known.{Known}
use Rattle.fab_names.specs.declared.fabric.Fabric.{Fabric}
use Rattle.fab_inventory.specs.Imports.{Agrees, IsUnlisted, ListsIn, logged_in}

pub one_more : {X : Type 0} (xs : List X) (i : ℕ) (r : X) → i < length xs → r ≡ get_or xs i r → take i xs ++ r ∷ [] ≡ take (i + 1) xs
one_more xs i r h is = ap (λ x. take i xs ++ x ∷ []) is ∙ sym (take_more xs i r h)

pub in_take : (xs : List PortRow) (i : ℕ) (r : PortRow) → Contains (take i xs) r → Contains xs r
in_take xs i r h = subst (λ ys. Contains ys r) (take-append-drop i xs) (Contains-append_left (take i xs) (drop i xs) r h)

pub at_index : (xs : List PortRow) (i : ℕ) (r : PortRow) → i < length xs → r ≡ get_or xs i r → Contains xs r
at_index xs i r h is = subst (Contains xs) (sym is) (Contains-get_or xs i r h)

-- what is seen of a port, over the records xs
abbrev pub Seen : List PortRow → Option PortRow → ℕ → Type 0
Seen xs o q = MatchOption o (IsUnlisted xs q) (λ r. Contains xs r × (r.name ≡ q))

pub agrees_push_new : (xs : List PortRow) (r : PortRow) → Agrees xs → IsUnlisted xs r.name → Agrees (xs ++ r ∷ [])
agrees_push_new xs r same new s t in_s in_t e =
    elim (Contains-push_cases xs r s in_s) [
      | inl a ↦ elim (Contains-push_cases xs r t in_t) [
        | inl b ↦ same s t a b e
        | inr b ↦ absurd (new s a (e ∙ ap (λ (x : PortRow). x.name) (sym b)))
      ]
      | inr a ↦ elim (Contains-push_cases xs r t in_t) [
        | inl b ↦ absurd (new t b (sym e ∙ ap (λ (x : PortRow). x.name) (sym a)))
        | inr b ↦ sym a ∙ b
      ]
    ]

either : (xs : List PortRow) (r s : PortRow) → Contains xs r → Contains (xs ++ r ∷ []) s → Contains xs s
either xs r s old h = elim (Contains-push_cases xs r s h) [ inl a ↦ a | inr e ↦ subst (Contains xs) e old ]

pub agrees_push_same : (xs : List PortRow) (r : PortRow) → Agrees xs → Contains xs r → Agrees (xs ++ r ∷ [])
agrees_push_same xs r same old s t in_s in_t e = same s t (either xs r s old in_s) (either xs r t old in_t) e

-- a record that is there already
seen_same : (xs : List PortRow) (r : PortRow) (q : ℕ) (o : Option PortRow) → Contains xs r → Seen xs o q → Seen (xs ++ r ∷ []) o q
seen_same xs r q None old h = λ s in_s. h s (either xs r s old in_s)
seen_same xs r q (Some s) old h = (Contains-append_left xs _ s h.0, h.1)

pub seen_push_same : (xs : List PortRow) (r : PortRow) (f : ℕ → Option PortRow) → Contains xs r → ((q : ℕ) → Seen xs (f q) q) → (q : ℕ) → Seen (xs ++ r ∷ []) (f q) q
seen_push_same xs r f old h q = seen_same xs r q (f q) old (h q)

-- a record of a new port
seen_other : (xs : List PortRow) (r : PortRow) (q : ℕ) (o : Option PortRow) → r.name ≢ q → Seen xs o q → Seen (xs ++ r ∷ []) o q
seen_other xs r q None apart h = λ s in_s e. elim (Contains-push_cases xs r s in_s) [ inl a ↦ h s a e | inr b ↦ apart (ap (λ (x : PortRow). x.name) b ∙ e) ]
seen_other xs r q (Some s) apart h = (Contains-append_left xs _ s h.0, h.1)

pub is_at_eqb : (a q : ℕ) → is_at (nat_cmp a) q ≡ eqb a q
is_at_eqb a q = unsigned_tied a q

at_key : (xs : List PortRow) (r : PortRow) (q : ℕ) (o : Option PortRow) → Seen xs o q → Seen (xs ++ r ∷ []) (cond (eqb r.name q) (Some r) o) q
at_key xs r q o h = elim (eqb_tells r.name q) [
  | inl e ↦ rw e.0 (Contains-push xs r, e.1)
  | inr e ↦ rw e.0 (seen_other xs r q o e.1 h)
]

pub seen_push_new : (xs : List PortRow) (r : PortRow) (f g : ℕ → Option PortRow) → ((q : ℕ) → g q ≡ cond (is_at (nat_cmp r.name) q) (Some r) (f q)) → ((q : ℕ) → Seen xs (f q) q) → (q : ℕ) → Seen (xs ++ r ∷ []) (g q) q
seen_push_new xs r f g updates h q =
    subst (λ o. Seen (xs ++ r ∷ []) o q) (ap (λ b. cond b (Some r) (f q)) (sym (is_at_eqb r.name q)) ∙ sym (updates q))
    (at_key xs r q (f q) (h q))

-- ---- equal records
not_not : (b : Bool) → not (not b) ≡ b
not_not true = refl
not_not false = refl

same_address : (a b : Option ℕ) → option_eq eqb a b ≡ true → a ≡ b
same_address None None e = refl
same_address None (Some m) e = absurd (true≢false (sym e))
same_address (Some n) None e = absurd (true≢false (sym e))
same_address (Some n) (Some m) e = ap Some ((Decides-eqb n m).0 e)

address_itself : (a : Option ℕ) → option_eq eqb a a ≡ true
address_itself None = refl
address_itself (Some n) = eq-eqb n n refl

abbrev same_place : Position → Position → Bool
same_place p q = eqb p.domain q.domain && eqb p.slot q.slot

abbrev same_row : PortRow → PortRow → Bool
same_row a b = eqb a.name b.name && (eqb a.node b.node && (same_place a.place b.place && option_eq eqb a.address b.address))

pub row_from_test : (a b : PortRow) → not (same_row a b) ≡ false → a ≡ b
row_from_test a b h =
    let e : same_row a b ≡ true = sym (not_not (same_row a b)) ∙ ap not h in
    let beside_name = right (eqb a.name b.name) _ e in
    let beside_node = right (eqb a.node b.node) _ beside_name in
    let place = left (same_place a.place b.place) _ beside_node in
    let name = (Decides-eqb a.name b.name).0 (left _ _ e) in
    let node = (Decides-eqb a.node b.node).0 (left _ _ beside_name) in
    let domain = (Decides-eqb a.place.domain b.place.domain).0 (left _ _ place) in
    let slot = (Decides-eqb a.place.slot b.place.slot).0 (right (eqb a.place.domain b.place.domain) _ place) in
    let address = same_address a.address b.address (right (same_place a.place b.place) _ beside_node) in
    λ i. record { name = name i; node = node i; place = record { domain = domain i; slot = slot i }; address = address i }

pub differs_from_test : (a b : PortRow) → not (same_row a b) ≡ true → a ≢ b
differs_from_test a b h e =
    let t : same_row a b ≡ true = subst (λ x. same_row a x ≡ true) e (same_itself a) in
    true≢false (sym h ∙ ap not t)
  where
    same_itself : (a : PortRow) → same_row a a ≡ true
    same_itself a = rw (eq-eqb a.name a.name refl, eq-eqb a.node a.node refl, eq-eqb a.place.domain a.place.domain refl, eq-eqb a.place.slot a.place.slot refl, address_itself a.address) refl

-- ---- logging in
none_listed : (f : Fabric) (first middle last : ℕ → Option Known) → ((q : ℕ) → last q ≡ middle q) → ListsIn f [] first middle last
none_listed f first middle last same = record { listed = λ r in_r. absurd (omega (arith, in_r.1)); others = λ q _. same q }

listed_at : (f : Fabric) (xs : List PortRow) (r s : PortRow) (first middle last : ℕ → Option Known) → ListsIn f xs first middle last → (Contains xs s → s.name ≡ r.name → s ≡ r)
    → Contains (xs ++ r ∷ []) s → cond (eqb r.name s.name) (Some (logged_in f r (first r.name))) (last s.name) ≡ Some (logged_in f s (first s.name))
listed_at f xs r s first middle last h same in_s = elim (Contains-push_cases xs r s in_s) [
  | inl a ↦ elim (eqb_tells r.name s.name) [
    | inl e ↦ rw e.0 (ap (λ x. Some (logged_in f x (first x.name))) (sym (same a (sym e.1))))
    | inr e ↦ rw e.0 (h.listed s a)
  ]
  | inr b ↦ let e : eqb r.name s.name ≡ true = eq-eqb r.name s.name (ap (λ (x : PortRow). x.name) b) in rw e (ap (λ x. Some (logged_in f x (first x.name))) b)
]

other_at : (f : Fabric) (xs : List PortRow) (r : PortRow) (q : ℕ) (first middle last : ℕ → Option Known) → ListsIn f xs first middle last
    → IsUnlisted (xs ++ r ∷ []) q → cond (eqb r.name q) (Some (logged_in f r (first r.name))) (last q) ≡ middle q
other_at f xs r q first middle last h none =
    let apart : eqb r.name q ≡ false = ne_eqb r.name q (none r (Contains-push xs r)) in
    rw apart (h.others q (λ s in_s. none s (Contains-append_left xs _ s in_s)))

-- one more record logs its port in
pub lists_push : (f : Fabric) (xs : List PortRow) (r : PortRow) (first middle last next : ℕ → Option Known) → ListsIn f xs first middle last
    → ((s : PortRow) → Contains xs s → s.name ≡ r.name → s ≡ r)
    → ((q : ℕ) → next q ≡ cond (is_at (nat_cmp r.name) q) (Some (logged_in f r (first r.name))) (last q)) → ListsIn f (xs ++ r ∷ []) first middle next
lists_push f xs r first middle last next h same updates =
    let by : (q : ℕ) → next q ≡ cond (eqb r.name q) (Some (logged_in f r (first r.name))) (last q) = λ q. updates q ∙ ap (λ b. cond b (Some (logged_in f r (first r.name))) (last q)) (is_at_eqb r.name q) in
    record {
      listed = λ s in_s. by s.name ∙ listed_at f xs r s first middle last h (same s) in_s;
      others = λ q none. by q ∙ other_at f xs r q first middle last h none;
    }
