-- The caller of a name.
use Rattle.std.proofs.Common.{◌≡◌, ℕ, ◌<◌, ◌≤◌, zero, suc, true, false, List, [], ◌∷◌, length, get_or, ap, sym, subst, ◌∙◌, refl, arith}
use Rattle.std.specs.Prelude.{IsSomeAnd, slice_get}
use Rattle.std.specs.Cmp.Lexicographic.{same_text, nat_list_eq_equiv}
use Rattle.std.proofs.lemmas.Option.{slice_get_read}
use mathlib.Core.Bool.{true≢false}
use Rattle.fab_policy_base.specs.Callers.{is_same, HasToken, IsOnlyWith}
use Rattle.fab_policy_base.specs.Policies.{CallerRow, PolicyRows}
use Rattle.fab_program_checks.specs.Deeds.{IsNamed}

-- the caller at the place has the name
pub named : (cs : List CallerRow) (i : ℕ) (c : CallerRow) (name : List ℕ) → i < length cs → c ≡ get_or cs i c → is_same c.name name ≡ true → IsSomeAnd (slice_get cs i) (λ c. c.name ≡ name)
named cs i c name h e told = subst (λ o. IsSomeAnd o (λ c. c.name ≡ name)) (sym (slice_get_read cs (length cs) i c refl h e)) (same_text c.name name (sym told))

-- it has another name
pub other_named : (cs : List CallerRow) (i : ℕ) (c : CallerRow) (name : List ℕ) → i < length cs → c ≡ get_or cs i c → is_same c.name name ≡ false → ¬ IsSomeAnd (slice_get cs i) (λ c. c.name ≡ name)
other_named cs i c name h e told has =
    let here : c.name ≡ name = subst (λ o. IsSomeAnd o (λ c. c.name ≡ name)) (slice_get_read cs (length cs) i c refl h e) has in
    true≢false (sym (nat_list_eq_equiv.refl name) ∙ ap (λ t. is_same t name) (sym here) ∙ told)

within : (cs : List CallerRow) (i : ℕ) (name : List ℕ) → IsSomeAnd (slice_get cs i) (λ c. c.name ≡ name) → i < length cs
within [] i name h = absurd h
within (c ∷ cs) zero name h = omega arith
within (c ∷ cs) (suc i) name h = let more = within cs i name h in omega (arith, more)

-- where none of the first n has it and there are no more, none has
pub nobody : (cs : List CallerRow) (n : ℕ) (name : List ℕ) → length cs ≤ n → ((k : ℕ) → k < n → ¬ IsSomeAnd (slice_get cs k) (λ c. c.name ≡ name)) → (id : ℕ) → ¬ IsSomeAnd (slice_get cs id) (λ c. c.name ≡ name)
nobody cs n name h none id has = let below = within cs id name has in none id (omega (arith, h, below)) has

-- the caller at a place has the token of the caller there
pub token_there : (p : PolicyRows) (i : ℕ) (c : CallerRow) → i < length p.callers → c ≡ get_or p.callers i c → HasToken p c.token i
token_there p i c h e = subst (λ o. IsSomeAnd o (λ d. d.token ≡ c.token)) (sym (slice_get_read p.callers (length p.callers) i c refl h e)) refl

-- so the one with that token is the caller at the place
pub named_by_token : (p : PolicyRows) (i : ℕ) (c : CallerRow) (name : List ℕ) (id : ℕ) → i < length p.callers → c ≡ get_or p.callers i c → IsSomeAnd (slice_get p.callers i) (λ d. d.name ≡ name) → IsOnlyWith p c.token id → IsNamed p name id
named_by_token p i c name id h e has only = subst (λ (k : ℕ). IsNamed p name k) (only.only i (token_there p i c h e)) has
