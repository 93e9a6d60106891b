-- One caller has a token at most.
use Rattle.std.proofs.Common.{◌≡◌, ℕ, ◌<◌, ◌≤◌, zero, suc, true, false, List, [], ◌∷◌, length, get_or, Some, ap, sym, subst, ◌∙◌, refl, arith}
use Rattle.std.specs.Prelude.{IsSomeAnd, slice_get}
use Rattle.std.specs.Cmp.Lexicographic.{same_text, nat_list_eq_equiv}
use Rattle.std.proofs.lemmas.Option.{slice_get_read}
use mathlib.Core.Bool.{true≢false}
use Rattle.fab_policy_base.specs.Callers.{is_same, HasToken, IsOnlyWith}
use Rattle.fab_policy_base.specs.Policies.{CallerRow, PolicyRows}
use Rattle.fab_policy_base.specs.Sound.{AreDistinct, IsSound, caller_tokens}

-- the token of the caller at a place
token_at : (cs : List CallerRow) (token : List ℕ) (id : ℕ) → IsSomeAnd (slice_get cs id) (λ c. c.token ≡ token) → slice_get (caller_tokens cs) id ≡ Some token
token_at [] token id h = absurd h
token_at (c ∷ cs) token zero h = ap Some h
token_at (c ∷ cs) token (suc id) h = token_at cs token id h

-- numbers of which none is below the other
level : (a b : ℕ) → ¬ (a < b) → ¬ (b < a) → a ≡ b
level a b f g = grind arith

clash : (cs : List CallerRow) (token : List ℕ) (i j : ℕ) → AreDistinct (caller_tokens cs) → IsSomeAnd (slice_get cs i) (λ c. c.token ≡ token) → IsSomeAnd (slice_get cs j) (λ c. c.token ≡ token) → ¬ (i < j)
clash cs token i j distinct h k below = distinct j (record { first = i; text = token; before = below; earlier = token_at cs token i h; again = token_at cs token j k })

-- where tokens are distinct, who has one is the only one
pub only : (p : PolicyRows) (token : List ℕ) (id : ℕ) → IsSound p → HasToken p token id → IsOnlyWith p token id
only p token id sound h = record {
  has = h;
  only = λ other k. level other id (clash p.callers token other id sound.tokens k h) (clash p.callers token id other sound.tokens h k);
}

-- the caller at the place has the token
pub has_token : (cs : List CallerRow) (i : ℕ) (c : CallerRow) (token : List ℕ) → i < length cs → c ≡ get_or cs i c → is_same c.token token ≡ true → IsSomeAnd (slice_get cs i) (λ c. c.token ≡ token)
has_token cs i c token h e told = subst (λ o. IsSomeAnd o (λ c. c.token ≡ token)) (sym (slice_get_read cs (length cs) i c refl h e)) (same_text c.token token (sym told))

-- it has another
pub has_other : (cs : List CallerRow) (i : ℕ) (c : CallerRow) (token : List ℕ) → i < length cs → c ≡ get_or cs i c → is_same c.token token ≡ false → ¬ IsSomeAnd (slice_get cs i) (λ c. c.token ≡ token)
has_other cs i c token h e told has =
    let here : c.token ≡ token = subst (λ o. IsSomeAnd o (λ c. c.token ≡ token)) (slice_get_read cs (length cs) i c refl h e) has in
    true≢false (sym (nat_list_eq_equiv.refl token) ∙ ap (λ t. is_same t token) (sym here) ∙ told)

within : (cs : List CallerRow) (i : ℕ) (token : List ℕ) → IsSomeAnd (slice_get cs i) (λ c. c.token ≡ token) → i < length cs
within [] i token h = absurd h
within (c ∷ cs) zero token h = omega arith
within (c ∷ cs) (suc i) token h = let more = within cs i token h in omega (arith, more)

-- where none of the first n has it and there are no more, none has
pub nobody : (cs : List CallerRow) (n : ℕ) (token : List ℕ) → length cs ≤ n → ((k : ℕ) → k < n → ¬ IsSomeAnd (slice_get cs k) (λ c. c.token ≡ token)) → (id : ℕ) → ¬ IsSomeAnd (slice_get cs id) (λ c. c.token ≡ token)
nobody cs n token h none id has = let below = within cs id token has in none id (omega (arith, h, below)) has
