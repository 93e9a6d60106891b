-- Tokens that are known, and that they are text.
use Rattle.std.proofs.Common.{◌≡◌, ℕ, ◌<◌, zero, suc, Bool, true, false, ◌||◌, ◌&&◌, List, [], ◌∷◌, get_or, refl, sym, ap, subst, ◌∙◌, arith, lit<}
use Rattle.std.specs.Prelude.{slice_get, IsSomeAnd, IsTrue, ◌↔◌, IsUtf8, All}
use Rattle.std.specs.List.{list_all}
use Rattle.std.specs.Cmp.Lexicographic.{bytes_decides}
use Rattle.std.proofs.lemmas.Bool.Decides.{nat_tests}
use Rattle.std.proofs.lemmas.List.Elements.{All-head, All-tail}
use Rattle.std.proofs.lemmas.Str.{IsUtf8-from_ascii}
use mathlib.Core.Bool.{true≢false}
use Rattle.fab_names.specs.Tokens.{IsTokenText, is_token_char}
use Rattle.fab_policy_base.specs.Callers.{is_same, HasToken}
use Rattle.fab_policy_base.specs.Policies.{CallerRow, PolicyRows}
use Rattle.fab_policy_base.specs.Sound.{IsSound, IsCaller}
use Rattle.fab_wire.specs.Known.{has_one, is_known}

-- ---- a token is ASCII

ascii_char : (c : ℕ) → is_token_char c ≡ true → c < 128
ascii_char c h = grind (arith, nat_tests)

and_left : (a b : Bool) → (a && b) ≡ true → a ≡ true
and_left true b h = refl
and_left false b h = h

and_right : (a b : Bool) → (a && b) ≡ true → b ≡ true
and_right true b h = h
and_right false b h = absurd (true≢false (sym h))

ascii_all : (xs : List ℕ) → list_all is_token_char xs ≡ true → (i : ℕ) → get_or xs i 0 < 128
ascii_all [] h i = lit< tt
ascii_all (x ∷ xs) h zero = ascii_char x (and_left (is_token_char x) _ h)
ascii_all (x ∷ xs) h (suc i) = ascii_all xs (and_right (is_token_char x) _ h) i

token_text : (token : List ℕ) → IsTokenText token → IsUtf8 token
token_text token h = IsUtf8-from_ascii token (ascii_all token h.chars)

-- ---- who has a token

-- one of these has it, at a place
record IsFound (cs : List CallerRow) (token : List ℕ) : Type 0 where
  id : ℕ
  has : IsSomeAnd (slice_get cs id) (λ c. c.token ≡ token)

or_cases : {P : Type 0} (a b : Bool) → (a || b) ≡ true → (a ≡ true → P) → (b ≡ true → P) → P
or_cases true b h p q = p refl
or_cases false b h p q = q h

found : (cs : List CallerRow) (token : List ℕ) → has_one cs token ≡ true → IsFound cs token
found [] token h = absurd (true≢false (sym h))
found (c ∷ cs) token h =
    or_cases (is_same c.token token) (has_one cs token) h
    (λ e. record { id = 0; has = (bytes_decides c.token token).0 e })
    (λ e. let more = found cs token e in record { id = suc more.id; has = more.has })

or_true : (a : Bool) → (a || true) ≡ true
or_true true = refl
or_true false = refl

known_at : (cs : List CallerRow) (token : List ℕ) (id : ℕ) → IsSomeAnd (slice_get cs id) (λ c. c.token ≡ token) → has_one cs token ≡ true
known_at [] token id h = absurd h
known_at (c ∷ cs) token zero h = ap (λ b. b || has_one cs token) ((bytes_decides c.token token).1 h)
known_at (c ∷ cs) token (suc id) h = ap (λ b. is_same c.token token || b) (known_at cs token id h) ∙ or_true (is_same c.token token)

-- whoever has it has a token of the right form
at_text : (cs : List CallerRow) (token : List ℕ) (id : ℕ) → All IsCaller cs → IsSomeAnd (slice_get cs id) (λ c. c.token ≡ token) → IsUtf8 token
at_text [] token id all h = absurd h
at_text (c ∷ cs) token zero all h = subst (λ t. IsUtf8 t) h (token_text c.token (All-head IsCaller c cs all).token)
at_text (c ∷ cs) token (suc id) all h = at_text cs token id (All-tail IsCaller c cs all) h

-- a known token is text
pub known_text : (p : PolicyRows) (token : List ℕ) → IsSound p → is_known p token ≡ true → IsUtf8 token
known_text p token sound h = let f = found p.callers token h in at_text p.callers token f.id sound.callers f.has

-- whether somebody has a token is whether it is known
pub told_known : (p : PolicyRows) (token : List ℕ) (b : Bool) → IsTrue b ↔ ((id : ℕ) × HasToken p token id) → b ≡ is_known p token
told_known p token b (to, from) = by_both b (is_known p token) (λ e. let h = to e in known_at p.callers token h.0 h.1) (λ e. let f = found p.callers token e in from (f.id, f.has))
  where
    by_both : (a b : Bool) → (a ≡ true → b ≡ true) → (b ≡ true → a ≡ true) → a ≡ b
    by_both true b f h = sym (f refl)
    by_both false true f h = h refl
    by_both false false f h = refl

-- what is no text is not known
pub no_text : (p : PolicyRows) (token : List ℕ) → IsSound p → ¬ (IsUtf8 token) → false ≡ is_known p token
no_text p token sound not = by_case (is_known p token) (known_text p token sound)
  where
    by_case : (b : Bool) → (b ≡ true → IsUtf8 token) → false ≡ b
    by_case true f = absurd (not (f refl))
    by_case false f = refl
