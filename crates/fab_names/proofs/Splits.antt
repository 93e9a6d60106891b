-- A text is cut at the first of a character in one way.
use Rattle.std.proofs.Common.{ℕ, ◌≡◌, ◌≢◌, ◌<◌, suc, List, [], ◌∷◌, ◌++◌, length, get_or, refl, ap, arith}

-- the character is not in the text
abbrev pub Lacks : ℕ → List ℕ → Type 0
Lacks c text = (i : ℕ) → i < length text → get_or text i 0 ≢ c

lacks_tail : (c x : ℕ) (xs : List ℕ) → Lacks c (x ∷ xs) → Lacks c xs
lacks_tail c x xs none i below = none (suc i) (omega arith)

pub one_cut : (c : ℕ) (xs ys vs ws : List ℕ) → Lacks c xs → Lacks c vs → xs ++ c ∷ ys ≡ vs ++ c ∷ ws → (xs ≡ vs) × (ys ≡ ws)
one_cut c [] ys [] ws a b e = (refl, cc)
one_cut c [] ys (v ∷ vs) ws a b e = let same : v ≡ c = cc in absurd (b 0 (omega arith) same)
one_cut c (x ∷ xs) ys [] ws a b e = let same : x ≡ c = cc in absurd (a 0 (omega arith) same)
one_cut c (x ∷ xs) ys (v ∷ vs) ws a b e =
    let head : x ≡ v = cc in
    let tail : xs ++ c ∷ ys ≡ vs ++ c ∷ ws = cc in
    let rest = one_cut c xs ys vs ws (lacks_tail c x xs a) (lacks_tail c v vs b) tail in
    ((λ i. head i ∷ rest.0 i), rest.1)

-- a text that is cut so has the character
pub cut_has : (c : ℕ) (text xs ys : List ℕ) → text ≡ xs ++ c ∷ ys → ¬ (Lacks c text)
cut_has c text [] ys e none = none 0 (omega (arith, ap length e)) (ap (λ t. get_or t 0 0) e)
cut_has c [] (x ∷ xs) ys e none = absurd cc
cut_has c (t ∷ text) (x ∷ xs) ys e none = let tail : text ≡ xs ++ c ∷ ys = cc in cut_has c text xs ys tail (lacks_tail c t text none)
