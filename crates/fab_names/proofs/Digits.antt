-- Lists of known lengths, item by item.
use Rattle.std.proofs.Common.{ℕ, ◌≡◌, ◌≤◌, ◌+◌, suc, zero, List, [], ◌∷◌, length, drop, get_or, refl, sym, ap, ◌∙◌, arith, ◌⊎◌, inl, inr}
use Rattle.std.proofs.Math.Seq.{drop-cons}
use Rattle.fab_names.specs.WorldWideNames.{paired, IsDigitsOf, HasColons}

-- n items from the k-th on
abbrev pub from_at : ℕ → ℕ → List ℕ → List ℕ
from_at zero k xs = []
from_at (suc n) k xs = get_or xs k 0 ∷ from_at n (suc k) xs

from_at_drop : (n k : ℕ) (xs : List ℕ) → n + k ≡ length xs → from_at n k xs ≡ drop k xs
from_at_drop zero k xs h = sym (past xs k (omega arith))
  where
    past : (xs : List ℕ) (k : ℕ) → length xs ≤ k → drop k xs ≡ []
    past [] zero h = refl
    past [] (suc k) h = refl
    past (x ∷ xs) zero h = absurd (omega arith)
    past (x ∷ xs) (suc k) h = past xs k (omega arith)
from_at_drop (suc n) k xs h = ap (λ t. get_or xs k 0 ∷ t) (from_at_drop n (suc k) xs (omega arith)) ∙ sym (drop-cons xs k 0 (omega arith))

pub all_at : (n : ℕ) (xs : List ℕ) → length xs ≡ n → from_at n 0 xs ≡ xs
all_at n xs h = from_at_drop n 0 xs (omega arith)

pub plain_form : (t : List ℕ) → length t ≡ 16 → IsDigitsOf (from_at 16 0 t) t
plain_form t h = inl (sym (all_at 16 t h))

pub prefixed_form : (t : List ℕ) → length t ≡ 18 → get_or t 0 0 ≡ 48 → get_or t 1 0 ≡ 120 → IsDigitsOf (from_at 16 2 t) t
prefixed_form t h a b = inr (inl (sym (all_at 18 t h) ∙ (λ i. a i ∷ b i ∷ from_at 16 2 t)))

-- the items of pairs at the places beside the colons
abbrev pub beside_colons : List ℕ → List ℕ
beside_colons t = get_or t 0 0 ∷ get_or t 1 0 ∷ get_or t 3 0 ∷ get_or t 4 0 ∷ get_or t 6 0 ∷ get_or t 7 0 ∷ get_or t 9 0 ∷ get_or t 10 0 ∷ get_or t 12 0 ∷ get_or t 13 0 ∷ get_or t 15 0 ∷ get_or t 16 0 ∷ get_or t 18 0 ∷ get_or t 19 0 ∷ get_or t 21 0 ∷ get_or t 22 0 ∷ []

pub paired_form : (t : List ℕ) → length t ≡ 23 → HasColons t → IsDigitsOf (beside_colons t) t
paired_form t h c = inr (inr (sym (all_at 23 t h) ∙ (λ i.
    get_or t 0 0 ∷ get_or t 1 0 ∷ c.c2 i ∷ get_or t 3 0 ∷ get_or t 4 0 ∷ c.c5 i ∷ get_or t 6 0 ∷ get_or t 7 0 ∷ c.c8 i ∷ get_or t 9 0 ∷ get_or t 10 0 ∷ c.c11 i ∷ get_or t 12 0 ∷ get_or t 13 0 ∷ c.c14 i ∷ get_or t 15 0 ∷ get_or t 16 0 ∷ c.c17 i ∷ get_or t 18 0 ∷ get_or t 19 0 ∷ c.c20 i ∷ get_or t 21 0 ∷ get_or t 22 0 ∷ [])))

-- where a text is laid out so, by its length
abbrev pub Laid : List ℕ → List ℕ → Type 0
Laid ds t = ((length t ≡ 16) × (ds ≡ t)) ⊎ ((length t ≡ 18) × (get_or t 0 0 ≡ 48) × (get_or t 1 0 ≡ 120) × (ds ≡ drop 2 t)) ⊎ ((length t ≡ 23) × HasColons t × (ds ≡ beside_colons t))

pub laid : (ds t : List ℕ) → length ds ≡ 16 → IsDigitsOf ds t → Laid ds t
laid ds t h (inl e) = inl (ap length e ∙ h, sym e)
laid ds t h (inr (inl e)) = inr (inl (ap length e ∙ ap (λ n. suc (suc n)) h, ap (λ (x : List ℕ). get_or x 0 0) e, ap (λ (x : List ℕ). get_or x 1 0) e, sym (ap (drop 2) e)))
laid ds t h (inr (inr e)) =
    let f : t ≡ paired (from_at 16 0 ds) = e ∙ ap paired (sym (all_at 16 ds h)) in
    inr (inr (
      ap length f,
      record {
        c2 = ap (λ (x : List ℕ). get_or x 2 0) f;
        c5 = ap (λ (x : List ℕ). get_or x 5 0) f;
        c8 = ap (λ (x : List ℕ). get_or x 8 0) f;
        c11 = ap (λ (x : List ℕ). get_or x 11 0) f;
        c14 = ap (λ (x : List ℕ). get_or x 14 0) f;
        c17 = ap (λ (x : List ℕ). get_or x 17 0) f;
        c20 = ap (λ (x : List ℕ). get_or x 20 0) f;
      },
      sym (all_at 16 ds h) ∙ sym (ap beside_colons f),
    ))

clash : {P : Type 0} (n m k : ℕ) → n ≡ m → n ≡ k → (m ≡ k → ⊥) → P
clash n m k a b ne = absurd (ne (sym a ∙ b))

one : (ds es t : List ℕ) → Laid ds t → Laid es t → ds ≡ es
one ds es t (inl a) (inl b) = a.1 ∙ sym b.1
one ds es t (inl a) (inr (inl b)) = clash (length t) 16 18 a.0 b.0 (λ e. omega arith)
one ds es t (inl a) (inr (inr b)) = clash (length t) 16 23 a.0 b.0 (λ e. omega arith)
one ds es t (inr (inl a)) (inl b) = clash (length t) 18 16 a.0 b.0 (λ e. omega arith)
one ds es t (inr (inl a)) (inr (inl b)) = a.3 ∙ sym b.3
one ds es t (inr (inl a)) (inr (inr b)) = clash (length t) 18 23 a.0 b.0 (λ e. omega arith)
one ds es t (inr (inr a)) (inl b) = clash (length t) 23 16 a.0 b.0 (λ e. omega arith)
one ds es t (inr (inr a)) (inr (inl b)) = clash (length t) 23 18 a.0 b.0 (λ e. omega arith)
one ds es t (inr (inr a)) (inr (inr b)) = a.2 ∙ sym b.2

-- a text has one list of sixteen digits at most
pub one_reading : (ds es t : List ℕ) → length ds ≡ 16 → length es ≡ 16 → IsDigitsOf ds t → IsDigitsOf es t → ds ≡ es
one_reading ds es t h k a b = one ds es t (laid ds t h a) (laid es t k b)
