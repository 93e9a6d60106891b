-- How a text is cut into words at its spaces.
use Rattle.std.proofs.Common.{ℕ, ◌≡◌, ◌≢◌, suc, false, eqb, List, [], ◌∷◌, ◌++◌, Option, Some, None, MatchOption, Bor, refl, ap, ◌∙◌, lit<, arith}
use Rattle.std.specs.List.{onto_first}
use Rattle.std.proofs.lemmas.Str.Pattern.{IsSplitOnceResult, split_parts}
use Rattle.std.proofs.lemmas.Bool.Decides.{nat_tests}
use Rattle.fab_names.proofs.Splits.{Lacks}
use Rattle.fab_store_tables.specs.Words.{words_of}

lacks_tail : (c x : ℕ) (xs : List ℕ) → Lacks c (x ∷ xs) → Lacks c xs
lacks_tail c x xs none i below = none (suc i) (omega arith)

lacks_head : (c x : ℕ) (xs : List ℕ) → Lacks c (x ∷ xs) → eqb x c ≡ false
lacks_head c x xs none = let other : x ≢ c = none 0 (omega arith) in grind (arith, nat_tests)

-- the first word ends at the first space
pub cut_word : (xs ys : List ℕ) → Lacks 32 xs → words_of (xs ++ 32 ∷ ys) ≡ xs ∷ words_of ys
cut_word [] ys none = refl
cut_word (x ∷ xs) ys none =
    rw (lacks_head 32 x xs none) (ap (onto_first x) (cut_word xs ys (lacks_tail 32 x xs none)))

-- a text with no space is one word
pub only_word : (xs : List ℕ) → Lacks 32 xs → words_of xs ≡ xs ∷ []
only_word [] none = refl
only_word (x ∷ xs) none =
    rw (lacks_head 32 x xs none) (ap (onto_first x) (only_word xs (lacks_tail 32 x xs none)))

-- so a text is cut at its first space, or is one word
pub cut_at_space : (text : List ℕ) (parts : Option (Bor (List ℕ) × Bor (List ℕ))) → IsSplitOnceResult 32 text parts
    → MatchOption parts (words_of text ≡ text ∷ []) (λ p. words_of text ≡ p.0.now ∷ words_of p.1.now)
cut_at_space text None h = only_word text (split_parts 32 text None h (lit< tt))
cut_at_space text (Some (word, rest)) h =
    let cut = split_parts 32 text (Some (word, rest)) h (lit< tt) in
    ap words_of cut.0 ∙ cut_word word.now rest.now cut.1
