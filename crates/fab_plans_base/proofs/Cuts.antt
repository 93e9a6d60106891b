-- How a text is cut into lines and a line into words.
use Rattle.std.proofs.Common.{ℕ, ◌≡◌, ◌≢◌, suc, false, eqb, List, [], ◌∷◌, ◌++◌, length, length-append, Option, Some, None, IfSome, IfNone, Bor, refl, ap, ◌∙◌, lit<, arith}
use Rattle.std.specs.List.{onto_first}
use Rattle.std.proofs.lemmas.Str.Pattern.{IsSplitOnceResult, split_parts}
use Rattle.std.proofs.lemmas.Bool.Decides.{nat_tests}
use Rattle.fab_names.proofs.Splits.{Lacks}
use Rattle.fab_plans_base.specs.Texts.{lines_of, words_of, IsCut}

pub lacks_tail : (c x : ℕ) (xs : List ℕ) → Lacks c (x ∷ xs) → Lacks c xs
lacks_tail c x xs none i below = none (suc i) (omega arith)

lacks_head : (c x : ℕ) (xs : List ℕ) → Lacks c (x ∷ xs) → eqb x c ≡ false
lacks_head c x xs none = let other : x ≢ c = none 0 (omega arith) in grind (arith, nat_tests)

-- the first word ends at the first space
pub first_word_cut : (xs ys : List ℕ) → Lacks 32 xs → words_of (xs ++ 32 ∷ ys) ≡ xs ∷ words_of ys
first_word_cut [] ys none = refl
first_word_cut (x ∷ xs) ys none =
    rw (lacks_head 32 x xs none) (ap (onto_first x) (first_word_cut xs ys (lacks_tail 32 x xs none)))

-- a line with no space is one word
pub only_word : (xs : List ℕ) → Lacks 32 xs → words_of xs ≡ xs ∷ []
only_word [] none = refl
only_word (x ∷ xs) none =
    rw (lacks_head 32 x xs none) (ap (onto_first x) (only_word xs (lacks_tail 32 x xs none)))

-- the first line ends at the first line feed
pub first_line_cut : (xs ys : List ℕ) → Lacks 10 xs → lines_of (xs ++ 10 ∷ ys) ≡ xs ∷ lines_of ys
first_line_cut [] ys none = refl
first_line_cut (x ∷ xs) ys none =
    rw (lacks_head 10 x xs none) (ap (onto_first x) (first_line_cut xs ys (lacks_tail 10 x xs none)))

-- a text with no line feed is one line, if it is not empty
pub only_line : (x : ℕ) (xs : List ℕ) → Lacks 10 (x ∷ xs) → lines_of (x ∷ xs) ≡ (x ∷ xs) ∷ []
only_line x [] none = rw (lacks_head 10 x [] none) refl
only_line x (y ∷ ys) none =
    rw (lacks_head 10 x (y ∷ ys) none) (ap (onto_first x) (only_line y ys (lacks_tail 10 x (y ∷ ys) none)))

pub whole_line : (text : List ℕ) → text ≢ [] → Lacks 10 text → lines_of text ≡ text ∷ []
whole_line [] some none = absurd (some refl)
whole_line (x ∷ xs) some none = only_line x xs none

-- so where the text is cut at its first line feed
pub cut_some : (text : List ℕ) (parts : Option (Bor (List ℕ) × Bor (List ℕ))) → IsSplitOnceResult 10 text parts → IfSome parts (λ p. IsCut text p.0.now p.1.now)
cut_some text None h = tt
cut_some text (Some (line, rest)) h =
    let cut = split_parts 10 text (Some (line, rest)) h (lit< tt) in
    record {
      lines = ap lines_of cut.0 ∙ first_line_cut line.now rest.now cut.1;
      shorter = omega (arith, ap length cut.0, length-append line.now (10 ∷ rest.now));
    }

-- and where it has none
pub cut_none : (text : List ℕ) (parts : Option (Bor (List ℕ) × Bor (List ℕ))) → IsSplitOnceResult 10 text parts → IfNone parts (text ≢ [] → lines_of text ≡ text ∷ [])
cut_none text None h = λ some. whole_line text some (split_parts 10 text None h (lit< tt))
cut_none text (Some parts) h = tt
