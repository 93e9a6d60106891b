-- How long the pieces of a printed form are.
use Rattle.std.proofs.Common.{ℕ, ◌≡◌, ◌<◌, ◌≤◌, ◌+◌, ◌-◌, ◌/◌, ◌%◌, ◌^◌, List, [], ◌∷◌, ◌++◌, length, length-append, append-nil, get_or, take, ap, ◌∙◌, subst, arith}
use Rattle.std.specs.Fmt.{decimal}
use Rattle.std.proofs.lemmas.Fmt.{decimal_step, decimal_digit, length-decimal-le}
use Rattle.std.specs.List.{flat_map}
use Rattle.std.proofs.lemmas.List.{take_more, take_all}
use Rattle.std.proofs.lemmas.List.Concat.{flat_map-append}
use Rattle.std.proofs.lemmas.List.Folds.{length-flat_map-take}
use Rattle.fab_plans_base.specs.Texts.{words_of}
use Rattle.fab_plans_base.specs.Steps.{PlanStep}
use Rattle.fab_plans_base.specs.Forms.{form_of, Takes, keyword_of, values_of}
use Rattle.fab_plans_base.specs.Plans.{SpellsStep, IsStep}
use Rattle.fab_plans_base.proofs.Unique.{as_many_values}

-- the digits of a number are those of a tenth of it, and one more
pub one_digit : (n : ℕ) → n < 10 → length (decimal n) ≡ 1
one_digit n h = ap length (decimal_digit n h)

pub more_digits : (n : ℕ) → 10 ≤ n → n < 2 ^ 16 → length (decimal n) ≡ length (decimal (n / 10)) + 1
more_digits n h small = ap length (decimal_step n h (omega arith)) ∙ length-append (decimal (n / 10)) ((48 + n % 10) ∷ [])

pub few_digits : (n : ℕ) → n < 2 ^ 16 → length (decimal n) ≤ 5
few_digits n h = length-decimal-le 5 n (omega arith) (omega arith) (omega arith)

-- as many values follow as words may
values_taken : (words : List (List ℕ)) (step : PlanStep) → SpellsStep words step → Takes (form_of (keyword_of step)) (length (values_of step))
values_taken [] step h = absurd h
values_taken (first ∷ others) step h = subst (Takes (form_of (keyword_of step))) (as_many_values others (values_of step) h.values) h.count

pub words_taken : (step : PlanStep) → IsStep step → Takes (form_of (keyword_of step)) (length (values_of step))
words_taken step h = values_taken (words_of h.0) step h.1

-- one item more adds the length of its piece
part_more : {X : Type 0} (f : X → List ℕ) (xs : List X) (i : ℕ) (d : X) → i < length xs → length (flat_map f (take (i + 1) xs)) ≡ length (flat_map f (take i xs)) + length (f (get_or xs i d))
part_more f xs i d below =
    ap (λ part. length (flat_map f part)) (take_more xs i d below)
    ∙ ap length (flat_map-append f (take i xs) (get_or xs i d ∷ []))
    ∙ length-append (flat_map f (take i xs)) (f (get_or xs i d) ++ [])
    ∙ ap (λ piece. length (flat_map f (take i xs)) + length piece) (append-nil (f (get_or xs i d)))

-- what is left behind a piece that fits
pub less_left : {X : Type 0} (f : X → List ℕ) (xs : List X) (i left len whole : ℕ) (x : X) → i < length xs → x ≡ get_or xs i x → len ≡ length (f x) → len ≤ left → left + length (flat_map f (take i xs)) ≡ whole
    → (left - len) + length (flat_map f (take (i + 1) xs)) ≡ whole
less_left f xs i left len whole x below is size fits before =
    let more = part_more f xs i x below in
    let same = ap (λ y. length (f y)) is in
    omega arith

-- what leaves too little for the next piece is a part of too long a whole
pub too_long : {X : Type 0} (f : X → List ℕ) (xs : List X) (i left len whole : ℕ) (x : X) → i < length xs → x ≡ get_or xs i x → len ≡ length (f x) → left < len → left + length (flat_map f (take i xs)) ≡ whole
    → ¬ (length (flat_map f xs) ≤ whole)
too_long f xs i left len whole x below is size above before short =
    let part = length-flat_map-take f xs i x below in
    let same = ap (λ y. length (f y)) is in
    omega arith

-- where all is taken, the whole is short enough
pub all_short : {X : Type 0} (f : X → List ℕ) (xs : List X) (i left whole : ℕ) → length xs ≤ i → left + length (flat_map f (take i xs)) ≡ whole → length (flat_map f xs) ≤ whole
all_short f xs i left whole end before =
    let all = ap (λ part. length (flat_map f part)) (take_all i xs end) in
    omega arith
