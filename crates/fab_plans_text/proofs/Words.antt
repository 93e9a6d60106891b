-- What the words of a line spell, one after another.
use Rattle.std.proofs.Common.{ℕ, ◌≡◌, ◌<◌, ◌+◌, suc, zero, ◌-◌, drop, List, [], ◌∷◌, ◌++◌, length, get_or, take, map, replicate, refl, subst, arith, inl, inr, add-one, Bor}
use Rattle.std.proofs.lemmas.List.{length-map, take_all}
use Rattle.fab_plans_base.specs.Steps.{PlanStep}
use Rattle.fab_plans_base.specs.Forms.{keyword_text, form_of, keyword_of, values_of, Takes}
use Rattle.fab_plans_base.specs.Plans.{SpellsWords, IsStep}
use Rattle.fab_names.specs.WorldWideNames.{SpellsWwn}
use Rattle.fab_plans_base.specs.Values.{Kind, a_wwn, kind_of, Value, of_wwn, SpellsValue, SpellsValues, texts_of}
use Rattle.fab_plans_text.specs.Faults.{IsOfKind, IsMisread, IsFirstFault, MemoryOr}
use Rattle.fab_plans_text.specs.declared.fault.PlanFaultKind.{PlanFaultKind}
use Rattle.fab_plans_text.proofs.Printed.{line_text, step_again}

length_texts : (words : List (Bor (List ℕ))) → length (texts_of words) ≡ length words
length_texts words = rw length-map refl

-- words of the right number that spell the values of a step spell the step
pub spelled : (words : List (Bor (List ℕ))) (step : PlanStep) → Takes (form_of (keyword_of step)) (length words) → SpellsValues (texts_of words) (values_of step)
    → SpellsWords (keyword_text (keyword_of step)) (texts_of words) step
spelled words step count values = record { keyword = refl; values = values; count = rw length-map count }

-- and then some line spells the step
pub is_step : (words : List (Bor (List ℕ))) (step : PlanStep) → Takes (form_of (keyword_of step)) (length words) → SpellsValues (texts_of words) (values_of step) → IsStep step
is_step words step count values = (line_text step, step_again (keyword_text (keyword_of step) ∷ texts_of words) step (spelled words step count values))

-- what is read of a word is of its kind
pub of_kind : (word : List ℕ) (v : Value) → SpellsValue word v → IsOfKind (kind_of v) word
of_kind word v s = record { value = v; same = refl; spelled = s }

-- a word that is no text of a world-wide name is none of its kind
pub no_wwn : (word : List ℕ) → ((n : ℕ) → ¬ (SpellsWwn word n)) → ¬ (IsOfKind a_wwn word)
no_wwn word none h = by_value h.value h.same h.spelled
  where
    by_value : (v : Value) → kind_of v ≡ a_wwn → SpellsValue word v → ⊥
    by_value (of_wwn n) same s = none n s
    by_value v same s = absurd cc

-- what a read past the end gives
abbrev pub nowhere : Bor (List ℕ)
nowhere = record { ref_ptr = (0, 0); now = [] }

-- the texts of two words
pub two_texts : (words : List (Bor (List ℕ))) → length words ≡ 2 → texts_of words ≡ (get_or words 0 nowhere).now ∷ (get_or words 1 nowhere).now ∷ []
two_texts [] h = absurd (omega arith)
two_texts (v ∷ []) h = absurd (omega arith)
two_texts (v ∷ w ∷ []) h = refl
two_texts (v ∷ w ∷ x ∷ words) h = absurd (omega arith)

-- the texts of three words
pub three_texts : (words : List (Bor (List ℕ))) → length words ≡ 3 → texts_of words ≡ (get_or words 0 nowhere).now ∷ (get_or words 1 nowhere).now ∷ (get_or words 2 nowhere).now ∷ []
three_texts [] h = absurd (omega arith)
three_texts (v ∷ []) h = absurd (omega arith)
three_texts (v ∷ w ∷ []) h = absurd (omega arith)
three_texts (v ∷ w ∷ x ∷ []) h = refl
three_texts (v ∷ w ∷ x ∷ y ∷ words) h = absurd (omega arith)

-- one word more is read
pub list_more : {X : Type 0} (make : X → Value) (words : List (Bor (List ℕ))) (xs : List X) (x : X) (i : ℕ) (d : Bor (List ℕ)) → i < length words
    → SpellsValues (texts_of (take i words)) (map make xs) → SpellsValue (get_or words i d).now (make x) → SpellsValues (texts_of (take (i + 1) words)) (map make (xs ++ x ∷ []))
list_more {X = X} make words xs x i d below so_far here = rw add-one (by_place words xs i below so_far here)
  where
    by_place : (words : List (Bor (List ℕ))) (xs : List X) (i : ℕ) → i < length words
        → SpellsValues (texts_of (take i words)) (map make xs) → SpellsValue (get_or words i d).now (make x) → SpellsValues (texts_of (take (suc i) words)) (map make (xs ++ x ∷ []))
    by_place [] xs i below so_far here = absurd (omega arith)
    by_place (w ∷ words) [] zero below so_far here = (here, tt)
    by_place (w ∷ words) (y ∷ xs) zero below so_far here = absurd so_far
    by_place (w ∷ words) [] (suc i) below so_far here = absurd so_far
    by_place (w ∷ words) (y ∷ xs) (suc i) below so_far here = (so_far.0, by_place words xs i (omega arith) so_far.1 here)

-- the word at which a list stops has the first fault of its words
pub list_fault : {X : Type 0} (kind : Kind) (make : X → Value) (kinds : (x : X) → kind_of (make x) ≡ kind) (words : List (Bor (List ℕ))) (xs : List X) (i : ℕ) (d : Bor (List ℕ)) (fault : PlanFaultKind) → i < length words
    → SpellsValues (texts_of (take i words)) (map make xs) → IsMisread kind (get_or words i d).now fault → IsFirstFault (replicate (length words) kind) (texts_of words) fault
list_fault kind make kinds [] xs i d fault below so_far wrong = absurd (omega arith)
list_fault kind make kinds (w ∷ words) [] zero d fault below so_far wrong = inl wrong
list_fault kind make kinds (w ∷ words) (x ∷ xs) zero d fault below so_far wrong = absurd so_far
list_fault kind make kinds (w ∷ words) [] (suc i) d fault below so_far wrong = absurd so_far
list_fault kind make kinds (w ∷ words) (x ∷ xs) (suc i) d fault below so_far wrong =
    inr (record { value = make x; same = kinds x; spelled = so_far.0 }, list_fault kind make kinds words xs i d fault (omega arith) so_far.1 wrong)

-- what follows two words, as a slice from the third on gives it
abbrev pub after_two : List (Bor (List ℕ)) → List (Bor (List ℕ))
after_two words = take (length words - 2) (drop 2 words)

after_two_is : (v w : Bor (List ℕ)) (words : List (Bor (List ℕ))) → after_two (v ∷ w ∷ words) ≡ words
after_two_is v w words = take_all (length (v ∷ w ∷ words) - 2) words (omega arith)

-- two words and a list spell what they spell together
pub listed_values : (f n : Value) (vs : List Value) (words : List (Bor (List ℕ))) → 2 < length words
    → SpellsValues (texts_of (take 2 words)) (f ∷ n ∷ []) → SpellsValues (texts_of (after_two words)) vs → SpellsValues (texts_of words) (f ∷ n ∷ vs)
listed_values f n vs [] many front rest = absurd (omega arith)
listed_values f n vs (v ∷ []) many front rest = absurd (omega arith)
listed_values f n vs (v ∷ w ∷ words) many front rest = (front.0, (front.1.0, subst (λ ws. SpellsValues (texts_of ws) vs) (after_two_is v w words) rest))

-- the first fault of a list behind two words is that of the line
pub listed_fault : (first second kind : Kind) (f n : Value) (words : List (Bor (List ℕ))) (fault : PlanFaultKind) → 2 < length words → kind_of f ≡ first → kind_of n ≡ second
    → SpellsValues (texts_of (take 2 words)) (f ∷ n ∷ []) → MemoryOr (IsFirstFault (replicate (length (after_two words)) kind) (texts_of (after_two words))) fault
    → MemoryOr (IsFirstFault (first ∷ second ∷ replicate (length (texts_of words) - 2) kind) (texts_of words)) fault
listed_fault first second kind f n [] fault many kf kn front rest = absurd (omega arith)
listed_fault first second kind f n (v ∷ []) fault many kf kn front rest = absurd (omega arith)
listed_fault first second kind f n (v ∷ w ∷ words) fault many kf kn front (inl memory) = inl memory
listed_fault first second kind f n (v ∷ w ∷ words) fault many kf kn front (inr fault_there) =
    let same : length words ≡ length (texts_of (v ∷ w ∷ words)) - 2 = omega (arith, length_texts words) in
    let rest = subst (λ ws. IsFirstFault (replicate (length ws) kind) (texts_of ws) fault) (after_two_is v w words) fault_there in
    inr (inr (
      record { value = f; same = kf; spelled = front.0 },
      inr (
        record { value = n; same = kn; spelled = front.1.0 },
        subst (λ count. IsFirstFault (replicate count kind) (texts_of words) fault) same rest,
      ),
    ))
