-- What is read of a line.
use Rattle.std.proofs.Common.{ℕ, ◌≡◌, ◌-◌, List, [], ◌∷◌, length, take, drop, eqb, count_by, Result, Ok, Err, MatchResult, refl, sym, ap, ◌∙◌, subst, arith, rules, Bool, true, false, IsTrue, ◌↔◌, inl, inr, Bor}
use Rattle.std.proofs.lemmas.List.{take_all, length-map}
use Rattle.std.proofs.lemmas.List.Splits.{length-slice_split}
use Rattle.std.proofs.lemmas.Bool.{false≢true}
use Rattle.fab_plans_base.specs.Texts.{words_of}
use Rattle.fab_plans_base.specs.Values.{texts_of}
use Rattle.fab_plans_base.specs.Steps.{PlanStep}
use Rattle.fab_plans_base.specs.Forms.{keyword_text, form_of, Takes}
use Rattle.fab_plans_base.specs.Plans.{SpellsStep}
use Rattle.fab_plans_text.specs.Faults.{MemoryOr, ReadsWords, IsLineFault}
use Rattle.fab_plans_base.specs.declared.keyword.Keyword.{Keyword}
use Rattle.fab_plans_text.specs.declared.fault.PlanFaultKind.{PlanFaultKind}
use Rattle.fab_plans_text.specs.declared.fault.PlanFaultKind.TheVariants.{Count}

-- the line begins with the keyword, and so many words follow
pub record Begins (line : List ℕ) (keyword : Keyword) (others : List (List ℕ)) (count : ℕ) : Type 0 where
  pub words : words_of line ≡ keyword_text keyword ∷ others
  pub number : count ≡ length others

pub begins : (line first : List ℕ) (keyword : Keyword) (others : List (List ℕ)) (count : ℕ) → words_of line ≡ first ∷ others → first ≡ keyword_text keyword → count ≡ count_by (λ c. eqb c 32) line
    → Begins line keyword others count
begins line first keyword others count cut same spaces = record {
  words = cut ∙ ap (λ word. word ∷ others) same;
  number = omega (arith, ap length cut, length-slice_split (λ c. eqb c 32) line);
}

-- a line in which so many words may not follow the first
pub miscounted : (line : List ℕ) (keyword : Keyword) (others : List (List ℕ)) (count : ℕ) (takes : Bool) → Begins line keyword others count → IsTrue takes ↔ Takes (form_of keyword) count → takes ≡ false
    → MemoryOr (IsLineFault (words_of line)) Count
miscounted line keyword others count takes b says refused = inr (inr (inl (record {
  keyword = keyword;
  others = others;
  first = b.words;
  count = λ fits. false≢true (sym refused ∙ eq_true takes (says.1 (subst (Takes (form_of keyword)) (sym b.number) fits)));
  which = refl;
})))
  where
    eq_true : (b : Bool) → IsTrue b → b ≡ true
    eq_true b h = search rules

-- a line in which they may
pub counted : (line : List ℕ) (keyword : Keyword) (others : List (List ℕ)) (count : ℕ) (takes : Bool) → Begins line keyword others count → IsTrue takes ↔ Takes (form_of keyword) count → takes ≡ true
    → Takes (form_of keyword) (length others)
counted line keyword others count takes b says taken = subst (Takes (form_of keyword)) b.number (says.0 (is_true takes taken))
  where
    is_true : (b : Bool) → b ≡ true → IsTrue b
    is_true b h = search rules

-- what follows one word, as a slice from the second on gives it
abbrev pub after_one : List (Bor (List ℕ)) → List (Bor (List ℕ))
after_one words = take (length words - 1) (drop 1 words)

pub texts_after_one : (words : List (Bor (List ℕ))) (first : List ℕ) (others : List (List ℕ)) → texts_of words ≡ first ∷ others → texts_of (after_one words) ≡ others
texts_after_one [] first others e = absurd cc
texts_after_one (w ∷ words) first others e =
    let rest : texts_of words ≡ others = cc in
    let all : take (length (w ∷ words) - 1) words ≡ words = take_all (length (w ∷ words) - 1) words (omega arith) in
    ap texts_of all ∙ rest

pub length_after_one : (words : List (Bor (List ℕ))) (others : List (List ℕ)) → texts_of (after_one words) ≡ others → length (after_one words) ≡ length others
length_after_one words others e = sym (same (after_one words)) ∙ ap length e
  where
    same : (ws : List (Bor (List ℕ))) → length (texts_of ws) ≡ length ws
    same ws = rw length-map refl

-- what is read of the words behind a keyword is what is read of the line
pub line_read : (words : List (List ℕ)) (keyword : Keyword) (others : List (List ℕ)) (result : Result PlanStep PlanFaultKind) → words ≡ keyword_text keyword ∷ others → Takes (form_of keyword) (length others)
    → ReadsWords keyword others result → MatchResult result (SpellsStep words) (MemoryOr (IsLineFault words))
line_read words keyword others (Ok step) e count h = subst (λ ws. SpellsStep ws step) (sym e) h
line_read words keyword others (Err fault) e count (inl memory) = inl memory
line_read words keyword others (Err fault) e count (inr first) = inr (inr (inr (record { keyword = keyword; others = others; first = e; count = count; word = first })))
