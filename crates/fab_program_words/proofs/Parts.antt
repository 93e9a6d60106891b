-- How a list is cut into its parts, and an approval into a name and a number.
use Rattle.std.proofs.Common.{ℕ, ◌≡◌, ◌≢◌, ◌<◌, ◌&&◌, zero, suc, Bool, true, false, eqb, List, [], ◌∷◌, ◌++◌, length, length-append, Option, Some, None, IfSome, IfNone, Bor, refl, sym, ap, subst, ◌∙◌, lit<, arith}
use Rattle.std.specs.Prelude.{All}
use Rattle.std.specs.List.{list_all}
use mathlib.Core.Bool.{true≢false}
use Rattle.std.proofs.lemmas.List.Elements.{All-nil, All-cons, All-head, All-tail}
use Rattle.std.proofs.lemmas.List.Splits.{slice_split_at, slice_split_none}
use Rattle.std.proofs.lemmas.Str.Pattern.{IsSplitOnceResult, split_parts}
use Rattle.std.proofs.lemmas.Bool.Decides.{nat_tests}
use Rattle.fab_names.proofs.Splits.{Lacks, one_cut, cut_has}
use Rattle.fab_names.specs.Names.{is_name_char, IsNameText}
use Rattle.fab_policy.specs.declared.act.Approval.{Approval}
use Rattle.fab_program_words.specs.Lists.{IsPartCut, SpellsApproval, parts_of}
use Rattle.fab_program_words.specs.Values.{SpellsNumber64}

-- a text that lacks a character fails the test for it at each place
lacks_tail : (c x : ℕ) (xs : List ℕ) → Lacks c (x ∷ xs) → Lacks c xs
lacks_tail c x xs none i below = none (suc i) (omega arith)

lacks_head : (c x : ℕ) (xs : List ℕ) → Lacks c (x ∷ xs) → eqb x c ≡ false
lacks_head c x xs none = let other : x ≢ c = none 0 (omega arith) in grind (arith, nat_tests)

tested : (c : ℕ) (xs : List ℕ) → Lacks c xs → All (λ x. eqb x c ≡ false) xs
tested c [] none = All-nil (λ x. eqb x c ≡ false)
tested c (x ∷ xs) none = All-cons (λ x. eqb x c ≡ false) x xs (lacks_head c x xs none) (tested c xs (lacks_tail c x xs none))

first_part_cut : (xs ys : List ℕ) → Lacks 44 xs → parts_of (xs ++ 44 ∷ ys) ≡ xs ∷ parts_of ys
first_part_cut xs ys none = slice_split_at (λ c. eqb c 44) xs 44 ys (tested 44 xs none) refl

only_part : (xs : List ℕ) → Lacks 44 xs → parts_of xs ≡ xs ∷ []
only_part xs none = slice_split_none (λ c. eqb c 44) xs (tested 44 xs none)

pub part_some : (text : List ℕ) (parts : Option (Bor (List ℕ) × Bor (List ℕ))) → IsSplitOnceResult 44 text parts → IfSome parts (λ p. IsPartCut text p.0.now p.1.now)
part_some text None h = tt
part_some text (Some (first, rest)) h =
    let cut = split_parts 44 text (Some (first, rest)) h (lit< tt) in
    record {
      parts = ap parts_of cut.0 ∙ first_part_cut first.now rest.now cut.1;
      shorter = omega (arith, ap length cut.0, length-append first.now (44 ∷ rest.now));
    }

pub part_none : (text : List ℕ) (parts : Option (Bor (List ℕ) × Bor (List ℕ))) → IsSplitOnceResult 44 text parts → IfNone parts (parts_of text ≡ text ∷ [])
part_none text None h = only_part text (split_parts 44 text None h (lit< tt))
part_none text (Some parts) h = tt

-- the parts of a text are of a kind where its first is, and those of the rest are
pub one_part_more : (P : List ℕ → Type 0) (text first rest : List ℕ) → IsPartCut text first rest → P first → (All P (parts_of rest) → All P (parts_of text)) × (All P (parts_of text) → All P (parts_of rest))
one_part_more P text first rest cut is = (
  λ all. subst (All P) (sym cut.parts) (All-cons P first (parts_of rest) is all),
  λ all. All-tail P first (parts_of rest) (subst (All P) cut.parts all),
)

pub first_is : (P : List ℕ → Type 0) (text first rest : List ℕ) → IsPartCut text first rest → All P (parts_of text) → P first
first_is P text first rest cut all = All-head P first (parts_of rest) (subst (All P) cut.parts all)

pub last_part : (P : List ℕ → Type 0) (text : List ℕ) → parts_of text ≡ text ∷ [] → (P text → All P (parts_of text)) × (All P (parts_of text) → P text)
last_part P text is = (λ here. subst (All P) (sym is) (All-cons P text [] here (All-nil P)), λ all. All-head P text [] (subst (All P) is all))

-- ---- approvals

and_left : (a b : Bool) → (a && b) ≡ true → a ≡ true
and_left true b e = refl
and_left false b e = e

and_right : (a b : Bool) → (a && b) ≡ true → b ≡ true
and_right true b e = e
and_right false b e = absurd (true≢false (sym e))

-- no `@` stands in a name
name_lacks : (xs : List ℕ) → list_all is_name_char xs ≡ true → Lacks 64 xs
name_lacks [] h i below = absurd (omega (arith, below))
name_lacks (x ∷ xs) h zero below = λ e. true≢false (sym (and_left (is_name_char x) _ h) ∙ ap is_name_char e)
name_lacks (x ∷ xs) h (suc i) below = name_lacks xs (and_right (is_name_char x) _ h) i (omega (arith, below))

-- a text spells no approval where it has no `@`, or the parts around its first `@` spell none
pub no_cut : (text : List ℕ) → Lacks 64 text → (a : Approval) → ¬ SpellsApproval text a
no_cut text none a s = cut_has 64 text a.caller s.number s.parts none

pub no_approval : (text first rest : List ℕ) → text ≡ first ++ 64 ∷ rest → Lacks 64 first → ((a : Approval) → IsNameText first → a.caller ≡ first → ¬ SpellsNumber64 rest a.revision) → (a : Approval) → ¬ SpellsApproval text a
no_approval text first rest is lacks none a s =
    let cut = one_cut 64 first rest a.caller s.number lacks (name_lacks a.caller s.named.chars) (sym is ∙ s.parts) in
    none a (subst IsNameText (sym cut.0) s.named) (sym cut.0) (subst (λ t. SpellsNumber64 t a.revision) (sym cut.1) s.numbered)
