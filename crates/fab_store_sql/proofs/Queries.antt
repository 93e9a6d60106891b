-- What a query on one table shows.
use Rattle.std.proofs.Common.{◌≡◌, ℕ, pos, negsuc, Bool, true, false, cond, List, [], ◌∷◌, map, None, refl, sym, ap, subst, ◌∙◌, inl, inr}
use Rattle.std.specs.List.{list_all, flat_map}
use Rattle.std.specs.List.Sorted.{IsPermutation}
use Rattle.std.proofs.lemmas.Bool.{cases_Bool}
use Rattle.std.proofs.lemmas.List.Sorted.{Contains-permutation, IsPermutation-sym}
use Rattle.sqlite.specs.declared.types.Value.TheVariants.{Int}
use Rattle.sqlite.specs.Order.{Row}
use Rattle.sqlite.specs.Tree.{Trees}
use Rattle.sqlite.specs.Term.{Term, eval_all, holds, lit}
use Rattle.sqlite_value.specs.declared.keys.Key.{Key}
use Rattle.sqlite_value.specs.declared.keys.Collation.{Collation}
use Rattle.sqlite.specs.Query.{Query, inner, end, matches, output, Output, IsAnswer}
use Rattle.sqlite_rules.specs.Lists.{Has}
use Rattle.sqlite_rules.proofs.ListLemmas.{has_right, has_contained, contains_had}
use Rattle.sqlite_rules.proofs.ProbeLemmas.{has_mapped, mapped_has}

abbrev pub table_query : ℕ → List Term → List Term → List Collation → List (Term × Key) → Query
table_query tree terms project collations order = record {
  from = inner tree end;
  filter = terms;
  group = None;
  project = project;
  distinct = false;
  collations = collations;
  order = order;
  limit = lit (Int (negsuc 0));
  offset = lit (Int (pos 0));
}

pub record Shows (terms project : List Term) (params : Row) (rows shown : List Row) : Type 0 where
  pub sound : (x : Row) → Has shown x → (r : Row) × Has rows r × (list_all (holds (params ∷ r ∷ [])) terms ≡ true) × (x ≡ eval_all project (params ∷ r ∷ []))
  pub complete : (r : Row) → Has rows r → list_all (holds (params ∷ r ∷ [])) terms ≡ true → Has shown (eval_all project (params ∷ r ∷ []))

has_matched : {X Y : Type 0} (p : X → Bool) (f : X → Y) (xs : List X) (y : Y) → Has (flat_map (λ z. cond (p z) (f z ∷ []) []) xs) y → (x : X) × Has xs x × (p x ≡ true) × (y ≡ f x)
has_matched p f [] y h = absurd h
has_matched p f (x ∷ xs) y h = elim (cases_Bool (p x)) [
  | inl here ↦ elim (rw here at h) [ inl same ↦ (x, inl refl, here, same) | inr later ↦ let r = has_matched p f xs y later in (r.0, inr r.1, r.2, r.3) ]
  | inr other ↦ let r = has_matched p f xs y (rw other at h) in (r.0, inr r.1, r.2, r.3)
]

matched_has : {X Y : Type 0} (p : X → Bool) (f : X → Y) (xs : List X) (x : X) → Has xs x → p x ≡ true → Has (flat_map (λ z. cond (p z) (f z ∷ []) []) xs) (f x)
matched_has p f [] x h passes = absurd h
matched_has p f (z ∷ xs) x (inl same) passes = rw (← same, passes) (inl refl)
matched_has p f (z ∷ xs) x (inr later) passes = has_right (cond (p z) (f z ∷ []) []) (flat_map (λ w. cond (p w) (f w ∷ []) []) xs) (f x) (matched_has p f xs x later passes)

has_permuted : {X : Type 0} (xs ys : List X) (x : X) → IsPermutation xs ys → Has xs x → Has ys x
has_permuted xs ys x same h = has_contained ys x (Contains-permutation xs ys x same (contains_had xs x h))

pub shows : (tree : ℕ) (terms project : List Term) (collations : List Collation) (order : List (Term × Key)) (db : Trees) (params : Row) (shown : List Row)
    → IsAnswer (table_query tree terms project collations order) db params shown → Shows terms project params (db tree) shown
shows tree terms project collations order db params shown answer =
    let q = table_query tree terms project collations order in
    let test = λ (r : Row). list_all (holds (params ∷ r ∷ [])) terms in
    let env = λ (r : Row). params ∷ r ∷ [] in
    let all = matches db terms (inner tree end) (params ∷ []) in
    let kept : answer.kept ≡ map (output q) all = answer.distinct ∙ ap (map (output q)) answer.grouped in
    record {
      sound = λ x h.
          let o = has_mapped (λ (k : Output). k.1) answer.ordered x (subst (λ l. Has l x) answer.shown h) in
          let e = has_mapped (output q) all o.0 (subst (λ l. Has l o.0) kept (has_permuted answer.ordered answer.kept o.0 (IsPermutation-sym _ _ answer.same) o.1)) in
          let r = has_matched test env (db tree) e.0 e.1 in
          (r.0, r.1, r.2, o.2 ∙ ap (λ (k : Output). k.1) (e.2 ∙ ap (output q) r.3));
      complete = λ r h passes.
          let o = output q (env r) in
          let there = subst (λ l. Has l o) (sym kept) (mapped_has (output q) all (env r) (matched_has test env (db tree) r h passes)) in
          subst (λ l. Has l (eval_all project (env r))) (sym answer.shown) (mapped_has (λ (k : Output). k.1) answer.ordered o (has_permuted answer.kept answer.ordered o answer.same there));
    }
