-- A list whose items are replaced one by one.
use Rattle.std.proofs.Common.{◌≡◌, ℕ, ◌+◌, ◌<◌, suc, List, [], ◌∷◌, ◌++◌, length, get_or, set, take, drop, map, sym, ap, ◌∙◌, subst, arith}
use Rattle.std.proofs.lemmas.List.{take_more, take_more_set, drop-set-lt, get_or-drop, map-append}
use Rattle.std.proofs.Math.Seq.{drop-cons}

module _ {X : Type 0} (f : X → X) (xs ys : List X) (i : ℕ) (d x : X) (within_xs : i < length xs) (within_ys : i < length ys) (rest : drop i ys ≡ drop i xs) (here : x ≡ get_or ys i d) where
  same_item : get_or ys i d ≡ get_or xs i d
  same_item = subst (λ k. get_or ys k d ≡ get_or xs k d) at (sym (get_or-drop i ys 0 d) ∙ ap (λ zs. get_or zs 0 d) rest ∙ get_or-drop i xs 0 d)
    where
      at : i + 0 ≡ i
      at = omega arith

  -- one more
  pub mapped_more : take i ys ≡ map f (take i xs) → take (i + 1) (set ys i (f x)) ≡ map f (take (i + 1) xs)
  mapped_more before =
      take_more_set ys i (f x) within_ys ∙ ap (λ zs. zs ++ f x ∷ []) before ∙ ap (λ z. map f (take i xs) ++ f z ∷ []) (here ∙ same_item)
      ∙ sym (map-append f (take i xs) (get_or xs i d ∷ [])) ∙ ap (map f) (sym (take_more xs i d within_xs))

  -- the others are as they were
  pub rest_less : drop (i + 1) (set ys i (f x)) ≡ drop (i + 1) xs
  rest_less = drop-set-lt (i + 1) ys i (f x) (omega arith) ∙ subst (λ k. drop k ys ≡ drop k xs) next tails
    where
      next : suc i ≡ i + 1
      next = omega arith

      both : get_or ys i d ∷ drop (suc i) ys ≡ get_or xs i d ∷ drop (suc i) xs
      both = sym (drop-cons ys i d within_ys) ∙ rest ∙ drop-cons xs i d within_xs

      tails : drop (suc i) ys ≡ drop (suc i) xs
      tails = let e = both in cc
