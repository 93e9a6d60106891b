-- What was read of the parts so far, and of the next.
use Rattle.std.proofs.Common.{◌≡◌, ℕ, ◌+◌, ◌<◌, ◌≤◌, inl, inr, List, [], ◌∷◌, ◌++◌, length, map, get_or, drop, refl, sym, subst, append_assoc, append-nil, add-one, drop-cons}
use Rattle.std.proofs.lemmas.List.{drop_all}
use Rattle.fab_program_checks.specs.Parts.{AddsRead, AreRead}

module _ {X : Type 0} (Spells : List ℕ → X → Type 0) (all : List X → Type 0) where
  -- what a part spells, and those behind it
  front : (t : List ℕ) (ts : List (List ℕ)) (old new rest : List X) → AddsRead Spells t old new → AreRead Spells ts rest → ((found : List X) → AreRead Spells (t ∷ ts) found → all (old ++ found)) → all (new ++ rest)
  front t ts old new rest (inl adds) more so =
      subst (λ (xs : List X). all (xs ++ rest)) (sym adds.2) (subst all (sym (append_assoc old (adds.0 ∷ []) rest)) (so (adds.0 ∷ rest) (inl (adds.0, rest, refl, adds.1, more))))
  front t ts old new rest (inr adds) more so = subst (λ (xs : List X). all (xs ++ rest)) (sym adds.1) (so rest (inr (adds.0, more)))

  module _ {T : Type 0} (text : T → List ℕ) (ts : List T) where
    -- one part more is read
    pub read_more : (i : ℕ) (d : T) (old new : List X) → i < length ts → ((rest : List X) → AreRead Spells (map text (drop i ts)) rest → all (old ++ rest)) → AddsRead Spells (text (get_or ts i d)) old new
        → (rest : List X) → AreRead Spells (map text (drop (i + 1) ts)) rest → all (new ++ rest)
    read_more i d old new lt so adds rest more =
        let cut : drop i ts ≡ get_or ts i d ∷ drop (i + 1) ts = rw add-one (drop-cons ts i d lt) in
        front (text (get_or ts i d)) (map text (drop (i + 1) ts)) old new rest adds more (subst (λ (us : List T). (found : List X) → AreRead Spells (map text us) found → all (old ++ found)) cut so)

    -- all parts are read
    pub read_all : (i : ℕ) (found : List X) → length ts ≤ i → ((rest : List X) → AreRead Spells (map text (drop i ts)) rest → all (found ++ rest)) → all found
    read_all i found past so =
        let none : drop i ts ≡ [] = drop_all i ts past in
        let ends : AreRead Spells (map text (drop i ts)) [] = subst (λ (us : List T). AreRead Spells (map text us) []) (sym none) refl in
        subst all (append-nil found) (so [] ends)
