-- Settings none of which tells a schema.
use Rattle.std.proofs.Common.{take, length, get_or, ◌+◌, ◌<◌, ◌≤◌, ℕ, ◌≡◌, ⊎_elim, List, [], ◌∷◌, ◌++◌, sym, ap, ◌∙◌, subst}
use Rattle.std.proofs.lemmas.List.{take_more, take_all}
use Rattle.std.proofs.lemmas.List.Elements.{Contains-push_cases}
use Rattle.fab_store_columns.specs.MetaLines.{MetaColumns}
use Rattle.fab_store_tables.specs.Versions.{TellsSchema, TellSchema}

-- one line further
pub none_next : (xs : List MetaColumns) (i : ℕ) (l : MetaColumns) (n : ℕ) → i < length xs → l ≡ get_or xs i l → ¬ TellsSchema l n → ¬ TellSchema (take i xs) n → ¬ TellSchema (take (i + 1) xs) n
none_next xs i l n h is not before =
    subst (λ ls. ¬ TellSchema ls n) (ap (λ m. take i xs ++ m ∷ []) is ∙ sym (take_more xs i l h))
    (λ told. ⊎_elim (λ early. before (told.0, early, told.2)) (λ last. not (subst (λ m. TellsSchema m n) (sym last) told.2)) (Contains-push_cases (take i xs) l told.0 told.1))

-- past the last line
pub none_last : (xs : List MetaColumns) (i n : ℕ) → length xs ≤ i → ¬ TellSchema (take i xs) n → ¬ TellSchema xs n
none_last xs i n h none = subst (λ ls. ¬ TellSchema ls n) (take_all i xs h) none
