-- Lines of settings, none of which tells another schema.
use Rattle.std.proofs.Common.{Option, Some, None, MatchOption, take, length, get_or, ◌+◌, ◌<◌, ◌≤◌, ℕ, ◌≡◌, ⊎_elim, List, [], ◌∷◌, ◌++◌, sym, ap, ◌∙◌, subst, lit<}
use Rattle.std.proofs.lemmas.List.{take_more, take_all}
use Rattle.std.proofs.lemmas.List.Elements.{Contains-push_cases}
use Rattle.fab_store_base.specs.Calls.{IsOtherSchema}
use Rattle.fab_store_columns.specs.MetaLines.{MetaColumns}
use Rattle.fab_store_columns.proofs.Unique.{one_decimal}
use Rattle.fab_store_tables.specs.Versions.{TellsSchema}
use Rattle.fab_store.specs.Loading.{TellsOther, TellOther}

-- one line further
pub none_next : (xs : List MetaColumns) (i : ℕ) (l : MetaColumns) (n : ℕ) → i < length xs → l ≡ get_or xs i l → ¬ TellsOther l n → ¬ TellOther (take i xs) n → ¬ TellOther (take (i + 1) xs) n
none_next xs i l n h is not before =
    subst (λ ls. ¬ TellOther ls n) (ap (λ m. take i xs ++ m ∷ []) is ∙ sym (take_more xs i l h))
    (λ told. ⊎_elim (λ early. before (told.0, early, told.2)) (λ last. not (subst (λ m. TellsOther m n) (sym last) told.2)) (Contains-push_cases (take i xs) l told.0 told.1))

-- past the last line
pub none_last : (xs : List MetaColumns) (i n : ℕ) → length xs ≤ i → ¬ TellOther (take i xs) n → ¬ TellOther xs n
none_last xs i n h none = subst (λ ls. ¬ TellOther ls n) (take_all i xs h) none

-- a line tells one schema at most
one_schema : (l : MetaColumns) (m n : ℕ) → TellsSchema l m → TellsSchema l n → m ≡ n
one_schema l m n h k = one_decimal _ (lit< tt) l.value m n h.1 k.1

-- a line that tells a schema tells it as another, or it is not another
pub tells_other : (l : MetaColumns) (schema : ℕ) (told : Option ℕ) → TellsSchema l schema → MatchOption told (¬ IsOtherSchema schema) (λ n. (n ≡ schema) × IsOtherSchema n)
    → MatchOption told ((n : ℕ) → ¬ TellsOther l n) (TellsOther l)
tells_other l schema None tells not = λ n told. not (subst IsOtherSchema (one_schema l n schema told.0 tells) told.1)
tells_other l schema (Some n) tells is = (subst (TellsSchema l) (sym is.0) tells, is.1)
