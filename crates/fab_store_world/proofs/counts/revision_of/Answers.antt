use Rattle.std.proofs.Common.{◌≡◌, ℕ, Contains, get_or, MatchOption, refl, sym, ◌∙◌, subst}
use mathlib.Core.Bool.{true≢false}
use Rattle.std.proofs.lemmas.List.Elements.{Contains-get_or}
use Rattle.fab_world.specs.fab_store_rows.declared.table_rows.CountRow.TheVariants.{Schema, Revision}
use Rattle.fab_world.specs.fab_store_rows.declared.table_rows.TheConstants.{SCHEMA}
use Rattle.fab_store_world.specs.OpenedTables.{IsCount}
use Rattle.fab_store_world.proofs.counts.revision_of.Goals as goal

pub returns-then-not-has_schema : goal.returns-then-not-has_schema
returns-then-not-has_schema c = λ n are. true≢false (sym (c.has_schema.ensures.1 ((are (Schema SCHEMA)).1 refl)) ∙ c.if-not-has_schema.true)

pub returns-in_default : goal.returns-in_default
returns-in_default c = λ n are.
    let none = subst (λ o. MatchOption o ((n : ℕ) → ¬ Contains c.args.rows.now (Revision n)) (λ n. Contains c.args.rows.now (Revision n))) c.in_default.is c.first_changes.ensures in
    none n ((are (Revision n)).1 refl)

pub returns-else-are_counts : goal.returns-else-are_counts
returns-else-are_counts c = λ n are.
    let rows = c.args.rows.now in
    let found = subst (λ o. MatchOption o ((n : ℕ) → ¬ Contains rows (Revision n)) (λ n. Contains rows (Revision n))) c.in-Some.is c.first_changes.ensures in
    let same : c.in-Some.revision ≡ n = (are (Revision c.in-Some.revision)).0 found in
    true≢false (sym (c.are_counts.ensures.1 (λ i d lt. subst (λ m. IsCount m (get_or rows i d)) (sym same) ((are (get_or rows i d)).0 (Contains-get_or rows i d lt)))) ∙ c.if-are_counts.false)
