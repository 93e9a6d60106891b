use Rattle.std.proofs.Common.{ℕ, List, Contains, IfOk, MatchOption, sym, ◌∙◌, subst}
use mathlib.Core.Bool.{true≢false}
use Rattle.fab_mapping.specs.Mappings.{HasNoClash, IsLeastClash, MappingRows}
use Rattle.fab_store_rows.specs.declared.config_row.ConfigRow.{ConfigRow}
use Rattle.fab_store_drafts.specs.There.{IsClearAt, IsTouched}
use Rattle.fab_plans_rows.specs.Inner.Mapped.{IsOfMapping}
use Rattle.fab_plans_rows.proofs.NoneTouched.{still_clear}
use Rattle.fab_plans_rows.proofs.Touching.{clear_by}
use Rattle.fab_plans_rows.proofs.clash.clash_after.Goals as goal

pub returns-then-not-are_of_mapping : goal.returns-then-not-are_of_mapping
returns-then-not-are_of_mapping g c =
    let change = c.args.change.now in
    still_clear c.args.before.now c.args.after.now change.taken.items change.added.items c.requires.no_clash c.requires.differs
    (λ came. true≢false (sym (c.are_of_mapping.ensures.1 (subst (λ (xs : List ConfigRow). (r : ConfigRow) × Contains xs r × IsOfMapping r) (sym c.as_slice.ensures.value) came)) ∙ c.if-not-are_of_mapping.true))

pub returns-then-are_clear : goal.returns-then-are_clear
returns-then-are_clear g c =
    let change = c.args.change.now in
    clear_by c.args.before.now c.args.after.now change.taken.items change.added.items c.requires.no_clash c.requires.differs
    (subst (λ (m : MappingRows). (n : List ℕ) → IsTouched m change.added.items n → IsClearAt m n) c.mapping.ensures
    (subst (λ (xs : List ConfigRow). (n : List ℕ) → IsTouched c.mapping.result.now xs n → IsClearAt c.mapping.result.now n) c.as_slice-2.ensures.value (c.are_clear.ensures c.if-are_clear.true)))

pub returns : goal.returns
returns g c = subst (λ (m : MappingRows). IfOk c.clash.result (λ clash. MatchOption clash (HasNoClash m) (IsLeastClash m))) c.mapping-2.ensures c.clash.ensures
