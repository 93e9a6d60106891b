use Rattle.std.proofs.Common.{ℕ, ℤ, MatchOption, sym, ap, subst}
use Rattle.fab_names.specs.Names.{SpellsName}
use Rattle.fab_store_columns_base.specs.Columns.{ShowsNumber}
use Rattle.fab_store_columns_base.specs.declared.limits.TheConstants.{MOST_NUMBER}
use Rattle.fab_store_columns.specs.PlanLines.{PlanColumns}
use Rattle.fab_store_columns.proofs.plan_lines.PlanLine.read.Goals as goal

pub returns-in_default-read_count : goal.returns-in_default-read_count
returns-in_default-read_count g c = λ r shows.
    let none = subst (λ o. MatchOption o ((n : ℕ) → ¬ ShowsNumber 0 MOST_NUMBER c.self.inside.position n) (ShowsNumber 0 MOST_NUMBER c.self.inside.position)) c.in_default-read_count.is c.read_count.ensures in
    none r.position (subst (λ (p : ℤ). ShowsNumber 0 MOST_NUMBER p r.position) (sym (ap (λ (l : PlanColumns). l.position) c.self.view_is)) shows.position)

pub returns-in_err-name : goal.returns-in_err-name
returns-in_err-name g c =
    rw c.from_residual.ensures (λ r h. c.in_err-name.ensures r.name (subst (λ t. SpellsName t r.name) (sym c.as_str.ensures.value) (subst (λ (l : PlanColumns). SpellsName l.name r.name) (sym c.self.view_is) h.name)))

pub returns-in_err-author : goal.returns-in_err-author
returns-in_err-author g c =
    rw c.from_residual-in_err-author.ensures (λ r h. c.in_err-author.ensures r.author (subst (λ t. SpellsName t r.author) (sym c.as_str-2.ensures.value) (subst (λ (l : PlanColumns). SpellsName l.author r.author) (sym c.self.view_is) h.author)))
