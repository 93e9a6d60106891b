use Rattle.std.proofs.Common.{inl, inr, sym, ◌∙◌}
use Rattle.fab_store_edits.proofs.Answering.{on_ok}
use Rattle.fab_store_edits.proofs.leading.take_unless_sole.Goals as goal

pub returns-clause-taken : goal.returns-clause-taken
returns-clause-taken g c =
    let is = sym c.is_sole.ensures ∙ c.if-is_sole.false in
    on_ok c.take_row.result (λ f. let t = f is in record { gone = λ e. t.gone; kept = t.kept; left = λ x o. elim (t.left x o) [ inl n ↦ inl n | inr e ↦ inr (e, is) ] }) c.take_row.ensures.taken
