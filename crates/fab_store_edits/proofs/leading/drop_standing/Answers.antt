use Rattle.std.proofs.Common.{inl, inr, sym, ◌∙◌}
use Rattle.fab_store_edits.proofs.leading.drop_standing.Goals as goal

pub returns-clause-dropped : goal.returns-clause-dropped
returns-clause-dropped g c e =
    let is = sym c.is_sole.ensures ∙ c.if-not-is_sole.false in
    let t = c.drop_sole.ensures.taken e in
    record { gone = λ e. t.gone; kept = t.kept; left = λ x o. elim (t.left x o) [ inl n ↦ inl n | inr e ↦ inr (e, is) ] }
