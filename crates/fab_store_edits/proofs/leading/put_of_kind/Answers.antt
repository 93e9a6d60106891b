use Rattle.std.proofs.Common.{inl, inr, sym, ◌∙◌}
use Rattle.fab_store_edits.proofs.Refusing.{if_ok}
use Rattle.fab_store_edits.proofs.leading.put_of_kind.Goals as goal

pub returns-clause-put : goal.returns-clause-put
returns-clause-put g c =
    let is = sym c.is_head.ensures ∙ c.is_same.ensures.same c.if-not-is_same.false in
    if_ok c.put_row.result (λ done h e. let p = h e in record { there = λ e. p.there; kept = λ x n. elim (p.kept x n) [ inl o ↦ inl o | inr e ↦ inr (e, is) ]; left = p.left }) c.put_row.ensures.put

pub returns-clause-refused : goal.returns-clause-refused
returns-clause-refused g c =
    let is = sym c.is_head.ensures ∙ c.is_same.ensures.same c.if-not-is_same.false in
    if_ok c.put_row.result (λ done h e. record { is = is; refused = h e }) c.put_row.ensures.refused
