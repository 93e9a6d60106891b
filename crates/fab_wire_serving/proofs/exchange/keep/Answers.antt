use Rattle.std.proofs.Common.{rules, ◌≡◌, ◌∙◌, ◌++◌, ◌≤◌, ℕ, take, drop, length, arith, IfOk, Result, Ok, Err, List, [], sym}
use Rattle.std.proofs.lemmas.List.{drop_all, length-take, nil_from_length}
use Rattle.fab_wire_serving.proofs.exchange.keep.Goals as goal

-- where nothing was kept, nothing is
none_kept : {E : Type 0} (r : Result ℕ E) (old new buf : List ℕ) → old ≡ [] → new ≡ [] → IfOk r (λ size. (sent : ℕ) × (new ≡ drop sent (old ++ take size buf)))
none_kept (Ok size) old new buf e f =
    let short : length (take size buf) ≤ size = omega (arith, length-take size buf) in
    (size, f ∙ sym (rw e (drop_all size (take size buf) short)))
none_kept (Err e') old new buf e f = tt

pub returns-then-is_empty-clause-kept : goal.returns-then-is_empty-clause-kept
returns-then-is_empty-clause-kept c =
    let same : c.extend_from_slice.new.self.items ≡ c.args.kept.now.items = search rules in
    let none : length c.extend_from_slice.new.self.items ≡ 0 = search rules in
    let empty = nil_from_length c.extend_from_slice.new.self.items none in
    none_kept c.write_for.result c.args.kept.now.items c.extend_from_slice.new.self.items c.args.buf.now (sym same ∙ empty) empty
