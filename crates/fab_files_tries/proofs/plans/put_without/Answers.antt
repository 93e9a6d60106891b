use Rattle.std.proofs.Common.{ℕ, List, [], ◌∷◌, ◌++◌, codes, subst}
use Rattle.fab_files_tries.specs.Plans.{without_text}
use Rattle.fab_files_tries.specs.Names.{listed_text}
use Rattle.fab_wire_streams.proofs.Turns.{in_turn, second_cut}
use Rattle.fab_files_tries.proofs.plans.put_without.Goals as goal

pub returns-in_default : goal.returns-in_default
unfolding without_text
returns-in_default g c =
    let s = g.met.S.Sink.laws in
    s.early c.args.sink.now c.take.new.self (codes "; hosts left without a path:") (listed_text c.args.paths.now.hosts.without.items ++ 10 ∷ []) c.in_default.ensures

pub returns-in_default-put_listed : goal.returns-in_default-put_listed
unfolding without_text
returns-in_default-put_listed g c =
    let s = g.met.S.Sink.laws in
    second_cut s c.args.sink.now c.take.new.self c.put_listed.new.sink (codes "; hosts left without a path:") (listed_text c.args.paths.now.hosts.without.items) (10 ∷ []) c.in-Ok.ensures
    (subst (λ (xs : List (List ℕ)). g.S.Sink.cut c.take.new.self (listed_text xs) c.put_listed.new.sink) c.deref.ensures.value c.in_default-put_listed.ensures)

pub returns : goal.returns
unfolding without_text
returns g c =
    let s = g.met.S.Sink.laws in
    let hosts = listed_text c.args.paths.now.hosts.without.items in
    let put = subst (λ (xs : List (List ℕ)). g.S.Sink.took c.take.new.self (listed_text xs) c.put_listed.new.sink) c.deref.ensures.value c.in-Ok-put_listed.ensures in
    in_turn s c.take-2.result c.args.sink.now c.take.new.self c.take-2.new.self (codes "; hosts left without a path:") (hosts ++ 10 ∷ []) c.in-Ok.ensures
    (in_turn s c.take-2.result c.take.new.self c.put_listed.new.sink c.take-2.new.self hosts (10 ∷ []) put c.take-2.ensures)
