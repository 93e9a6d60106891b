use Rattle.std.proofs.Common.{ℕ, List, [], ◌∷◌, ◌++◌, codes, subst}
use Rattle.fab_files_tries.specs.Imports.{without_text}
use Rattle.fab_files_tries.specs.Names.{hosts_text}
use Rattle.fab_wire_streams.proofs.Turns.{in_turn, second_cut}
use Rattle.fab_files_tries.proofs.imports.put_without.Goals as goal

pub returns-in_default : goal.returns-in_default
unfolding without_text
returns-in_default g c =
    let s = g.met.S.Sink.laws in
    s.early c.args.sink.now c.take.new.self (codes "; without a path afterwards:") (hosts_text c.args.paths.now.hosts.without.items ++ 10 ∷ []) c.in_default.ensures

pub returns-in_default-put_hosts : goal.returns-in_default-put_hosts
unfolding without_text
returns-in_default-put_hosts g c =
    let s = g.met.S.Sink.laws in
    second_cut s c.args.sink.now c.take.new.self c.put_hosts.new.sink (codes "; without a path afterwards:") (hosts_text c.args.paths.now.hosts.without.items) (10 ∷ []) c.in-Ok.ensures
    (subst (λ (xs : List (List ℕ)). g.S.Sink.cut c.take.new.self (hosts_text xs) c.put_hosts.new.sink) c.deref.ensures.value c.in_default-put_hosts.ensures)

pub returns : goal.returns
unfolding without_text
returns g c =
    let s = g.met.S.Sink.laws in
    let hosts = hosts_text c.args.paths.now.hosts.without.items in
    let put = subst (λ (xs : List (List ℕ)). g.S.Sink.took c.take.new.self (hosts_text xs) c.put_hosts.new.sink) c.deref.ensures.value c.in-Ok-put_hosts.ensures in
    in_turn s c.take-2.result c.args.sink.now c.take.new.self c.take-2.new.self (codes "; without a path afterwards:") (hosts ++ 10 ∷ []) c.in-Ok.ensures
    (in_turn s c.take-2.result c.take.new.self c.put_hosts.new.sink c.take-2.new.self hosts (10 ∷ []) put c.take-2.ensures)
