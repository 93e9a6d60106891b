use Rattle.std.proofs.Common.{ℕ, List, ◌∷◌, [], ◌++◌, Contains, sym, ◌∙◌, subst}
use mathlib.Core.Bool.{true≢false}
use Rattle.std.specs.Map.{keys_of}
use Rattle.std.specs.Map.Iter.{deref_pair}
use Rattle.std.proofs.lemmas.Map.Iter.{rest_more, rest_all}
use Rattle.fab_reach_base.proofs.fab_lemmas.Walks.{walked, walk_end}
use Rattle.fab_reach_base.proofs.Adding.{before_more, before_skip}
use Rattle.fab_desk_base.specs.Showing.{IsOpenTo}
use Rattle.fab_desk_base.specs.declared.command.Query.{Query}
use Rattle.fab_desk_base.specs.Tenants.{Has}
use Rattle.fab_looks.specs.Lists.{query_of}
use Rattle.fab_looks.proofs.Opens.{ByOpen, adds_name, open_added, opens_are}
use Rattle.fab_looks.proofs.listing.open_names.Goals as goal

pub loop-name-preserved-in_ok-insert : goal.loop-name-preserved-in_ok-insert
loop-name-preserved-in_ok-insert g c =
    let i = c.loop-name.invariant in
    let P = λ (n : List ℕ). IsOpenTo c.args.policy.now c.args.world.now c.args.id (query_of c.args.kind n) in
    let passes : P c.in-Some.name.now = subst (λ (q : Query). IsOpenTo c.args.policy.now c.args.world.now c.args.id q) c.query_of.ensures (c.is_open_to.ensures.0 c.if-is_open_to.true) in (
      i.0,
      i.1,
      i.2 ++ (c.in-Some.name.now, c.in-Some._value.now) ∷ [],
      walked c.args.entries i.2 c.loop-name.name-iterator c.next.new.self (c.in-Some.name.now, c.in-Some._value.now) i.3 (rest_more deref_pair c.loop-name.name-iterator c.next.new.self c.next.result (c.in-Some.name, c.in-Some._value) c.in-Some.is c.next.ensures.steps),
      before_more (ByOpen P) i.2 (c.in-Some.name.now, c.in-Some._value.now) (Has i.0) (Has c.loop-name.names) (Has c.insert.new.self) i.4
          (open_added P (c.in-Some.name.now, c.in-Some._value.now) (Has c.loop-name.names) (Has c.insert.new.self) passes (adds_name c.loop-name.names c.insert.new.self c.in-Some.name.now c.in_ok-insert.ensures.updates.0)),
    )

pub loop-name-preserved : goal.loop-name-preserved
loop-name-preserved g c =
    let i = c.loop-name.invariant in
    let P = λ (n : List ℕ). IsOpenTo c.args.policy.now c.args.world.now c.args.id (query_of c.args.kind n) in (
      i.0,
      i.1,
      i.2 ++ (c.in-Some.name.now, c.in-Some._value.now) ∷ [],
      walked c.args.entries i.2 c.loop-name.name-iterator c.next.new.self (c.in-Some.name.now, c.in-Some._value.now) i.3 (rest_more deref_pair c.loop-name.name-iterator c.next.new.self c.next.result (c.in-Some.name, c.in-Some._value) c.in-Some.is c.next.ensures.steps),
      before_skip (ByOpen P) i.2 (c.in-Some.name.now, c.in-Some._value.now) (Has i.0) (Has c.loop-name.names) i.4
          (λ y h. true≢false (sym (c.is_open_to.ensures.1 (subst (λ (q : Query). IsOpenTo c.args.policy.now c.args.world.now c.args.id q) (sym c.query_of.ensures) h.1)) ∙ c.if-is_open_to.false)),
    )

pub returns : goal.returns
returns g c =
    let i = c.loop-name.invariant in
    let P = λ (n : List ℕ). IsOpenTo c.args.policy.now c.args.world.now c.args.id (query_of c.args.kind n) in
    let t = c.loop-name.names in
    subst (λ (es : List _). (n : List ℕ) → (Has t n → Contains (keys_of es) n × P n) × (Contains (keys_of es) n × P n → Has t n))
    (walk_end c.args.entries i.2 c.loop-name.name-iterator i.3 (rest_all deref_pair c.loop-name.name-iterator c.next.new.self c.next.result c.in-None.is c.next.ensures.steps))
    (opens_are P i.2 i.0 t i.1 i.4)
