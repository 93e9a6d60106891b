use Rattle.std.proofs.Common.{◌≡◌, Bool, true, false, cond, Option, Some, sym, ap, ◌∙◌, subst, rules}
use Rattle.std.specs.declared.cmp.Ordering.{Ordering}
use Rattle.std.specs.Ordering.{is_eq}
use Rattle.std.specs.Cmp.{IsTotalOrder, tied_itself}
use Rattle.std.proofs.lemmas.Result.{err_from_is_err_and}
use Rattle.std.proofs.lemmas.Map.Steps.{set_value_same}
use Rattle.std.specs.BTreeMap.{BTreeMap, get, is_at}
use Rattle.std.specs.BTreeSet.{BTreeSet, contains}
use Rattle.fab_zoning_rows.specs.fab_lemmas.MapsOfSets.{in_tree}
use Rattle.fab_zoning_rows.proofs.fab_lemmas.Adding.{tree_adds_one}
use Rattle.fab_zoning.specs.Edits.{Puts, HasItems}
use Rattle.fab_zoning.proofs.Putting.{puts_under, puts_first_item}
use Rattle.fab_zoning.proofs.items.put_in_tree.Goals as goal

-- one set more that has an item
items_more : {Q X : Type 0} (O : Q → Q → Ordering) {R : X → X → Ordering} → IsTotalOrder R → (t u : BTreeMap Q (BTreeSet X)) (k : Q) (s w : BTreeSet X) (v : X)
    → ((q : Q) → get O u q ≡ cond (is_at (O k) q) (Some w) (get O t q)) → ((x : X) → contains R w x ≡ cond (is_at (R v) x) true (contains R s x)) → HasItems O R t → HasItems O R u
items_more {Q} {X} O {R} total t u k s w v updates added some q found at = by (is_at (O k) q) (sym (updates q) ∙ at)
  where
    one : (a b : BTreeSet X) → ◌≡◌ {A = Option (BTreeSet X)} (Some a) (Some b) → a ≡ b
    one a b e = cc

    by : (b : Bool) → cond b (Some w) (get O t q) ≡ Some found → (x : X) × (contains R found x ≡ true)
    by true e = (v, ap (λ y. contains R y v) (sym (one w found e)) ∙ added v ∙ ap (λ b. cond b true (contains R s v)) (ap is_eq (tied_itself total v)))
    by false e = some q found e

pub returns-in_ok-insert-in-Some-clause-puts : goal.returns-in_ok-insert-in-Some-clause-puts
returns-in_ok-insert-in-Some-clause-puts g c =
    puts_under g.met.Q.Ord.total g.met.Q.Key.exact (λ s x. in_tree g.X.Ord.cmp s x ≡ true) (get g.Q.Ord.cmp c.args.sets.now) (get g.Q.Ord.cmp (c.get_mut.follows.lender c.insert.new.self)) c.args.key c.insert.new.self c.args.item
    ((c.get_mut.follows.holds c.insert.new.self).3 (search rules)).0
    (subst (λ o. Puts c.args.item (λ x. in_tree g.X.Ord.cmp o x ≡ true) (λ x. contains g.X.Ord.cmp c.insert.new.self x ≡ true)) c.in-Some.ensures.value
    (tree_adds_one g.met.X.Ord.total g.met.X.Key.exact c.in-Some.set.now c.insert.new.self c.args.item c.in_ok-insert-in-Some.ensures.updates.0))

pub returns-in_ok-insert-in-None-2-clause-puts : goal.returns-in_ok-insert-in-None-2-clause-puts
returns-in_ok-insert-in-None-2-clause-puts g c =
    puts_under g.met.Q.Ord.total g.met.Q.Key.exact (λ s x. in_tree g.X.Ord.cmp s x ≡ true) (get g.Q.Ord.cmp c.args.sets.now) (get g.Q.Ord.cmp c.insert-in-None-2.new.self) c.args.key c.insert-in-None.new.self c.args.item
    (λ q. c.in_ok-insert-in-None-2.ensures.updates.0 q ∙ ap (λ m. cond (is_at (g.Q.Ord.cmp c.args.key) q) (Some c.insert-in-None.new.self) (get g.Q.Ord.cmp m q)) c.get_mut.follows.holds-at-none)
    (puts_first_item g.met.X.Ord.total g.met.X.Key.exact c.new-set.result c.insert-in-None.new.self c.args.item (get g.Q.Ord.cmp c.args.sets.now c.args.key) c.new-set.ensures.empty c.in-None.ensures.value c.in_ok-insert-in-None.ensures.updates.0)

-- a set that stayed as it was is written back
pub returns-in_err-insert-in-Some-clause-err : goal.returns-in_err-insert-in-Some-clause-err
returns-in_err-insert-in-Some-clause-err g c =
    let p = err_from_is_err_and c.from_residual.result c.from_residual.ensures.1 in
    let same : c.insert.new.self ≡ c.in-Some.set.now = λ i. record { keys = c.in_err-insert-in-Some.ensures.err i } in
    rw p.1
    ((c.get_mut.follows.holds c.insert.new.self).0
    ∙ set_value_same (is_at (g.Q.Ord.cmp c.args.key)) c.args.sets.now.entries c.insert.new.self (sym c.in-Some.ensures.value ∙ ap Some (sym same)))

pub returns-in_ok-insert-in-Some-clause-some : goal.returns-in_ok-insert-in-Some-clause-some
returns-in_ok-insert-in-Some-clause-some g c =
    items_more g.Q.Ord.cmp g.met.X.Ord.total c.args.sets.now (c.get_mut.follows.lender c.insert.new.self) c.args.key c.in-Some.set.now c.insert.new.self c.args.item
    ((c.get_mut.follows.holds c.insert.new.self).3 (search rules)).0 c.in_ok-insert-in-Some.ensures.updates.0

pub returns-in_ok-insert-in-None-2-clause-some : goal.returns-in_ok-insert-in-None-2-clause-some
returns-in_ok-insert-in-None-2-clause-some g c =
    items_more g.Q.Ord.cmp g.met.X.Ord.total c.args.sets.now c.insert-in-None-2.new.self c.args.key c.new-set.result c.insert-in-None.new.self c.args.item
    (λ q. c.in_ok-insert-in-None-2.ensures.updates.0 q ∙ ap (λ m. cond (is_at (g.Q.Ord.cmp c.args.key) q) (Some c.insert-in-None.new.self) (get g.Q.Ord.cmp m q)) c.get_mut.follows.holds-at-none)
    c.in_ok-insert-in-None.ensures.updates.0
