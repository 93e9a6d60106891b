use Rattle.std.proofs.Common.{Bool, true, false, cond, Some, ap, ◌∙◌, subst, refl, inr, rules}
use Rattle.std.specs.Bool.{OnTrue}
use Rattle.std.specs.BTreeMap.{get, is_at}
use Rattle.fab_store_load.specs.Rows.{StandsIn}
use Rattle.fab_reach_base.specs.fab_zoning.Edits.{Puts}
use Rattle.fab_reach_base.proofs.fab_zoning.Putting.{puts_under}
use Rattle.fab_store_load.proofs.Putting.{puts_apart, puts_first_entry, some_under, FoundIn}
use Rattle.fab_store_load.proofs.nested.put_under.Goals as goal

-- where the entry was put
on_true : (b : Bool) (P Q : Type 0) → (P → Q) → OnTrue b P → OnTrue b Q
on_true true P Q f h = f h
on_true false P Q f h = tt

pub returns-in_ok-is_free-in-Some-clause-puts : goal.returns-in_ok-is_free-in-Some-clause-puts
returns-in_ok-is_free-in-Some-clause-puts g c = on_true c.in_ok-is_free-in-Some.is_free _ _ (λ puts.
    puts_apart c.args.name c.args.key c.args.value (λ d. FoundIn g.K.Ord.cmp (get g.Q.Ord.cmp c.args.maps.now d.0) d.1) (λ d. FoundIn g.K.Ord.cmp (get g.Q.Ord.cmp (c.get_mut.follows.lender c.put.new.map) d.0) d.1)
    (puts_under g.met.Q.Ord.total g.met.Q.Key.exact (FoundIn g.K.Ord.cmp) (get g.Q.Ord.cmp c.args.maps.now) (get g.Q.Ord.cmp (c.get_mut.follows.lender c.put.new.map)) c.args.name c.put.new.map (c.args.key, c.args.value)
    ((c.get_mut.follows.holds c.put.new.map).3 (search rules)).0
    (subst (λ o. Puts {E = g.row.K.Denot × g.row.V.Denot} (c.args.key, c.args.value) (FoundIn g.K.Ord.cmp o) (StandsIn (get g.K.Ord.cmp c.put.new.map))) c.in-Some.ensures.value puts))) c.in_ok-is_free-in-Some.ensures.puts

pub returns-in_ok-is_free-in-Some-clause-some : goal.returns-in_ok-is_free-in-Some-clause-some
returns-in_ok-is_free-in-Some-clause-some g c = on_true c.in_ok-is_free-in-Some.is_free _ _ (λ puts some.
    some_under g.Q.Ord.cmp g.K.Ord.cmp (get g.Q.Ord.cmp c.args.maps.now) (get g.Q.Ord.cmp (c.get_mut.follows.lender c.put.new.map)) c.args.name c.put.new.map c.args.key c.args.value
    ((c.get_mut.follows.holds c.put.new.map).3 (search rules)).0 ((puts (c.args.key, c.args.value)).1 (inr refl)) some) c.in_ok-is_free-in-Some.ensures.puts

pub returns-in_ok-insert-in-None-2-clause-puts : goal.returns-in_ok-insert-in-None-2-clause-puts
returns-in_ok-insert-in-None-2-clause-puts g c =
    puts_apart c.args.name c.args.key c.args.value (λ d. FoundIn g.K.Ord.cmp (get g.Q.Ord.cmp c.args.maps.now d.0) d.1) (λ d. FoundIn g.K.Ord.cmp (get g.Q.Ord.cmp c.insert-in-None.new.self d.0) d.1)
    (puts_under g.met.Q.Ord.total g.met.Q.Key.exact (FoundIn g.K.Ord.cmp) (get g.Q.Ord.cmp c.args.maps.now) (get g.Q.Ord.cmp c.insert-in-None.new.self) c.args.name c.insert.new.self (c.args.key, c.args.value)
    (λ q. c.in_ok-insert-in-None-2.ensures.updates.0 q ∙ ap (λ m. cond (is_at (g.Q.Ord.cmp c.args.name) q) (Some c.insert.new.self) (get g.Q.Ord.cmp m q)) c.get_mut.follows.holds-at-none)
    (puts_first_entry g.met.K.Ord.total g.met.K.Key.exact c.new-map.result c.insert.new.self c.args.key c.args.value (get g.Q.Ord.cmp c.args.maps.now c.args.name) c.new-map.ensures.empty c.in-None.ensures.value c.in_ok-insert-in-None.ensures.updates.0))

pub returns-in_ok-insert-in-None-2-clause-some : goal.returns-in_ok-insert-in-None-2-clause-some
returns-in_ok-insert-in-None-2-clause-some g c some =
    some_under g.Q.Ord.cmp g.K.Ord.cmp (get g.Q.Ord.cmp c.args.maps.now) (get g.Q.Ord.cmp c.insert-in-None.new.self) c.args.name c.insert.new.self c.args.key c.args.value
    (λ q. c.in_ok-insert-in-None-2.ensures.updates.0 q ∙ ap (λ m. cond (is_at (g.Q.Ord.cmp c.args.name) q) (Some c.insert.new.self) (get g.Q.Ord.cmp m q)) c.get_mut.follows.holds-at-none)
    ((puts_first_entry g.met.K.Ord.total g.met.K.Key.exact c.new-map.result c.insert.new.self c.args.key c.args.value (get g.Q.Ord.cmp c.args.maps.now c.args.name) c.new-map.ensures.empty c.in-None.ensures.value c.in_ok-insert-in-None.ensures.updates.0 (c.args.key, c.args.value)).1 (inr refl)) some
