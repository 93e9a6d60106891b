use Rattle.std.proofs.Common.{◌≡◌, ◌+◌, sym, ap, ◌∙◌, subst, take, length, List, ◌∷◌, [], ◌++◌, arith, refl, Some, None, Contains}
use Rattle.std.specs.Ordering.{nat_cmp}
use Rattle.std.specs.BTreeMap.{get}
use Rattle.std.proofs.lemmas.List.{take_all}
use Rattle.std.proofs.lemmas.Option.{slice_get_read}
use Rattle.fab_inventory.specs.declared.port.PortRow.{PortRow}
use Rattle.fab_inventory.specs.Imports.{Agrees}
use Rattle.fab_inventory.proofs.Steps.{Seen, one_more, agrees_push_new, agrees_push_same, seen_push_new, seen_push_same, row_from_test, differs_from_test}
use Rattle.fab_inventory.proofs.import.check_rows.Goals as goal
use Rattle.fab_inventory.proofs.import.check_rows.Goals.{in-Some+else-ne, in-None+in_ok-insert-in-None}

pub returns-then-ne-clause-err : goal.returns-then-ne-clause-err
returns-then-ne-clause-err g c =
    let r : PortRow = c.row-item.result in
    let known : Seen (take c.loop-row.row-index c.args.rows.now) (Some c.in-Some.earlier.now) r.name =
    subst (λ o. Seen (take c.loop-row.row-index c.args.rows.now) o r.name) (sym c.in-Some.ensures.value) (c.loop-row.invariant.seen r.name) in
    record {
      at = c.loop-row.row-index;
      here = omega arith;
      row = r;
      is = slice_get_read c.args.rows.now (length c.args.rows.now) c.loop-row.row-index r refl (omega arith) c.row-item.is;
      name = refl;
      before = c.loop-row.invariant.agrees;
      earlier = c.in-Some.earlier.now;
      among = known.0;
      same = known.1;
      differs = differs_from_test c.in-Some.earlier.now r (sym c.ne.ensures ∙ c.if-ne.true);
    }

pub loop-row-preserved : goal.loop-row-preserved
loop-row-preserved g c =
    let xs : List PortRow = take c.loop-row.row-index c.args.rows.now in
    let r : PortRow = c.row-item.result in
    let e : xs ++ r ∷ [] ≡ take (c.loop-row.row-index + 1) c.args.rows.now = one_more c.args.rows.now c.loop-row.row-index r (omega arith) c.row-item.is in
    elim c.match-get.branch [
      | in-Some+else-ne w ↦
          let seen : Seen xs (Some w.in-Some.earlier.now) r.name = subst (λ o. Seen xs o r.name) (sym w.in-Some.ensures.value) (c.loop-row.invariant.seen r.name) in
          let there : Contains xs r = subst (Contains xs) (row_from_test w.in-Some.earlier.now r (sym w.ne.ensures ∙ w.if-ne.false)) seen.0 in
          record {
            agrees = subst Agrees e (agrees_push_same xs r c.loop-row.invariant.agrees there);
            seen = λ q. subst (λ ys. Seen ys (get nat_cmp c.match-get.seen q) q) e (seen_push_same xs r (get nat_cmp c.match-get.seen) there (λ p. subst (λ m. Seen xs (get nat_cmp m p) p) (sym w.seen-is) (c.loop-row.invariant.seen p)) q);
          }
      | in-None+in_ok-insert-in-None w ↦
          let seen : Seen xs None r.name = subst (λ o. Seen xs o r.name) (sym w.in-None.ensures.value) (c.loop-row.invariant.seen r.name) in
          record {
            agrees = subst Agrees e (agrees_push_new xs r c.loop-row.invariant.agrees seen);
            seen = λ q. subst (λ ys. Seen ys (get nat_cmp c.match-get.seen q) q) e (seen_push_new xs r (get nat_cmp c.loop-row.seen) (get nat_cmp c.match-get.seen) (λ p. ap (λ m. get nat_cmp m p) w.seen-is ∙ w.in_ok-insert-in-None.ensures.updates.0 p) c.loop-row.invariant.seen q);
          }
    ]

pub returns-clause-ok : goal.returns-clause-ok
returns-clause-ok g c = subst Agrees (take_all c.loop-row.row-index c.args.rows.now (omega (arith, c.loop-row-test.false))) c.loop-row.invariant.agrees
