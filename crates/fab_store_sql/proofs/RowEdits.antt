-- What an edit leaves of a table's rows.
use Rattle.std.proofs.Common.{◌≡◌, ℤ, true, false, not, List, [], ◌∷◌, refl, sym, ap, subst, ◌∙◌, inl, inr, is_eq, Equal}
use Rattle.std.proofs.lemmas.Bool.{and_parts, not-true, cases_Bool, both_ways}
use Rattle.std.proofs.lemmas.Cmp.{tied_itself, tied_back}
use Rattle.sqlite.specs.Order.{Row}
use Rattle.sqlite.specs.declared.types.Value.TheVariants.{Int}
use Rattle.sqlite_value.specs.Order.{value_cmp}
use Rattle.sqlite_value.proofs.OrderLemmas.{value_cmp_total}
use Rattle.sqlite.specs.Tree.{rowid, has_rowid, put_row, without_rowid}
use Rattle.sqlite_trees.specs.View.{is_int}
use Rattle.sqlite_rules.specs.Lists.{Has}
use Rattle.sqlite_rules.specs.Calls.{ids_of}
use Rattle.sqlite.specs.Edit.{id_in, without_all, put_all, are_fresh, have_rowids, is_taken}
use Rattle.sqlite_rules.proofs.ListLemmas.{some_from, has_filtered, has_kept}
use Rattle.sqlite_rules.proofs.ProbeLemmas.{has_mapped, mapped_has}
use Rattle.sqlite_rules.proofs.TableLemmas.{int_is, put_all_has, put_all_keeps, put_all_adds, put_has}
use Rattle.fab_store_sql.specs.Rows.{IsKeyed, Adds, Removes}
use Rattle.fab_store_sql.proofs.Cells.{equal_is}

keyed_put : (show : Row → Row) (new : Row) (rows : List Row) → is_int (rowid new) ≡ true → is_taken rows new ≡ false → IsKeyed show rows → IsKeyed show (put_row new rows)
keyed_put show new rows int free h =
    let apart = λ (old : Row) (there : Has rows old) (tie : value_cmp (rowid old) (rowid new) ≡ Equal).
    let none : ⊥ = both_ways _ free (some_from (λ r. is_eq (value_cmp (rowid r) (rowid new))) rows old there (ap is_eq tie)) in none in
    record {
      once = λ a b p q tie. elim (put_has new rows a p) [
        | inl a_new ↦ elim (put_has new rows b q) [
          | inl b_new ↦ ap show (a_new ∙ sym b_new)
          | inr b_old ↦ absurd (apart b b_old (tied_back value_cmp_total (rowid new) (rowid b) (subst (λ r. value_cmp (rowid r) (rowid b) ≡ Equal) a_new tie)))
        ]
        | inr a_old ↦ elim (put_has new rows b q) [
          | inl b_new ↦ absurd (apart a a_old (subst (λ r. value_cmp (rowid a) (rowid r) ≡ Equal) b_new tie))
          | inr b_old ↦ h.once a b a_old b_old tie
        ]
      ];
      keyed = λ r there. elim (put_has new rows r there) [ inl same ↦ ap (λ x. is_int (rowid x)) same ∙ int | inr old ↦ h.keyed r old ];
    }

-- one new row whose rowid is free
pub adds_one : (show : Row → Row) (new : Row) (rows : List Row) → have_rowids (new ∷ []) ≡ true → are_fresh rows (new ∷ []) ≡ true → Adds show (show new) rows (put_all rows (new ∷ []))
adds_one show new rows keyed fresh = record {
  there = (new, put_all_adds (new ∷ []) rows new fresh (inl refl), refl);
  kept = λ c h. (h.0, put_all_keeps (new ∷ []) rows h.0 fresh h.1, h.2);
  from = λ c h. elim (put_all_has (new ∷ []) rows h.0 h.1) [
    | inl here ↦ elim here [ inl same ↦ inl (h.2 ∙ ap show same) | inr none ↦ absurd none ]
    | inr old ↦ inr (h.0, old, h.2)
  ];
  keyed = keyed_put show new rows (and_parts _ _ keyed).0 (not-true _ (and_parts _ _ fresh).0);
}

abbrev Lacks : List ℤ → Row → Type 0
Lacks ids x = (id : ℤ) → Has ids id → has_rowid id x ≡ false

left_from : (ids : List ℤ) (rows : List Row) (x : Row) → Has (without_all rows ids) x → Has rows x × Lacks ids x
left_from [] rows x h = (h, λ id none. absurd none)
left_from (id ∷ ids) rows x h =
    let r = left_from ids (without_rowid id rows) x h in
    let was = has_filtered (λ y. not (has_rowid id y)) rows x r.0 in
    (was.0, λ other k. elim k [ inl e ↦ rw e (not-true _ was.1) | inr more ↦ r.1 other more ])

left_has : (ids : List ℤ) (rows : List Row) (x : Row) → Has rows x → Lacks ids x → Has (without_all rows ids) x
left_has [] rows x h lacks = h
left_has (id ∷ ids) rows x h lacks = left_has ids (without_rowid id rows) x (has_kept (λ y. not (has_rowid id y)) rows x h (ap not (lacks id (inl refl)))) (λ other k. lacks other (inr k))

module _ (show : Row → Row) (Test : Row → Type 0) (rows found : List Row) (h : IsKeyed show rows)
    (sound : (x : Row) → Has found x → (r : Row) × Has rows r × Test (show r) × (rowid x ≡ rowid r))
    (complete : (r : Row) → Has rows r → Test (show r) → (x : Row) × Has found x × (rowid x ≡ rowid r)) where
  named : (r : Row) → Has rows r → rowid r ≡ Int (id_in (rowid r))
  named r there = int_is (rowid r) (h.keyed r there)

  -- the rows that were found are taken out, and no other
  pub removes_found : Removes show Test rows (without_all rows (ids_of found))
  removes_found = record {
    gone = λ c left passes.
        let was = left_from (ids_of found) rows left.0 left.1 in
        let x = complete left.0 was.0 (subst Test left.2 passes) in
        let id = id_in (rowid x.0) in
        let lacks = was.1 id (mapped_has (λ r. id_in (rowid r)) found x.0 x.1) in
        let same : rowid left.0 ≡ Int id = named left.0 was.0 ∙ ap (λ v. Int (id_in v)) (sym x.2) in
        let tie : has_rowid id left.0 ≡ true = rw same (ap is_eq (tied_itself value_cmp_total (Int id))) in
        both_ways _ lacks tie;
    kept = λ c was fails. (
      was.0,
      left_has (ids_of found) rows was.0 was.1 (λ id there.
          let x = has_mapped (λ r. id_in (rowid r)) found id there in
          let r = sound x.0 x.1 in
          elim (cases_Bool (has_rowid id was.0)) [
            | inl tie ↦
                let same : Int id ≡ rowid r.0 = ap Int x.2 ∙ ap (λ v. Int (id_in v)) r.3 ∙ sym (named r.0 r.1) in
                let shown = h.once was.0 r.0 was.1 r.1 (subst (λ v. value_cmp (rowid was.0) v ≡ Equal) same (equal_is _ tie)) in
                absurd (fails (subst Test (sym shown ∙ sym was.2) r.2))
            | inr other ↦ other
          ]),
      was.2,
    );
    from = λ c left. (left.0, (left_from (ids_of found) rows left.0 left.1).0, left.2);
    keyed = record { once = λ a b p q. h.once a b (left_from (ids_of found) rows a p).0 (left_from (ids_of found) rows b q).0; keyed = λ r left. h.keyed r (left_from (ids_of found) rows r left).0 };
  }
