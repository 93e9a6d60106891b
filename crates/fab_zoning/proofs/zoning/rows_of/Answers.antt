use Rattle.std.proofs.Common.{◌≡◌, ◌+◌, List, ◌∷◌, [], ◌++◌, sym, ap, ◌∙◌, arith, take}
use Rattle.std.specs.FinSet as set
use Rattle.std.proofs.lemmas.List.{take_more}
use Rattle.fab_zoning_rows.specs.Rows.{Row, Rows, row_cmp}
use Rattle.fab_zoning_rows.proofs.RowSets.{row_total, row_exact, grows_by_one}
use Rattle.fab_zoning.proofs.zoning.rows_of.Goals as goal

pub loop-zone-init : goal.loop-zone-init
loop-zone-init g c = (c.new-rows.ensures, let none = ap (λ (s : Rows). set.len s) c.new-rows.ensures ∙ set.len-empty row_cmp in omega (arith, none))

pub loop-zone-preserved : goal.loop-zone-preserved
loop-zone-preserved g c =
    let xs = c.args.listed.now in
    let i = c.loop-zone.zone-index in
    let r : Row = c.loop-zone-item.result in
    let more : take (i + 1) xs ≡ take i xs ++ r ∷ [] = take_more xs i r c.loop-zone-test.true ∙ ap (λ (x : Row). take i xs ++ x ∷ []) (sym c.loop-zone-item.is) in (
      c.in_ok-put.ensures.ok ∙ ap (λ (s : Rows). set.insert s r) c.loop-zone.invariant.0 ∙ sym (ap (λ (ys : List Row). set.from_list {R = row_cmp} ys) more ∙ set.from_list_push row_total row_exact (take i xs) r),
      grows_by_one c.loop-zone.rows c.put.new.self r i c.in_ok-put.ensures.ok c.loop-zone.invariant.1,
    )
