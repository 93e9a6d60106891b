use Rattle.std.proofs.Common.{◌≡◌, ◌≤◌, ◌∷◌, [], ◌++◌, ◌+◌, List, map, take, refl, sym, ◌∙◌, ap, subst, arith}
use mathlib.Core.Bool.{true≢false}
use Rattle.std.proofs.lemmas.List.{map-append, length-map}
use Rattle.fab_mapping_base.specs.Groups.{StorageGroupRows}
use Rattle.fab_reach_base.proofs.Adding.{Before}
use Rattle.fab_reach_base.specs.Gathering.{Serves}
use Rattle.fab_looks.specs.Inner.Offers.{AreJust}
use Rattle.fab_looks.proofs.Filled.{gathered_next, gathered_pass, gathered_last}
use Rattle.fab_looks.proofs.Gains.{now, now_at, now_within, Kept, all_kept}
use Rattle.fab_looks.proofs.finding.serving_groups.Goals as goal
use Rattle.fab_looks.proofs.finding.serving_groups.Goals.{then-serves+in_ok-push, else-serves}

pub loop-group-preserved : goal.loop-group-preserved
loop-group-preserved g c =
    let P = λ (x : StorageGroupRows). Serves c.args.mapping.now x c.args.host.now in
    let ks = map now c.args.groups.now in
    let r = c.group-item.result in
    let old = c.loop-group.served.items in
    let within = now_within c.args.groups.now c.loop-group.group-index c.loop-group-test.true in
    let at = now_at c.args.groups.now c.loop-group.group-index r c.loop-group-test.true c.group-item.is in
    elim c.if-serves.branch [
      | then-serves+in_ok-push w ↦
          let items : c.if-serves.served.items ≡ old ++ r ∷ [] = cc (w.served-is, w.in_ok-push.ensures.items) in
          let made : map now c.if-serves.served.items ≡ map now old ++ r.now ∷ [] = ap (map now) items ∙ map-append now old (r ∷ []) in
          subst (λ (gs : List StorageGroupRows). AreJust (Before (Kept P) (take (c.loop-group.group-index + 1) ks)) gs) (sym made)
          (gathered_next (Kept P) ks c.loop-group.group-index r.now (map now old) r.now within at (λ y h. h.0) (refl, c.serves.ensures.0 w.if-serves.true) c.loop-group.invariant)
      | else-serves w ↦
          let items : c.if-serves.served.items ≡ old = cc (w.served-is) in
          subst (λ (gs : List StorageGroupRows). AreJust (Before (Kept P) (take (c.loop-group.group-index + 1) ks)) gs) (sym (ap (map now) items))
          (gathered_pass (Kept P) ks c.loop-group.group-index r.now (map now old) within at (λ y h. true≢false (sym (c.serves.ensures.1 h.1) ∙ w.if-serves.false)) c.loop-group.invariant)
    ]

pub returns : goal.returns
returns g c =
    let P = λ (x : StorageGroupRows). Serves c.args.mapping.now x c.args.host.now in
    let ks = map now c.args.groups.now in
    all_kept P ks (map now c.loop-group.served.items)
    (gathered_last (Kept P) ks c.loop-group.group-index (map now c.loop-group.served.items) (subst (λ n. n ≤ c.loop-group.group-index) (sym (length-map c.args.groups.now now)) (omega (arith, c.loop-group-test.false))) c.loop-group.invariant)
