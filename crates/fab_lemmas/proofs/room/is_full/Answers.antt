use Rattle.std.proofs.Common.{◌≡◌, Bool, true, false, not, refl, sym, ◌∙◌}
use Rattle.std.specs.Bool.{OnTrue, OnFalse}
use Rattle.fab_lemmas.proofs.SeenMaps as maps
use Rattle.fab_lemmas.proofs.room.is_full.Goals as goal

on_true_not : (P : Type 0) (b : Bool) → (b ≡ false → P) → OnTrue (not b) P
on_true_not P true h = tt
on_true_not P false h = h refl

on_false_not : (P : Type 0) (b : Bool) → (b ≡ true → P) → OnFalse (not b) P
on_false_not P true h = h refl
on_false_not P false h = tt

on_false : (P : Type 0) (b : Bool) → P → OnFalse b P
on_false P true h = tt
on_false P false h = h

pub returns-then-len-most-clause-full : goal.returns-then-len-most-clause-full
returns-then-len-most-clause-full g c =
    on_true_not _ c.contains_key.result (λ absent. maps.full_entries g.met.Q.Ord.total c.args.tree.now c.args.key.now c.args.most c.len.result c.len.ensures.ordered c.len.ensures.len c.if-len-most.true (sym c.contains_key.ensures ∙ absent))

pub returns-then-len-most-clause-room : goal.returns-then-len-most-clause-room
returns-then-len-most-clause-room g c = on_false_not _ c.contains_key.result (λ there. maps.room_there g.met.Q.Ord.total c.args.tree.now c.args.key.now c.args.most (sym c.contains_key.ensures ∙ there))

pub returns-else-len-most-clause-room : goal.returns-else-len-most-clause-room
returns-else-len-most-clause-room g c = on_false _ _ (maps.room_beside g.met.Q.Ord.total c.args.tree.now c.args.key.now c.args.most c.len.result c.len.ensures.ordered c.len.ensures.len c.if-len-most.false)
