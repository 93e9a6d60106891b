use Rattle.std.proofs.Common.{Bool, true, false}
use Rattle.std.specs.Bool.{OnTrue, OnFalse}
use Rattle.fab_names.proofs.OrderLaws.{name_total}
use Rattle.fab_zoning_rows.proofs.fab_lemmas.MapsOfSets.{sets_full, sets_have_room}
use Rattle.fab_zoning.proofs.named.is_full.Goals as goal

true_as : (P Q : Type 0) (b : Bool) → (P → Q) → OnTrue b P → OnTrue b Q
true_as P Q true f h = f h
true_as P Q false f h = tt

false_as : (P Q : Type 0) (b : Bool) → (P → Q) → OnFalse b P → OnFalse b Q
false_as P Q true f h = tt
false_as P Q false f h = f h

pub returns-clause-full : goal.returns-clause-full
returns-clause-full g c = true_as _ _ c.is_full.result (sets_full g.K.Ord.cmp name_total c.args.sets.now c.args.name.now c.args.most) c.is_full.ensures.full

pub returns-clause-room : goal.returns-clause-room
returns-clause-room g c = false_as _ _ c.is_full.result (sets_have_room g.K.Ord.cmp name_total c.args.sets.now c.args.name.now c.args.most) c.is_full.ensures.room
