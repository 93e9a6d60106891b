use Rattle.std.proofs.Common.{Bor, Bool, true, false, Some, map, ◌≡◌, sym}
use Rattle.std.specs.Bool.{OnTrue}
use Rattle.fab_mapping_base.specs.Groups.{StorageGroupRows}
use Rattle.fab_mapping_base.proofs.ClashSearch.{least_at, fine_more}
use Rattle.fab_mapping_base.proofs.clash.clash_at.Goals as goal

on_true : {P : Type 0} (b : Bool) → OnTrue b P → b ≡ true → P
on_true true p e = p
on_true false p e = absurd cc

pub returns-then-has-clause-least : goal.returns-then-has-clause-least
returns-then-has-clause-least g c = λ n w. c.requires c.args.first c.args.second (on_true c.has.result c.has.ensures c.if-has.true) c.args.host n w

pub returns-in-Some-clash_of-clause-least : goal.returns-in-Some-clash_of-clause-least
returns-in-Some-clash_of-clause-least g c =
    least_at (map (λ (r : Bor StorageGroupRows). r.now) c.args.groups.now) c.args.host c.args.first c.args.second c.in-Some.a.now c.in-Some-group_at.b.now (Some c.in-Some-clash_of.nexus) (sym c.in-Some.ensures) (sym c.in-Some-group_at.ensures) c.in-Some-clash_of.ensures

pub returns-in-None-clause-fine : goal.returns-in-None-clause-fine
returns-in-None-clause-fine g c =
    fine_more (map (λ (r : Bor StorageGroupRows). r.now) c.args.groups.now) c.args.known.now.marks.items c.insert.new.self.marks.items c.args.host c.args.first c.args.second c.in-Some.a.now c.in-Some-group_at.b.now (sym c.in-Some.ensures) (sym c.in-Some-group_at.ensures)
    c.in-None.ensures c.insert.ensures c.requires
