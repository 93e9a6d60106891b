use Rattle.std.proofs.Common.{◌≡◌, IfSome, inl, inr, refl, sym, ap, subst}
use Rattle.fab_reach_base.specs.Records.{ConfigRows, Records}
use Rattle.fab_reach_base.specs.Soundness.{IsSoundAlone}
use Rattle.fab_desk_machine.proofs.Rooms.{same_records, room_for, ready_there, moved_there, back_there}
use Rattle.fab_desk_machine.specs.fab_desk_commands.Nexts.{next_world}
use Rattle.fab_store_base.specs.Worlds.{HoldsWorld}
use Rattle.fab_store_tables.specs.Tables.{Tables, HaveKeys}
use Rattle.fab_desk.specs.Desks.{IsTied}
use Rattle.fab_desk.proofs.Tied.{can, tied_after, left_after}
use Rattle.fab_world.specs.Worlds.{WorldRows, records_of}
use Rattle.fab_desk.proofs.carrying.carry_out.Goals as goal

pub take_over-requires-clause-room : goal.take_over-requires-clause-room
take_over-requires-clause-room g c = room_for c.args.world.now c.make_ready.new.world c.args.change.next c.in-Ok.ensures.room c.requires.suits

pub take_over-requires-clause-step : goal.take_over-requires-clause-step
take_over-requires-clause-step g c = ready_there c.args.world.now c.make_ready.new.world c.args.change.next c.in-Ok.ensures.room (g.B.PathBook.leads c.args.book.now) c.args.change.step c.requires.step

pub take_over-requires-clause-stands : goal.take_over-requires-clause-stands
take_over-requires-clause-stands g c = subst (g.B.PathBook.stands c.args.book.now) (sym (same_records c.args.world.now c.make_ready.new.world c.args.change.next c.in-Ok.ensures.room)) c.requires.stands

pub returns-in-Ok-commit-clause-done : goal.returns-in-Ok-commit-clause-done
returns-in-Ok-commit-clause-done g c =
    let w = c.args.world.now in
    let v = c.make_ready.new.world in
    let next = c.args.change.next in
    let told = c.take_over.ensures.reply in
    inr (inr (refl, c.take_over.ensures.world w c.in-Ok.ensures.room, (told.0, told.1, moved_there w v next c.in-Ok.ensures.room c.take_over.new.world told.0 told.2)))

pub returns-in-Err-commit-clause-done : goal.returns-in-Err-commit-clause-done
returns-in-Err-commit-clause-done g c = inr (inl (refl, back_there c.args.world.now c.make_ready.new.world c.args.change.next c.in-Ok.ensures.room c.give_back.new.world c.requires.suits c.give_back.ensures, refl))

pub returns-in-Err-commit-clause-stands : goal.returns-in-Err-commit-clause-stands
returns-in-Err-commit-clause-stands g c =
    let back = back_there c.args.world.now c.make_ready.new.world c.args.change.next c.in-Ok.ensures.room c.give_back.new.world c.requires.suits c.give_back.ensures in
    subst (g.B.PathBook.stands c.args.book.now) (ap records_of (sym back)) c.requires.stands

pub returns-in-Ok-commit-clause-tied : goal.returns-in-Ok-commit-clause-tied
returns-in-Ok-commit-clause-tied g c clean tied serves =
    let w = c.args.world.now in
    let v = next_world w c.args.change.next in
    let keys : (u : Tables) → HoldsWorld u w → HaveKeys u = λ u holds. c.holds_keys.ensures u w c.requires.sound holds in
    let may = can w v c.in-Ok.lines c.in-Ok.ensures.lines g.S.Store c.args.store.now c.commit.new.self g.met.S.Store.settled keys tied in
    let after = tied_after w v c.in-Ok.lines c.in-Ok.ensures.lines g.S.Store c.args.store.now c.commit.new.self g.met.S.Store.settled keys tied (c.in-Ok-commit.ensures.ready clean tied.ready may) (c.in-Ok-commit.ensures.done clean tied.ready may) in
    subst (IsTied g.S.Store c.commit.new.self) {y = c.take_over.new.world} (sym (c.take_over.ensures.world w c.in-Ok.ensures.room)) after

pub returns-in-Ok-commit-clause-doubt : goal.returns-in-Ok-commit-clause-doubt
returns-in-Ok-commit-clause-doubt g c clean tied left leaves =
    let w = c.args.world.now in
    let v = next_world w c.args.change.next in
    let keys : (u : Tables) → HoldsWorld u w → HaveKeys u = λ u holds. c.holds_keys.ensures u w c.requires.sound holds in
    let may = can w v c.in-Ok.lines c.in-Ok.ensures.lines g.S.Store c.args.store.now c.commit.new.self g.met.S.Store.settled keys tied in
    elim (left_after w v c.in-Ok.lines c.in-Ok.ensures.lines g.S.Store c.args.store.now c.commit.new.self g.met.S.Store.settled keys tied left (c.in-Ok-commit.ensures.stop clean tied.ready may left leaves)) [
      | inl before ↦ inl before
      | inr after ↦ inr (after, c.in-Ok.ensures.paths)
    ]

pub returns-in-Err-commit-clause-doubt : goal.returns-in-Err-commit-clause-doubt
returns-in-Err-commit-clause-doubt g c clean tied left leaves =
    let w = c.args.world.now in
    let v = next_world w c.args.change.next in
    let keys : (u : Tables) → HoldsWorld u w → HaveKeys u = λ u holds. c.holds_keys.ensures u w c.requires.sound holds in
    let may = can w v c.in-Ok.lines c.in-Ok.ensures.lines g.S.Store c.args.store.now c.commit.new.self g.met.S.Store.settled keys tied in
    elim (left_after w v c.in-Ok.lines c.in-Ok.ensures.lines g.S.Store c.args.store.now c.commit.new.self g.met.S.Store.settled keys tied left (c.in-Err-commit.ensures.stop clean tied.ready may left leaves)) [
      | inl before ↦ inl before
      | inr after ↦ inr (after, c.in-Ok.ensures.paths)
    ]

pub returns-in-Ok-commit-clause-spare : goal.returns-in-Ok-commit-clause-spare
returns-in-Ok-commit-clause-spare g c =
    let w = c.args.world.now in
    let same = ap (λ (r : Records). r.config) (same_records w c.make_ready.new.world c.args.change.next c.in-Ok.ensures.room) in
    let after = subst (λ (v : WorldRows). IsSoundAlone v.config) {y = c.take_over.new.world} (sym (c.take_over.ensures.world w c.in-Ok.ensures.room)) c.requires.next_sound.config in
    c.take_over.ensures.spare (subst (λ (d : ConfigRows). IfSome c.args.spare.now (λ s. s ≡ d)) (sym same) c.requires.spare) (subst IsSoundAlone (sym same) c.requires.sound.config) after

pub returns-in-Err-commit-clause-spare : goal.returns-in-Err-commit-clause-spare
returns-in-Err-commit-clause-spare g c =
    let back = back_there c.args.world.now c.make_ready.new.world c.args.change.next c.in-Ok.ensures.room c.give_back.new.world c.requires.suits c.give_back.ensures in
    subst (λ (v : WorldRows). IfSome c.args.spare.now (λ s. s ≡ v.config)) (sym back) c.requires.spare
