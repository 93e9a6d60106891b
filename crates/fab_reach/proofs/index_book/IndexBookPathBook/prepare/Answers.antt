use Rattle.std.proofs.Common.{◌+◌, ◌-◌, min, sym, ap, ◌∙◌, subst}
use Rattle.fab_reach_base.specs.Views.{seen}
use Rattle.fab_reach_books.specs.Counts.{most_asked}
use Rattle.fab_reach_books.specs.Numbers.{IsNumberOf}
use Rattle.fab_reach_index.proofs.Patched.{index_as, patch_as}
use Rattle.fab_reach.proofs.index_book.IndexBookPathBook.prepare.Goals as goal

pub returns-in_err-make_room-clause-stays : goal.returns-in_err-make_room-clause-stays
returns-in_err-make_room-clause-stays g c = (c.requires.stands.0, index_as (seen c.args.before.now) c.args.self.now.index c.make_room.new.self.index c.make_room.ensures.kept c.requires.stands.1, subst (IsNumberOf (seen c.args.before.now)) (sym c.make_room.ensures.paths) c.requires.stands.2)

pub returns-clause-stays : goal.returns-clause-stays
returns-clause-stays g c = (c.requires.stands.0, index_as (seen c.args.before.now) c.args.self.now.index c.make_room.new.self.index c.make_room.ensures.kept c.requires.stands.1, subst (IsNumberOf (seen c.args.before.now)) (sym c.make_room.ensures.paths) c.requires.stands.2)

pub returns-clause-leads : goal.returns-clause-leads
returns-clause-leads g c =
    let v = g.S.Sight.world c.args.sight.now in (
      c.in_ok-step.ensures.delta,
      c.requires.sound,
      patch_as v c.args.self.now.index c.make_room.new.self.index c.make_room.ensures.kept c.in_ok-step.step.patch c.in_ok-step.ensures.patch,
      c.in_ok-make_room.ensures.room,
      c.in_ok-step.ensures.paths,
    )

pub returns-clause-counts : goal.returns-clause-counts
returns-clause-counts g c =
    let t = g.S.Sight.count c.step.new.sight in record {
      bounded = c.in_ok-step.ensures.asked.bounded;
      few = c.in_ok-step.ensures.asked.few;
      summed = c.add.ensures ∙ ap (λ m. min (m + (c.asked.result - c.asked-asked.result)) most_asked) c.make_room.ensures.meter ∙ ap (λ n. min (c.args.self.now.meter + (n - c.asked-asked.result)) most_asked) c.asked.ensures ∙ ap (λ n. min (c.args.self.now.meter + (t - n)) most_asked) c.asked-asked.ensures;
    }
