use Rattle.std.proofs.Common.{sym, subst}
use Rattle.fab_reach_books.specs.Limiting.{LimitedRows, ShowsPaths}
use Rattle.fab_reach_books.specs.Renewed.{IsRenewedIndex}
use Rattle.fab_reach_books.proofs.Limits.{few_shown}
use Rattle.fab_reach_books.proofs.limited.LimitedSight.pair_by.Goals as goal

pub pair_by-requires : goal.pair_by-requires
pair_by-requires g c = record {
  groups = subst (λ (v : LimitedRows). IsRenewedIndex v.world.config.mapping c.args.groups.now.new.now c.args.groups.now.old.now) (sym c.self.view_is) c.requires.groups;
}

pub invariant_of-self-in_err-show_few : goal.invariant_of-self-in_err-show_few
invariant_of-self-in_err-show_few g c =
    subst (λ v. ShowsPaths v c.show_few.new.shown c.show_few.new.over) (sym c.pair_by.ensures.same)
    (few_shown (g.S.Sight.world c.self.inside.sight) c.args.p.now c.args.q.now c.as_slice.result.now c.in_ok-paths.paths.items c.self.inside.shown c.show_few.new.shown c.self.inside.over c.show_few.new.over c.self.invariant c.in_ok-paths.ensures.paths c.as_slice.ensures.value c.show_few.ensures.shown c.show_few.ensures.over)

pub invariant_of-self-2 : goal.invariant_of-self-2
invariant_of-self-2 g c =
    subst (λ v. ShowsPaths v c.show_few.new.shown c.show_few.new.over) (sym c.pair_by.ensures.same)
    (few_shown (g.S.Sight.world c.self.inside.sight) c.args.p.now c.args.q.now c.as_slice.result.now c.in_ok-paths.paths.items c.self.inside.shown c.show_few.new.shown c.self.inside.over c.show_few.new.over c.self.invariant c.in_ok-paths.ensures.paths c.as_slice.ensures.value c.show_few.ensures.shown c.show_few.ensures.over)
