use Rattle.std.proofs.Common.{sym, ◌∙◌, subst}
use mathlib.Core.Bool.{true≢false}
use Rattle.fab_store_world.specs.Paths.{ArePathRows}
use Rattle.fab_world.specs.Worlds.{records_of}
use Rattle.fab_store_world.proofs.OneWorld.{unsound, other_paths}
use Rattle.fab_store_world.proofs.world.world_from.Goals as goal

pub returns-then-not-branch-clause-err : goal.returns-then-not-branch-clause-err
returns-then-not-branch-clause-err g c = unsound c.args.tables.now c.in_ok-world.world c.in_ok-world.ensures.ok (λ s. true≢false (sym (c.in_ok-is_sound.ensures.1 s) ∙ c.if-not-branch.true))

pub returns-then-not-branch-2-clause-err : goal.returns-then-not-branch-2-clause-err
returns-then-not-branch-2-clause-err g c =
    let few = (c.in_ok-is_sound.ensures.0 c.if-not-branch.false).few_paths in
    other_paths c.args.tables.now c.in_ok-world.world c.in_ok-world.ensures.ok (λ are. true≢false (sym ((c.in_ok-has_paths.ensures few).1 (subst (ArePathRows (records_of c.in_ok-world.world)) (sym c.as_slice.ensures.value) are)) ∙ c.if-not-branch-2.true))

pub returns-clause-rows : goal.returns-clause-rows
returns-clause-rows g c =
    let few = (c.in_ok-is_sound.ensures.0 c.if-not-branch.false).few_paths in
    record { records_are = c.in_ok-world.ensures.ok.records_are; paths_are = subst (ArePathRows (records_of c.in_ok-world.world)) c.as_slice.ensures.value ((c.in_ok-has_paths.ensures few).0 c.if-not-branch-2.false) }
