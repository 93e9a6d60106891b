use Rattle.std.proofs.Common.{subst, arith}
use Rattle.std.proofs.lemmas.Result.{err_from_is_err_and}
use Rattle.fab_mapping.specs.Mappings.{MappingRows}
use Rattle.fab_reach_base.specs.Gathering.{IsIndexOf}
use Rattle.fab_reach_base.specs.Reach.{Reaches}
use Rattle.fab_reach_base.specs.Views.{seen}
use Rattle.fab_reach_base.proofs.Gathering.{more_than, filled, all_too_many}
use Rattle.fab_reach_base.proofs.listing.gather.Goals as goal

pub add_all-requires : goal.add_all-requires
add_all-requires g c = subst (λ (m : MappingRows). IsIndexOf m c.in_ok-served.served) c.mapping.ensures c.in_ok-served.ensures

pub returns-in_err-add_all-clause-err : goal.returns-in_err-add_all-clause-err
returns-in_err-add_all-clause-err g c =
    let p = err_from_is_err_and c.from_residual-in_err-add_all.result c.from_residual-in_err-add_all.ensures.1 in
    rw (p.1, p.2) (more_than (seen c.args.view.now) c.args.most c.new-paths.result c.add_all.new.paths c.in_err-add_all.field-0.0 c.new-paths.ensures.empty c.in_err-add_all.ensures.err)

pub returns-clause-ok : goal.returns-clause-ok
returns-clause-ok g c = filled (Reaches (seen c.args.view.now)) c.new-paths.result c.add_all.new.paths c.new-paths.ensures.empty c.in_ok-add_all.ensures.ok

pub returns-then-len-most-clause-err : goal.returns-then-len-most-clause-err
returns-then-len-most-clause-err g c =
    all_too_many (seen c.args.view.now) c.args.most c.add_all.new.paths c.len.ensures.ordered (filled (Reaches (seen c.args.view.now)) c.new-paths.result c.add_all.new.paths c.new-paths.ensures.empty c.in_ok-add_all.ensures.ok) (omega (arith, c.if-len-most.true, c.len.ensures.len))
