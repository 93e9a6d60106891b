use Rattle.std.proofs.Common.{◌∷◌, [], ◌++◌, sym, subst}
use Rattle.std.proofs.lemmas.Result.{err_from_is_err_and}
use Rattle.fab_names.specs.declared.member.Member.{Member}
use Rattle.fab_names.proofs.OrderLaws.{member_total, member_exact}
use Rattle.fab_zoning.specs.Inner.Adding.{PlainRow}
use Rattle.fab_zoning.proofs.Adding.{AddsRows}
use Rattle.fab_zoning_rows.proofs.fab_lemmas.Walks.{walked, walk_end}
use Rattle.fab_zoning.proofs.Adding.{before_none, before_more, before_all, before_stop, adds_plain, only_plain, adds_no_plain}
use Rattle.fab_zoning.proofs.resolve.add_plain.Goals as goal

pub loop-member-init : goal.loop-member-init
loop-member-init g c = ([], sym c.into_iter-member-iterator.ensures.into_iter_gives.0, before_none (PlainRow c.args.zone) c.args.rows.now, c.requires)

pub loop-member-preserved-in-Alias : goal.loop-member-preserved-in-Alias
loop-member-preserved-in-Alias g c = (
  c.loop-member.invariant.0 ++ c.in-Some.member.now ∷ [],
  walked c.args.members.now.keys c.loop-member.invariant.0 c.loop-member.member-iterator c.next.new.self c.in-Some.member.now c.loop-member.invariant.1 c.in-Some.ensures.steps,
  before_more (PlainRow c.args.zone) c.loop-member.invariant.0 c.in-Some.member.now c.args.rows.now c.loop-member.rows c.loop-member.rows c.loop-member.invariant.2
      (subst (λ (m : Member). AddsRows (PlainRow c.args.zone m) c.loop-member.rows c.loop-member.rows) (sym c.in-Alias.is) (adds_no_plain c.args.zone c.in-Alias.field-0 c.loop-member.rows)),
  c.loop-member.invariant.3,
)

pub loop-member-preserved : goal.loop-member-preserved
loop-member-preserved g c = (
  c.loop-member.invariant.0 ++ c.in-Some.member.now ∷ [],
  walked c.args.members.now.keys c.loop-member.invariant.0 c.loop-member.member-iterator c.next.new.self c.in-Some.member.now c.loop-member.invariant.1 c.in-Some.ensures.steps,
  before_more (PlainRow c.args.zone) c.loop-member.invariant.0 c.in-Some.member.now c.args.rows.now c.loop-member.rows c.add_row.new.rows c.loop-member.invariant.2
      (adds_plain c.args.zone c.in-Some.member.now c.loop-member.rows c.add_row.new.rows c.in_default.not-Alias c.in_ok-add_row-in_default.ensures.ok.0),
  c.in_ok-add_row-in_default.ensures.ok.1,
)

pub returns-in_err-add_row-in_default : goal.returns-in_err-add_row-in_default
returns-in_err-add_row-in_default g c =
    let p = err_from_is_err_and c.from_residual.result c.from_residual.ensures.1 in
    let stopped = c.in_err-add_row-in_default.ensures.err in
    record {
      ok = rw p.1 tt;
      err = rw (p.1, p.2) (
        before_stop (PlainRow c.args.zone) member_total member_exact c.args.members.now c.loop-member.invariant.0 c.loop-member.member-iterator c.next.new.self c.in-Some.member.now c.args.rows.now c.loop-member.rows c.add_row.new.rows
            c.loop-member.invariant.1 c.in-Some.ensures.steps c.loop-member.invariant.2 (only_plain c.args.zone c.in-Some.member.now c.loop-member.rows c.add_row.new.rows c.in_default.not-Alias stopped.0),
        stopped.1,
      );
    }

pub returns-clause-ok : goal.returns-clause-ok
returns-clause-ok g c = (
  before_all (PlainRow c.args.zone) member_total member_exact c.args.members.now c.loop-member.invariant.0 c.args.rows.now c.loop-member.rows
      (walk_end c.args.members.now.keys c.loop-member.invariant.0 c.loop-member.member-iterator c.loop-member.invariant.1 c.in-None.ensures.steps.0) c.loop-member.invariant.2,
  c.loop-member.invariant.3,
)
