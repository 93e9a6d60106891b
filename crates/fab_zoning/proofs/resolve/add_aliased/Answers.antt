use Rattle.std.proofs.Common.{◌∷◌, [], ◌++◌, sym, subst}
use Rattle.std.proofs.lemmas.Result.{err_from_is_err_and}
use Rattle.fab_names.specs.declared.member.Member.{Member}
use Rattle.std.specs.BTreeMap as tree
use Rattle.fab_names.specs.Orders.{name_cmp}
use Rattle.fab_names.proofs.OrderLaws.{member_total, member_exact}
use Rattle.fab_zoning.specs.Inner.Adding.{AliasRow}
use Rattle.fab_zoning.proofs.Adding.{AddsRows, AddsRowsOnly}
use Rattle.fab_zoning_rows.proofs.fab_lemmas.Walks.{walked, walk_end}
use Rattle.fab_zoning.proofs.Adding.{before_none, before_more, before_all, before_stop, adds_alias, only_alias, adds_unknown, adds_no_alias}
use Rattle.fab_zoning.proofs.resolve.add_aliased.Goals as goal

pub loop-member-init : goal.loop-member-init
loop-member-init g c = ([], sym c.into_iter-member-iterator.ensures.into_iter_gives.0, before_none (AliasRow c.args.aliases.now c.args.zone) c.args.rows.now, c.requires)

pub loop-member-preserved-in-Continue-1 : goal.loop-member-preserved-in-Continue-1
loop-member-preserved-in-Continue-1 g c = (
  c.loop-member.invariant.0 ++ c.in-Some.member.now ∷ [],
  walked c.args.members.now.keys c.loop-member.invariant.0 c.loop-member.member-iterator c.next.new.self c.in-Some.member.now c.loop-member.invariant.1 c.in-Some.ensures.steps,
  before_more (AliasRow c.args.aliases.now c.args.zone) c.loop-member.invariant.0 c.in-Some.member.now c.args.rows.now c.loop-member.rows c.add_plain.new.rows c.loop-member.invariant.2
      (subst (λ (m : Member). AddsRows (AliasRow c.args.aliases.now c.args.zone m) c.loop-member.rows c.add_plain.new.rows) (sym c.in-Alias.is)
      (adds_alias c.args.aliases.now c.args.zone c.in-Alias.alias c.in-Some-get.own.now c.loop-member.rows c.add_plain.new.rows (sym {b = tree.get name_cmp c.args.aliases.now c.in-Alias.alias} c.in-Some-get.ensures.value) c.in_ok-add_plain.ensures.ok.0)),
  c.in_ok-add_plain.ensures.ok.1,
)

pub returns-in_err-add_plain-clause-err : goal.returns-in_err-add_plain-clause-err
returns-in_err-add_plain-clause-err g c =
    let p = err_from_is_err_and c.from_residual.result c.from_residual.ensures.1 in
    let stopped = c.in_err-add_plain.ensures.err in
    rw (p.1, p.2) (
      before_stop (AliasRow c.args.aliases.now c.args.zone) member_total member_exact c.args.members.now c.loop-member.invariant.0 c.loop-member.member-iterator c.next.new.self c.in-Some.member.now c.args.rows.now c.loop-member.rows
          c.add_plain.new.rows c.loop-member.invariant.1 c.in-Some.ensures.steps c.loop-member.invariant.2
          (subst (λ (m : Member). AddsRowsOnly (AliasRow c.args.aliases.now c.args.zone m) c.loop-member.rows c.add_plain.new.rows) (sym c.in-Alias.is)
          (only_alias c.args.aliases.now c.args.zone c.in-Alias.alias c.in-Some-get.own.now c.loop-member.rows c.add_plain.new.rows (sym {b = tree.get name_cmp c.args.aliases.now c.in-Alias.alias} c.in-Some-get.ensures.value) stopped.0)),
      stopped.1,
    )

pub loop-member-preserved-in_default-get : goal.loop-member-preserved-in_default-get
loop-member-preserved-in_default-get g c = (
  c.loop-member.invariant.0 ++ c.in-Some.member.now ∷ [],
  walked c.args.members.now.keys c.loop-member.invariant.0 c.loop-member.member-iterator c.next.new.self c.in-Some.member.now c.loop-member.invariant.1 c.in-Some.ensures.steps,
  before_more (AliasRow c.args.aliases.now c.args.zone) c.loop-member.invariant.0 c.in-Some.member.now c.args.rows.now c.loop-member.rows c.loop-member.rows c.loop-member.invariant.2
      (subst (λ (m : Member). AddsRows (AliasRow c.args.aliases.now c.args.zone m) c.loop-member.rows c.loop-member.rows) (sym c.in-Alias.is)
      (adds_unknown c.args.aliases.now c.args.zone c.in-Alias.alias c.loop-member.rows (sym c.in_default-get.ensures.value))),
  c.loop-member.invariant.3,
)

pub loop-member-preserved : goal.loop-member-preserved
loop-member-preserved g c = (
  c.loop-member.invariant.0 ++ c.in-Some.member.now ∷ [],
  walked c.args.members.now.keys c.loop-member.invariant.0 c.loop-member.member-iterator c.next.new.self c.in-Some.member.now c.loop-member.invariant.1 c.in-Some.ensures.steps,
  before_more (AliasRow c.args.aliases.now c.args.zone) c.loop-member.invariant.0 c.in-Some.member.now c.args.rows.now c.loop-member.rows c.loop-member.rows c.loop-member.invariant.2
      (adds_no_alias c.args.aliases.now c.args.zone c.in-Some.member.now c.loop-member.rows c.in_default.not-Alias),
  c.loop-member.invariant.3,
)

pub returns-clause-ok : goal.returns-clause-ok
returns-clause-ok g c = (
  before_all (AliasRow c.args.aliases.now c.args.zone) member_total member_exact c.args.members.now c.loop-member.invariant.0 c.args.rows.now c.loop-member.rows
      (walk_end c.args.members.now.keys c.loop-member.invariant.0 c.loop-member.member-iterator c.loop-member.invariant.1 c.in-None.ensures.steps.0) c.loop-member.invariant.2,
  c.loop-member.invariant.3,
)
