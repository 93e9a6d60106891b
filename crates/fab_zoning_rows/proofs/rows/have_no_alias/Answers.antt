use Rattle.std.proofs.Common.{ℕ, ◌≡◌, List, ◌∷◌, [], ◌++◌, true, inl, inr, refl, sym, ◌∙◌, subst}
use mathlib.Core.Bool.{true≢false}
use Rattle.std.specs.FinSet as set
use Rattle.std.specs.BTreeSet.{BTreeSet}
use Rattle.fab_inventory.specs.fab_names.declared.member.Member.{Member}
use Rattle.fab_zoning_rows.specs.Views.{seen_rows}
use Rattle.fab_inventory.proofs.fab_lemmas.Walks.{walked, walk_end, all_push}
use Rattle.fab_zoning_rows.proofs.RowSets.{IsPlainEntry, plain_seen, alias_seen}
use Rattle.fab_zoning_rows.proofs.rows.have_no_alias.Goals as goal
use Rattle.fab_zoning_rows.proofs.rows.have_no_alias.Goals.{else-is_alias-via-then-is_alias+else-not-is_empty, else-is_alias-via-else-is_alias}

pub returns-then-not-is_empty : goal.returns-then-not-is_empty
returns-then-not-is_empty g c = (
  (λ t. absurd (true≢false (sym t))),
  λ plain. absurd (c.is_alias.ensures.0 c.if-is_alias.true
      (alias_seen c.args.zones_by_member.now.entries c.loop-member.invariant.0 c.loop-member.member-iterator c.next.new.self (c.in-Some.member.now, c.in-Some.zones.now) c.loop-member.invariant.1 c.in-Some.ensures.steps
      (λ e. true≢false (sym (c.is_empty.ensures.1 e) ∙ c.if-not-is_empty.true)) plain)),
)

pub loop-member-preserved : goal.loop-member-preserved
loop-member-preserved g c =
    let e : Member × BTreeSet (List ℕ) = (c.in-Some.member.now, c.in-Some.zones.now) in (
      c.loop-member.invariant.0 ++ e ∷ [],
      walked c.args.zones_by_member.now.entries c.loop-member.invariant.0 c.loop-member.member-iterator c.next.new.self e c.loop-member.invariant.1 c.in-Some.ensures.steps,
      all_push IsPlainEntry c.loop-member.invariant.0 e c.loop-member.invariant.2
          (elim c.else-is_alias.branch [
            | else-is_alias-via-then-is_alias+else-not-is_empty w ↦ inr (w.is_empty.ensures.0 w.if-not-is_empty.false)
            | else-is_alias-via-else-is_alias w ↦ inl (λ a is. true≢false (sym (c.is_alias.ensures.1 (λ plain. plain a is)) ∙ w.if-is_alias.false))
          ]),
    )

pub returns : goal.returns
returns g c = (
  (λ _ r h. plain_seen c.loop-member.invariant.0 c.loop-member.invariant.2 r
      (subst (λ es. set.contains (seen_rows es) r ≡ true) (sym (walk_end c.args.zones_by_member.now.entries c.loop-member.invariant.0 c.loop-member.member-iterator c.loop-member.invariant.1 c.in-None.ensures.steps.0)) h)),
  λ _. refl,
)
