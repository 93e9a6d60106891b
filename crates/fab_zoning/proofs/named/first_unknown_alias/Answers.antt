use Rattle.std.proofs.Common.{◌≡◌, ℕ, List, Bool, true, false, refl, sym, ap, ◌∙◌, subst, arith}
use mathlib.Core.Bool.{true≢false}
use Rattle.std.specs.FinMap as map
use Rattle.fab_names.specs.declared.member.Member.{Member}
use Rattle.fab_names.specs.declared.member.Member.TheVariants as member
use Rattle.fab_names.specs.Orders.{name_cmp, member_cmp}
use Rattle.fab_names.proofs.OrderLaws.{name_total}
use Rattle.fab_zoning_rows.specs.fab_lemmas.MapsOfSets.{seen_sets}
use Rattle.fab_zoning.specs.Steps.{NamesKnown}
use Rattle.fab_zoning_rows.specs.fab_lemmas.Firsts.{IsFirstWithout}
use Rattle.fab_zoning_rows.proofs.fab_lemmas.MapsOfSets.{knows_seen}
use Rattle.fab_zoning_rows.proofs.fab_lemmas.Scans.{scan_more, scan_end, scan_hit}
use Rattle.fab_zoning.proofs.named.first_unknown_alias.Goals as goal
use Rattle.fab_zoning.proofs.named.first_unknown_alias.Goals.{in-Alias+else-not-contains_key, in_default}

one_alias : (a b : List ℕ) → member.Alias a ≡ member.Alias b → a ≡ b
one_alias a b e = cc

-- an alias whose name is known
known_alias : (known : List ℕ → Bool) (m : Member) (a : List ℕ) → m ≡ member.Alias a → known a ≡ true → NamesKnown known m
known_alias known m a is there b also = ap known (one_alias b a (sym also ∙ is)) ∙ there

-- and one whose name is not
unknown_alias : (known : List ℕ → Bool) (a : List ℕ) → known a ≡ false → ¬ NamesKnown known (member.Alias a)
unknown_alias known a absent all = true≢false (sym (all a refl) ∙ absent)

pub returns-then-not-contains_key : goal.returns-then-not-contains_key
returns-then-not-contains_key g c =
    let known : List ℕ → Bool = map.contains_key (seen_sets name_cmp member_cmp c.args.aliases.now.entries) in
    let absent = knows_seen member_cmp name_total c.args.aliases.now c.in-Alias.alias ∙ sym c.contains_key.ensures ∙ c.if-not-contains_key.true in
    subst (IsFirstWithout (NamesKnown known) c.args.members.now) c.in-Alias.is
    (scan_hit (NamesKnown known) c.args.members.now c.loop-member.member-index c.member-item.result c.loop-member-test.true c.member-item.is c.loop-member.invariant
    (subst (λ (m : Member). ¬ NamesKnown known m) (sym c.in-Alias.is) (unknown_alias known c.in-Alias.alias absent)))

pub loop-member-preserved : goal.loop-member-preserved
loop-member-preserved g c =
    let known : List ℕ → Bool = map.contains_key (seen_sets name_cmp member_cmp c.args.aliases.now.entries) in
    scan_more (NamesKnown known) c.args.members.now c.loop-member.member-index c.member-item.result c.loop-member-test.true c.member-item.is c.loop-member.invariant
    (elim c.match-member.branch [
      | in-Alias+else-not-contains_key w ↦
          known_alias known c.member-item.result w.in-Alias.alias w.in-Alias.is (knows_seen member_cmp name_total c.args.aliases.now w.in-Alias.alias ∙ sym w.contains_key.ensures ∙ w.if-not-contains_key.false)
      | in_default w ↦ λ a is. absurd (w.in_default.not-Alias a is)
    ])

pub returns : goal.returns
returns g c =
    scan_end (NamesKnown (map.contains_key (seen_sets name_cmp member_cmp c.args.aliases.now.entries))) c.args.members.now c.loop-member.member-index (omega arith) c.loop-member.invariant
