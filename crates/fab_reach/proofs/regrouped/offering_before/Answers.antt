use Rattle.std.proofs.Common.{sym, ap, ◌∙◌, subst, ◌≡◌, ℕ, Option, None, Some}
use mathlib.Core.Bool.{true≢false}
use Rattle.std.specs.FinMap as map
use Rattle.fab_mapping.specs.Mappings.{MappingRows}
use Rattle.fab_reach_base.specs.Views.{seen}
use Rattle.fab_reach_books.specs.Inner.Sets.{HasPortIn}
use Rattle.fab_mapping_base.specs.Groups.{StorageGroupRows}
use Rattle.fab_reach_base.proofs.Same.{same_some}
use Rattle.fab_reach_pairs.specs.Inner.Offering.{IsPortServed}
use Rattle.fab_reach.proofs.Regroups.{offered_none, offered_here}
use Rattle.fab_reach.proofs.regrouped.offering_before.Goals as goal

pub returns-in_default : goal.returns-in_default
returns-in_default g c = offered_none (seen c.args.before.now) c.args.name.now c.new-ports.result c.in_ok-targets.targets c.in_ok-targets.ensures c.new-ports.ensures.empty (λ x at h.
    let e : ◌≡◌ {A = Option StorageGroupRows} None (Some x) = c.in_default.ensures ∙ ap (λ (m : MappingRows). map.get m.groups c.args.name.now) c.mapping-mapping.ensures ∙ at in absurd cc)

pub returns-then-not-is_exposed : goal.returns-then-not-is_exposed
returns-then-not-is_exposed g c = offered_none (seen c.args.before.now) c.args.name.now c.new-ports-then-not-is_exposed.result c.in_ok-targets.targets c.in_ok-targets.ensures c.new-ports-then-not-is_exposed.ensures.empty (λ x at h.
    true≢false (sym h ∙ ap (λ (y : StorageGroupRows). y.exposed) (same_some at (ap (λ (m : MappingRows). map.get m.groups c.args.name.now) (sym c.mapping-mapping.ensures) ∙ sym c.in-Some.ensures)) ∙ sym c.is_exposed.ensures ∙ c.if-not-is_exposed.true))

pub returns : goal.returns
returns g c = offered_here (seen c.args.before.now) c.args.name.now c.in_ok-ports.ports c.in_ok-targets.targets c.in_ok-targets.ensures c.args.index.now c.requires c.in-Some.group.now (ap (λ (m : MappingRows). map.get m.groups c.args.name.now) (sym c.mapping-mapping.ensures) ∙ sym c.in-Some.ensures) (sym c.is_exposed.ensures ∙ c.if-not-is_exposed.false)
    (subst (λ (m : MappingRows). (p : ℕ) → (HasPortIn c.in_ok-ports.ports p → IsPortServed m c.args.index.now.held c.in-Some.group.now p) × (IsPortServed m c.args.index.now.held c.in-Some.group.now p → HasPortIn c.in_ok-ports.ports p)) c.mapping-mapping.ensures c.in_ok-ports.ensures)
