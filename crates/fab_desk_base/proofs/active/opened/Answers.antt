use Rattle.std.proofs.Common.{◌≡◌, ◌-◌, length, slice_get, Some, inl, inr, refl, sym, ap, ◌∙◌, subst}
use mathlib.Core.Bool.{true≢false}
use Rattle.fab_desk_base.specs.declared.reply.ZoneMembers.{ZoneMembers}
use Rattle.fab_reach_base.proofs.Same.{same_some}
use Rattle.fab_desk_base.specs.Grouping.{EndsIn}
use Rattle.fab_desk_base.proofs.Lists.{last_is}
use Rattle.fab_desk_base.proofs.active.opened.Goals as goal

pub returns-then-not-ends_in : goal.returns-then-not-ends_in
returns-then-not-ends_in g c = (
  refl,
  inr (refl, c.new.ensures.items, λ e. true≢false (sym (c.ends_in.ensures.1 (subst (λ zs. EndsIn zs c.args.name) (sym c.as_slice.ensures.value) e)) ∙ c.if-not-ends_in.true)),
)

pub returns-in-Some : goal.returns-in-Some
returns-in-Some g c =
    let zones = c.args.zones.now.items in
    let last = c.in-Some.last in
    let ends = subst (λ zs. EndsIn zs c.args.name) c.as_slice.ensures.value (c.ends_in.ensures.0 c.if-not-ends_in.false) in
    let is : slice_get zones (length zones - 1) ≡ Some last = subst (λ zs. slice_get zs (length zs - 1) ≡ Some last) (sym c.in-Some.ensures.items) (last_is c.pop.new.self.items last) in
    (ap (λ (z : ZoneMembers _). z.name) (same_some is ends.1) ∙ ends.2, inl c.in-Some.ensures.items)
