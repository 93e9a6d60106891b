-- The rules that were looked at.
use Rattle.std.proofs.Common.{◌≡◌, ℕ, ◌+◌, ◌<◌, Bool, true, false, List, length, get_or, sym, subst, ◌∙◌}
use Rattle.std.specs.Prelude.{Any}
use Rattle.std.specs.List.{AllWithin, HoldsAt}
use Rattle.std.proofs.lemmas.List.{get_or_default}
use Rattle.std.proofs.lemmas.List.Elements.{AllWithin-more}
use mathlib.Core.Bool.{true≢false}
use Rattle.fab_policy_base.specs.Policies.{RuleRow, PolicyRows}
use Rattle.fab_policy.specs.Verdicts.{Applies, Holds}
use Rattle.fab_policy.specs.declared.act.Act.{Act}

-- each of the first i rules that applies holds, and whether some applies
pub record AreSeen (p : PolicyRows) (a : Act) (applied : Bool) (i : ℕ) : Type 0 where
  pub hold : AllWithin (λ r. Applies r a → Holds p a r) p.rules 0 i
  pub some : applied ≡ true → Any (λ r. Applies r a) p.rules
  pub none : applied ≡ false → AllWithin (λ r. ¬ Applies r a) p.rules 0 i

-- what holds of the element at a place holds there under each default
at_place : {X : Type 0} (P : X → Type 0) (xs : List X) (i : ℕ) (x : X) → i < length xs → get_or xs i x ≡ x → P x → HoldsAt P xs i
at_place P xs i x h e here d = subst P (sym e ∙ get_or_default xs i x d h) here

-- one more rule that does not apply
pub not_applying : (p : PolicyRows) (a : Act) (applied : Bool) (i : ℕ) (r : RuleRow) → i < length p.rules → get_or p.rules i r ≡ r → AreSeen p a applied i → ¬ Applies r a → AreSeen p a applied (i + 1)
not_applying p a applied i r h e seen refuted = record {
  hold = AllWithin-more (λ r. Applies r a → Holds p a r) p.rules 0 i seen.hold (at_place (λ r. Applies r a → Holds p a r) p.rules i r h e (λ y. absurd (refuted y)));
  some = seen.some;
  none = λ f. AllWithin-more (λ r. ¬ Applies r a) p.rules 0 i (seen.none f) (at_place (λ r. ¬ Applies r a) p.rules i r h e refuted);
}

-- one more that applies and holds
pub holding : (p : PolicyRows) (a : Act) (applied : Bool) (i : ℕ) (r : RuleRow) → i < length p.rules → get_or p.rules i r ≡ r → AreSeen p a applied i → Applies r a → Holds p a r → AreSeen p a true (i + 1)
holding p a applied i r h e seen met holds = record {
  hold = AllWithin-more (λ r. Applies r a → Holds p a r) p.rules 0 i seen.hold (at_place (λ r. Applies r a → Holds p a r) p.rules i r h e (λ y. holds));
  some = λ t. (i, r, h, e, met);
  none = λ f. absurd (true≢false f);
}
