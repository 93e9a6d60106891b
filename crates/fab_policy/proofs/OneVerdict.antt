-- A policy has one verdict on an act at most.
use Rattle.std.proofs.Common.{◌≡◌, ℕ, ◌<◌, zero, suc, List, get_or, sym, ap, subst, ◌∙◌, refl, arith}
use mathlib.Core.Bool.{true≢false}
use Rattle.std.proofs.lemmas.List.{get_or_default}
use Rattle.fab_policy_base.specs.Policies.{RuleRow, PolicyRows}
use Rattle.fab_policy.specs.Verdicts.{Applies, Holds, FailsFirst, place_of, IsAllowed, IsDeniedBy, IsUnruled, IsDenial, IsVerdict}
use Rattle.fab_policy.specs.declared.act.Act.{Act}
use Rattle.fab_policy.specs.declared.act.Need.{Need}
use Rattle.fab_policy.specs.declared.act.Need.TheVariants as need
use Rattle.fab_policy.specs.declared.act.Verdict.{Verdict}
use Rattle.fab_policy.specs.declared.act.Verdict.TheVariants.{Allowed, Denied}

-- a rule with a need that is not met does not hold
broken : (p : PolicyRows) (a : Act) (r : RuleRow) (n : Need) → FailsFirst p a r n → Holds p a r → ⊥
broken p a r n fails holds = true≢false (sym (holds n) ∙ fails.0)

-- the rule that denies is no rule that applies and holds
denied : (p : PolicyRows) (a : Act) (place : ℕ) (name : List ℕ) (n : Need) → IsDeniedBy p a place name n → ((r : RuleRow) → get_or p.rules place r ≡ r → Applies r a → Holds p a r) → ⊥
denied p a place name n d all = broken p a d.rule n d.fails (all d.rule d.at d.applies)

-- where all rules that apply hold, none denies
allowed : (p : PolicyRows) (a : Act) (place : ℕ) (name : List ℕ) (n : Need) → IsAllowed p a → IsDeniedBy p a place name n → ⊥
allowed p a place name n h d = denied p a place name n d (λ r at applies. subst (λ x. Applies x a → Holds p a x) at (h.all place r d.within) applies)

-- where none applies, none denies, and some does not apply
unruled : (p : PolicyRows) (a : Act) (name other : List ℕ) (n m : Need) (place : ℕ) → IsUnruled p a name n → IsDeniedBy p a place other m → ⊥
unruled p a name other n m place u d = subst (λ x. ¬ Applies x a) d.at (u.none place d.rule d.within) d.applies

no_rule : (p : PolicyRows) (a : Act) (name : List ℕ) (n : Need) → IsUnruled p a name n → IsAllowed p a → ⊥
no_rule p a name n u h = let (place, r, within, at, applies) = h.some in subst (λ x. ¬ Applies x a) at (u.none place r within) applies

-- no rule that denies stands before the one that does
earlier : (p : PolicyRows) (a : Act) (i j : ℕ) (x y : List ℕ) (n m : Need) → IsDeniedBy p a i x n → IsDeniedBy p a j y m → ¬ (i < j)
earlier p a i j x y n m d e below = denied p a i x n d (λ r at applies. subst (λ z. Applies z a → Holds p a z) at (e.before i r (omega arith) below) applies)

-- numbers of which none is below the other
level : (i j : ℕ) → ¬ (i < j) → ¬ (j < i) → i ≡ j
level i j f g = grind arith

-- needs are told apart by their places
abbrev need_at : ℕ → Need
need_at zero = need.Rule
need_at (suc zero) = need.Role
need_at (suc (suc zero)) = need.Scope
need_at (suc (suc (suc zero))) = need.Window
need_at (suc (suc (suc (suc zero)))) = need.Approvals
need_at (suc (suc (suc (suc (suc n))))) = need.Tenants

need_back : (n : Need) → need_at (place_of n) ≡ n
need_back need.Rule = refl
need_back need.Role = refl
need_back need.Scope = refl
need_back need.Window = refl
need_back need.Approvals = refl
need_back need.Tenants = refl

sooner : (p : PolicyRows) (a : Act) (r : RuleRow) (n m : Need) → FailsFirst p a r n → FailsFirst p a r m → ¬ (place_of n < place_of m)
sooner p a r n m f g below = true≢false (sym (g.1 n below) ∙ f.0)

-- a rule fails first by one need
one_need : (p : PolicyRows) (a : Act) (r : RuleRow) (n m : Need) → FailsFirst p a r n → FailsFirst p a r m → n ≡ m
one_need p a r n m f g = sym (need_back n) ∙ ap need_at (level (place_of n) (place_of m) (sooner p a r n m f g) (sooner p a r m n g f)) ∙ need_back m

-- the rule at a place
same_rule : (p : PolicyRows) (a : Act) (i : ℕ) (x y : List ℕ) (n m : Need) (d : IsDeniedBy p a i x n) (e : IsDeniedBy p a i y m) → d.rule ≡ e.rule
same_rule p a i x y n m d e = sym d.at ∙ get_or_default p.rules i d.rule e.rule d.within ∙ e.at

one_name : (p : PolicyRows) (a : Act) (i : ℕ) (x y : List ℕ) (n m : Need) → IsDeniedBy p a i x n → IsDeniedBy p a i y m → x ≡ y
one_name p a i x y n m d e = d.named ∙ ap (λ (r : RuleRow). r.name) (same_rule p a i x y n m d e) ∙ sym e.named

one_failing : (p : PolicyRows) (a : Act) (i : ℕ) (x y : List ℕ) (n m : Need) → IsDeniedBy p a i x n → IsDeniedBy p a i y m → n ≡ m
one_failing p a i x y n m d e = one_need p a e.rule n m (subst (λ r. FailsFirst p a r n) (same_rule p a i x y n m d e) d.fails) e.fails

-- two denials are one
pub record AreSame (i j : ℕ) (x y : List ℕ) (n m : Need) : Type 0 where
  pub rule : i ≡ j
  pub name : x ≡ y
  pub need : n ≡ m

one_denial : (p : PolicyRows) (a : Act) (i j : ℕ) (x y : List ℕ) (n m : Need) → IsDenial p a i x n → IsDenial p a j y m → AreSame i j x y n m
one_denial p a zero zero x y n m d e = record { rule = refl; name = d.named ∙ sym e.named; need = d.need ∙ sym e.need }
one_denial p a zero (suc j) x y n m d e = absurd (unruled p a x y n m j d e)
one_denial p a (suc i) zero x y n m d e = absurd (unruled p a y x m n i e d)
one_denial p a (suc i) (suc j) x y n m d e =
    let place : i ≡ j = level i j (earlier p a i j x y n m d e) (earlier p a j i y x m n e d) in
    let d : IsDeniedBy p a j x n = subst (λ k. IsDeniedBy p a k x n) place d in
    record { rule = ap suc place; name = one_name p a j x y n m d e; need = one_failing p a j x y n m d e }

not_denied : (p : PolicyRows) (a : Act) (i : ℕ) (x : List ℕ) (n : Need) → IsAllowed p a → IsDenial p a i x n → ⊥
not_denied p a zero x n h d = no_rule p a x n d h
not_denied p a (suc i) x n h d = allowed p a i x n h d

pub verdict_one : (p : PolicyRows) (a : Act) (v w : Verdict) → IsVerdict p a v → IsVerdict p a w → v ≡ w
verdict_one p a Allowed Allowed d e = refl
verdict_one p a Allowed (Denied j y m) d e = absurd (not_denied p a j y m d e)
verdict_one p a (Denied i x n) Allowed d e = absurd (not_denied p a i x n e d)
verdict_one p a (Denied i x n) (Denied j y m) d e = let same = one_denial p a i j x y n m d e in λ k. Denied (same.rule k) (same.name k) (same.need k)
