-- A policy has one verdict on a command: it asks of an act's lists only which items they have.
use Rattle.std.proofs.Common.{ℕ, ◌≡◌, ◌↔◌, zero, suc, List, Contains, get_or, Bool, true, false, not, ◌||◌, ◌&&◌, nat_le, is_some, Option, None, Some, IfSome, slice_get, refl, sym, ap, ◌∙◌, subst}
use Rattle.std.specs.List.{list_all, list_any, count_by}
use Rattle.std.proofs.lemmas.List.Elements.{All-contains}
use Rattle.std.proofs.lemmas.List.Folds.{Any-from_list_any, list_any-from_Any}
use Rattle.std.proofs.lemmas.List.Sums.{AllPass-from_list_all, list_all-from_AllPass}
use Rattle.std.proofs.lemmas.List.{get_or_default}
use Rattle.std.proofs.lemmas.Option.{same_Some}
use Rattle.fab_reach_base.specs.fab_names.declared.fabric.Fabric.{Fabric}
use Rattle.fab_policy.specs.fab_policy_base.Policies.{CallerRow, RuleRow, PolicyRows}
use Rattle.fab_policy.specs.fab_policy_base.declared.policy.Quorum.{Quorum}
use Rattle.fab_policy.specs.fab_policy_base.Callers.{is_same, has_tenant, lists_tenant}
use Rattle.fab_policy.specs.Verdicts.{Applies, has_role, meets_role, is_own, is_approval_of, has_approved, counts, has_quorum, meets_approvals, signs_for, is_signed_for, is_each_signed_for, meets_tenants, meets_window, meets, Holds, FailsFirst, IsVerdict}
use Rattle.fab_policy.specs.declared.act.Act.{Act}
use Rattle.fab_policy.specs.declared.act.Need.{Need}
use Rattle.fab_policy.specs.declared.act.Need.TheVariants as need
use Rattle.fab_policy.specs.declared.act.PlanApprovals.{PlanApprovals}
use Rattle.fab_policy.specs.declared.act.Verdict.{Verdict}
use Rattle.fab_policy.specs.declared.act.Verdict.TheVariants.{Allowed, Denied}
use Rattle.fab_policy.proofs.OneVerdict.{verdict_one}
use Rattle.fab_world.specs.PlanRecords.{PlanRecord}
use Rattle.fab_world.specs.Worlds.{WorldRows}
use Rattle.fab_desk_base.specs.Acts.{AreApprovals, AreOfPlan, AreOfStaged, AreOfCommand, IsAct, IsJudged}
use Rattle.fab_desk_base.specs.declared.command.Command.{Command}
use Rattle.fab_desk_base.specs.declared.command.Command.TheVariants.{Import, PutHolder, PutVolume, DropHolder, DropVolume, Stage, Withdraw, Approve, DryRun, Activate, Rollback, Show}
use Rattle.fab_desk_base.proofs.OneEffect.{one_plan}

-- ---- lists with the same items

abbrev HaveSameItems : {X : Type 0} → List X → List X → Type 0
HaveSameItems {X} xs ys = (x : X) → Contains xs x ↔ Contains ys x

turned_items : {X : Type 0} (xs ys : List X) → HaveSameItems xs ys → HaveSameItems ys xs
turned_items xs ys same x = ((same x).1, (same x).0)

-- truths that imply each other are one
one_truth : (a b : Bool) → (a ≡ true → b ≡ true) → (b ≡ true → a ≡ true) → a ≡ b
one_truth true true f g = refl
one_truth true false f g = sym (f refl)
one_truth false true f g = g refl
one_truth false false f g = refl

all_of : {X : Type 0} (p : X → Bool) (xs ys : List X) → HaveSameItems xs ys → list_all p xs ≡ true → list_all p ys ≡ true
all_of p xs ys same h = list_all-from_AllPass p ys (λ k d lt.
    All-contains (λ x. p x ≡ true) xs (get_or ys k d) (AllPass-from_list_all p xs h) ((same (get_or ys k d)).1 (k, lt, get_or_default ys k (get_or ys k d) d lt)))

same_all : {X : Type 0} (p : X → Bool) (xs ys : List X) → HaveSameItems xs ys → list_all p xs ≡ list_all p ys
same_all p xs ys same = one_truth (list_all p xs) (list_all p ys) (all_of p xs ys same) (all_of p ys xs (turned_items xs ys same))

any_of : {X : Type 0} (p : X → Bool) (xs ys : List X) → HaveSameItems xs ys → list_any p xs ≡ true → list_any p ys ≡ true
any_of p xs ys same h =
    let found = Any-from_list_any p xs h in
    let there = (same found.1).0 (found.0, found.2, found.3) in
    list_any-from_Any p ys (there.0, found.1, there.1, there.2, found.4)

same_any : {X : Type 0} (p : X → Bool) (xs ys : List X) → HaveSameItems xs ys → list_any p xs ≡ list_any p ys
same_any p xs ys same = one_truth (list_any p xs) (list_any p ys) (any_of p xs ys same) (any_of p ys xs (turned_items xs ys same))

-- ---- acts that say the same

record SamePlan (a b : PlanApprovals) : Type 0 where
  pub author : a.author ≡ b.author
  pub approvals : HaveSameItems a.approvals.now b.approvals.now

abbrev SamePlans : Option PlanApprovals → Option PlanApprovals → Type 0
SamePlans None None = Unit {0}
SamePlans None (Some b) = ⊥
SamePlans (Some a) None = ⊥
SamePlans (Some a) (Some b) = SamePlan a b

record SayTheSame (a b : Act) : Type 0 where
  pub caller : a.caller ≡ b.caller
  pub action : a.action ≡ b.action
  pub fabrics : HaveSameItems a.fabrics.now b.fabrics.now
  pub touched : HaveSameItems a.touched.now b.touched.now
  pub moment : a.moment ≡ b.moment
  pub plan : SamePlans a.plan b.plan
  pub revision : a.revision ≡ b.revision

-- who counts for a quorum
same_approved : (a b : PlanApprovals) → SamePlan a b → (revision : ℕ) (fresh : Bool) (c : CallerRow) → has_approved a revision fresh c ≡ has_approved b revision fresh c
same_approved a b same revision fresh c = same_any (is_approval_of c fresh revision) a.approvals.now b.approvals.now same.approvals

same_counts : (a b : PlanApprovals) → SamePlan a b → (revision : ℕ) (approver : Option (List ℕ)) (fresh : Bool) (c : CallerRow) → counts a revision approver fresh c ≡ counts b revision approver fresh c
same_counts a b same revision approver fresh c = λ i. (not (is_same (same.author i) c.name) && same_approved a b same revision fresh c i) && has_role approver c

same_quorum : (cs : List CallerRow) (revision : ℕ) (q : Quorum) (o e : Option PlanApprovals) → SamePlans o e → has_quorum cs revision q o ≡ has_quorum cs revision q e
same_quorum cs revision q None None same = refl
same_quorum cs revision q None (Some b) same = absurd same
same_quorum cs revision q (Some a) None same = absurd same
same_quorum cs revision q (Some a) (Some b) same = λ i. nat_le q.count (count_by (λ c. same_counts a b same revision q.approver q.fresh c i) cs)

same_approvals : (cs : List CallerRow) (a b : Act) → SayTheSame a b → (o : Option Quorum) → meets_approvals cs a o ≡ meets_approvals cs b o
same_approvals cs a b same None = refl
same_approvals cs a b same (Some q) = same_quorum cs a.revision q a.plan b.plan same.plan ∙ ap (λ revision. has_quorum cs revision q b.plan) same.revision

-- who signs for a tenant
same_signs : (revision : ℕ) (approver : Option (List ℕ)) (fresh : Bool) (o e : Option PlanApprovals) → SamePlans o e → (tenant : List ℕ) (c : CallerRow) → signs_for revision approver fresh o tenant c ≡ signs_for revision approver fresh e tenant c
same_signs revision approver fresh None None same tenant c = refl
same_signs revision approver fresh None (Some b) same tenant c = absurd same
same_signs revision approver fresh (Some a) None same tenant c = absurd same
same_signs revision approver fresh (Some a) (Some b) same tenant c = ap (λ counted. counted && lists_tenant c tenant) (same_counts a b same revision approver fresh c)

same_signed : (cs : List CallerRow) (a b : Act) → SayTheSame a b → (approver : Option (List ℕ)) (fresh : Bool) → is_each_signed_for cs a approver fresh ≡ is_each_signed_for cs b approver fresh
same_signed cs a b same approver fresh =
    same_all (is_signed_for cs a.revision approver fresh a.plan) a.touched.now b.touched.now same.touched
    ∙ (λ i. list_all (λ tenant. list_any (λ c. same_signs a.revision approver fresh a.plan b.plan same.plan tenant c i) cs) b.touched.now)
    ∙ ap (λ revision. list_all (is_signed_for cs revision approver fresh b.plan) b.touched.now) same.revision

same_tenants : (cs : List CallerRow) (a b : Act) → SayTheSame a b → (o : Option Quorum) → meets_tenants cs a o ≡ meets_tenants cs b o
same_tenants cs a b same None = refl
same_tenants cs a b same (Some q) = ap (λ signed. not q.each_tenant || signed) (same_signed cs a b same q.approver q.fresh)

same_own : (xs ys : List (List ℕ)) (o : Option CallerRow) → HaveSameItems xs ys → is_own xs o ≡ is_own ys o
same_own xs ys None same = refl
same_own xs ys (Some c) same = same_all (has_tenant c) xs ys same

module _ (p : PolicyRows) where
  same_meets : (a b : Act) → SayTheSame a b → (r : RuleRow) (n : Need) → meets p a r n ≡ meets p b r n
  same_meets a b same r need.Rule = refl
  same_meets a b same r need.Role = ap (λ id. meets_role r.role (slice_get p.callers id)) same.caller
  same_meets a b same r need.Scope =
      ap (λ own. not (is_some r.scope) || own) (same_own a.touched.now b.touched.now (slice_get p.callers a.caller) same.touched ∙ ap (λ id. is_own b.touched.now (slice_get p.callers id)) same.caller)
  same_meets a b same r need.Window = ap (λ moment. meets_window p.windows moment r.window) same.moment
  same_meets a b same r need.Approvals = same_approvals p.callers a b same r.approvals
  same_meets a b same r need.Tenants = same_tenants p.callers a b same r.approvals

  same_applies : (a b : Act) → SayTheSame a b → (r : RuleRow) → Applies r a → Applies r b
  same_applies a b same r (action, fabric) = (subst (Contains r.actions) same.action action, named r.fabric fabric)
    where
      named : (o : Option Fabric) → IfSome o (λ f. Contains a.fabrics.now f) → IfSome o (λ f. Contains b.fabrics.now f)
      named None h = h
      named (Some f) h = (same.fabrics f).0 h

  same_holds : (a b : Act) → SayTheSame a b → (r : RuleRow) → Holds p a r → Holds p b r
  same_holds a b same r holds n = sym (same_meets a b same r n) ∙ holds n

  same_fails : (a b : Act) → SayTheSame a b → (r : RuleRow) (n : Need) → FailsFirst p a r n → FailsFirst p b r n
  same_fails a b same r n fails = (sym (same_meets a b same r n) ∙ fails.0, λ m before. sym (same_meets a b same r m) ∙ fails.1 m before)

  -- each that applies holds
  same_rule : (a b : Act) → SayTheSame a b → SayTheSame b a → (r : RuleRow) → (Applies r a → Holds p a r) → Applies r b → Holds p b r
  same_rule a b same back r h applies = same_holds a b same r (h (same_applies b a back r applies))

  same_verdict : (a b : Act) → SayTheSame a b → SayTheSame b a → (v : Verdict) → IsVerdict p a v → IsVerdict p b v
  same_verdict a b same back Allowed h = record {
    some = (h.some.0, h.some.1, h.some.2, h.some.3, same_applies a b same h.some.1 h.some.4);
    all = λ k d lt. same_rule a b same back (get_or p.rules k d) (h.all k d lt);
  }
  same_verdict a b same back (Denied zero name n) h = record {
    none = λ k d lt applies. h.none k d lt (same_applies b a back (get_or p.rules k d) applies);
    named = h.named;
    need = h.need;
  }
  same_verdict a b same back (Denied (suc place) name n) h = record {
    rule = h.rule;
    within = h.within;
    at = h.at;
    applies = same_applies a b same h.rule h.applies;
    fails = same_fails a b same h.rule n h.fails;
    named = h.named;
    before = λ k d low high. same_rule a b same back (get_or p.rules k d) (h.before k d low high);
  }

-- ---- the acts of one command say the same

module _ (w : WorldRows) where
  same_plan : (n author : List ℕ) (a b : PlanApprovals) → AreApprovals w n author a → AreApprovals w n author b → SamePlan a b
  same_plan n author a b h k = record { author = h.author_is ∙ sym k.author_is; approvals = λ x. ((λ c. (k.approvals x).1 ((h.approvals x).0 c)), λ c. (h.approvals x).1 ((k.approvals x).0 c)) }

  same_of_plan : (o : Option (List ℕ)) (a b : Option PlanApprovals) → AreOfPlan w o a → AreOfPlan w o b → SamePlans a b
  same_of_plan None None None h k = h
  same_of_plan None None (Some b) h k = k
  same_of_plan None (Some a) b h k = absurd h
  same_of_plan (Some n) None b h k = absurd h
  same_of_plan (Some n) (Some a) None h k = k
  same_of_plan (Some n) (Some a) (Some b) h k = same_plan n k.0.author a b (subst (λ (p : PlanRecord). AreApprovals w n p.author a) (one_plan w n h.0 k.0 h.1 k.1) h.2) k.2

  same_of_staged : (caller n : List ℕ) (a b : Option PlanApprovals) → AreOfStaged w caller n a → AreOfStaged w caller n b → SamePlans a b
  same_of_staged caller n None b h k = absurd h
  same_of_staged caller n (Some a) None h k = k
  same_of_staged caller n (Some a) (Some b) h k = same_plan n caller a b h k

  same_of_command : {A : Type 0} (caller : List ℕ) (c : Command A) (a b : Option PlanApprovals) → AreOfCommand w caller c a → AreOfCommand w caller c b → SamePlans a b
  same_of_command caller (Stage n steps) a b h k = same_of_staged caller n a b h k
  same_of_command caller (Import f rows) a b h k = same_of_plan None a b h k
  same_of_command caller (PutHolder kind n t ports) a b h k = same_of_plan None a b h k
  same_of_command caller (PutVolume n x) a b h k = same_of_plan None a b h k
  same_of_command caller (DropHolder kind n) a b h k = same_of_plan None a b h k
  same_of_command caller (DropVolume n) a b h k = same_of_plan None a b h k
  same_of_command caller (Withdraw n) a b h k = same_of_plan (Some n) a b h k
  same_of_command caller (Approve n) a b h k = same_of_plan (Some n) a b h k
  same_of_command caller (DryRun n) a b h k = same_of_plan (Some n) a b h k
  same_of_command caller (Activate n) a b h k = same_of_plan (Some n) a b h k
  same_of_command caller (Rollback n) a b h k = same_of_plan (Some n) a b h k
  same_of_command caller (Show q) a b h k = same_of_plan None a b h k

  same_act : {A : Type 0} (id : ℕ) (caller : List ℕ) (moment : ℕ) (c : Command A) (a b : Act) → IsAct w id caller moment c a → IsAct w id caller moment c b → SayTheSame a b
  same_act id caller moment c a b h k = record {
    caller = h.caller_is ∙ sym k.caller_is;
    action = same_Some a.action b.action (sym h.action ∙ k.action);
    fabrics = λ x. ((λ y. (k.fabrics x).1 ((h.fabrics x).0 y)), λ y. (h.fabrics x).1 ((k.fabrics x).0 y));
    touched = λ x. ((λ y. (k.touched x).1 ((h.touched x).0 y)), λ y. (h.touched x).1 ((k.touched x).0 y));
    moment = h.moment_is ∙ sym k.moment_is;
    plan = same_of_command caller c a.plan b.plan h.plan k.plan;
    revision = h.revision ∙ sym k.revision;
  }

  pub judged_once : {A : Type 0} (p : PolicyRows) (id : ℕ) (caller : List ℕ) (moment : ℕ) (c : Command A) (v u : Verdict) → IsJudged p w id caller moment c v → IsJudged p w id caller moment c u → v ≡ u
  judged_once p id caller moment c v u (a, act, h) (b, other, k) = verdict_one p b v u (same_verdict p a b (same_act id caller moment c a b act other) (same_act id caller moment c b a other act) v h) k
