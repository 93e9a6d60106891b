-- Earlier configurations: what rows tell of them, and how changes lead back.
use Rattle.std.proofs.Common.{ℕ, ◌≡◌, ◌↔◌, List, [], ◌∷◌, ◌++◌, Option, None, Some, MatchOption, Result, Ok, Err, IfOk, sym, ap, ◌∙◌, subst, reverse}
use Rattle.std.proofs.lemmas.List.{reverse-append}
use Rattle.fab_reach_base.specs.fab_lemmas.Lists.{IsListOf}
use Rattle.fab_reach_base.specs.Records.{ConfigRows}
use Rattle.fab_reach_base.specs.Soundness.{IsSoundAlone}
use Rattle.fab_store_load.specs.fab_store_rows.declared.config_row.ConfigRow.{ConfigRow}
use Rattle.fab_store_load.specs.fab_store_rows.Differences.{IsDifference}
use Rattle.fab_store_load.specs.fab_store_rows.RowOrder.{row_order}
use Rattle.fab_store_load.specs.fab_store_rows.Standing.{Stands}
use Rattle.fab_store_load.specs.fab_store_rows.Telling.{HaveSameRows}
use Rattle.fab_store_load.proofs.fab_store_rows.Determined.{one_config}
use Rattle.fab_store_drafts.proofs.fab_store_edits.Differing.{led_back, same_rows, difference_of_rows}
use Rattle.fab_store_load.specs.Configs.{AreConfigRows}
use Rattle.fab_world.specs.History.{IsEarlier, IsOnlyEarlier, LeadsBack, changes_at, changes_of}
use Rattle.fab_world.specs.PlanRecords.{PlanRecord}
use Rattle.fab_world.specs.Plans.{Change}

-- what is there, where something is; and where nothing is
pub here : {X : Type 0} (P : Type 0) (Q : X → Type 0) (o : Option X) (x : X) → o ≡ Some x → MatchOption o P Q → Q x
here P Q o x is h = subst (λ y. MatchOption y P Q) is h

pub nothing : {X : Type 0} (P : Type 0) (Q : X → Type 0) (o : Option X) → o ≡ None → MatchOption o P Q → P
nothing P Q o is h = subst (λ y. MatchOption y P Q) is h

-- one fact of what is found follows from another
pub found_as : {X E : Type 0} {P R : Type 0} {Q S : X → Type 0} (r : Result (Option X) E) → (P → R) → ((x : X) → Q x → S x) → IfOk r (λ o. MatchOption o P Q) → IfOk r (λ o. MatchOption o R S)
found_as (Ok None) none some h = none h
found_as (Ok (Some x)) none some h = some x h
found_as (Err e) none some h = h

-- ---- the rows of a configuration, as listed
module _ (c d : ConfigRows) (rows : List ConfigRow) (listed : IsListOf row_order (Stands c) rows) where
  pub same_as_listed : AreConfigRows rows d → HaveSameRows d c
  same_as_listed are r = ((λ h. listed.sound r ((are r).1 h)), λ h. (are r).0 (listed.complete r h))

  pub listed_as_same : HaveSameRows d c → AreConfigRows rows d
  listed_as_same same r = ((λ h. (same r).1 (listed.sound r h)), λ h. listed.complete r ((same r).0 h))

-- where none has the rows, none is earlier
pub none_led : (now : ConfigRows) (change : Change) → ((b : ConfigRows) → ¬ IsDifference b now change.taken change.added) → (b : ConfigRows) → ¬ IsEarlier now change b
none_led now change none b e = none b e.differs

-- ---- a configuration from which the change leads here, sound or not
module _ (now edited : ConfigRows) (change : Change) (differs : IsDifference edited now change.taken change.added) where
  -- each earlier one has its rows
  earlier_rows : (b : ConfigRows) → IsEarlier now change b → HaveSameRows b edited
  earlier_rows b e = same_rows now change.added change.taken b edited (led_back b now change.taken change.added e.differs) (led_back edited now change.taken change.added differs)

  pub none_alike : ((c : ConfigRows) → HaveSameRows c edited → ¬ IsSoundAlone c) → (b : ConfigRows) → ¬ IsEarlier now change b
  none_alike none b e = none b (earlier_rows b e) e.sound

  -- so there is one at most
  pub only_alike : (c : ConfigRows) → HaveSameRows c edited × IsSoundAlone c → IsOnlyEarlier now change c
  only_alike c found = record {
    is = record { sound = found.1; differs = difference_of_rows edited c now change.taken change.added found.0 differs };
    only = λ b e. one_config b c e.sound.parts.zonings found.1.parts.zonings (λ r. let x = earlier_rows b e r in let y = found.0 r in ((λ h. y.1 (x.0 h)), λ h. x.1 (y.0 h)));
  }

-- ---- steps back

module _ (now : ConfigRows) (change : Change) (changes : List Change) (is : changes ≡ change ∷ []) where
  -- no way leads back where there is no earlier configuration
  pub no_way : ((b : ConfigRows) → ¬ IsEarlier now change b) → (others : List Change) → ¬ LeadsBack (changes ++ others) now
  no_way h others leads = let l = subst (λ ys. LeadsBack (ys ++ others) now) is leads in h l.0 l.1

  -- and else the way goes through it
  pub one_way : (b : ConfigRows) → IsOnlyEarlier now change b → (others : List Change) → LeadsBack (changes ++ others) now ↔ LeadsBack others b
  one_way b e others = (
    λ leads. let l = subst (λ ys. LeadsBack (ys ++ others) now) is leads in subst (LeadsBack others) (e.only l.0 l.1) l.2,
    λ leads. subst (λ ys. LeadsBack (ys ++ others) now) (sym is) (b, e.is, leads),
  )

-- the last of the names comes first
pub last_first : (plans : List ℕ → Option PlanRecord) (names rest : List (List ℕ)) (name : List ℕ) → names ≡ rest ++ name ∷ [] → changes_of plans (reverse names) ≡ changes_at plans name ++ changes_of plans (reverse rest)
last_first plans names rest name is = ap (λ ys. changes_of plans (reverse ys)) is ∙ ap (changes_of plans) (reverse-append rest (name ∷ []))

-- ---- answers about ways

-- what an answer tells follows from what another tells
pub answer_as : {X E : Type 0} {P Q : X → Type 0} (r : Result X E) → ((x : X) → P x → Q x) → IfOk r P → IfOk r Q
answer_as (Ok x) f h = f x h
answer_as (Err e) f h = h

-- where no activation is in force, the way is the same
pub same_way : (now : ConfigRows) (changes others : List Change) → changes ≡ [] → LeadsBack (changes ++ others) now ↔ LeadsBack others now
same_way now changes others is = (subst (λ ys. LeadsBack (ys ++ others) now) is, subst (λ ys. LeadsBack (ys ++ others) now) (sym is))
