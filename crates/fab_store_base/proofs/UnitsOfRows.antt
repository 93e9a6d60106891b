-- The units of the rows of configurations, and of changes to undo, are within their range.
use Rattle.std.proofs.Common.{ℕ, ◌≡◌, inl, inr, List, [], ◌∷◌, ◌++◌, Contains, Option, Some, is_some, option_to_list, option_and_then, reverse, refl, sym, ap, ◌∙◌, subst, arith}
use Rattle.std.specs.FinMap as map
use Rattle.std.proofs.lemmas.List.Elements.{Contains-append_cases}
use Rattle.std.proofs.lemmas.List.Sorted.{Contains-permutation, IsPermutation-reverse}
use Rattle.fab_store_world.specs.Standing.{IsUndoRow}
use Rattle.fab_reach_base.specs.Records.{ConfigRows}
use Rattle.fab_reach_base.specs.Soundness.{IsSoundAlone}
use Rattle.fab_store_rows.specs.Standing.{Stands}
use Rattle.fab_store_rows.specs.declared.config_row.ConfigRow.{ConfigRow}
use Rattle.fab_store_rows.specs.declared.config_row.ConfigRow.TheVariants as config
use Rattle.fab_store_rows.specs.declared.config_row.PartRow.TheVariants as parts
use Rattle.fab_store_rows.specs.declared.config_row.StoragePart.TheVariants as part
use Rattle.fab_store_rows.specs.declared.record_row.Sign.{Sign}
use Rattle.fab_store_rows.specs.declared.record_row.Sign.TheVariants.{Taken, Added}
use Rattle.fab_store_rows.specs.declared.record_row.UndoRow.{UndoRow}
use Rattle.fab_store_world.specs.PlanRows.{IsChanged}
use Rattle.fab_store_tables.specs.UndoLines.{HasUnitInRange}
use Rattle.fab_world.specs.History.{IsEarlier, LeadsBack, changes_at, changes_of}
use Rattle.fab_world.specs.PlanRecords.{Standing, staged, active, rolled_back, withdrawn, PlanRecord}
use Rattle.fab_world.specs.Plans.{Change, undo_of}
use Rattle.fab_world.specs.Soundness.{IsSound}
use Rattle.fab_world.specs.Worlds.{WorldRows}
use Rattle.fab_store_world.proofs.SoundOrder.{one_item}

pub config_in_range : (c : ConfigRows) → IsSoundAlone c → (r : ConfigRow) → Stands c r → HasUnitInRange r
config_in_range c sound (config.Setting r) there = tt
config_in_range c sound (config.Zoning r) there = tt
config_in_range c sound (config.Active r) there = tt
config_in_range c sound (config.Group r) there = tt
config_in_range c sound (config.Part (parts.Host n h)) there = tt
config_in_range c sound (config.Part (parts.Storage n (part.HostGroup k))) there = tt
config_in_range c sound (config.Part (parts.Storage n (part.Target t))) there = tt
config_in_range c sound (config.Part (parts.Storage n (part.Unit u v))) there = (sound.parts.mapping.groups n there.0 there.1).numbers u v there.2

-- ---- what activations in force took away and added

-- the rows that the activation took away, and those that it added
abbrev AreInRange : Standing → Type 0
AreInRange s = (sign : Sign) (r : ConfigRow) → IsChanged s sign r → HasUnitInRange r

-- what was taken away stood before, and what was added stood after
change_in_range : (before after : ConfigRows) (taken added : List ConfigRow) → IsSoundAlone after → IsEarlier after (record { taken = taken; added = added }) before → AreInRange (active taken added)
change_in_range before after taken added sound earlier Taken r there = config_in_range before earlier.sound r (earlier.differs.takes.sound r there).there
change_in_range before after taken added sound earlier Added r there = config_in_range after sound r (earlier.differs.adds.sound r there).there

-- the change of the first name
first_in_range : (plans : List ℕ → Option PlanRecord) (m : List ℕ) (others : List Change) (c : ConfigRows) (p : PlanRecord) → plans m ≡ Some p → IsSoundAlone c → LeadsBack (changes_at plans m ++ others) c → AreInRange p.standing
first_in_range plans m others c p is sound leads = by p.standing (subst (λ o. LeadsBack (option_to_list (option_and_then (λ (x : PlanRecord). undo_of x.standing) o) ++ others) c) is leads)
  where
    by : (s : Standing) → LeadsBack (option_to_list (undo_of s) ++ others) c → AreInRange s
    by staged l sign r there = absurd there
    by (active t u) l sign r there = change_in_range l.0 c t u sound l.1 sign r there
    by rolled_back l sign r there = absurd there
    by withdrawn l sign r there = absurd there

-- behind some changes the others lead back, from a sound configuration
others_lead : (changes others : List Change) (c : ConfigRows) → IsSoundAlone c → LeadsBack (changes ++ others) c → (b : ConfigRows) × IsSoundAlone b × LeadsBack others b
others_lead [] others c sound leads = (c, sound, leads)
others_lead (change ∷ changes) others c sound leads = others_lead changes others leads.0 leads.1.sound leads.2

-- the changes of the names lead back, so each of them is within the range
leads_in_range : (plans : List ℕ → Option PlanRecord) (names : List (List ℕ)) (c : ConfigRows) → IsSoundAlone c → LeadsBack (changes_of plans names) c → (n : List ℕ) (p : PlanRecord) → Contains names n → plans n ≡ Some p → AreInRange p.standing
leads_in_range plans [] c sound leads n p there is = absurd (omega (arith, there.1))
leads_in_range plans (m ∷ names) c sound leads n p there is = elim (Contains-append_cases (m ∷ []) names n there) [
  | inl first ↦ first_in_range plans m (changes_of plans names) c p (ap plans (one_item m n first) ∙ is) sound leads
  | inr later ↦ let rest = others_lead (changes_at plans m) (changes_of plans names) c sound leads in leads_in_range plans names rest.0 rest.1 rest.2 n p later is
]

-- the rows of the plan
plan_in_range : (w : WorldRows) → IsSound w → (n : List ℕ) (p : PlanRecord) → map.get w.plans n ≡ Some p → AreInRange p.standing
plan_in_range w sound n p is = by p.standing refl
  where
    by : (s : Standing) → p.standing ≡ s → AreInRange p.standing
    by staged e = subst AreInRange (sym e) (λ sign r there. absurd there)
    by rolled_back e = subst AreInRange (sym e) (λ sign r there. absurd there)
    by withdrawn e = subst AreInRange (sym e) (λ sign r there. absurd there)
    by (active t u) e =
        let there : Contains w.order n = (sound.order.lists n).1 (p, is, ap (λ y. is_some (undo_of y)) e) in
        leads_in_range (map.get w.plans) (reverse w.order) w.config sound.config sound.earlier n p (Contains-permutation w.order (reverse w.order) n (IsPermutation-reverse w.order) there) is

pub undo_in_range : (w : WorldRows) → IsSound w → (r : UndoRow) → IsUndoRow w r → HasUnitInRange r.row
undo_in_range w sound r there = plan_in_range w sound r.plan there.0 there.1 r.sign r.row there.2
