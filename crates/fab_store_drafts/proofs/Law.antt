-- The soundness of the configuration before a change, from that of the one after it and the rows that
-- differ.
use Rattle.std.proofs.Common.{ℕ, ◌≡◌, ◌↔◌, List, Contains, Bool, true, false, IsTrue, Result, Ok, Err, IfOk, sym, ◌∙◌, subst}
use mathlib.Core.Bool.{true≢false}
use Rattle.fab_reach_base.specs.fab_names.declared.fabric.Fabric.{Fabric}
use Rattle.fab_reach_base.specs.Records.{ConfigRows, zoning_at}
use Rattle.fab_reach_base.specs.Soundness.{IsSoundAlone}
use Rattle.fab_store_rows.specs.Differences.{IsDifference}
use Rattle.fab_store_rows.specs.Standing.{Stands}
use Rattle.fab_store_rows.specs.declared.config_row.ConfigRow.{ConfigRow}
use Rattle.fab_store_rows.specs.declared.config_row.ConfigRow.TheVariants as config
use Rattle.fab_store_edits.specs.Led.{IsLed}
use Rattle.fab_store_rows.specs.Tidy.{IsTidy}
use Rattle.fab_store_edits.proofs.Differing.{led_back, one_led}
use Rattle.fab_store_rows.proofs.Determined.{tidy_of}
use Rattle.fab_store_drafts.specs.Back.{IsEarlier, IsOnlyEarlier}
use Rattle.fab_store_drafts.specs.There.{MayCome, MayGo, HasSoundCounts, HasFewGroups, IsTouched, IsClearAt, IsSoundThere}
use Rattle.fab_store_drafts.proofs.ZoningThere.{sound_zoning, item_comes, item_goes, counts}
use Rattle.fab_store_drafts.proofs.MappingThere.{sound_mapping, group_comes, part_comes, group_goes, part_goes}
use Rattle.fab_store_drafts.proofs.ClashThere.{no_clash, clear_at}

-- in a sound configuration each row that stands may have come, and each may have gone
module _ (d : ConfigRows) (s : IsSoundAlone d) where
  comes : (r : ConfigRow) → Stands d r → MayCome d r
  comes (config.Setting r) h = tt
  comes (config.Zoning r) h = item_comes (zoning_at d r.fabric) (s.parts.zonings.sound r.fabric) r.item h
  comes (config.Active r) h = (s.parts.zonings.sound r.fabric).active.plain_rows (r.zone, r.member) h
  comes (config.Group r) h = group_comes d.mapping s.parts.mapping r
  comes (config.Part r) h = part_comes d.mapping s.parts.mapping r h

  goes : (r : ConfigRow) → MayGo d r
  goes (config.Setting r) = tt
  goes (config.Zoning r) = item_goes (zoning_at d r.fabric) (s.parts.zonings.sound r.fabric) r.item
  goes (config.Active r) = tt
  goes (config.Group r) = group_goes d.mapping s.parts.mapping r
  goes (config.Part r) = part_goes d.mapping s.parts.mapping r

module _ (c d : ConfigRows) (taken added : List ConfigRow) (was : IsSoundAlone c) (tidy : IsTidy d) (x : IsDifference d c taken added) where
  led : IsLed c d added taken
  led = led_back d c taken added x

  pub sound_before : IsSoundThere d added taken → IsSoundAlone d
  sound_before there = record {
    parts = record {
      zonings = record { fabrics = tidy.fabrics; sound = λ f. sound_zoning c d added taken led f (was.parts.zonings.sound f) (tidy.no_empty f) there };
      mapping = sound_mapping c d added taken led was.parts.mapping there;
    };
    no_clash = no_clash c d added taken led was.no_clash there.no_clash;
  }

  pub there_before : IsSoundAlone d → IsSoundThere d added taken
  there_before s = record {
    came = λ r h. comes d s r (led.came r h);
    gone = λ r h. goes d s r;
    counts = λ f. counts (zoning_at d f) (s.parts.zonings.sound f);
    few_groups = record { few_host_groups = s.parts.mapping.few_host_groups; few_groups = s.parts.mapping.few_groups };
    no_clash = λ n t. clear_at d.mapping s.no_clash n;
  }

-- ---- the one configuration before a change

module _ (c b : ConfigRows) (taken added : List ConfigRow) (was : IsSoundAlone c) (tidy : IsTidy b) (x : IsDifference b c taken added) where
  -- each earlier one is this
  is_this : (other : ConfigRows) → IsEarlier c taken added other → other ≡ b
  is_this other e = one_led c other b taken added (tidy_of other e.sound.parts.zonings) tidy e.differs x

  only_earlier : IsSoundThere b added taken → IsOnlyEarlier c taken added b
  only_earlier there = record { is = record { sound = sound_before c b taken added was tidy x there; differs = x }; only = is_this }

  none_earlier : ¬ IsSoundThere b added taken → (other : ConfigRows) → ¬ IsEarlier c taken added other
  none_earlier not_there other e = not_there (there_before c b taken added was tidy x (subst IsSoundAlone (is_this other e) e.sound))

  module _ {E : Type 0} where
    -- the same of what is told
    pub told_only : (r : Result Bool E) → IfOk r (λ is. IsTrue is ↔ IsSoundThere b added taken) → IfOk r (λ is. is ≡ true → IsOnlyEarlier c taken added b)
    told_only (Ok is) h = λ e. only_earlier (h.0 e)
    told_only (Err e) h = h

    pub told_none : (r : Result Bool E) → IfOk r (λ is. IsTrue is ↔ IsSoundThere b added taken) → IfOk r (λ is. is ≡ false → (other : ConfigRows) → ¬ IsEarlier c taken added other)
    told_none (Ok is) h = λ e. none_earlier (λ there. true≢false (sym (h.1 there) ∙ e))
    told_none (Err e) h = h

pub none_led : (c : ConfigRows) (taken added : List ConfigRow) → ((b : ConfigRows) → ¬ IsDifference b c taken added) → (b : ConfigRows) → ¬ IsEarlier c taken added b
none_led c taken added none b e = none b e.differs

-- ---- what is told of each part
module _ {E : Type 0} (d : ConfigRows) (go come : List ConfigRow) where
  pub there_is : (r : Result Bool E) → ((r : ConfigRow) → Contains come r → MayCome d r) → ((r : ConfigRow) → Contains go r → MayGo d r) → ((f : Fabric) → HasSoundCounts (zoning_at d f)) → HasFewGroups d.mapping
      → IfOk r (λ is. IsTrue is ↔ ((n : List ℕ) → IsTouched d.mapping come n → IsClearAt d.mapping n)) → IfOk r (λ is. IsTrue is ↔ IsSoundThere d go come)
  there_is (Ok is) comes goes counts few h = (λ t. record { came = comes; gone = goes; counts = counts; few_groups = few; no_clash = h.0 t }, λ s. h.1 s.no_clash)
  there_is (Err e) comes goes counts few h = h
