-- No two volumes are met where none were before, and where none are by what was touched.
use Rattle.std.proofs.Common.{ℕ, ◌≡◌, ◌≢◌, ◌⊎◌, inl, inr, List, Some, Bool, true, false, refl, sym, ◌∙◌, nat_eq}
use mathlib.Core.Bool.{true≢false}
use Rattle.std.specs.Cmp.Lexicographic.{bytes_decides, pointwise}
use Rattle.std.specs.FinMap as map
use Rattle.fab_reach_base.specs.fab_mapping_base.Groups.{StorageGroupRows}
use Rattle.fab_reach_base.specs.fab_mapping_base.Clashes.{GroupClaims}
use Rattle.fab_reach_base.specs.fab_mapping_base.declared.nexus.Nexus.{Nexus}
use Rattle.fab_reach_base.specs.fab_mapping.Mappings.{MappingRows, IsMapped, HasNoClash}
use Rattle.fab_reach_base.specs.Records.{ConfigRows}
use Rattle.fab_store_rows.specs.Standing.{HasPart}
use Rattle.fab_store_rows.specs.declared.config_row.ConfigRow.{ConfigRow}
use Rattle.fab_store_rows.specs.declared.config_row.StoragePart.TheVariants as part
use Rattle.fab_store_edits.specs.Led.{IsLed}
use Rattle.fab_store_edits.specs.Rows.{storage_head, host_row, part_row}
use Rattle.fab_store_drafts.specs.There.{IsTouched, IsClearAt}
use Rattle.fab_store_drafts.proofs.MappingThere.{here_at}

bool_or : (b : Bool) → (b ≡ true) ⊎ (b ≡ false)
bool_or true = inl refl
bool_or false = inr refl

pub same_or_not : (a b : List ℕ) → (a ≡ b) ⊎ (a ≢ b)
same_or_not a b = elim (bool_or (pointwise nat_eq a b)) [ inl e ↦ inl ((bytes_decides a b).0 e) | inr n ↦ inr (λ e. true≢false (sym ((bytes_decides a b).1 e) ∙ n)) ]

module _ (c d : ConfigRows) (go come : List ConfigRow) (led : IsLed c d go come) where
  -- what is mapped was mapped, or its group was touched
  module _ (x : Nexus) (a n : List ℕ) (g : StorageGroupRows) (at : map.get d.mapping.groups n ≡ Some g) (exposed : g.exposed ≡ true) (claims : GroupClaims (map.get d.mapping.host_groups) g (x, a)) where
    pub old_or_touched : IsMapped c.mapping (x, a) ⊎ IsTouched d.mapping come n
    old_or_touched = elim (led.kept (storage_head n g.tenant g.array) (g, at, record { tenant = refl; array = refl; exposed = exposed })) [
      | inr came ↦ inr (storage_head n g.tenant g.array, came, refl)
      | inl head ↦ elim (led.kept (part_row n (part.HostGroup claims.0)) (g, at, claims.2)) [
        | inr came ↦ inr (part_row n (part.HostGroup claims.0), came, refl)
        | inl served ↦ elim (led.kept (part_row n (part.Target x.target)) (g, at, claims.4.1)) [
          | inr came ↦ inr (part_row n (part.Target x.target), came, refl)
          | inl target ↦ elim (led.kept (part_row n (part.Unit x.unit a)) (g, at, claims.4.2)) [
            | inr came ↦ inr (part_row n (part.Unit x.unit a), came, refl)
            | inl unit ↦ elim (led.kept (host_row claims.0 x.host) (claims.1, claims.3, claims.4.0)) [
              | inr came ↦ inr (host_row claims.0 x.host, came, (g, at, claims.2))
              | inl host ↦ inl (
                n,
                head.0,
                head.1,
                head.2.exposed,
                (
                  claims.0,
                  host.0,
                  here_at (map.get c.mapping.groups) (HasPart (part.HostGroup claims.0)) n head.0 head.1 served,
                  host.1,
                  (
                    host.2,
                    here_at (map.get c.mapping.groups) (HasPart (part.Target x.target)) n head.0 head.1 target,
                    here_at (map.get c.mapping.groups) (HasPart (part.Unit x.unit a)) n head.0 head.1 unit,
                  ),
                ),
              )
            ]
          ]
        ]
      ]
    ]

  pub no_clash : HasNoClash c.mapping → ((n : List ℕ) → IsTouched d.mapping come n → IsClearAt d.mapping n) → HasNoClash d.mapping
  no_clash was there x h =
      let p = h.2 in let q = h.3 in
      elim (old_or_touched x h.0 p.0 p.1 p.2 p.3 p.4) [
        | inr t ↦ h.4 (there p.0 t p.1 p.2 p.3 x h.0 h.1 p.4 q)
        | inl was_p ↦ elim (old_or_touched x h.1 q.0 q.1 q.2 q.3 q.4) [
          | inr t ↦ h.4 (sym (there q.0 t q.1 q.2 q.3 x h.1 h.0 q.4 p))
          | inl was_q ↦ was x (h.0, h.1, was_p, was_q, h.4)
        ]
      ]

pub clear_at : (v : MappingRows) → HasNoClash v → (n : List ℕ) → IsClearAt v n
clear_at v none n g at exposed x a b claims mapped = elim (same_or_not a b) [ inl e ↦ e | inr differ ↦ absurd (none x (a, b, (n, g, at, exposed, claims), mapped, differ)) ]
