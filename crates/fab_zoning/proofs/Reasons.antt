-- Why two ports are joined or are not.
use Rattle.std.proofs.Common.{ℕ, ◌≡◌, ◌≢◌, List, Bool, true, false, inl, inr, refl, sym, ◌∙◌}
use mathlib.Core.Bool.{true≢false}
use Rattle.fab_zoning_rows.specs.fab_inventory.declared.port.Port.{Port}
use Rattle.fab_zoning.specs.declared.flag.DefaultFlag.TheVariants.{Permit, Deny}
use Rattle.fab_zoning.specs.Zonings.{FabricZoning}
use Rattle.fab_zoning_rows.specs.PortZones.{HasNoCommon, IsLeastCommon}
use Rattle.fab_zoning_rows.specs.Holding.{Holds, IsLoggedInAt}
use Rattle.fab_zoning.specs.Joins.{InZone, IsUnzoned, InDefaultZone, Joined, IsFirstZone}

is_false : (b : Bool) → ¬ (b ≡ true) → b ≡ false
is_false true h = absurd (h refl)
is_false false h = refl

-- s and t tell the zones of two ports
module _ (v : FabricZoning) (p q : Port) (s t : List ℕ → Bool) (of_p : (z : List ℕ) → (s z ≡ true → Holds v.rows p z) × (Holds v.rows p z → s z ≡ true))
    (of_q : (z : List ℕ) → (t z ≡ true → Holds v.rows q z) × (Holds v.rows q z → t z ≡ true)) where
  -- ports with a common zone are joined by the first of them
  pub by_zone : (z : List ℕ) → p.name ≢ q.name → IsLoggedInAt v.fabric p → IsLoggedInAt v.fabric q → IsLeastCommon s t z → Joined v p q × IsFirstZone v p q z
  by_zone z differ here there l =
      let one : InZone v p z = (here, (of_p z).0 l.one) in
      let other : InZone v q z = (there, (of_q z).0 l.other) in (
        record { differ = differ; here = here; there = there; by = inl (z, one, other) },
        record { one = one; other = other; first = λ y a b. l.least y ((of_p y).1 a.1) ((of_q y).1 b.1) },
      )

  unzoned_p : ((z : List ℕ) → s z ≡ false) → IsUnzoned v p
  unzoned_p none z h = true≢false (sym ((of_p z).1 h.1) ∙ none z)

  unzoned_q : ((z : List ℕ) → t z ≡ false) → IsUnzoned v q
  unzoned_q none z h = true≢false (sym ((of_q z).1 h.1) ∙ none z)

  -- ports in no zone are joined where the default zone permits
  pub by_default : p.name ≢ q.name → IsLoggedInAt v.fabric p → IsLoggedInAt v.fabric q → v.flag ≡ Permit → ((z : List ℕ) → s z ≡ false) → ((z : List ℕ) → t z ≡ false) → Joined v p q × InDefaultZone v p q
  by_default differ here there flag none_p none_q =
      let both : InDefaultZone v p q = (flag, unzoned_p none_p, unzoned_q none_q) in (record { differ = differ; here = here; there = there; by = inr both }, both)

  -- without a common zone, ports are joined by the default zone alone
  only_default : HasNoCommon s t → Joined v p q → InDefaultZone v p q
  only_default none j = elim j.by [ inl w ↦ absurd (true≢false (sym ((of_q w.0).1 w.2.1) ∙ none w.0 ((of_p w.0).1 w.1.1))) | inr d ↦ d ]

  pub denied : HasNoCommon s t → v.flag ≡ Deny → ¬ Joined v p q
  denied none flag j = apart (sym flag ∙ (only_default none j).0)
    where
      apart : Deny ≢ Permit
      apart e = cc

  -- and so not where one of them is in a zone
  pub zoned_p : HasNoCommon s t → ¬ ((z : List ℕ) → s z ≡ false) → ¬ Joined v p q
  zoned_p none some j = some (λ z. is_false (s z) (λ e. (only_default none j).1 z (j.here, (of_p z).0 e)))

  pub zoned_q : HasNoCommon s t → ¬ ((z : List ℕ) → t z ≡ false) → ¬ Joined v p q
  zoned_q none some j = some (λ z. is_false (t z) (λ e. (only_default none j).2 z (j.there, (of_q z).0 e)))
