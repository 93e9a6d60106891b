use Rattle.std.proofs.Common.{ℕ, ◌≡◌, List, Bool, true, false, refl, sym, ap, ◌∙◌, subst}
use Rattle.std.proofs.lemmas.Bool.{eqb-false}
use mathlib.Core.Bool.{true≢false}
use Rattle.fab_zoning_rows.specs.fab_inventory.declared.port.Port.{Port}
use Rattle.fab_zoning_rows.specs.Rows.{Rows}
use Rattle.fab_zoning.specs.Zonings.{FabricZoning}
use Rattle.fab_zoning_rows.specs.PortZones.{in_zones}
use Rattle.fab_zoning_rows.specs.Holding.{Holds, IsLoggedInAt}
use Rattle.fab_zoning.proofs.Reasons.{by_zone, by_default, denied, zoned_p, zoned_q}
use Rattle.fab_zoning.proofs.zoning.Zoning.joined.Goals as goal
use Rattle.fab_zoning.proofs.zoning.Zoning.joined.Goals.{then-not-is_empty-via-then-not-is_empty, then-not-is_empty-via-else-not-is_empty+then-not-is_empty-2}

abbrev Tells : (List ℕ → Bool) → Port → Rows → Type 0
Tells s p rows = (z : List ℕ) → (s z ≡ true → Holds rows p z) × (Holds rows p z → s z ≡ true)

tells : (u v : FabricZoning) → u ≡ v → (s : List ℕ → Bool) (p : Port) → Tells s p u.rows → Tells s p v.rows
tells u v is s p = subst (λ (w : FabricZoning). Tells s p w.rows) is

logged_in : (u v : FabricZoning) → u ≡ v → (p : Port) (b : Bool) → (b ≡ true → IsLoggedInAt u.fabric p) → b ≡ true → IsLoggedInAt v.fabric p
logged_in u v is p b gives e = subst (λ (w : FabricZoning). IsLoggedInAt w.fabric p) is (gives e)

not_all : (P : Type 0) (b : Bool) → (P → b ≡ true) → b ≡ false → ¬ P
not_all P b gives e h = true≢false (sym (gives h) ∙ e)

pub returns-in-Some-clause-joined : goal.returns-in-Some-clause-joined
returns-in-Some-clause-joined g c = (
  (λ _. (by_zone c.args.self.now c.args.p.now c.args.q.now (in_zones c.zones_of-zones_of_p.result) (in_zones c.zones_of-zones_of_q.result)
      (tells _ c.args.self.now c.self.view_is (in_zones c.zones_of-zones_of_p.result) c.args.p.now c.zones_of-zones_of_p.ensures)
      (tells _ c.args.self.now c.self.view_is (in_zones c.zones_of-zones_of_q.result) c.args.q.now c.zones_of-zones_of_q.ensures)
      c.in-Some.zone.now
      (eqb-false _ _ (sym c.if-eq.ensures))
      (logged_in _ c.args.self.now c.self.view_is c.args.p.now c.is_logged_in_at.result c.is_logged_in_at.ensures.0 c.if-not-is_logged_in_at.false)
      (logged_in _ c.args.self.now c.self.view_is c.args.q.now c.is_logged_in_at-else-not-is_logged_in_at.result c.is_logged_in_at-else-not-is_logged_in_at.ensures.0 c.if-not-is_logged_in_at-2.false)
      c.in-Some.ensures).0),
  λ _. refl,
)

pub returns-in-Deny-clause-joined : goal.returns-in-Deny-clause-joined
returns-in-Deny-clause-joined g c = (
  (λ e. absurd (true≢false (sym e))),
  λ j. absurd (denied c.args.self.now c.args.p.now c.args.q.now (in_zones c.zones_of-zones_of_p.result) (in_zones c.zones_of-zones_of_q.result)
      (tells _ c.args.self.now c.self.view_is (in_zones c.zones_of-zones_of_p.result) c.args.p.now c.zones_of-zones_of_p.ensures)
      (tells _ c.args.self.now c.self.view_is (in_zones c.zones_of-zones_of_q.result) c.args.q.now c.zones_of-zones_of_q.ensures)
      c.in_default.ensures (sym (ap (λ (v : FabricZoning). v.flag) c.self.view_is) ∙ c.in-Deny.is) j),
)

pub returns-then-not-is_empty-clause-joined : goal.returns-then-not-is_empty-clause-joined
returns-then-not-is_empty-clause-joined g c =
    let of_p = tells _ c.args.self.now c.self.view_is (in_zones c.zones_of-zones_of_p.result) c.args.p.now c.zones_of-zones_of_p.ensures in
    let of_q = tells _ c.args.self.now c.self.view_is (in_zones c.zones_of-zones_of_q.result) c.args.q.now c.zones_of-zones_of_q.ensures in (
      (λ e. absurd (true≢false (sym e))),
      λ j. elim c.then-not-is_empty.branch [
        | then-not-is_empty-via-then-not-is_empty w ↦
            absurd (zoned_p c.args.self.now c.args.p.now c.args.q.now (in_zones c.zones_of-zones_of_p.result) (in_zones c.zones_of-zones_of_q.result) of_p of_q c.in_default.ensures
            (not_all _ _ c.is_empty.ensures.1 w.if-not-is_empty.true) j)
        | then-not-is_empty-via-else-not-is_empty+then-not-is_empty-2 w ↦
            absurd (zoned_q c.args.self.now c.args.p.now c.args.q.now (in_zones c.zones_of-zones_of_p.result) (in_zones c.zones_of-zones_of_q.result) of_p of_q c.in_default.ensures
            (not_all _ _ w.is_empty-else-not-is_empty.ensures.1 w.if-not-is_empty-2.true) j)
      ],
    )

pub returns-clause-joined : goal.returns-clause-joined
returns-clause-joined g c = (
  (λ _. (by_default c.args.self.now c.args.p.now c.args.q.now (in_zones c.zones_of-zones_of_p.result) (in_zones c.zones_of-zones_of_q.result)
      (tells _ c.args.self.now c.self.view_is (in_zones c.zones_of-zones_of_p.result) c.args.p.now c.zones_of-zones_of_p.ensures)
      (tells _ c.args.self.now c.self.view_is (in_zones c.zones_of-zones_of_q.result) c.args.q.now c.zones_of-zones_of_q.ensures)
      (eqb-false _ _ (sym c.if-eq.ensures))
      (logged_in _ c.args.self.now c.self.view_is c.args.p.now c.is_logged_in_at.result c.is_logged_in_at.ensures.0 c.if-not-is_logged_in_at.false)
      (logged_in _ c.args.self.now c.self.view_is c.args.q.now c.is_logged_in_at-else-not-is_logged_in_at.result c.is_logged_in_at-else-not-is_logged_in_at.ensures.0 c.if-not-is_logged_in_at-2.false)
      (sym (ap (λ (v : FabricZoning). v.flag) c.self.view_is) ∙ c.in_default-flag.is)
      (c.is_empty.ensures.0 c.if-not-is_empty.false) (c.is_empty-else-not-is_empty.ensures.0 c.if-not-is_empty-2.false)).0),
  λ _. refl,
)

pub returns-clause-why : goal.returns-clause-why
returns-clause-why g c =
    (by_default c.args.self.now c.args.p.now c.args.q.now (in_zones c.zones_of-zones_of_p.result) (in_zones c.zones_of-zones_of_q.result)
    (tells _ c.args.self.now c.self.view_is (in_zones c.zones_of-zones_of_p.result) c.args.p.now c.zones_of-zones_of_p.ensures)
    (tells _ c.args.self.now c.self.view_is (in_zones c.zones_of-zones_of_q.result) c.args.q.now c.zones_of-zones_of_q.ensures)
    (eqb-false _ _ (sym c.if-eq.ensures))
    (logged_in _ c.args.self.now c.self.view_is c.args.p.now c.is_logged_in_at.result c.is_logged_in_at.ensures.0 c.if-not-is_logged_in_at.false)
    (logged_in _ c.args.self.now c.self.view_is c.args.q.now c.is_logged_in_at-else-not-is_logged_in_at.result c.is_logged_in_at-else-not-is_logged_in_at.ensures.0 c.if-not-is_logged_in_at-2.false)
    (sym (ap (λ (v : FabricZoning). v.flag) c.self.view_is) ∙ c.in_default-flag.is)
    (c.is_empty.ensures.0 c.if-not-is_empty.false) (c.is_empty-else-not-is_empty.ensures.0 c.if-not-is_empty-2.false)).1
