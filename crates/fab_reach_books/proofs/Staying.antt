-- A pair that stays keeps its paths, and a pair that does not is affected.
use Rattle.std.proofs.Common.{ℕ, ◌≡◌, List, Option, None, Some, true, ◌⊎◌, inl, inr, refl, sym, ap, ◌∙◌, subst}
use Rattle.std.specs.Option.{option_map, option_and_then}
use Rattle.std.specs.FinMap as map
use Rattle.std.specs.FinSet as set
use Rattle.fab_names.specs.declared.fabric.Fabric.{Fabric}
use Rattle.fab_inventory.specs.declared.port.Known.{Known}
use Rattle.fab_inventory.specs.declared.port.Port.{Port}
use Rattle.fab_inventory.specs.Ports.{KnownPorts, port_at, port_of}
use Rattle.fab_inventory.specs.Holders.{holder_in}
use Rattle.fab_inventory.specs.Inventories.{IsHost}
use Rattle.fab_zoning_rows.specs.Holding.{IsLoggedInAt}
use Rattle.fab_zoning.specs.Joins.{InZone, InDefaultZone, Joined}
use Rattle.fab_mapping_base.specs.Groups.{StorageGroupRows}
use Rattle.fab_reach_base.specs.Records.{Records, zoning_at}
use Rattle.fab_reach_base.specs.Reach.{IsPort, PathOf}
use Rattle.fab_reach_base.specs.Serving.{IsServing}
use Rattle.fab_reach_base.proofs.Same.{same_some, same_fabric}
use Rattle.fab_reach_base.specs.declared.path.Path.{Path}
use Rattle.fab_reach_books.specs.Affected.{IsPair, IsInZone, AreAt, HasPair, IsOfferedAlike, IsUntouched, Affected, PathsDiffer}
use Rattle.fab_reach_books.specs.Inner.Moving.{Offers, IsOffered, IsInNone, StillOffers, Stays, IsMoving}

-- who holds a port that is known
pub holder_known : (ports : KnownPorts) (p : ℕ) (port : Port) → port_at ports p ≡ Some port → holder_in (map.get ports) p ≡ port.holder
holder_known ports p port h = case (map.get ports p) h
  where
    case : (o : Option Known) → option_map (port_of p) o ≡ Some port → option_and_then (λ (k : Known). k.holder) o ≡ port.holder
    case None e = let f : ◌≡◌ {A = Option Port} None (Some port) = e in absurd cc
    case (Some k) e = let f : Some (port_of p k) ≡ Some port = e in let same : port_of p k ≡ port = cc in ap (λ (x : Port). x.holder) same

-- a port that somebody holds is known
pub known_held : (ports : KnownPorts) (p : ℕ) (h : List ℕ) → holder_in (map.get ports) p ≡ Some h → (port : Port) × (port_at ports p ≡ Some port) × (port.holder ≡ Some h)
known_held ports p h is = case (map.get ports p) refl is
  where
    case : (o : Option Known) → map.get ports p ≡ o → option_and_then (λ (k : Known). k.holder) o ≡ Some h → (port : Port) × (port_at ports p ≡ Some port) × (port.holder ≡ Some h)
    case None at e = let f : ◌≡◌ {A = Option (List ℕ)} None (Some h) = e in absurd cc
    case (Some k) at e = (port_of p k, ap (option_map (port_of p)) at, e)

-- the group of a path has its pair
pub has_pair : (w : Records) (p q : ℕ) (x : Path) (path : PathOf w p q x) → HasPair w path.mapped.0 path.mapped.1 p q
has_pair w p q x path =
    let m = path.mapped in
    let c = m.4 in record {
      there = m.2;
      host = path.host;
      held = holder_known w.inventory.ports p path.from path.from_is ∙ path.meets.from.held;
      serves = (c.0, c.2, (c.1, c.3, c.4.0));
      target = subst (λ y. set.contains m.1.targets y ≡ true) path.target c.4.1;
    }

pub offered_path : (w : Records) (p q : ℕ) (x : Path) → PathOf w p q x → IsOffered w p q
offered_path w p q x path = (path.mapped.0, path.mapped.1, (has_pair w p q x path, path.mapped.3))

module _ (w v : Records) (p q : ℕ) where
  -- ---- a pair that stays keeps its paths
  module _ (serving : IsServing v) (s : Stays w v p q) (x : Path) (path : PathOf w p q x) where
    abbrev f : Fabric
    f = x.fabric

    from_v : IsPort v p path.from
    from_v = sym s.row_from ∙ path.from_is

    to_v : IsPort v q path.to
    to_v = sym s.row_to ∙ path.to_is

    in_w : IsLoggedInAt f path.to
    in_w = subst (λ g. IsLoggedInAt g path.to) (same_fabric path.from (zoning_at w.config f).fabric f path.meets.joined.here path.meets.here) path.meets.joined.there

    at : (port : Port) → IsLoggedInAt f port → IsLoggedInAt (zoning_at v.config f).fabric port
    at port h = subst (λ g. IsLoggedInAt g port) (sym (serving.fabrics f)) h

    -- a zone of a port in one world is one in the other
    zone_v : (r : ℕ) (port : Port) → IsPort v r port → (z : List ℕ) → IsInZone v f z r → InZone (zoning_at v.config f) port z
    zone_v r port is z h = subst (λ y. InZone (zoning_at v.config f) y z) (same_some h.1 is) h.2

    zone_w : (r : ℕ) (port : Port) → IsPort w r port → (z : List ℕ) → IsInZone w f z r → InZone (zoning_at w.config f) port z
    zone_w r port is z h = subst (λ y. InZone (zoning_at w.config f) y z) (same_some h.1 is) h.2

    by : ((z : List ℕ) × InZone (zoning_at w.config f) path.from z × InZone (zoning_at w.config f) path.to z) ⊎ InDefaultZone (zoning_at w.config f) path.from path.to
        → ((z : List ℕ) × InZone (zoning_at v.config f) path.from z × InZone (zoning_at v.config f) path.to z) ⊎ InDefaultZone (zoning_at v.config f) path.from path.to
    by (inl z) = inl (z.0, zone_v p path.from from_v z.0 ((s.zones_from f z.0).0 (path.from, path.from_is, z.1)), zone_v q path.to to_v z.0 ((s.zones_to f z.0).0 (path.to, path.to_is, z.2)))
    by (inr d) =
        let none_p : IsInNone w f p = λ z h. d.1 z (zone_w p path.from path.from_is z h) in
        let none_q : IsInNone w f q = λ z h. d.2 z (zone_w q path.to path.to_is z h) in
        inr (
          sym (s.flags f (path.from, path.to, path.from_is, path.to_is, path.meets.here, in_w) none_p none_q) ∙ d.0,
          (λ z h. none_p z ((s.zones_from f z).1 (path.from, from_v, h))),
          (λ z h. none_q z ((s.zones_to f z).1 (path.to, to_v, h))),
        )

    joined : Joined (zoning_at v.config f) path.from path.to
    joined = record { differ = path.meets.joined.differ; here = at path.from path.meets.here; there = at path.to in_w; by = by path.meets.joined.by }

    module _ (g : StorageGroupRows) (n : List ℕ) (unit : map.get g.units x.unit ≡ Some x.volume) (still : StillOffers v n p q g) where
      abbrev has : HasPair v n still.0 p q
      has = still.1.0

      host_is : has.host ≡ path.host
      host_is = same_some (sym (holder_known v.inventory.ports p path.from from_v) ∙ has.held) path.meets.from.held

      path_v : PathOf v p q x
      path_v =
          let t = serving.targets n still.0 has.there q has.target in
          let k = has.serves in record {
            initiator = path.initiator;
            target = path.target;
            from = path.from;
            from_is = from_v;
            to = path.to;
            to_is = to_v;
            host = path.host;
            meets = record {
              from = record { held = path.meets.from.held; kind = subst (IsHost v.inventory.holders) host_is (serving.hosts k.0 k.2.0 k.2.1 has.host k.2.2) };
              to = record { array = t.0; held = sym (holder_known v.inventory.ports q path.to to_v) ∙ t.1; kind = t.2 };
              here = path.meets.here;
              joined = joined;
            };
            mapped = (
              n,
              still.0,
              has.there,
              still.1.1,
              (
                k.0,
                k.2.0,
                k.1,
                k.2.1,
                (
                  subst (λ y. set.contains k.2.0.hosts y ≡ true) host_is k.2.2,
                  subst (λ y. set.contains still.0.targets y ≡ true) (sym path.target) has.target,
                  ap (λ u. map.get u x.unit) still.2 ∙ unit,
                ),
              ),
            );
          }

    pub keeps_path : ¬ (¬ PathOf v p q x)
    keeps_path gone = let m = path.mapped in s.offers m.0 m.1 (has_pair w p q x path, m.3) (λ o. gone (path_v m.1 m.0 m.4.4.2 o))

  -- ---- the relations are symmetric
  at_back : Stays w v p q → (e : Fabric) → AreAt v e p q → AreAt w e p q
  at_back s e a = (a.0, a.1, s.row_from ∙ a.2, s.row_to ∙ a.3, a.4, a.5)

  pub stays_back : Stays w v p q → Stays v w p q
  stays_back s = record {
    row_from = sym s.row_from;
    row_to = sym s.row_to;
    zones_from = λ f z. ((s.zones_from f z).1, (s.zones_from f z).0);
    zones_to = λ f z. ((s.zones_to f z).1, (s.zones_to f z).0);
    flags = λ f a no_p no_q. sym (s.flags f (at_back s f a) (λ z h. no_p z ((s.zones_from f z).0 h)) (λ z h. no_q z ((s.zones_to f z).0 h)));
    offers = s.no_new_offers;
    no_new_offers = s.offers;
  }

  -- ---- an untouched pair stays
  alike : (n : List ℕ) (g : StorageGroupRows) → Offers w n p q g → IsOfferedAlike w v n p q → StillOffers v n p q g
  alike n g o a =
      let same : a.one ≡ g = same_some a.here.there o.0.there in (
        a.other,
        (a.there, sym a.exposed ∙ ap (λ (h : StorageGroupRows). h.exposed) same ∙ o.1),
        sym a.units ∙ ap (λ (h : StorageGroupRows). h.units) same,
      )

  alike_back : (n : List ℕ) (g : StorageGroupRows) → Offers v n p q g → IsOfferedAlike w v n p q → StillOffers w n p q g
  alike_back n g o a =
      let same : a.other ≡ g = same_some a.there.there o.0.there in (
        a.one,
        (a.here, a.exposed ∙ ap (λ (h : StorageGroupRows). h.exposed) same ∙ o.1),
        a.units ∙ ap (λ (h : StorageGroupRows). h.units) same,
      )

  pub untouched_stays : IsUntouched w v p q → Stays w v p q
  untouched_stays u = record {
    row_from = u.row_from;
    row_to = u.row_to;
    zones_from = u.zones_from;
    zones_to = u.zones_to;
    flags = λ f a no_p no_q. u.flags f (inl a);
    offers = λ n g o none. none (alike n g o (u.groups n (inl (g, o.0))));
    no_new_offers = λ n g o none. none (alike_back n g o (u.groups n (inr (g, o.0))));
  }

-- a pair that is offered is one of a host and an array
offered_is_pair : (w : Records) (p q : ℕ) → IsServing w → IsOffered w p q → IsPair w p q
offered_is_pair w p q serving o =
    let has = o.2.0 in
    let k = has.serves in
    let t = serving.targets o.0 o.1 has.there q has.target in
    let from = known_held w.inventory.ports p has.host has.held in
    let to = known_held w.inventory.ports q t.0 t.1 in (
      from.0,
      to.0,
      from.1,
      to.1,
      (has.host, record { held = from.2; kind = serving.hosts k.0 k.2.0 k.2.1 has.host k.2.2 }),
      record { array = t.0; held = to.2; kind = t.2 },
    )

pub moving_is_affected : (w v : Records) (p q : ℕ) → IsServing w → IsServing v → IsMoving w v p q → Affected w v p q
moving_is_affected w v p q sw sv m = (elim m.0 [ inl o ↦ inl (offered_is_pair w p q sw o) | inr o ↦ inr (offered_is_pair v p q sv o) ], λ u. m.1 (untouched_stays w v p q u))

pub differing_is_moving : (w v : Records) (p q : ℕ) → IsServing w → IsServing v → PathsDiffer w v p q → IsMoving w v p q
differing_is_moving w v p q sw sv d = elim d.1 [
  | inl l ↦ (inl (offered_path w p q d.0 l.0), λ s. keeps_path w v p q sv s d.0 l.0 l.1)
  | inr g ↦ (inr (offered_path v p q d.0 g.0), λ s. keeps_path v w p q sw (stays_back w v p q s) d.0 g.0 g.1)
]
