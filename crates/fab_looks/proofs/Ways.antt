-- Links along paths, and paths along links.
use Rattle.std.proofs.Common.{◌≡◌, ℕ, List, [], ◌∷◌, Contains, Bor, Option, None, Some, IsSome, true, refl, sym, ap, ◌∙◌, subst, rules, arith}
use Rattle.std.specs.Ordering.{nat_cmp}
use Rattle.std.specs.BTreeSet.{BTreeSet}
use Rattle.std.proofs.lemmas.Map.Views.{btree_set_contains_iff}
use Rattle.fab_lemmas.specs.Lists.{IsListOf}
use Rattle.std.specs.Option.{option_map, option_and_then}
use Rattle.std.specs.FinMap as map
use Rattle.std.specs.FinSet as set
use Rattle.fab_names.specs.declared.fabric.Fabric.{Fabric}
use Rattle.fab_inventory.specs.declared.port.Known.{Known}
use Rattle.fab_inventory.specs.declared.port.Port.{Port}
use Rattle.fab_inventory.specs.Ports.{port_of}
use Rattle.fab_inventory.specs.Holders.{holder_in}
use Rattle.fab_inventory.specs.Holders as held
use Rattle.fab_inventory.specs.Inventories.{IsHost}
use Rattle.fab_zoning_rows.specs.Holding.{IsLoggedInAt}
use Rattle.fab_zoning.specs.Joins.{Joined}
use Rattle.fab_mapping_base.specs.Groups.{StorageGroupRows}
use Rattle.fab_mapping.specs.Mappings.{MappingRows}
use Rattle.fab_mapping.specs.Soundness.{Fits}
use Rattle.fab_reach_base.specs.Records.{Records, zoning_at}
use Rattle.fab_reach_base.specs.Reach.{IsPort, IsInitiator}
use Rattle.fab_reach_base.specs.declared.path.Path.{Path}
use Rattle.fab_reach_base.specs.Gathering.{Serves}
use Rattle.fab_reach_base.specs.Orders.{Has}
use Rattle.fab_reach_base.proofs.Adding.{Before}
use Rattle.fab_reach_base.specs.PathOrder.{path_total, path_exact}
use Rattle.fab_reach_base.proofs.Sets.{none_in}
use Rattle.fab_reach_base.proofs.Same.{same_some, same_fabric}
use Rattle.fab_reach_base.proofs.Gathering.{name_of, is_own}
use Rattle.fab_looks.specs.declared.link.Link.TheVariants as link
use Rattle.fab_looks.specs.Links.{IsLogin, AreKnown, AreMet, IsMappedBy, IsServedBy, IsExposedBy, Holds, IsMissing, PathTo, IsReached}
use Rattle.fab_looks.specs.Inner.Offers.{AreJust, IsLoggedIn, AnyPath, IsOffer, MayPass}
use Rattle.fab_looks.proofs.Gains.{now_all}
use Rattle.fab_looks.proofs.Filled.{just_as, none_has, some_has}

module _ (w : Records) (host volume : List ℕ) where
  -- a path that would be there, and whose ports may communicate, is there
  pub to_path : (x : Path) → IsOffer w host volume x → MayPass w x → PathTo w host volume x
  to_path x o pass =
      let m = o.met in
      let g = m.group in
      let u = o.path in
      let p_is : IsPort w x.initiator o.from = subst (λ n. IsPort w n o.from) (sym u.1) m.from.known in
      let q_is : IsPort w x.target o.to = subst (λ n. IsPort w n o.to) (sym u.2) m.known in
      let joined : Joined (zoning_at w.config x.fabric) o.from o.to = subst (λ p. Joined (zoning_at w.config x.fabric) p o.to) (same_some pass.2 p_is) (subst (λ q. Joined (zoning_at w.config x.fabric) pass.0 q) (same_some pass.3 q_is) pass.4) in (
        (
          record {
            initiator = refl;
            target = refl;
            from = o.from;
            from_is = p_is;
            to = o.to;
            to_is = q_is;
            host = host;
            meets = record { from = m.from.from; to = m.to; here = m.from.here; joined = joined };
            mapped = (
              g.0.0.0.0,
              o.group,
              g.0.0.0.1,
              g.1,
              (g.0.1.0, g.0.1.2.0, g.0.1.1, g.0.1.2.1, (g.0.1.2.2, subst (λ n. set.contains o.group.targets n ≡ true) (sym u.2) m.target, u.4 ∙ ap (λ (v : List ℕ). Some v) (sym u.3))),
            );
          },
          (o.from, p_is, m.from.from),
        ),
        u.3,
      )

  -- and the other way round
  pub from_path : (x : Path) → PathTo w host volume x → IsOffer w host volume x × MayPass w x
  from_path x h =
      let r = h.0.0 in
      let i = h.0.1 in
      let m = r.mapped in
      let c = m.4 in
      let same : r.host ≡ host = same_some r.meets.from.held (ap (λ (y : Port). y.holder) (same_some r.from_is i.1) ∙ i.2.held) in
      let p_name : r.from.name ≡ x.initiator = name_of w x.initiator r.from r.from_is in
      let q_name : r.to.name ≡ x.target = name_of w x.target r.to r.to_is in
      let unit : map.get m.1.units x.unit ≡ Some volume = c.4.2 ∙ ap (λ (v : List ℕ). Some v) h.1 in
      let j = r.meets.joined in
      let there : IsLoggedInAt x.fabric r.to = subst (λ f. IsLoggedInAt f r.to) (same_fabric r.from (zoning_at w.config x.fabric).fabric x.fabric j.here r.meets.here) j.there in (
        record {
          group = m.1;
          from = r.from;
          to = r.to;
          met = record {
            group = ((((m.0, m.2), (x.unit, unit)), (c.0, c.2, (c.1, c.3, subst (λ y. set.contains c.1.hosts y ≡ true) same c.4.0))), m.3);
            from = record { known = is_own w x.initiator r.from r.from_is; from = subst (IsInitiator w r.from) same r.meets.from; here = r.meets.here };
            target = subst (λ n. set.contains m.1.targets n ≡ true) (sym q_name) c.4.1;
            known = is_own w x.target r.to r.to_is;
            to = r.meets.to;
            there = there;
          };
          path = (refl, sym p_name, sym q_name, h.1, unit);
        },
        (r.from, r.to, r.from_is, r.to_is, j),
      )

  -- ---- the last two links, path by path

  -- a pair that is met gives a path, were it joined
  pub offer_of : (g : StorageGroupRows) (f : Fabric) (p q : Port) (m : AreMet w host volume g f p q) → (x : Path) × IsOffer w host volume x × (x.fabric ≡ f) × (x.initiator ≡ p.name) × (x.target ≡ q.name)
  offer_of g f p q m = (
    record { fabric = f; initiator = p.name; target = q.name; volume = volume; unit = m.group.0.0.1.0 },
    record { group = g; from = p; to = q; met = m; path = (refl, refl, refl, refl, m.group.0.0.1.1) },
    refl,
    refl,
    refl,
  )

  pub met_by_offers : AreKnown w host volume → (x : Path) → IsOffer w host volume x → Holds w host volume link.Met
  met_by_offers known x o = (known, (o.group, x.fabric, o.from, o.to, o.met))

  pub offers_by_met : Holds w host volume link.Met → (x : Path) × IsOffer w host volume x
  offers_by_met h = let m = h.1 in let o = offer_of m.0 m.1 m.2 m.3 m.4 in (o.0, o.1)

  pub joined_by_paths : AreKnown w host volume → (x : Path) → PathTo w host volume x → Holds w host volume link.Joined
  joined_by_paths known x h =
      let t = from_path x h in
      let o = t.0 in
      let pass = t.1 in
      let u = o.path in
      let p_is : IsPort w x.initiator o.from = subst (λ n. IsPort w n o.from) (sym u.1) o.met.from.known in
      let q_is : IsPort w x.target o.to = subst (λ n. IsPort w n o.to) (sym u.2) o.met.known in
      let joined : Joined (zoning_at w.config x.fabric) o.from o.to = subst (λ p. Joined (zoning_at w.config x.fabric) p o.to) (same_some pass.2 p_is) (subst (λ q. Joined (zoning_at w.config x.fabric) pass.0 q) (same_some pass.3 q_is) pass.4) in
      (known, (o.group, x.fabric, o.from, o.to, record { met = o.met; joined = joined }))

  pub paths_by_joined : Holds w host volume link.Joined → IsReached w host volume
  unfolding offer_of
  paths_by_joined h =
      let j = h.1 in
      let m = j.4.met in
      let o = offer_of j.0 j.1 j.2 j.3 m in
      (o.0, to_path o.0 o.1 (j.2, j.3, m.from.known, m.known, j.4.joined))

  -- ---- what is known along a path

  pub known_by_path : Fits w.inventory w.config.mapping → (x : Path) → PathTo w host volume x → AreKnown w host volume
  known_by_path fits x h =
      let o = (from_path x h).0 in
      let g = o.met.group in
      let v = (fits.groups g.0.0.0.0 o.group g.0.0.0.1).volumes g.0.0.1.0 volume g.0.0.1.1 in
      ((x.fabric, o.from, o.met.from), some_is (map.get w.inventory.volumes volume) v.0 v.1)
    where
      some_is : {V : Type 0} (o : Option V) (v : V) → o ≡ Some v → IsSome o
      some_is {V} None v e = let f : ◌≡◌ {A = Option V} None (Some v) = e in absurd cc
      some_is (Some y) v e = search rules

-- who holds the port of a name
pub holder_is : (w : Records) (name : ℕ) (p : Port) → IsPort w name p → holder_in (map.get w.inventory.ports) name ≡ p.holder
holder_is w name p is = by (map.get w.inventory.ports name) is
  where
    by : (o : Option Known) → option_map (port_of name) o ≡ Some p → option_and_then (λ (k : Known). k.holder) o ≡ p.holder
    by None e = let f : ◌≡◌ {A = Option Port} None (Some p) = e in absurd cc
    by (Some k) e = let f : Some (port_of name k) ≡ Some p = e in let same : port_of name k ≡ p = cc in ap (λ (y : Port). y.holder) same

module _ (w : Records) (host : List ℕ) where
  -- the ports of a host that are logged in, by their names
  pub logins_are : (names : List ℕ) (ports : List Port) → IsHost w.inventory.holders host → IsListOf nat_cmp (held.Holds (map.get w.inventory.ports) host) names → AreJust (Before (IsLoggedIn w) names) ports → AreJust (λ p. (f : Fabric) × IsLogin w host f p) ports
  logins_are names ports kind l = just_as (Before (IsLoggedIn w) names) (λ p. (f : Fabric) × IsLogin w host f p) ports
      (λ p h. (h.2.1.0, record { known = is_own w h.0 p h.2.0; from = record { held = sym (holder_is w h.0 p h.2.0) ∙ l.sound h.0 h.1; kind = kind }; here = h.2.1.1 }))
      (λ p h. (p.name, l.complete p.name (holder_is w p.name p h.1.known ∙ h.1.from.held), (h.1.known, (h.0, h.1.here))))

module _ (w : Records) (host volume : List ℕ) where
  -- what is gathered is what would be there
  pub offers_are : (ports : List Port) (gs : List StorageGroupRows) → AreJust (λ p. (f : Fabric) × IsLogin w host f p) ports → AreJust (IsExposedBy w.config.mapping host volume) gs
      → (x : Path) → (AnyPath w ports volume gs x → IsOffer w host volume x) × (IsOffer w host volume x → AnyPath w ports volume gs x)
  offers_are ports gs logins groups x = (
    (λ a.
        let t = a.2 in
        let n = t.2 in
        let b = n.3 in
        let l = ((logins b.0).0 b.1).1 in
        record {
          group = a.0;
          from = b.0;
          to = n.0;
          met = record {
            group = (groups a.0).0 a.1;
            from = record { known = l.known; from = l.from; here = b.2.0 };
            target = subst (λ y. set.contains a.0.targets y ≡ true) (sym (name_of w t.0 n.0 n.1)) t.1;
            known = is_own w t.0 n.0 n.1;
            to = n.2;
            there = b.2.1;
          };
          path = b.2.2;
        }),
    λ o. (o.group, (groups o.group).1 o.met.group, (o.to.name, o.met.target, (o.to, o.met.known, o.met.to, (o.from, (logins o.from).1 (x.fabric, o.met.from), (o.met.from.here, o.met.there, o.path))))),
  )

  -- ---- the answer, by what was gathered

  -- nothing would be there
  pub none_met : (s : BTreeSet Path) → Holds w host volume link.Exposed → s.keys ≡ [] → ((x : Path) → IsOffer w host volume x → Has s x) → IsMissing w host volume link.Met
  none_met s exposed none has = (exposed, λ h. let o = offers_by_met w host volume h in none_in path_total path_exact s none o.0 (has o.0 o.1))

  some_in : (s : BTreeSet Path) → ¬ (s.keys ≡ []) → (x : Path) × Has s x
  some_in s some = by s.keys refl
    where
      by : (ks : List Path) → s.keys ≡ ks → (x : Path) × Has s x
      by [] e = absurd (some e)
      by (k ∷ ks) e = (k, (btree_set_contains_iff path_total path_exact s k).1 (subst (λ ys. Contains ys k) (sym e) (0, omega arith, refl)))

  -- something would, and nothing is
  pub none_joined : (s t : BTreeSet Path) → AreKnown w host volume → ¬ (s.keys ≡ []) → ((x : Path) → Has s x → IsOffer w host volume x) → t.keys ≡ [] → ((x : Path) → PathTo w host volume x → Has t x) → IsMissing w host volume link.Joined
  none_joined s t known some is none has = (
    let x = some_in s some in
        met_by_offers w host volume known x.0 (is x.0 x.1),
    λ h. let r = paths_by_joined w host volume h in none_in path_total path_exact t none r.0 (has r.0 r.1),
  )

  -- something is
  pub all_joined : (t : BTreeSet Path) → AreKnown w host volume → ¬ (t.keys ≡ []) → ((x : Path) → Has t x → PathTo w host volume x) → Holds w host volume link.Joined
  all_joined t known some is = let x = some_in t some in joined_by_paths w host volume known x.0 (is x.0 x.1)

  -- the paths that pass are the paths
  pub passed : (s t : BTreeSet Path) → ((x : Path) → (Has s x → IsOffer w host volume x) × (IsOffer w host volume x → Has s x)) → ((x : Path) → (Has t x → Has s x × MayPass w x) × (Has s x × MayPass w x → Has t x))
      → (x : Path) → (Has t x → PathTo w host volume x) × (PathTo w host volume x → Has t x)
  passed s t offers pass x = (
    (λ h. let p = (pass x).0 h in to_path w host volume x ((offers x).0 p.0) p.1),
    λ h. let o = from_path w host volume x h in (pass x).1 ((offers x).1 o.0, o.1),
  )

  -- ---- the storage groups that are left at each link

  pub mapped_none : (gs : List StorageGroupRows) → AreKnown w host volume → gs ≡ [] → AreJust (IsMappedBy w.config.mapping volume) gs → IsMissing w host volume link.Mapped
  mapped_none gs known none just = (known, λ h. none_has (IsMappedBy w.config.mapping volume) gs none just h.1.0 h.1.1)

  pub served_none : (ks gs : List StorageGroupRows) → AreKnown w host volume → ¬ (ks ≡ []) → AreJust (IsMappedBy w.config.mapping volume) ks → gs ≡ [] → AreJust (IsServedBy w.config.mapping host volume) gs → IsMissing w host volume link.Served
  served_none ks gs known some mapped none just = ((known, some_has (IsMappedBy w.config.mapping volume) ks some mapped), λ h. none_has (IsServedBy w.config.mapping host volume) gs none just h.1.0 h.1.1)

  pub exposed_none : (ks gs : List StorageGroupRows) → AreKnown w host volume → ¬ (ks ≡ []) → AreJust (IsServedBy w.config.mapping host volume) ks → gs ≡ [] → AreJust (IsExposedBy w.config.mapping host volume) gs → IsMissing w host volume link.Exposed
  exposed_none ks gs known some served none just = ((known, some_has (IsServedBy w.config.mapping host volume) ks some served), λ h. none_has (IsExposedBy w.config.mapping host volume) gs none just h.1.0 h.1.1)

  -- of all with one property, those with another
  pub both : (P Q : StorageGroupRows → Type 0) (ks gs : List StorageGroupRows) → AreJust P ks → AreJust (λ g. Contains ks g × Q g) gs → AreJust (λ g. P g × Q g) gs
  both P Q ks gs all kept = just_as (λ g. Contains ks g × Q g) (λ g. P g × Q g) gs (λ g h. ((all g).0 h.0, h.1)) (λ g h. ((all g).1 h.0, h.1)) kept

  pub known_ends : (ports : List Port) → ¬ (ports ≡ []) → AreJust (λ p. (f : Fabric) × IsLogin w host f p) ports → IsSome (map.get w.inventory.volumes volume) → AreKnown w host volume
  known_ends ports some just known = let s = some_has (λ (p : Port). (f : Fabric) × IsLogin w host f p) ports some just in ((s.1.0, s.0, s.1.1), known)

  pub mapped_in : (m : MappingRows) (gs : List StorageGroupRows) → m ≡ w.config.mapping → AreJust (IsMappedBy m volume) gs → AreJust (IsMappedBy w.config.mapping volume) gs
  mapped_in m gs same just = subst (λ n. AreJust (IsMappedBy n volume) gs) same just

  pub served_in : (m : MappingRows) (ks rs : List (Bor StorageGroupRows)) (gs : List StorageGroupRows) → m ≡ w.config.mapping → rs ≡ ks → AreJust (IsMappedBy w.config.mapping volume) (now_all ks) → AreJust (λ g. Contains (now_all rs) g × Serves m g host) gs
      → AreJust (IsServedBy w.config.mapping host volume) gs
  served_in m ks rs gs same is mapped kept = both (IsMappedBy w.config.mapping volume) (λ g. Serves w.config.mapping g host) (now_all ks) gs mapped
      (subst (λ xs. AreJust (λ g. Contains (now_all xs) g × Serves w.config.mapping g host) gs) is (subst (λ n. AreJust (λ g. Contains (now_all rs) g × Serves n g host) gs) same kept))

  pub exposed_in : (ks rs : List (Bor StorageGroupRows)) (gs : List StorageGroupRows) → rs ≡ ks → AreJust (IsServedBy w.config.mapping host volume) (now_all ks) → AreJust (λ (g : StorageGroupRows). Contains (now_all rs) g × (g.exposed ≡ true)) gs
      → AreJust (IsExposedBy w.config.mapping host volume) gs
  exposed_in ks rs gs is served kept = both (IsServedBy w.config.mapping host volume) (λ (g : StorageGroupRows). g.exposed ≡ true) (now_all ks) gs served
      (subst (λ xs. AreJust (λ (g : StorageGroupRows). Contains (now_all xs) g × (g.exposed ≡ true)) gs) is kept)
