-- An index that has the new sets of a patch, and one that has places for them.
use Rattle.std.proofs.Common.{◌≡◌, sym, ap, ◌∙◌}
use Rattle.std.specs.declared.cmp.Ordering.{Ordering}
use Rattle.std.specs.Ordering.{nat_cmp}
use Rattle.std.specs.BTreeMap.{BTreeMap, get}
use Rattle.std.specs.BTreeSet.{BTreeSet}
use Rattle.fab_lemmas.specs.MapsOfSets.{tree_has}
use Rattle.fab_names.specs.Orders.{name_cmp}
use Rattle.fab_reach_base.specs.Orders.{path_cmp}
use Rattle.fab_reach_base.specs.Records.{Records}
use Rattle.fab_reach_index.specs.Indexes.{IsTreeOf, IsIndexOf, zone_cmp, PortInZone, ZoneHasPort, IsHostServed, IsHeldBy, IsTargetOf, IsHostGroupOf, IsRowOf}
use Rattle.fab_reach_books.specs.Pairs.{pair_cmp}
use Rattle.fab_reach_books.specs.Renewed.{set_or, patched}
use Rattle.fab_reach_index.specs.Patches.{LeadsTo, Keeps, HaveSame, IsPatchTo}
use Rattle.fab_reach_index.specs.declared.index.Index.{Index}

module _ {Q K : Type 0} (O : Q → Q → Ordering) (R : K → K → Ordering) (P : Q → K → Type 0) where
  pub tree_after : (patch old new : BTreeMap Q (BTreeSet K)) → ((q : Q) (k : K) → tree_has O R new q k ≡ patched O R patch old q k) → LeadsTo O R P patch old → IsTreeOf O R P new
  tree_after patch old new is to q k = ((λ h. (to q k).0 (sym (is q k) ∙ h)), (λ p. is q k ∙ (to q k).1 p))

  tree_as : (old new : BTreeMap Q (BTreeSet K)) → Keeps O R old new → IsTreeOf O R P old → IsTreeOf O R P new
  tree_as old new kept is q k = ((λ h. (is q k).0 (sym (kept q k) ∙ h)), (λ p. kept q k ∙ (is q k).1 p))

  -- where each key has what it had, the new sets lead to the same
  leads_as : (patch old new : BTreeMap Q (BTreeSet K)) → Keeps O R old new → LeadsTo O R P patch old → LeadsTo O R P patch new
  leads_as patch old new kept to q k =
      let same : patched O R patch new q k ≡ patched O R patch old q k = ap (λ b. set_or R (get O patch q) b k) (kept q k) in
      ((λ h. (to q k).0 (sym same ∙ h)), (λ p. same ∙ (to q k).1 p))

module _ {A : Type 0} (v : Records) (old new : Index A) (kept : HaveSame old new) where
  pub index_as : IsIndexOf v old → IsIndexOf v new
  index_as is = record {
    zones = tree_as nat_cmp zone_cmp (PortInZone v) old.zones new.zones kept.zones is.zones;
    ports = tree_as zone_cmp nat_cmp (ZoneHasPort v) old.ports new.ports kept.ports is.ports;
    groups = tree_as name_cmp name_cmp (IsHostServed v) old.groups new.groups kept.groups is.groups;
    held = tree_as name_cmp nat_cmp (IsHeldBy v) old.held new.held kept.held is.held;
    targeted = tree_as nat_cmp name_cmp (IsTargetOf v) old.targeted new.targeted kept.targeted is.targeted;
    serving = tree_as name_cmp name_cmp (IsHostGroupOf v) old.serving new.serving kept.serving is.serving;
    rows = tree_as pair_cmp path_cmp (IsRowOf v) old.rows new.rows kept.rows is.rows;
  }

  pub patch_as : (patch : Index A) → IsPatchTo v patch old → IsPatchTo v patch new
  patch_as patch to = record {
    zones = leads_as nat_cmp zone_cmp (PortInZone v) patch.zones old.zones new.zones kept.zones to.zones;
    ports = leads_as zone_cmp nat_cmp (ZoneHasPort v) patch.ports old.ports new.ports kept.ports to.ports;
    groups = leads_as name_cmp name_cmp (IsHostServed v) patch.groups old.groups new.groups kept.groups to.groups;
    held = leads_as name_cmp nat_cmp (IsHeldBy v) patch.held old.held new.held kept.held to.held;
    targeted = leads_as nat_cmp name_cmp (IsTargetOf v) patch.targeted old.targeted new.targeted kept.targeted to.targeted;
    serving = leads_as name_cmp name_cmp (IsHostGroupOf v) patch.serving old.serving new.serving kept.serving to.serving;
    rows = leads_as pair_cmp path_cmp (IsRowOf v) patch.rows old.rows new.rows kept.rows to.rows;
  }

-- two steps that tell no look-up
pub same_both : {A : Type 0} (old mid new : Index A) → HaveSame old mid → HaveSame mid new → HaveSame old new
same_both old mid new a b = record {
  zones = λ q k. b.zones q k ∙ a.zones q k;
  ports = λ q k. b.ports q k ∙ a.ports q k;
  groups = λ q k. b.groups q k ∙ a.groups q k;
  held = λ q k. b.held q k ∙ a.held q k;
  targeted = λ q k. b.targeted q k ∙ a.targeted q k;
  serving = λ q k. b.serving q k ∙ a.serving q k;
  rows = λ q k. b.rows q k ∙ a.rows q k;
}
