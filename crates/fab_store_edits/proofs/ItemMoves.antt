-- One item more in a zoning, or one less.
use Rattle.std.proofs.Common.{ℕ, ◌≡◌, inl, inr, List, refl, sym, ap, subst}
use Rattle.std.specs.declared.cmp.Ordering.{Ordering}
use Rattle.std.specs.Cmp.{IsTotalOrder}
use Rattle.std.specs.FinSet as set
use Rattle.fab_reach_base.specs.fab_names.declared.member.Member.{Member}
use Rattle.fab_reach_base.specs.fab_names.Orders.{name_cmp, member_cmp}
use Rattle.fab_reach_base.proofs.fab_names.OrderLaws.{name_total, name_exact, member_total, member_exact}
use Rattle.fab_reach_base.proofs.fab_lemmas.Sizes.{holds_some, some_member}
use Rattle.fab_reach_base.specs.fab_zoning.Edits.{Puts, Takes, IsItem, HasSome}
use Rattle.fab_reach_base.specs.fab_zoning.Zonings.{FabricZoning, NamedSets}
use Rattle.fab_store_rows.specs.declared.config_row.ZoningItem.{ZoningItem}
use Rattle.fab_store_rows.specs.declared.config_row.ZoningItem.TheVariants.{Alias, Zone, Set}
use Rattle.fab_store_rows.specs.Standing.{HasItem}
use Rattle.fab_store_rows.specs.Tidy.{HasNoEmpty, HasNoEmptySet}
use Rattle.fab_store_edits.specs.Inner.ZoningEdits.{PutsItem, TakesItem}

-- ---- no set is empty, said in two ways

pub has_some : {K : Type 0} {R : K → K → Ordering} → IsTotalOrder R → set.IsAntisymmetric R → (m : NamedSets R) → HasNoEmpty m → HasSome m
has_some o exact m h n s at = some_member o exact s (h n s at)

pub no_empty : {K : Type 0} {R : K → K → Ordering} → IsTotalOrder R → (m : NamedSets R) → HasSome m → HasNoEmpty m
no_empty o m h n s at = let w = h n s at in holds_some o s w.0 w.1

-- ---- items that are one

alias_is : (p n : List ℕ) (k m : Member) → ◌≡◌ {A = ZoningItem} (Alias p k) (Alias n m) → ◌≡◌ {A = List ℕ × Member} (p, k) (n, m)
alias_is p n k m e = let first : p ≡ n = cc in let second : k ≡ m = cc in λ i. (first i, second i)

zone_is : (p n : List ℕ) (k m : Member) → ◌≡◌ {A = ZoningItem} (Zone p k) (Zone n m) → ◌≡◌ {A = List ℕ × Member} (p, k) (n, m)
zone_is p n k m e = let first : p ≡ n = cc in let second : k ≡ m = cc in λ i. (first i, second i)

set_is : (p n k m : List ℕ) → ◌≡◌ {A = ZoningItem} (Set p k) (Set n m) → ◌≡◌ {A = List ℕ × List ℕ} (p, k) (n, m)
set_is p n k m e = let first : p ≡ n = cc in let second : k ≡ m = cc in λ i. (first i, second i)

module _ (v : FabricZoning) where
  module _ (a : NamedSets member_cmp) (n : List ℕ) (m : Member) where
    alias_puts : Puts (n, m) (IsItem v.aliases) (IsItem a) → Puts (Alias n m) (HasItem v) (HasItem (record v { aliases = a }))
    alias_puts puts (Alias p k) = (
      λ h. elim ((puts (p, k)).0 h) [ inl o ↦ inl o | inr e ↦ inr (ap (λ (x : List ℕ × Member). Alias x.0 x.1) e) ],
      λ h. (puts (p, k)).1 (elim h [ inl o ↦ inl o | inr e ↦ inr (alias_is p n k m e) ]),
    )
    alias_puts puts (Zone p k) = (λ h. inl h, λ h. elim h [ inl o ↦ o | inr e ↦ absurd cc ])
    alias_puts puts (Set p k) = (λ h. inl h, λ h. elim h [ inl o ↦ o | inr e ↦ absurd cc ])

    zone_puts : Puts (n, m) (IsItem v.zones) (IsItem a) → Puts (Zone n m) (HasItem v) (HasItem (record v { zones = a }))
    zone_puts puts (Zone p k) = (
      λ h. elim ((puts (p, k)).0 h) [ inl o ↦ inl o | inr e ↦ inr (ap (λ (x : List ℕ × Member). Zone x.0 x.1) e) ],
      λ h. (puts (p, k)).1 (elim h [ inl o ↦ inl o | inr e ↦ inr (zone_is p n k m e) ]),
    )
    zone_puts puts (Alias p k) = (λ h. inl h, λ h. elim h [ inl o ↦ o | inr e ↦ absurd cc ])
    zone_puts puts (Set p k) = (λ h. inl h, λ h. elim h [ inl o ↦ o | inr e ↦ absurd cc ])

    alias_takes : Takes (n, m) (IsItem v.aliases) (IsItem a) → Takes (Alias n m) (HasItem v) (HasItem (record v { aliases = a }))
    alias_takes takes (Alias p k) = (
      λ h. let o = (takes (p, k)).0 h in (o.0, λ e. o.1 (alias_is p n k m e)),
      λ h. (takes (p, k)).1 (h.0, λ e. h.1 (ap (λ (x : List ℕ × Member). Alias x.0 x.1) e)),
    )
    alias_takes takes (Zone p k) = (λ h. (h, λ e. absurd cc), λ h. h.0)
    alias_takes takes (Set p k) = (λ h. (h, λ e. absurd cc), λ h. h.0)

    zone_takes : Takes (n, m) (IsItem v.zones) (IsItem a) → Takes (Zone n m) (HasItem v) (HasItem (record v { zones = a }))
    zone_takes takes (Zone p k) = (
      λ h. let o = (takes (p, k)).0 h in (o.0, λ e. o.1 (zone_is p n k m e)),
      λ h. (takes (p, k)).1 (h.0, λ e. h.1 (ap (λ (x : List ℕ × Member). Zone x.0 x.1) e)),
    )
    zone_takes takes (Alias p k) = (λ h. (h, λ e. absurd cc), λ h. h.0)
    zone_takes takes (Set p k) = (λ h. (h, λ e. absurd cc), λ h. h.0)

  module _ (a : NamedSets name_cmp) (n m : List ℕ) where
    set_puts : Puts (n, m) (IsItem v.sets) (IsItem a) → Puts (Set n m) (HasItem v) (HasItem (record v { sets = a }))
    set_puts puts (Set p k) = (
      λ h. elim ((puts (p, k)).0 h) [ inl o ↦ inl o | inr e ↦ inr (ap (λ (x : List ℕ × List ℕ). Set x.0 x.1) e) ],
      λ h. (puts (p, k)).1 (elim h [ inl o ↦ inl o | inr e ↦ inr (set_is p n k m e) ]),
    )
    set_puts puts (Alias p k) = (λ h. inl h, λ h. elim h [ inl o ↦ o | inr e ↦ absurd cc ])
    set_puts puts (Zone p k) = (λ h. inl h, λ h. elim h [ inl o ↦ o | inr e ↦ absurd cc ])

    set_takes : Takes (n, m) (IsItem v.sets) (IsItem a) → Takes (Set n m) (HasItem v) (HasItem (record v { sets = a }))
    set_takes takes (Set p k) = (
      λ h. let o = (takes (p, k)).0 h in (o.0, λ e. o.1 (set_is p n k m e)),
      λ h. (takes (p, k)).1 (h.0, λ e. h.1 (ap (λ (x : List ℕ × List ℕ). Set x.0 x.1) e)),
    )
    set_takes takes (Alias p k) = (λ h. (h, λ e. absurd cc), λ h. h.0)
    set_takes takes (Zone p k) = (λ h. (h, λ e. absurd cc), λ h. h.0)

-- ---- from what the calls say

module _ (v w : FabricZoning) where
  pub put_alias : (n : List ℕ) (m : Member) → w ≡ record v { aliases = w.aliases } → Puts (n, m) (IsItem v.aliases) (IsItem w.aliases) → PutsItem (Alias n m) v w
  put_alias n m rest puts = subst (PutsItem (Alias n m) v) (sym rest) (record { puts = alias_puts v w.aliases n m puts; rest = refl })

  pub put_zone : (n : List ℕ) (m : Member) → w ≡ record v { zones = w.zones } → Puts (n, m) (IsItem v.zones) (IsItem w.zones) → PutsItem (Zone n m) v w
  put_zone n m rest puts = subst (PutsItem (Zone n m) v) (sym rest) (record { puts = zone_puts v w.zones n m puts; rest = refl })

  pub put_set : (n m : List ℕ) → w ≡ record v { sets = w.sets } → Puts (n, m) (IsItem v.sets) (IsItem w.sets) → PutsItem (Set n m) v w
  put_set n m rest puts = subst (PutsItem (Set n m) v) (sym rest) (record { puts = set_puts v w.sets n m puts; rest = refl })

  pub take_alias : (n : List ℕ) (m : Member) → w ≡ record v { aliases = w.aliases } → Takes (n, m) (IsItem v.aliases) (IsItem w.aliases) → TakesItem (Alias n m) v w
  take_alias n m rest takes = subst (TakesItem (Alias n m) v) (sym rest) (record { takes = alias_takes v w.aliases n m takes; rest = refl })

  pub take_zone : (n : List ℕ) (m : Member) → w ≡ record v { zones = w.zones } → Takes (n, m) (IsItem v.zones) (IsItem w.zones) → TakesItem (Zone n m) v w
  take_zone n m rest takes = subst (TakesItem (Zone n m) v) (sym rest) (record { takes = zone_takes v w.zones n m takes; rest = refl })

  pub take_set : (n m : List ℕ) → w ≡ record v { sets = w.sets } → Takes (n, m) (IsItem v.sets) (IsItem w.sets) → TakesItem (Set n m) v w
  take_set n m rest takes = subst (TakesItem (Set n m) v) (sym rest) (record { takes = set_takes v w.sets n m takes; rest = refl })

  -- and no set is empty
  pub some_aliases : w ≡ record v { aliases = w.aliases } → (HasSome v.aliases → HasSome w.aliases) → HasNoEmptySet v → HasNoEmptySet w
  some_aliases rest keeps h = subst HasNoEmptySet (sym rest) (record { aliases = no_empty member_total w.aliases (keeps (has_some member_total member_exact v.aliases h.aliases)); zones = h.zones; sets = h.sets })

  pub some_zones : w ≡ record v { zones = w.zones } → (HasSome v.zones → HasSome w.zones) → HasNoEmptySet v → HasNoEmptySet w
  some_zones rest keeps h = subst HasNoEmptySet (sym rest) (record { aliases = h.aliases; zones = no_empty member_total w.zones (keeps (has_some member_total member_exact v.zones h.zones)); sets = h.sets })

  pub some_sets : w ≡ record v { sets = w.sets } → (HasSome v.sets → HasSome w.sets) → HasNoEmptySet v → HasNoEmptySet w
  some_sets rest keeps h = subst HasNoEmptySet (sym rest) (record { aliases = h.aliases; zones = h.zones; sets = no_empty name_total w.sets (keeps (has_some name_total name_exact v.sets h.sets)) })
