-- The rows in which two worlds differ, row by row.
use Rattle.std.proofs.Common.{ℕ, ◌≡◌, ◌⊎◌, ◌++◌, ◌∷◌, List, [], Contains, Option, None, Some, inl, inr, refl, sym, ap, ◌∙◌, subst, arith}
use Rattle.std.specs.Cmp.{nat_cmp_total}
use Rattle.std.specs.FinMap as map
use Rattle.std.specs.FinSet as set
use Rattle.std.specs.Option.{option_map}
use Rattle.std.specs.Ordering.{nat_cmp}
use Rattle.std.proofs.lemmas.List.Elements.{Contains-push_cases, Contains-append_left, Contains-push}
use Rattle.fab_lemmas.specs.Lists.{IsListOf}
use Rattle.fab_lemmas.proofs.SeenEntries.{entry_decides}
use Rattle.fab_names.specs.Orders.{name_cmp}
use Rattle.fab_names.proofs.OrderLaws.{name_total, name_exact}
use Rattle.fab_inventory.specs.declared.holder.Holder.{Holder}
use Rattle.fab_inventory.specs.declared.port.Known.{Known}
use Rattle.fab_inventory.specs.declared.port.Port.{Port}
use Rattle.fab_inventory.specs.Ports.{port_of}
use Rattle.fab_reach_base.specs.Adding.{Adds}
use Rattle.fab_reach_base.specs.Records.{Records}
use Rattle.fab_reach_base.proofs.Adding.{Before, adds_as, adds_none}
use Rattle.fab_store_rows.specs.Differences.{StandsOnlyIn}
use Rattle.fab_store_rows.specs.RowOrder.{row_order}
use Rattle.fab_store_rows.specs.Standing as rows
use Rattle.fab_store_rows.specs.Standing.{holder_of}
use Rattle.fab_store_rows.specs.declared.config_row.ConfigRow.{ConfigRow}
use Rattle.fab_store_rows.specs.declared.config_row.ConfigRow.TheVariants as config
use Rattle.fab_store_rows.specs.declared.config_row.SettingRow.TheVariants as setting
use Rattle.fab_store_rows.specs.declared.inventory_row.HolderRow.{HolderRow}
use Rattle.fab_store_rows.proofs.RowLists.{stands_decided}
use Rattle.fab_reach_books.specs.Inner.Telling.{IsPushed, Tells, IsPortRow, IsHolderRow, holder_row, row_in, AreIn, AreOnlyIn}
use Rattle.fab_reach_books.specs.Rows.{Stands}
use Rattle.fab_reach_books.specs.declared.row.Row.{Row}
use Rattle.fab_reach_books.specs.declared.row.Row.TheVariants as row

module _ {K : Type 0} (v : Records) (row_of : K → Row) where
  -- the row of an item
  abbrev pub Of : K → Row → Type 0
  Of k r = r ≡ row_of k

  -- no item so far
  pub tells_none : (xs : List Row) → Tells v (Before Of []) xs xs
  tells_none xs = record { sound = λ r h. inl h; kept = λ r h. h; there = λ r h. absurd (omega (arith, h.1.1)) }

  -- one item more
  pub tells_more : (before : List K) (k : K) (x : Row) (old mid new : List Row) → x ≡ row_of k → Tells v (Before Of before) old mid → IsPushed (Stands v x) x mid new → Tells v (Before Of (before ++ k ∷ [])) old new
  tells_more before k x old mid new is t p = elim p [
    | inl h ↦ subst (Tells v (Before Of (before ++ k ∷ [])) old) (sym h.1) (record {
      sound = λ r c. elim (Contains-push_cases mid x r c) [
        | inl o ↦ elim (t.sound r o) [ inl a ↦ inl a | inr b ↦ inr ((b.0.0, Contains-append_left before (k ∷ []) b.0.0 b.0.1, b.0.2), b.1) ]
        | inr e ↦ inr ((k, Contains-push before k, sym e ∙ is), subst (λ y. ¬ Stands v y) e h.0)
      ];
      kept = λ r c. Contains-append_left mid (x ∷ []) r (t.kept r c);
      there = λ r w. elim (Contains-push_cases before k w.0 w.1) [
        | inl o ↦ elim (t.there r (w.0, o, w.2)) [ inl s ↦ inl s | inr c ↦ inr (Contains-append_left mid (x ∷ []) r c) ]
        | inr e ↦ inr (subst (Contains (mid ++ x ∷ [])) (is ∙ ap row_of e ∙ sym w.2) (Contains-push mid x))
      ];
    })
    | inr h ↦ subst (Tells v (Before Of (before ++ k ∷ [])) old) (sym h.1) (record {
      sound = λ r c. elim (t.sound r c) [ inl a ↦ inl a | inr b ↦ inr ((b.0.0, Contains-append_left before (k ∷ []) b.0.0 b.0.1, b.0.2), b.1) ];
      kept = t.kept;
      there = λ r w. elim (Contains-push_cases before k w.0 w.1) [
        | inl o ↦ t.there r (w.0, o, w.2)
        | inr e ↦ inl (subst (Stands v) (is ∙ ap row_of e ∙ sym w.2) h.0)
      ];
    })
  ]

module _ (v : Records) where
  -- the same, said otherwise
  tells_as : (P Q : Row → Type 0) (old new : List Row) → ((r : Row) → P r → Q r) → ((r : Row) → Q r → P r) → Tells v P old new → Tells v Q old new
  tells_as P Q old new to from t = record {
    sound = λ r c. elim (t.sound r c) [ inl a ↦ inl a | inr b ↦ inr (to r b.0, b.1) ];
    kept = t.kept;
    there = λ r q. t.there r (from r q);
  }

  -- ---- ports and holders

  -- what is known of the port of a name
  known_of : (o : Option Known) (p : Port) → option_map (port_of p.name) o ≡ Some p → (k : Known) × (o ≡ Some k) × (p ≡ port_of p.name k)
  known_of None p h = let e : ◌≡◌ {A = Option Port} None (Some p) = h in absurd cc
  known_of (Some k) p h = (k, refl, let e : Some (port_of p.name k) ≡ Some p = h in let same : port_of p.name k ≡ p = cc in sym same)

  abbrev pub port_at_entry : ℕ × Known → Row
  port_at_entry e = row.Port (port_of e.0 e.1)

  pub ports_told : (w : Records) (es : List (ℕ × Known)) (old new : List Row) → es ≡ map.entries w.inventory.ports → Tells v (Before (Of v port_at_entry) es) old new → Tells v (IsPortRow w) old new
  ports_told w es old new is = tells_as (Before (Of v port_at_entry) es) (IsPortRow w) old new
      (λ r h.
      let at = (entry_decides nat_cmp nat_cmp_total set.nat_cmp-IsAntisymmetric w.inventory.ports h.0.0 h.0.1).1 (subst (λ ys. Contains ys h.0) is h.1) in
      (port_of h.0.0 h.0.1, h.2, ap (option_map (port_of h.0.0)) at))
      (λ r h.
      let k = known_of (map.get w.inventory.ports h.0.name) h.0 h.2 in
      ((h.0.name, k.0), subst (λ ys. Contains ys (h.0.name, k.0)) (sym is) ((entry_decides nat_cmp nat_cmp_total set.nat_cmp-IsAntisymmetric w.inventory.ports h.0.name k.0).0 k.1), h.1 ∙ ap row.Port k.2))

  abbrev pub holder_at_entry : List ℕ × Holder → Row
  holder_at_entry e = row.Holder (holder_row e.0 e.1)

  pub holders_told : (w : Records) (es : List (List ℕ × Holder)) (old new : List Row) → es ≡ map.entries w.inventory.holders → Tells v (Before (Of v holder_at_entry) es) old new → Tells v (IsHolderRow w) old new
  holders_told w es old new is = tells_as (Before (Of v holder_at_entry) es) (IsHolderRow w) old new
      (λ r h. (holder_row h.0.0 h.0.1, h.2, (entry_decides name_cmp name_total name_exact w.inventory.holders h.0.0 h.0.1).1 (subst (λ ys. Contains ys h.0) is h.1)))
      (λ r h. ((h.0.name, holder_of h.0), subst (λ ys. Contains ys (h.0.name, holder_of h.0)) (sym is) ((entry_decides name_cmp name_total name_exact w.inventory.holders h.0.name (holder_of h.0)).0 h.2), h.1))

-- ---- the configuration

-- a row that is kept says the same
pub same_row : (c : ConfigRow) (r : Row) (w : Records) → row_in c ≡ Some r → (rows.Stands w.config c → Stands w r) × (Stands w r → rows.Stands w.config c)
same_row (config.Setting (setting.ActiveSet f n)) r w e = let f : ◌≡◌ {A = Option Row} None (Some r) = e in absurd cc
same_row (config.Setting (setting.DefaultZone f p)) r w e = let s : row.DefaultZone f p ≡ r = cc in ((λ h. subst (Stands w) s h), λ h. subst (Stands w) (sym s) h)
same_row (config.Zoning z) r w e = let f : ◌≡◌ {A = Option Row} None (Some r) = e in absurd cc
same_row (config.Active a) r w e = let s : row.Active a ≡ r = cc in ((λ h. subst (Stands w) s h), λ h. subst (Stands w) (sym s) h)
same_row (config.Group g) r w e = let s : row.Group g ≡ r = cc in ((λ h. subst (Stands w) s h), λ h. subst (Stands w) (sym s) h)
same_row (config.Part p) r w e = let s : row.Part p ≡ r = cc in ((λ h. subst (Stands w) s h), λ h. subst (Stands w) (sym s) h)

pub one_kept : (c : ConfigRow) (k : Row) (old new : Row → Type 0) → row_in c ≡ Some k → Adds (λ r. r ≡ k) old new → Adds (λ r. row_in c ≡ Some r) old new
one_kept c k old new is = adds_as (λ r. r ≡ k) (λ r. row_in c ≡ Some r) old new (λ r e. is ∙ ap Some (sym e)) (λ r h. let e : Some r ≡ Some k = sym h ∙ is in let same : r ≡ k = cc in same)

pub none_kept : (c : ConfigRow) (old : Row → Type 0) → row_in c ≡ None → Adds (λ r. row_in c ≡ Some r) old old
none_kept c old none = adds_none (λ r. row_in c ≡ Some r) old (λ r h. let e : ◌≡◌ {A = Option Row} None (Some r) = sym none ∙ h in absurd cc)

-- one row more at the end of a list
pub row_pushed : (xs : List Row) (k : Row) → Adds (λ r. r ≡ k) (Contains xs) (Contains (xs ++ k ∷ []))
row_pushed xs k = record {
  sound = λ r c. elim (Contains-push_cases xs k r c) [ inl o ↦ inl o | inr e ↦ inr (sym e) ];
  kept = λ r c. Contains-append_left xs (k ∷ []) r c;
  there = λ r e. subst (Contains (xs ++ k ∷ [])) (sym e) (Contains-push xs k);
}

-- ---- all rows

-- the row of the configuration, where there is one
pub in_config : (r : Row) → ((c : ConfigRow) × (row_in c ≡ Some r)) ⊎ (((p : Port) × (r ≡ row.Port p)) ⊎ ((h : HolderRow) × (r ≡ row.Holder h)))
in_config (row.Port p) = inr (inl (p, refl))
in_config (row.Holder h) = inr (inr (h, refl))
in_config (row.Active a) = inl (config.Active a, refl)
in_config (row.DefaultZone f p) = inl (config.Setting (setting.DefaultZone f p), refl)
in_config (row.Group g) = inl (config.Group g, refl)
in_config (row.Part p) = inl (config.Part p, refl)

module _ (w v : Records) (cs : List ConfigRow) (only : IsListOf row_order (StandsOnlyIn w.config v.config) cs) where
  -- the rows of the configuration that stand in w alone
  pub kept_sound : (r : Row) → AreIn cs r → Stands w r × ¬ Stands v r
  kept_sound r h =
      let o = only.sound h.0 h.1 in
      ((same_row h.0 r w h.2).0 o.there, λ s. o.not_there ((same_row h.0 r v h.2).1 s))

  pub kept_there : (r : Row) (c : ConfigRow) → row_in c ≡ Some r → Stands w r → Stands v r ⊎ AreIn cs r
  kept_there r c is s = elim (stands_decided v.config c) [
    | inl t ↦ inl ((same_row c r v is).0 t)
    | inr n ↦ inr (c, only.complete c (record { there = (same_row c r w is).1 s; not_there = n }), is)
  ]

  pub all_told : (xs ys zs us : List Row) → xs ≡ [] → Tells v (IsPortRow w) xs ys → Tells v (IsHolderRow w) ys zs → Adds (AreIn cs) (Contains zs) (Contains us) → AreOnlyIn w v us
  all_told xs ys zs us none a b c = record {
    sound = λ r h. elim (c.sound r h) [
      | inr k ↦ kept_sound r k
      | inl k ↦ elim (b.sound r k) [
        | inr l ↦ (subst (Stands w) (sym l.0.1) l.0.2, l.1)
        | inl l ↦ elim (a.sound r l) [ inr m ↦ (subst (Stands w) (sym m.0.1) m.0.2, m.1) | inl m ↦ absurd (no_row (subst (λ ks. Contains ks r) none m)) ]
      ]
    ];
    there = λ r s. elim (in_config r) [
      | inl k ↦ elim (kept_there r k.0 k.1 s) [ inl t ↦ inl t | inr l ↦ inr (c.there r l) ]
      | inr k ↦ elim k [
        | inl p ↦ elim (a.there r (p.0, p.1, subst (Stands w) p.1 s)) [ inl t ↦ inl t | inr l ↦ inr (c.kept r (b.kept r l)) ]
        | inr h ↦ elim (b.there r (h.0, h.1, subst (Stands w) h.1 s)) [ inl t ↦ inl t | inr l ↦ inr (c.kept r l) ]
      ]
    ];
  }
    where
      no_row : {r : Row} → Contains [] r → ⊥
      no_row h = let l = h.1 in omega arith
