-- A map that is made anew of the entries of another.
use Rattle.std.proofs.Common.{ℕ, ◌≡◌, List, [], ◌∷◌, ◌++◌, Contains, Option, None, Some, is_some, Bool, true, false, cond, inl, inr, refl, sym, ap, ◌∙◌, subst, arith}
use mathlib.Core.Bool.{true≢false}
use Rattle.std.specs.BTreeMap.{BTreeMap, get, is_at, IsOrdered}
use Rattle.std.specs.Cmp.{Equal-is, tied_itself}
use Rattle.std.specs.FinMap as map
use Rattle.std.specs.Ordering.{is_eq}
use Rattle.std.proofs.lemmas.List.Elements.{Contains-push_cases}
use Rattle.fab_reach_base.proofs.fab_lemmas.SeenEntries.{entry_decides}
use Rattle.fab_reach_base.proofs.fab_lemmas.SeenMaps.{get_entries, entries_made}
use Rattle.fab_reach_base.specs.fab_names.Orders.{name_cmp}
use Rattle.fab_reach_base.proofs.fab_names.OrderLaws.{name_total, name_exact}
use Rattle.fab_reach_base.proofs.Scanning.{is_in_map}

-- what the copy has is as in the source, and it has what was passed
pub record IsCopySoFar (source copy : BTreeMap (List ℕ) ℕ) (before : List (List ℕ × ℕ)) : Type 0 where
  pub same : (q : List ℕ) → is_some (get name_cmp copy q) ≡ true → get name_cmp copy q ≡ get name_cmp source q
  pub known : (e : List ℕ × ℕ) → Contains before e → is_some (get name_cmp copy e.0) ≡ true

module _ (source : BTreeMap (List ℕ) ℕ) where
  pub nothing_yet : (copy : BTreeMap (List ℕ) ℕ) → ((q : List ℕ) → get name_cmp copy q ≡ None) → IsCopySoFar source copy []
  nothing_yet copy none = record { same = λ q h. absurd (true≢false (sym h ∙ ap is_some (none q))); known = λ e h. absurd (omega (arith, h.1)) }

  -- one entry more
  pub entry_more : (copy next : BTreeMap (List ℕ) ℕ) (before : List (List ℕ × ℕ)) (e : List ℕ × ℕ) → get name_cmp source e.0 ≡ Some e.1
      → ((q : List ℕ) → get name_cmp next q ≡ cond (is_at (name_cmp e.0) q) (Some e.1) (get name_cmp copy q)) → IsCopySoFar source copy before → IsCopySoFar source next (before ++ e ∷ [])
  entry_more copy next before e there put so = record { same = λ q h. same q (is_at (name_cmp e.0) q) refl (sym (ap is_some (put q)) ∙ h); known = known }
    where
      same : (q : List ℕ) (b : Bool) → is_at (name_cmp e.0) q ≡ b → is_some (cond b (Some e.1) (get name_cmp copy q)) ≡ true → get name_cmp next q ≡ get name_cmp source q
      same q true is h = put q ∙ ap (λ b. cond b (Some e.1) (get name_cmp copy q)) is ∙ sym there ∙ ap (get name_cmp source) (name_exact e.0 q ((Equal-is (name_cmp e.0 q)).0 is))
      same q false is h = put q ∙ ap (λ b. cond b (Some e.1) (get name_cmp copy q)) is ∙ so.same q h

      still : (q : List ℕ) (b : Bool) → is_some (get name_cmp copy q) ≡ true → is_some (cond b (Some e.1) (get name_cmp copy q)) ≡ true
      still q true h = refl
      still q false h = h

      known : (d : List ℕ × ℕ) → Contains (before ++ e ∷ []) d → is_some (get name_cmp next d.0) ≡ true
      known d h = elim (Contains-push_cases before e d h) [
        | inl old ↦ ap is_some (put d.0) ∙ still d.0 (is_at (name_cmp e.0) d.0) (so.known d old)
        | inr one ↦ subst (λ (x : List ℕ × ℕ). is_some (get name_cmp next x.0) ≡ true) one (ap is_some (put e.0) ∙ ap (λ b. is_some (cond b (Some e.1) (get name_cmp copy e.0))) (ap is_eq (tied_itself name_total e.0)))
      ]

  module _ (sorted : IsOrdered name_cmp source) where
    entries_are : source.entries ≡ map.entries (map.from_entries {R = name_cmp} source.entries)
    entries_are = sym (entries_made name_total name_exact source.entries sorted)

    -- where the walk stands is one of the entries
    pub stands_there : (before it more : List (List ℕ × ℕ)) (e : List ℕ × ℕ) → source.entries ≡ before ++ it → it ≡ e ∷ more → get name_cmp source e.0 ≡ Some e.1
    stands_there before it more e so_far next = sym (get_entries name_total source.entries e.0) ∙ is_in_map name_total name_exact (map.from_entries source.entries) source.entries before it more e entries_are so_far next

    -- all were passed
    pub is_copy : (copy : BTreeMap (List ℕ) ℕ) (before : List (List ℕ × ℕ)) → before ≡ source.entries → IsCopySoFar source copy before → map.from_entries {R = name_cmp} copy.entries ≡ map.from_entries source.entries
    is_copy copy before whole so = map.same_map name_total name_exact _ _ (λ q. get_entries name_total copy.entries q ∙ at q (get name_cmp copy q) refl (get name_cmp source q) refl ∙ sym (get_entries name_total source.entries q))
      where
        at : (q : List ℕ) (o : Option ℕ) → get name_cmp copy q ≡ o → (s : Option ℕ) → get name_cmp source q ≡ s → get name_cmp copy q ≡ get name_cmp source q
        at q (Some v) is s its = so.same q (ap is_some is)
        at q None is None its = is ∙ sym its
        at q None is (Some v) its =
            let there : Contains source.entries (q, v) = subst (λ es. Contains es (q, v)) (sym entries_are) ((entry_decides name_cmp name_total name_exact (map.from_entries source.entries) q v).0 (get_entries name_total source.entries q ∙ its)) in
            absurd (true≢false (sym (so.known (q, v) (subst (λ es. Contains es (q, v)) (sym whole) there)) ∙ ap is_some is))
