-- The first faulty record of a port list.
use Rattle.std.proofs.Common.{◌≡◌, ℕ, ◌+◌, List, [], ◌∷◌, ◌++◌, sym, ap, ◌∙◌, subst, inl, inr, append_assoc}
use Rattle.csv.specs.Reading.{default_config, strip_bom}
use Rattle.csv.specs.declared.parser.State.TheVariants as state
use Rattle.fab_inventory.specs.declared.port.PortRow.{PortRow}
use Rattle.fab_wire_requests.specs.PortLists.{Record, header_of, SpellRows, ListsPorts, HasNoHeader, HasBadRowBehind, IsFaultAt}
use Rattle.fab_wire_requests.proofs.RecordLemmas.{all-front, two-fronts, one-list, rows-long, row-inside, rows-under, last-inside}

-- no port list that lists rows has a faulty record
pub no-fault : (text : List ℕ) (rows : List PortRow) (line : ℕ) → ListsPorts text rows → IsFaultAt text line → ⊥
no-fault text rows line (a, listed, all, spelled) (inl (e, inl none)) = let same : header_of a ∷ listed ≡ [] = one-list text (header_of a ∷ listed) [] all none in cc
no-fault text rows line (a, listed, all, spelled) (inl (e, inr (first, begins, other))) =
    let f = all-front default_config state.StartRecord (strip_bom text) (header_of a ∷ listed) (first ∷ []) begins.0 begins.1 all begins.2 in
    let is : first ≡ header_of a = cc f.1 in
    other a is
no-fault text rows line (a, listed, all, spelled) (inr (before, e, h)) =
    let f = all-front default_config state.StartRecord (strip_bom text) (header_of a ∷ listed) (header_of h.addressed ∷ h.records ++ h.bad ∷ []) h.begins.0 h.begins.1 all h.begins.2 in
    let g : header_of a ∷ listed ≡ header_of h.addressed ∷ h.records ++ h.bad ∷ f.0 = f.1 ∙ ap (λ (t : List Record). header_of h.addressed ∷ t) (append_assoc h.records (h.bad ∷ []) f.0) in
    let inside = row-inside h.addressed h.records h.bad f.0 rows (rows-under a h.addressed listed (h.records ++ h.bad ∷ f.0) rows g spelled) in
    h.none inside.0 inside.1

header-or-row : (text : List ℕ) (before : ℕ) → HasNoHeader text → HasBadRowBehind text before → ⊥
header-or-row text before (inl none) h =
    let f = all-front default_config state.StartRecord (strip_bom text) [] (header_of h.addressed ∷ h.records ++ h.bad ∷ []) h.begins.0 h.begins.1 none h.begins.2 in cc f.1
header-or-row text before (inr (first, starts, other)) h =
    elim (two-fronts default_config state.StartRecord (strip_bom text) (first ∷ []) (header_of h.addressed ∷ h.records ++ h.bad ∷ []) starts.0 starts.1 h.begins.0 h.begins.1 starts.2 h.begins.2) [
      | inl f ↦ other h.addressed (cc f.1)
      | inr f ↦ other h.addressed (cc f.1)
    ]

row-or-row : (text : List ℕ) (m n : ℕ) (h : HasBadRowBehind text m) (k : HasBadRowBehind text n) (more : List Record)
    → header_of k.addressed ∷ k.records ++ k.bad ∷ [] ≡ (header_of h.addressed ∷ h.records ++ h.bad ∷ []) ++ more → m ≡ n
row-or-row text m n h k more e =
    let f : k.records ++ k.bad ∷ [] ≡ (h.records ++ h.bad ∷ []) ++ more = cc e in
    let first : header_of k.addressed ≡ header_of h.addressed = cc e in
    let spelled : SpellRows h.addressed k.records k.rows = rows-under k.addressed h.addressed k.records k.records k.rows (ap (λ (t : Record). t ∷ k.records) first) k.spelled in
    elim (last-inside h.records k.records more h.bad k.bad (f ∙ append_assoc h.records (h.bad ∷ []) more)) [
      | inl same ↦ h.count ∙ sym (rows-long h.addressed h.records h.rows h.spelled) ∙ same ∙ rows-long h.addressed k.records k.rows spelled ∙ sym k.count
      | inr inside ↦ absurd (let row = row-inside h.addressed h.records h.bad inside.0 k.rows (subst (λ (t : List Record). SpellRows h.addressed t k.rows) inside.1 spelled) in h.none row.0 row.1)
    ]

one_bad_row : (text : List ℕ) (m n : ℕ) → HasBadRowBehind text m → HasBadRowBehind text n → m ≡ n
one_bad_row text m n h k =
    elim (two-fronts default_config state.StartRecord (strip_bom text) (header_of h.addressed ∷ h.records ++ h.bad ∷ []) (header_of k.addressed ∷ k.records ++ k.bad ∷ []) h.begins.0 h.begins.1 k.begins.0 k.begins.1 h.begins.2 k.begins.2) [
      | inl f ↦ row-or-row text m n h k f.0 f.1
      | inr f ↦ sym (row-or-row text n m k h f.0 f.1)
    ]

-- a port list has one first faulty record
pub one_fault : (text : List ℕ) (m n : ℕ) → IsFaultAt text m → IsFaultAt text n → m ≡ n
one_fault text m n (inl h) (inl k) = h.0 ∙ sym k.0
one_fault text m n (inl h) (inr k) = absurd (header-or-row text k.0 h.1 k.2)
one_fault text m n (inr h) (inl k) = absurd (header-or-row text h.0 k.1 h.2)
one_fault text m n (inr h) (inr k) = h.1 ∙ ap (λ b. b + 2) (one_bad_row text h.0 k.0 h.2 k.2) ∙ sym k.1
