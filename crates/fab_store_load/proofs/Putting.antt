-- One entry more under a name.
use Rattle.std.proofs.Common.{◌≡◌, [], ◌⊎◌, inl, inr, ⊎_elim, Option, None, Some, Bool, true, false, cond, refl, sym, ap, ◌∙◌, subst}
use Rattle.std.specs.declared.cmp.Ordering.{Ordering}
use Rattle.std.specs.Ordering.{is_eq}
use Rattle.std.specs.BTreeMap.{BTreeMap, get, is_at}
use Rattle.std.specs.Map.{lookup}
use Rattle.std.specs.Option.{option_and_then}
use Rattle.std.specs.Cmp.{IsTotalOrder, Equal-is, tied_itself}
use Rattle.std.specs.FinSet as set
use Rattle.fab_store_load.specs.Rows.{StandsIn}
use Rattle.fab_reach_base.specs.fab_zoning.Edits.{Puts}

-- the entry stands in the map, if there is one
abbrev pub FoundIn : {K X : Type 0} → (K → K → Ordering) → Option (BTreeMap K X) → K × X → Type 0
FoundIn P o = StandsIn (λ q. option_and_then (λ s. get P s q) o)

-- the name of an entry counted to its key
pub puts_apart : {Q K X : Type 0} (q : Q) (k : K) (x : X) (F G : Q × (K × X) → Type 0) → Puts {E = Q × (K × X)} (q, (k, x)) F G → Puts {E = (Q × K) × X} ((q, k), x) (λ d. F (d.0.0, (d.0.1, d.1))) (λ d. G (d.0.0, (d.0.1, d.1)))
puts_apart {Q} {K} {X} q k x F G puts d = (
  λ g. ⊎_elim inl (λ same. inr (ap (λ (e : Q × (K × X)). ((e.0, e.1.0), e.1.1)) same)) ((puts (d.0.0, (d.0.1, d.1))).0 g),
  λ c. (puts (d.0.0, (d.0.1, d.1))).1 (⊎_elim inl (λ same. inr (ap (λ (e : (Q × K) × X). (e.0.0, (e.0.1, e.1))) same)) c),
)

-- no map is empty once this one is written back
pub some_under : {Q K X : Type 0} (O : Q → Q → Ordering) (P : K → K → Ordering) (f g : Q → Option (BTreeMap K X)) (k : Q) (w : BTreeMap K X) (q : K) (x : X) → ((p : Q) → g p ≡ cond (is_at (O k) p) (Some w) (f p)) → get P w q ≡ Some x
    → ((p : Q) (s : BTreeMap K X) → f p ≡ Some s → (y : K) × (z : X) × (get P s y ≡ Some z)) → (p : Q) (s : BTreeMap K X) → g p ≡ Some s → (y : K) × (z : X) × (get P s y ≡ Some z)
some_under {Q} {K} {X} O P f g k w q x updates here some p s at = by (is_at (O k) p) (sym (updates p) ∙ at)
  where
    by : (b : Bool) → cond b (Some w) (f p) ≡ Some s → (y : K) × (z : X) × (get P s y ≡ Some z)
    by true is = let same : w ≡ s = cc in (q, x, subst (λ m. get P m q ≡ Some x) same here)
    by false is = some p s is

-- the first entry of a map
pub puts_first_entry : {K X : Type 0} {P : K → K → Ordering} → IsTotalOrder P → set.IsAntisymmetric P → (m w : BTreeMap K X) (k : K) (v : X) (o : Option (BTreeMap K X)) → m.entries ≡ [] → None ≡ o → ((q : K) → get P w q ≡ cond (is_at (P k) q) (Some v) (get P m q))
    → Puts (k, v) (StandsIn (λ q. option_and_then (λ s. get P s q) o)) (StandsIn (get P w))
puts_first_entry {K} {X} {P = P} total exact m w k v o empty none updates d = (
  λ is. from (is_at (P k) d.0) refl (sym (look d.0) ∙ is),
  λ c. ⊎_elim (λ old. let gone : ◌≡◌ {A = Option X} None (Some d.1) = ap (λ p. option_and_then (λ s. get P s d.0) p) none ∙ old in absurd cc) (λ same. subst (λ (e : K × X). get P w e.0 ≡ Some e.1) (sym same) (look k ∙ ap (λ b. cond b (Some v) None) (ap is_eq (tied_itself total k)))) c,
)
  where
    look : (q : K) → get P w q ≡ cond (is_at (P k) q) (Some v) None
    look q = updates q ∙ ap (λ es. cond (is_at (P k) q) (Some v) (lookup (is_at (P q)) es)) empty

    from : (b : Bool) → is_at (P k) d.0 ≡ b → cond b (Some v) None ≡ Some d.1 → StandsIn (λ q. option_and_then (λ s. get P s q) o) d ⊎ (d ≡ (k, v))
    from true is e = let value : v ≡ d.1 = cc in let same = exact k d.0 ((Equal-is (P k d.0)).0 is) in inr (λ i. (sym same i, sym value i))
    from false is e = absurd cc
