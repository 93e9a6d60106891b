-- A map whose every value is rewritten, by its key too.
use Rattle.std.proofs.Common.{◌≡◌, List, [], ◌∷◌, map, Bool, true, false, cond, Some, refl, sym, ap, ◌∙◌, subst}
use Rattle.std.specs.declared.cmp.Ordering.{Ordering}
use Rattle.std.specs.BTreeMap.{is_at}
use Rattle.std.specs.Cmp.{Equal-is}
use Rattle.std.specs.FinSet as set
use Rattle.std.specs.Map.{lookup}
use Rattle.std.specs.Map.Calls.{RetainsPairs}
use Rattle.std.specs.Option.{option_map}

-- a closure that always answers `true` and writes g of each key and value, and stays as it was
pub map_keyed_pairs : {F K X : Type 0} (T : F → K → X → Bool → X → F → Type 0) (g : K → X → X) (f : F)
    → ((k : K) (v : X) (b : Bool) (w : X) (f' : F) → T f k v b w f' → (b ≡ true) × (w ≡ g k v) × (f' ≡ f)) → (es kept : List (K × X)) → RetainsPairs T f es kept → kept ≡ map (λ e. (e.0, g e.0 e.1)) es
map_keyed_pairs T g f step [] kept h = h
map_keyed_pairs T g f step (e ∷ es) kept h =
    let t = step e.0 e.1 h.0 h.1 h.2 h.4 in
    let rest = map_keyed_pairs T g f step es h.3 (subst (λ x. RetainsPairs T x es h.3) t.2 h.5) in
    h.6 ∙ ap (λ b. cond b ((e.0, h.1) ∷ h.3) h.3) t.0 ∙ (λ i. (e.0, t.1 i) ∷ rest i)

-- a look-up in it, where keys that tie are equal
pub lookup-map_keyed : {K X : Type 0} {R : K → K → Ordering} → set.IsAntisymmetric R → (g : K → X → X) (q : K) (es : List (K × X)) → lookup (is_at (R q)) (map (λ e. (e.0, g e.0 e.1)) es) ≡ option_map (g q) (lookup (is_at (R q)) es)
lookup-map_keyed exact g q [] = refl
lookup-map_keyed {K} {X} {R} exact g q (e ∷ es) =
    elim (is_at (R q) e.0) as (λ b. is_at (R q) e.0 ≡ b → cond b (Some (g e.0 e.1)) (lookup (is_at (R q)) (map (λ e. (e.0, g e.0 e.1)) es)) ≡ option_map (g q) (cond b (Some e.1) (lookup (is_at (R q)) es))) [
      | true ↦ λ t. ap (λ k. Some (g k e.1)) (sym (exact q e.0 ((Equal-is (R q e.0)).0 t)))
      | false ↦ λ t. lookup-map_keyed exact g q es
    ] refl
