-- Host groups and storage groups by their rows.
use Rattle.std.proofs.Common.{ℕ, ◌≡◌, List, Option, None, Some, is_some, Bool, true, false, refl, sym, ap, ◌∙◌, subst}
use mathlib.Core.Bool.{true≢false}
use Rattle.std.specs.declared.cmp.Ordering.{Ordering}
use Rattle.std.specs.BTreeMap as tree
use Rattle.std.specs.BTreeMap.{BTreeMap}
use Rattle.std.specs.BTreeSet.{BTreeSet}
use Rattle.std.specs.Cmp.{IsTotalOrder}
use Rattle.std.specs.FinMap as map
use Rattle.std.specs.FinSet as set
use Rattle.std.specs.Option.{option_map, option_and_then}
use Rattle.fab_names.specs.Orders.{name_cmp}
use Rattle.fab_names.proofs.OrderLaws.{name_total, name_exact}
use Rattle.fab_reach_base.specs.fab_lemmas.Firsts.{HasAt}
use Rattle.fab_reach_base.specs.fab_lemmas.MapsOfSets.{in_tree}
use Rattle.fab_reach_base.proofs.fab_lemmas.SeenMaps.{get_entries}
use Rattle.fab_store_rows.specs.declared.config_row.ConfigRow.{ConfigRow}
use Rattle.fab_store_load.specs.Rows.{AreRows, at, StandsIn}
use Rattle.fab_store_load.specs.Kinds.{Named}
use Rattle.fab_store_load.specs.Assembled.{set_at, map_at}
use Rattle.fab_store_load.proofs.Saying.{one_look_up}

-- ---- what was found under a name
pub found_in_set : {X : Type 0} {R : X → X → Ordering} → IsTotalOrder R → (o : Option (BTreeSet X)) (x : X) → set.contains (set_at R o) x ≡ in_tree R o x
found_in_set {R = R} r None x = set.contains-empty R x
found_in_set r (Some s) x = set.contains-from_list r s.keys x

pub found_in_map : {K X : Type 0} {R : K → K → Ordering} → IsTotalOrder R → (o : Option (BTreeMap K X)) (k : K) → map.get (map_at R o) k ≡ option_and_then (λ s. tree.get R s k) o
found_in_map {X = X} {R = R} r None k = map.get-empty R k
found_in_map r (Some t) k = get_entries r t.entries k

-- ---- groups that are made of their heads and parts, of any kind
pub some_one : {X : Type 0} (x y : X) → ◌≡◌ {A = Option X} (Some x) (Some y) → x ≡ y
some_one x y e = cc

module _ {G H : Type 0} (rows : List ConfigRow) (hd : G → H) (heads : List ℕ → Option H) (first : List ℕ → H → G) (keeps : (q : List ℕ) (h : H) → hd (first q h) ≡ h) where
  -- the heads of the groups that stand under names
  module _ (groups : List ℕ → Option G) (head_row : Named H → ConfigRow) (Is : Named H → G → Type 0) (to : (e : Named H) (g : G) → Is e g → hd g ≡ e.1) (back : (e : Named H) (g : G) → hd g ≡ e.1 → Is e g) where
    pub heads_of_groups : AreRows head_row rows (λ e. HasAt groups (Is e) e.0) → AreRows head_row rows (StandsIn (λ q. option_map hd (groups q)))
    heads_of_groups h = record {
      sound = λ e there. let w = h.sound e there in ap (option_map hd) w.1 ∙ ap Some (to e w.0 w.2);
      complete = λ e is. h.complete e (by e (groups e.0) refl is);
    }
      where
        by : (e : Named H) (o : Option G) → groups e.0 ≡ o → option_map hd o ≡ Some e.1 → HasAt groups (Is e) e.0
        by e None at is = absurd cc
        by e (Some g) at is = (g, at, back e g (some_one (hd g) e.1 is))

    -- are those that the rows say
    pub heads_alike : AreRows head_row rows (λ e. HasAt groups (Is e) e.0) → AreRows head_row rows (StandsIn heads) → (q : List ℕ) → option_map hd (groups q) ≡ heads q
    heads_alike h k q = one_look_up head_row rows (λ p. option_map hd (groups p)) heads (heads_of_groups h) k q

  module _ (made : List ℕ → Option G) (made_is : (q : List ℕ) → made q ≡ option_map (first q) (heads q)) where
    -- the heads of the groups that are made
    pub made_heads : (head_row : Named H → ConfigRow) (Is : Named H → G → Type 0) → ((e : Named H) (g : G) → Is e g → hd g ≡ e.1) → ((e : Named H) (g : G) → hd g ≡ e.1 → Is e g) → AreRows head_row rows (StandsIn heads) → AreRows head_row rows (λ e. HasAt made (Is e) e.0)
    made_heads head_row Is to back h = record {
      sound = λ e there. let is = h.sound e there in (first e.0 e.1, made_is e.0 ∙ ap (option_map (first e.0)) is, back e (first e.0 e.1) (keeps e.0 e.1));
      complete = λ e w. h.complete e (by e w.0 (heads e.0) refl (sym (made_is e.0) ∙ w.1) (to e w.0 w.2));
    }
      where
        by : (e : Named H) (g : G) (o : Option H) → heads e.0 ≡ o → option_map (first e.0) o ≡ Some g → hd g ≡ e.1 → heads e.0 ≡ Some e.1
        by e g None at is same = absurd cc
        by e g (Some h) at is same = at ∙ ap Some (sym (keeps e.0 h) ∙ ap hd (some_one (first e.0 h) g is) ∙ same)

    -- the parts of the groups that are made
    pub made_parts : {E : Type 0} (part_row : E → ConfigRow) (name : E → List ℕ) (P : E → G → Type 0) (Q : E → Type 0) → ((e : E) (h : H) → P e (first (name e) h) → Q e) → ((e : E) (h : H) → Q e → P e (first (name e) h)) → ((e : E) → Q e → is_some (heads (name e)) ≡ true)
        → AreRows part_row rows Q → AreRows part_row rows (λ e. HasAt made (P e) (name e))
    made_parts {E} part_row name P Q to back known k = record {
      sound = λ e there. let q = k.sound e there in some e q (heads (name e)) refl (known e q);
      complete = λ e w. k.complete e (by e w.0 (heads (name e)) (sym (made_is (name e)) ∙ w.1) w.2);
    }
      where
        some : (e : E) → Q e → (o : Option H) → heads (name e) ≡ o → is_some o ≡ true → HasAt made (P e) (name e)
        some e q None at is = absurd (true≢false (sym is))
        some e q (Some h) at is = (first (name e) h, made_is (name e) ∙ ap (option_map (first (name e))) at, back e h q)

        by : (e : E) (g : G) (o : Option H) → option_map (first (name e)) o ≡ Some g → P e g → Q e
        by e g None is p = absurd cc
        by e g (Some h) is p = to e h (subst (P e) (sym (some_one (first (name e) h) g is)) p)

  -- a group has just the parts that the rows say of its name
  pub part_of_group : {E : Type 0} (part_row : E → ConfigRow) (name : E → List ℕ) (P : E → G → Type 0) (Q : E → Type 0) (groups : List ℕ → Option G) → AreRows part_row rows (λ e. HasAt groups (P e) (name e)) → AreRows part_row rows Q
      → (e : E) (g : G) → groups (name e) ≡ Some g → (P e g → Q e) × (Q e → P e g)
  part_of_group part_row name P Q groups h k e g there = (
    λ p. k.sound e (h.complete e (g, there, p)),
    λ q. let w = h.sound e (k.complete e q) in subst (P e) (some_one w.0 g (sym w.1 ∙ there)) w.2,
  )

  -- a name with a part has a head
  pub part_has_head : {E : Type 0} (part_row : E → ConfigRow) (name : E → List ℕ) (P : E → G → Type 0) (Q : E → Type 0) (groups : List ℕ → Option G) → AreRows part_row rows (λ e. HasAt groups (P e) (name e)) → AreRows part_row rows Q
      → ((q : List ℕ) → option_map hd (groups q) ≡ heads q) → (e : E) → Q e → is_some (heads (name e)) ≡ true
  part_has_head part_row name P Q groups h k alike e q = let w = h.sound e (k.complete e q) in ap is_some (sym (alike (name e)) ∙ ap (option_map hd) w.1)

  -- groups with these heads that are what is made of each are those that are made
  pub groups_are_made : (groups made : map.FinMap name_cmp G) → ((q : List ℕ) → map.get made q ≡ option_map (first q) (heads q)) → ((q : List ℕ) → option_map hd (map.get groups q) ≡ heads q) → ((q : List ℕ) (g : G) → map.get groups q ≡ Some g → g ≡ first q (hd g)) → groups ≡ made
  groups_are_made groups made made_is alike same = map.same_map name_total name_exact groups made (λ q. by q (map.get groups q) refl)
    where
      by : (q : List ℕ) (o : Option G) → map.get groups q ≡ o → o ≡ map.get made q
      by q None at = sym (made_is q ∙ ap (option_map (first q)) (sym (alike q) ∙ ap (option_map hd) at))
      by q (Some g) at = ap Some (same q g at) ∙ sym (made_is q ∙ ap (option_map (first q)) (sym (alike q) ∙ ap (option_map hd) at))

-- tests that agree where they pass are one
pub one_test : (a b : Bool) → (a ≡ true → b ≡ true) → (b ≡ true → a ≡ true) → a ≡ b
one_test true b there back = sym (there refl)
one_test false true there back = back refl
one_test false false there back = refl

-- look-ups that agree where they find are one
pub one_found : {X : Type 0} (a b : Option X) → ((x : X) → a ≡ Some x → b ≡ Some x) → ((x : X) → b ≡ Some x → a ≡ Some x) → a ≡ b
one_found (Some x) b there back = sym (there x refl)
one_found None (Some y) there back = back y refl
one_found None None there back = refl
