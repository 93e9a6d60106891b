-- One header line more.
use Rattle.std.proofs.Common.{◌≡◌, ℕ, ◌+◌, ◌<◌, ◌≤◌, List, [], ◌∷◌, ◌++◌, length, take, drop, take-append-drop, append_assoc, get_or, map, refl, ap, sym, ◌∙◌, add-one, arith, true, false, Some, All}
use Rattle.std.specs.List.{filter}
use Rattle.std.proofs.Math.Seq.{take-suc}
use Rattle.std.proofs.lemmas.List.{map-append}
use Rattle.std.proofs.lemmas.List.Elements.{filter-append, All-pop}
use Rattle.std.proofs.lemmas.Grind.{common_steps}
use Rattle.httparse.specs.Spans.{span_bytes, header_bytes}
use Rattle.httparse.specs.declared.spans.HeaderSpan.{HeaderSpan}
use Rattle.fab_names.specs.Numbers.{SpellsNumber}
use Rattle.fab_wire_base.specs.Lines.{Line, are_same_name, values_of, lines_of}
use Rattle.fab_wire_base.specs.Fields.{IsLengthOf, IsOnly}
use Rattle.fab_wire_base.specs.declared.fields.Length.{Length}
use Rattle.fab_wire_base.specs.declared.fields.Length.TheVariants.{Bad}
use Rattle.fab_wire_base.specs.declared.fields.Only.{Only}
use Rattle.fab_wire_base.specs.declared.fields.Only.TheVariants.{Nothing, One, Several}

-- the values of two lists of lines
values_of-append : (name : List ℕ) (ls ms : List Line) → values_of name (ls ++ ms) ≡ values_of name ls ++ values_of name ms
values_of-append name ls ms =
    ap (λ (xs : List Line). map (λ (line : Line). line.1) xs) (filter-append (λ (line : Line). are_same_name line.0 name) ls ms)
    ∙ map-append (λ (line : Line). line.1) (filter (λ (line : Line). are_same_name line.0 name) ls) (filter (λ (line : Line). are_same_name line.0 name) ms)

lines-more : (name buf : List ℕ) (hs : List HeaderSpan) (i : ℕ) (d : HeaderSpan) → i < length hs
    → values_of name (lines_of buf (take (i + 1) hs)) ≡ values_of name (lines_of buf (take i hs)) ++ values_of name (header_bytes buf (get_or hs i d) ∷ [])
lines-more name buf hs i d h =
    rw (add-one, take-suc hs i d h)
    (ap (values_of name) (map-append (header_bytes buf) (take i hs) (get_or hs i d ∷ [])) ∙ values_of-append name (lines_of buf (take i hs)) (header_bytes buf (get_or hs i d) ∷ []))

-- a line of the name adds its value
pub values-named : (name buf : List ℕ) (hs : List HeaderSpan) (i : ℕ) (d : HeaderSpan) → i < length hs
    → true ≡ are_same_name (span_bytes buf (get_or hs i d).name) name
    → values_of name (lines_of buf (take (i + 1) hs)) ≡ values_of name (lines_of buf (take i hs)) ++ span_bytes buf (get_or hs i d).value ∷ []
values-named name buf hs i d h e = lines-more name buf hs i d h ∙ rw (← e) refl

-- another line adds none
pub values-other : (name buf : List ℕ) (hs : List HeaderSpan) (i : ℕ) (d : HeaderSpan) → i < length hs
    → false ≡ are_same_name (span_bytes buf (get_or hs i d).name) name
    → values_of name (lines_of buf (take (i + 1) hs)) ≡ values_of name (lines_of buf (take i hs))
values-other name buf hs i d h e = lines-more name buf hs i d h ∙ rw (← e) (grind (arith, common_steps))

-- a number that each of some values spells and one value more spells too
last-spelled : (values : List (List ℕ)) (value : List ℕ) (n : ℕ) → All (λ v. SpellsNumber v n) (values ++ value ∷ []) → All (λ v. SpellsNumber v n) values × SpellsNumber value n
last-spelled values value n h = All-pop (λ v. SpellsNumber v n) (values ++ value ∷ []) values (Some value) refl h

-- a bad length stays bad
pub length-stays : (values : List (List ℕ)) (value : List ℕ) → IsLengthOf values Bad → IsLengthOf (values ++ value ∷ []) Bad
length-stays values value h k all = h k (last-spelled values value k all).0

-- the next line is another one
pub length-other : (name buf : List ℕ) (hs : List HeaderSpan) (i : ℕ) (d : HeaderSpan) (s t : Length) → i < length hs
    → false ≡ are_same_name (span_bytes buf (get_or hs i d).name) name → t ≡ s
    → IsLengthOf (values_of name (lines_of buf (take i hs))) s → IsLengthOf (values_of name (lines_of buf (take (i + 1) hs))) t
length-other name buf hs i d s t h e u k = rw (values-other name buf hs i d h e, u) k

-- the next line is of the name
pub length-named : (name buf : List ℕ) (hs : List HeaderSpan) (i : ℕ) (d : HeaderSpan) (s t a : Length) → i < length hs
    → true ≡ are_same_name (span_bytes buf (get_or hs i d).name) name → t ≡ a
    → ((values : List (List ℕ)) → IsLengthOf values s → IsLengthOf (values ++ span_bytes buf (get_or hs i d).value ∷ []) a)
    → IsLengthOf (values_of name (lines_of buf (take i hs))) s → IsLengthOf (values_of name (lines_of buf (take (i + 1) hs))) t
length-named name buf hs i d s t a h e u f k = rw (values-named name buf hs i d h e, u) (f (values_of name (lines_of buf (take i hs))) k)

-- behind the last line
pub take-whole : {X : Type 0} (i : ℕ) (xs : List X) → length xs ≤ i → take i xs ≡ xs
take-whole i xs h = grind (arith, common_steps)

values-around : (name buf : List ℕ) (hs : List HeaderSpan) (i : ℕ) (d : HeaderSpan) → i < length hs
    → true ≡ are_same_name (span_bytes buf (get_or hs i d).name) name
    → values_of name (lines_of buf hs) ≡ values_of name (lines_of buf (take i hs)) ++ (span_bytes buf (get_or hs i d).value ∷ values_of name (lines_of buf (drop (i + 1) hs)))
values-around name buf hs i d h e =
    ap (λ (xs : List HeaderSpan). values_of name (lines_of buf xs)) (sym (take-append-drop (i + 1) hs))
    ∙ ap (values_of name) (map-append (header_bytes buf) (take (i + 1) hs) (drop (i + 1) hs))
    ∙ values_of-append name (lines_of buf (take (i + 1) hs)) (lines_of buf (drop (i + 1) hs))
    ∙ ap (λ (xs : List (List ℕ)). xs ++ values_of name (lines_of buf (drop (i + 1) hs))) (values-named name buf hs i d h e)
    ∙ append_assoc (values_of name (lines_of buf (take i hs))) (span_bytes buf (get_or hs i d).value ∷ []) (values_of name (lines_of buf (drop (i + 1) hs)))

two-at-least : (buf : List ℕ) (seen more whole : List (List ℕ)) (v : List ℕ) (only : Only) → whole ≡ seen ++ v ∷ more → IsOnly buf seen only → (only ≡ Nothing → ⊥) → IsOnly buf whole Several
two-at-least buf seen more whole v Nothing e h n = absurd (n refl)
two-at-least buf seen more whole v (One span) e h n = (span_bytes buf span, v, more, e ∙ ap (λ (xs : List (List ℕ)). xs ++ v ∷ more) h.0)
two-at-least buf seen more whole v Several e h n = (h.0, h.1, h.2 ++ v ∷ more, e ∙ ap (λ (xs : List (List ℕ)). xs ++ v ∷ more) h.3)

-- a second line of the name
pub only-several : (name buf : List ℕ) (hs : List HeaderSpan) (i : ℕ) (d : HeaderSpan) (only : Only) → i < length hs
    → true ≡ are_same_name (span_bytes buf (get_or hs i d).name) name → (only ≡ Nothing → ⊥)
    → IsOnly buf (values_of name (lines_of buf (take i hs))) only → IsOnly buf (values_of name (lines_of buf hs)) Several
only-several name buf hs i d only h e n k = two-at-least buf _ _ _ _ only (values-around name buf hs i d h e) k n
