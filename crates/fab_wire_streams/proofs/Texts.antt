-- Texts of JSON in their parts.
use Rattle.std.proofs.Common.{◌*◌, length-append, ◌≡◌, ℕ, zero, suc, ◌+◌, ◌<◌, ◌≤◌, List, [], ◌∷◌, ◌++◌, Bool, true, false, refl, sym, ap, ◌∙◌, append_assoc, append-nil, length, take, drop, get_or, map, add-one, arith, take-append-drop}
use Rattle.std.proofs.lemmas.Grind.{common_steps}
use Rattle.std.proofs.lemmas.Bool.Decides.{nat_tests}
use Rattle.std.specs.Prelude.{Result, Ok, Err, OnOk}
use Rattle.std.proofs.Math.Seq.{take-suc}
use Rattle.std.specs.List.{flat_map}
use Rattle.json.specs.Print.{escape_byte}
use Rattle.serde_json.specs.Data.{Data, string, object, array, Items, no_items, item, Members, no_members, member}
use Rattle.serde_json.specs.View.{items_of}
use Rattle.serde_json.specs.Written.{comma_if}
use Rattle.fab_wire_streams.proofs.SentLemmas.{flat-cut}
use Rattle.fab_wire_streams.specs.JsonText.{json_text, members_json, quoted_json}
use Rattle.fab_wire_streams.specs.Values.{list_data}
use Rattle.fab_wire_streams.specs.Bounds.{string_most, key_most, sum_of}
use Rattle.fab_wire_streams.specs.Pieces.{items_json, item_json, key_json}
use Rattle.fab_wire_streams.specs.Escapes.{is_plain, escape_json, escapes_json}

pub quoted-parts : (s : List ℕ) → quoted_json s ≡ (34 ∷ []) ++ (escapes_json s ++ (34 ∷ []))
unfolding quoted_json escapes_json
quoted-parts s = refl

pub escapes-cons : (b : ℕ) (s : List ℕ) → escapes_json (b ∷ s) ≡ escape_json b ++ escapes_json s
unfolding escapes_json escape_json
escapes-cons b s = refl

pub escapes-nil : escapes_json [] ≡ []
unfolding escapes_json
escapes-nil = refl

pub escapes-append : (s t : List ℕ) → escapes_json (s ++ t) ≡ escapes_json s ++ escapes_json t
escapes-append [] t = rw escapes-nil refl
escapes-append (b ∷ s) t = rw (escapes-cons, escapes-cons) (ap (λ u. escape_json b ++ u) (escapes-append s t) ∙ sym (append_assoc (escape_json b) (escapes_json s) (escapes_json t)))

pub escape-plain : (b : ℕ) → is_plain b ≡ true → escape_json b ≡ b ∷ []
unfolding escape_json escape_byte
escape-plain b h = grind (arith, nat_tests)

pub object-parts : (ms : Members) → json_text (object ms) ≡ (123 ∷ []) ++ members_json false ms
unfolding json_text members_json
object-parts ms = refl

pub members-end : (later : Bool) → members_json later no_members ≡ 125 ∷ []
unfolding members_json
members-end later = refl

pub member-parts : (later : Bool) (k : List ℕ) (d : Data) (ms : Members) → members_json later (member k d ms) ≡ key_json later k ++ (json_text d ++ members_json true ms)
unfolding json_text members_json key_json
member-parts later k d ms = simp append_assoc

pub key-parts : (later : Bool) (k : List ℕ) → key_json later k ≡ comma_if later ++ (quoted_json k ++ (58 ∷ []))
unfolding key_json quoted_json
key-parts later k = refl

pub item-parts : (later : Bool) (d : Data) → item_json later d ≡ comma_if later ++ json_text d
unfolding item_json json_text
item-parts later d = refl

pub array-parts : (ds : Items) → json_text (array ds) ≡ (91 ∷ []) ++ items_json false ds
unfolding json_text items_json
array-parts ds = refl

pub items-end : (later : Bool) → items_json later no_items ≡ 93 ∷ []
unfolding items_json
items-end later = refl

items-cons : (later : Bool) (d : Data) (ds : Items) → items_json later (item d ds) ≡ item_json later d ++ items_json true ds
unfolding items_json item_json
items-cons later d ds = simp append_assoc

items-suc : {X : Type 0} (f : X → Data) (later : Bool) (xs : List X) (i : ℕ) (d : X) → i < length xs
    → items_json later (items_of (map f (drop i xs))) ≡ item_json later (f (get_or xs i d)) ++ items_json true (items_of (map f (drop (suc i) xs)))
items-suc f later [] i d h = absurd (omega arith)
items-suc f later (x ∷ xs) zero d h = items-cons later (f x) (items_of (map f xs))
items-suc f later (x ∷ xs) (suc i) d h = items-suc f later xs i d (omega arith)

-- the items from a place on begin with the item there
pub items-cut : {X : Type 0} (f : X → Data) (later : Bool) (xs : List X) (i : ℕ) (d : X) → i < length xs
    → items_json later (items_of (map f (drop i xs))) ≡ item_json later (f (get_or xs i d)) ++ items_json true (items_of (map f (drop (i + 1) xs)))
items-cut f later xs i d h = rw add-one (items-suc f later xs i d h)

drop-all : {X : Type 0} (i : ℕ) (xs : List X) → length xs ≤ i → drop i xs ≡ []
drop-all i [] h = grind (arith, common_steps)
drop-all zero (x ∷ xs) h = absurd (omega arith)
drop-all (suc i) (x ∷ xs) h = drop-all i xs (omega arith)

-- behind the last item stands the closing bracket
pub items-done : {X : Type 0} (f : X → Data) (later : Bool) (xs : List X) (i : ℕ) → length xs ≤ i → items_json later (items_of (map f (drop i xs))) ≡ 93 ∷ []
items-done f later xs i h = let e : drop i xs ≡ [] = drop-all i xs h in rw e (items-end later)

-- what stands for itself at the beginning of a text, and then the rest
pub escapes-cut : (n : ℕ) (s : List ℕ) → escapes_json (take n s) ≡ take n s → escapes_json s ≡ take n s ++ escapes_json (drop n s)
escapes-cut n s h = ap escapes_json (sym (take-append-drop n s)) ∙ escapes-append (take n s) (drop n s) ∙ ap (λ t. t ++ escapes_json (drop n s)) h

-- one byte more stands for itself
pub plain-more : (i : ℕ) (s : List ℕ) → i < length s → is_plain (get_or s i 0) ≡ true → escapes_json (take i s) ≡ take i s → escapes_json (take (i + 1) s) ≡ take (i + 1) s
plain-more i s h p e =
    let front : take (i + 1) s ≡ take i s ++ (get_or s i 0 ∷ []) = rw add-one (take-suc s i 0 h) in
    rw front (escapes-append (take i s) (get_or s i 0 ∷ []) ∙ ap (λ t. t ++ escapes_json (get_or s i 0 ∷ [])) e
    ∙ ap (λ t. take i s ++ t) (escapes-cons (get_or s i 0) [] ∙ ap (λ t. escape_json (get_or s i 0) ++ t) escapes-nil ∙ append-nil (escape_json (get_or s i 0)) ∙ escape-plain (get_or s i 0) p))

-- an escape is at most six bytes long
escape-short : (b : ℕ) → length (escape_json b) ≤ 6
unfolding escape_json escape_byte
escape-short b = grind (arith, nat_tests)

escapes-short : (s : List ℕ) → length (escapes_json s) ≤ 6 * length s
escapes-short [] = rw escapes-nil (omega arith)
escapes-short (b ∷ s) = rw (escapes-cons, length-append) (omega (arith, escape-short b, escapes-short s))

pub quoted-short : (s : List ℕ) → length (quoted_json s) ≤ string_most (length s)
quoted-short s = rw (quoted-parts, length-append, length-append) (omega (arith, escapes-short s))

-- the text of a string
pub string-text : (s : List ℕ) → json_text (string s) ≡ quoted_json s
unfolding json_text quoted_json
string-text s = refl

pub string-is : (s : List ℕ) → length (json_text (string s)) ≤ string_most (length s)
unfolding json_text quoted_json
string-is s = quoted-short s

pub string-short : (s : List ℕ) (n : ℕ) → length s ≤ n → length (json_text (string s)) ≤ string_most n
string-short s n h = omega (arith, string-is s)

pub key-short : (later : Bool) (k : List ℕ) → length (key_json later k) ≤ key_most k
key-short true k = rw (key-parts, length-append, length-append) (omega (arith, quoted-short k))
key-short false k = rw (key-parts, length-append, length-append) (omega (arith, quoted-short k))

-- a fact is one whatever a call answers, or follows from another that holds where it answers Ok
pub on_ok : {V E : Type 0} (r : Result V E) (P : Type 0) → P → OnOk r P
on_ok (Ok v) P h = h
on_ok (Err e) P h = tt

pub on_ok-then : {V E : Type 0} (r : Result V E) (P Q : Type 0) → (P → Q) → OnOk r P → OnOk r Q
on_ok-then (Ok v) P Q f h = f h
on_ok-then (Err e) P Q f h = tt

pub object-short : (ms : Members) (n : ℕ) → length (members_json false ms) ≤ n → length (json_text (object ms)) ≤ 1 + n
object-short ms n h = rw (object-parts, length-append) (omega arith)

pub member-short : (later : Bool) (k : List ℕ) (d : Data) (ms : Members) (v r : ℕ) → length (json_text d) ≤ v → length (members_json true ms) ≤ r
    → length (members_json later (member k d ms)) ≤ key_most k + v + r
member-short later k d ms v r h j = rw (member-parts, length-append, length-append) (omega (arith, key-short later k))

pub item-short : (later : Bool) (d : Data) (n : ℕ) → length (json_text d) ≤ n → length (item_json later d) ≤ n + 1
item-short true d n h = rw (item-parts, length-append) (omega arith)
item-short false d n h = rw (item-parts, length-append) (omega arith)

sum-suc : {X : Type 0} (g : X → ℕ) (xs : List X) (i : ℕ) (d : X) → i < length xs → sum_of g (drop i xs) ≡ g (get_or xs i d) + sum_of g (drop (suc i) xs)
sum-suc g [] i d h = absurd (omega arith)
sum-suc g (x ∷ xs) zero d h = refl
sum-suc g (x ∷ xs) (suc i) d h = sum-suc g xs i d (omega arith)

-- a list's text is no longer than what is left lets it be
pub record IsBounded {X : Type 0} (f : X → Data) (g : X → ℕ) (later : Bool) (xs : List X) (i : ℕ) : Type 0 where
  pub bound : length (json_text (list_data f xs)) + sum_of g (drop i xs) ≤ 1 + sum_of g xs + length (items_json later (items_of (map f (drop i xs))))

pub bounded-none : {X : Type 0} (f : X → Data) (g : X → ℕ) (xs : List X) → IsBounded f g false xs 0
bounded-none f g xs = record { bound = rw (array-parts, length-append) (omega arith) }

pub bounded-more : {X : Type 0} (f : X → Data) (g : X → ℕ) (later : Bool) (xs : List X) (i : ℕ) (d : X) → i < length xs
    → length (item_json later (f (get_or xs i d))) ≤ g (get_or xs i d) → IsBounded f g later xs i → IsBounded f g true xs (i + 1)
bounded-more f g later xs i d h k b =
    let s : sum_of g (drop i xs) ≡ g (get_or xs i d) + sum_of g (drop (i + 1) xs) = rw add-one (sum-suc g xs i d h) in
    let l : length (items_json later (items_of (map f (drop i xs)))) ≡ length (item_json later (f (get_or xs i d))) + length (items_json true (items_of (map f (drop (i + 1) xs)))) =
    ap length (items-cut f later xs i d h) ∙ length-append _ _ in
    record { bound = omega (arith, b.bound, s, l, k) }

pub bounded-all : {X : Type 0} (f : X → Data) (g : X → ℕ) (later : Bool) (xs : List X) (i : ℕ) → length xs ≤ i → IsBounded f g later xs i → length (json_text (list_data f xs)) ≤ 2 + sum_of g xs
bounded-all f g later xs i h b =
    let l : length (items_json later (items_of (map f (drop i xs)))) ≡ 1 = ap length (items-done f later xs i h) in
    omega (arith, b.bound, l)

-- a sum of one number
pub sum-const : {X : Type 0} (k : ℕ) (xs : List X) → sum_of (λ x. k) xs ≡ length xs * k
sum-const k [] = omega arith
sum-const k (x ∷ xs) = rw (sum-const k xs) (omega arith)

-- the texts of a string from a place on begin with the text there
pub joined-cut : {X : Type 0} (f : X → List ℕ) (xs : List X) (i : ℕ) (d : X) → i < length xs
    → escapes_json (flat_map f (drop i xs)) ++ (34 ∷ []) ≡ escapes_json (f (get_or xs i d)) ++ (escapes_json (flat_map f (drop (i + 1) xs)) ++ (34 ∷ []))
joined-cut f xs i d h =
    ap (λ (t : List ℕ). escapes_json t ++ (34 ∷ [])) (flat-cut f xs i d h)
    ∙ ap (λ (t : List ℕ). t ++ (34 ∷ [])) (escapes-append (f (get_or xs i d)) (flat_map f (drop (i + 1) xs)))
    ∙ append_assoc (escapes_json (f (get_or xs i d))) (escapes_json (flat_map f (drop (i + 1) xs))) (34 ∷ [])

-- behind the last text stands the closing quote
pub joined-done : {X : Type 0} (f : X → List ℕ) (xs : List X) (i : ℕ) → length xs ≤ i → escapes_json (flat_map f (drop i xs)) ++ (34 ∷ []) ≡ 34 ∷ []
joined-done f xs i h = let e : drop i xs ≡ [] = drop-all i xs h in rw (e, escapes-nil) refl
