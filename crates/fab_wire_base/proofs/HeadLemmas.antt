-- Reading an input in parts, and when it has no head.
use Rattle.std.proofs.Common.{◌≡◌, ℕ, ◌+◌, ◌*◌, ◌<◌, ◌≤◌, List, [], ◌∷◌, ◌++◌, length, take, drop, refl, ap, sym, ◌∙◌, subst, append_assoc, arith, Option, Some, None, All, length-append, length-take, append-nil, IfSome, Bool, true, false, suc, zero}
use Rattle.std.proofs.Math.Seq.{take-add}
use Rattle.std.proofs.lemmas.Bool.Decides.{nat_tests}
use Rattle.std.proofs.lemmas.List.Elements.{All-head, All-tail}
use Rattle.std.specs.Prelude.{if◌then◌else◌, ◌==◌}
use Rattle.std.specs.Io.KnownBytes.{Consumes, IsAtEnd}
use Rattle.std.specs.List.{flat_map}
use Rattle.httparse.specs.Grammar.{LineEnd, print_end, crlf, lf, Field, IsField, print_field, RequestHead, IsRequestHead, print_request, HasNoRequest}
use Rattle.httparse.specs.Spans.{RequestOverflows}
use Rattle.httparse.specs.declared.spans.HeaderSpan.{HeaderSpan}
use Rattle.fab_wire_base.specs.Limits.{most_head, most_lines}
use Rattle.fab_wire_base.specs.Heads.{HasNoHead}
use Rattle.fab_wire_base.specs.Reading.{ReadsHead, failures_after_head}
use Rattle.fab_wire_base.specs.declared.head.HeadRead.{HeadRead}
use Rattle.fab_wire_base.specs.declared.head.HeadRead.TheVariants.{Empty, BadHead}

-- what is consumed in two turns is consumed as one
pub Consumes-append : (a b c : Option (List ℕ)) (x y : List ℕ) → Consumes a b x → Consumes b c y → Consumes a c (x ++ y)
Consumes-append None b c x y h k = tt
Consumes-append (Some xs) None c x y h k = absurd h
Consumes-append (Some xs) (Some ys) None x y h k = absurd k
Consumes-append (Some xs) (Some ys) (Some zs) x y h k = h ∙ ap (λ t. x ++ t) k ∙ sym (append_assoc x y zs)

-- the shorter of two fronts of one list begins the longer
shorter_front : (xs ys ps qs : List ℕ) → xs ++ ys ≡ ps ++ qs → length ps ≤ length xs → (z : List ℕ) × (xs ≡ ps ++ z)
shorter_front xs ys [] qs e h = (xs, refl)
shorter_front [] ys (p ∷ ps) qs e h = absurd (omega arith)
shorter_front (x ∷ xs) ys (p ∷ ps) qs e h =
    let e1 : x ≡ p = cc in
    let e2 : xs ++ ys ≡ ps ++ qs = cc in
    let r = shorter_front xs ys ps qs e2 (omega arith) in
    (r.0, cc (e1, r.1))

end_some : (end : LineEnd) → 1 ≤ length (print_end end)
end_some crlf = omega arith
end_some lf = omega arith

field_three : (f : Field) → IsField f → 3 ≤ length (print_field f)
field_three f h = simp length-append (omega (arith, h.name.0, end_some f.end))

-- each header line takes three bytes
fields_three : (fields : List Field) → All IsField fields → 3 * length fields ≤ length (flat_map print_field fields)
fields_three [] h = omega arith
fields_three (f ∷ fields) h =
    let a : 3 ≤ length (print_field f) = field_three f (All-head IsField f fields h) in
    let b : 3 * length fields ≤ length (flat_map print_field fields) = fields_three fields (All-tail IsField f fields h) in
    let e : length (print_field f ++ flat_map print_field fields) ≡ length (print_field f) + length (flat_map print_field fields) = length-append (print_field f) (flat_map print_field fields) in
    rw e (omega arith)

head_three : (h : RequestHead) → IsRequestHead h → 3 * length h.fields ≤ length (print_request h)
unfolding print_request
head_three h k = simp length-append (omega (arith, fields_three h.fields k.fields))

-- what has been read of an input, in which no head has come yet
pub record ReadTo (old new : Option (List ℕ)) (before after : ℕ) (got : List ℕ) : Type 0 where
  pub consumes : Consumes old new got
  pub count : after ≡ before
  pub none : 0 < length got → HasNoRequest got

-- nothing has been read yet
pub read-none : (a : Option (List ℕ)) (n : ℕ) → ReadTo a a n n []
read-none None n = record { consumes = tt; count = refl; none = λ h. absurd (omega (arith, h)) }
read-none (Some xs) n = record { consumes = refl; count = refl; none = λ h. absurd (omega (arith, h)) }

full-none : (got more : List ℕ) → length got ≡ most_head → HasNoRequest got → HasNoHead (got ++ more)
full-none got more e n h rest k =
    let z = shorter_front got more (print_request h) rest k.0.1 (omega arith) in
    n h z.0 (k.0.0, z.1)

over-none : (got more : List ℕ) → RequestOverflows most_lines got → HasNoHead (got ++ more)
over-none got more o h rest k =
    let a : most_lines < length h.fields = o more h rest k.0 in
    let b : 3 * length h.fields ≤ length (print_request h) = head_three h k.0.0 in
    omega arith

-- one read more, behind the first bytes of a buffer
pub read-consumes : (a b c : Option (List ℕ)) (n m i k : ℕ) (old new : List ℕ) → ReadTo a b n m (take i old) → take i new ≡ take i old
    → Consumes b c (take k (drop i new)) → Consumes a c (take (i + k) new)
read-consumes a b c n m i k old new s e h =
    let P : List ℕ → Type 0 = λ t. Consumes a b t in
    rw (take-add i k new) (Consumes-append a b c (take i new) (take k (drop i new)) (subst P (sym e) s.consumes) h)

-- the same, where no head has come
pub read-more : (a b c : Option (List ℕ)) (n m p i k : ℕ) (old new : List ℕ) → ReadTo a b n m (take i old) → take i new ≡ take i old
    → Consumes b c (take k (drop i new)) → p ≡ m → HasNoRequest (take (i + k) new) → ReadTo a c n p (take (i + k) new)
read-more a b c n m p i k old new s e h q none = record {
  consumes = read-consumes a b c n m i k old new s e h;
  count = q ∙ s.count;
  none = λ _. none;
}

known-none : (a b : Option (List ℕ)) (got : List ℕ) → Consumes a b got → 0 < length got → ((more : List ℕ) → HasNoHead (got ++ more))
    → IfSome a (λ input. (0 < length input) × HasNoHead input)
known-none None b got h n none = tt
known-none (Some xs) None got h n none = absurd h
known-none (Some xs) (Some ys) got h n none =
    let P : List ℕ → Type 0 = λ input. (0 < length input) × HasNoHead input in
    subst P (sym h) (simp length-append (omega arith), none ys)

-- the buffer is full, and no head has come
pub full-refused : (a b : Option (List ℕ)) (n m : ℕ) (got : List ℕ) → ReadTo a b n m got → length got ≡ most_head
    → IfSome a (λ input. (0 < length input) × HasNoHead input)
full-refused a b n m got s e = known-none a b got s.consumes (omega arith) (λ more. full-none got more e (s.none (omega arith)))

-- the bytes that were read begin no head
pub head-refused : (a b : Option (List ℕ)) (got : List ℕ) → Consumes a b got → 0 < length got → RequestOverflows most_lines got
    → IfSome a (λ input. (0 < length input) × HasNoHead input)
head-refused a b got h n o = known-none a b got h n (λ more. over-none got more o)

-- the input is at its end, so it is what has been read of it
at-end : (a b c : Option (List ℕ)) (n m : ℕ) (got : List ℕ) → ReadTo a b n m got → Consumes b c [] → IsAtEnd c → IfSome a (λ input. input ≡ got)
at-end None b c n m got s k z = tt
at-end (Some xs) None c n m got s k z = absurd s.consumes
at-end (Some xs) (Some ys) None n m got s k z = absurd k
at-end (Some xs) (Some ys) (Some zs) n m got s k z =
    let none : ys ≡ [] = k ∙ z in
    s.consumes ∙ ap (λ t. got ++ t) none ∙ append-nil got

-- the input is at its end, and no head has come
at-refused : (a : Option (List ℕ)) (got : List ℕ) → 0 < length got → HasNoRequest got → IfSome a (λ input. input ≡ got)
    → IfSome a (λ input. (0 < length input) × HasNoHead input)
at-refused None got some none h = tt
at-refused (Some xs) got some none h =
    let P : List ℕ → Type 0 = λ input. (0 < length input) × HasNoHead input in
    subst P (sym h) (some, λ head rest k. none head rest k.0)

-- a read of no byte ends the input
pub ended : (a b c : Option (List ℕ)) (n m i k : ℕ) (old room buf : List ℕ) (headers : List HeaderSpan) (r : HeadRead) → i ≤ length old → ReadTo a b n m (take i old)
    → k ≡ 0 → Consumes b c (take k room) → IsAtEnd c → r ≡ (if i == 0 then Empty else BadHead) → ReadsHead a c buf headers r
ended a b c n m zero k old room buf headers r within s z h end e =
    let none : Consumes b c [] = subst (λ (j : ℕ). Consumes b c (take j room)) z h in
    subst (λ (x : HeadRead). ReadsHead a c buf headers x) (sym e) (at-end a b c n m [] s none end)
ended a b c n m (suc i) k old room buf headers r within s z h end e =
    let none : Consumes b c [] = subst (λ (j : ℕ). Consumes b c (take j room)) z h in
    let some : 0 < length (take (suc i) old) = omega (arith, length-take (suc i) old) in
    let other : (suc i == 0) ≡ false = grind (arith, nat_tests) in
    let bad : r ≡ BadHead = subst (λ (t : Bool). r ≡ (if t then Empty else BadHead)) other e in
    subst (λ (x : HeadRead). ReadsHead a c buf headers x) (sym bad)
    (at-refused a (take (suc i) old) some (s.none some) (at-end a b c n m (take (suc i) old) s none end))

-- and counts no failure
pub ended-count : (t : Bool) (n m p : ℕ) (r : HeadRead) → r ≡ (if t then Empty else BadHead) → p ≡ m → m ≡ n → p ≡ failures_after_head r n
ended-count true n m p r e q s = subst (λ (x : HeadRead). p ≡ failures_after_head x n) (sym e) (q ∙ s)
ended-count false n m p r e q s = subst (λ (x : HeadRead). p ≡ failures_after_head x n) (sym e) (q ∙ s)
