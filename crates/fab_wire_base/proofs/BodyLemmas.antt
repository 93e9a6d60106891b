-- Filling a buffer in parts.
use Rattle.std.proofs.Common.{◌≡◌, ℕ, ◌+◌, ◌-◌, ◌<◌, ◌≤◌, List, ◌++◌, length, take, drop, replicate, refl, ap, sym, ◌∙◌, subst, append_assoc, arith, false, Option, Some, None, IfSome, Result, Ok, Err, length-append, length-drop}
use Rattle.std.specs.Prelude.{if◌then◌else◌}
use Rattle.std.specs.Result.{is_ok, is_err}
use Rattle.std.proofs.lemmas.List.{take_all, take_at, take-append-le, take-append-drop, length-replicate}
use Rattle.std.proofs.Math.Seq.{take-add}
use Rattle.std.specs.Io.KnownBytes.{Consumes}
use Rattle.fab_wire_base.proofs.HeadLemmas.{Consumes-append}

-- the front of a buffer has come from the input
pub record FilledTo (old new : Option (List ℕ)) (before after : ℕ) (buf : List ℕ) (i : ℕ) : Type 0 where
  pub within : i ≤ length buf
  pub consumes : Consumes old new (take i buf)
  pub count : after ≡ before

-- one read more
pub filled-more : (a b c : Option (List ℕ)) (n m p i k : ℕ) (old new : List ℕ) → FilledTo a b n m old i → length new ≡ length old → take i new ≡ take i old
    → k ≤ length (drop i new) → Consumes b c (take k (drop i new)) → p ≡ m → FilledTo a c n p new (i + k)
filled-more a b c n m p i k old new s l e w h q =
    let P : List ℕ → Type 0 = λ t. Consumes a b t in
    record {
      within = (let z : i ≤ length old = s.within in omega (arith, length-drop i new));
      consumes = rw (take-add i k new) (Consumes-append a b c (take i new) (take k (drop i new)) (subst P (sym e) s.consumes) h);
      count = q ∙ s.count;
    }

-- a vector that has been made longer begins with what it had
pub resized : {T E : Type 0} (r : Result T E) (old have items : List ℕ) (size n : ℕ) → is_err r ≡ false → old ≡ have → n ≡ length have → length have < size
    → items ≡ (if is_ok r then take size old ++ replicate (size - n) 0 else old) → (take (length have) items ≡ have) × (length items ≡ size)
resized (Err x) old have items size n e h l w is = absurd (cc)
resized (Ok x) old have items size n e h l w is =
    let full : take size have ≡ have = take_all size have (omega arith) in
    let all : items ≡ have ++ replicate (size - n) 0 =
    is ∙ ap (λ (t : List ℕ). take size t ++ replicate (size - n) 0) h ∙ ap (λ (t : List ℕ). t ++ replicate (size - n) 0) full in (
      ap (take (length have)) all ∙ take_at have (replicate (size - n) 0) (length have) refl,
      omega (arith, ap length all, length-append have (replicate (size - n) 0), length-replicate {A = ℕ} (size - n) 0),
    )

-- all of a body is at hand
pub body-there : (a : Option (List ℕ)) (have items : List ℕ) (size : ℕ) → size ≤ length have → items ≡ take size have
    → IfSome a (λ more. (size ≤ length (have ++ more)) × (items ≡ take size (have ++ more)))
body-there None have items size w e = tt
body-there (Some xs) have items size w e = (omega (arith, length-append have xs), e ∙ sym (take-append-le size have xs w))

-- a buffer that begins with the bytes at hand, and goes on with those of the input, is a body
pub body-taken : (a b : Option (List ℕ)) (have buf back : List ℕ) (size n : ℕ) → n ≡ size → length buf ≡ size → take (length have) buf ≡ have
    → Consumes a b (drop (length have) buf) → IfSome a (λ more. (size ≤ length (have ++ more)) × (take n (buf ++ back) ≡ take size (have ++ more)))
body-taken None b have buf back size n m l f h = tt
body-taken (Some xs) None have buf back size n m l f h = absurd h
body-taken (Some xs) (Some ys) have buf back size n m l f h =
    let rest = drop (length have) buf in
    let parts : have ++ rest ≡ buf = subst (λ (t : List ℕ). t ++ rest ≡ buf) f (take-append-drop (length have) buf) in
    let all : have ++ xs ≡ buf ++ ys = ap (λ (t : List ℕ). have ++ t) h ∙ sym (append_assoc have rest ys) ∙ ap (λ (t : List ℕ). t ++ ys) parts in
    rw all (omega (arith, length-append buf ys), take_at buf back n (omega arith) ∙ sym (take_at buf ys size l))

-- the input ends before the buffer is full
pub body-short : (a : Option (List ℕ)) (have buf : List ℕ) (size : ℕ) → length buf ≡ size → length have < size
    → IfSome a (λ input. length input < length (drop (length have) buf)) → IfSome a (λ more. length (have ++ more) < size)
body-short None have buf size l w h = tt
body-short (Some xs) have buf size l w h = omega (arith, length-append have xs, length-drop (length have) buf, h)
