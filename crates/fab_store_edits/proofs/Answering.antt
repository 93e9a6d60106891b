-- What is said of a call that is done, or that is not.
use Rattle.std.proofs.Common.{Result, Ok, Err, OnOk, OnErr}

module _ {X E : Type 0} {P Q S : Type 0} where
  pub on_two : (r : Result X E) → (P → Q → S) → OnOk r P → OnOk r Q → OnOk r S
  on_two (Ok x) f p q = f p q
  on_two (Err e) f p q = tt

module _ {X E : Type 0} {P Q R S : Type 0} where
  -- what holds if it is done, and if it is not
  pub either_way : (r : Result X E) → (P → Q → S) → (R → S) → OnOk r P → OnOk r Q → OnErr r R → S
  either_way (Ok x) f g p q e = f p q
  either_way (Err y) f g p q e = g e

module _ {X E : Type 0} {P R S : Type 0} where
  pub either_one : (r : Result X E) → (P → S) → (R → S) → OnOk r P → OnErr r R → S
  either_one (Ok x) f g p e = f p
  either_one (Err y) f g p e = g e

-- what is said of a call that is done
pub on_ok : {X E : Type 0} {P Q : Type 0} (r : Result X E) → (P → Q) → OnOk r P → OnOk r Q
on_ok (Ok x) f h = f h
on_ok (Err e) f h = h
