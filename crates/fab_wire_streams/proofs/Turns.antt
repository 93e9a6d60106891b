-- Texts that a sink takes one after the other.
use Rattle.std.proofs.Common.{◌≡◌, ℕ, List, [], ◌++◌, Result, Ok, Err, refl, sym, ◌∙◌, subst, append_assoc, append-nil}
use Rattle.fab_wire_streams.specs.Taking.{Takes, IsSink}

-- the front of a text was taken, and the rest was not
pub record Gone {S : Type 0} (took : S → List ℕ → S → Type 0) (a b : S) (whole rest : List ℕ) : Type 0 where
  pub front : List ℕ
  pub is : whole ≡ front ++ rest
  pub taken : took a front b

module _ {S : Type 0} {took cut : S → List ℕ → S → Type 0} (s : IsSink took cut) where
  -- a text that was taken, and in_turn another
  pub in_turn : {V E : Type 0} (r : Result V E) (a b c : S) (x y : List ℕ) → took a x b → Takes took cut b y c r → Takes took cut a (x ++ y) c r
  in_turn (Ok v) a b c x y h k = s.both a b c x y h k
  in_turn (Err e) a b c x y h k = s.late a b c x y h k

  -- a text that was taken, and then a beginning of another
  pub second_cut : (a b c : S) (x y z : List ℕ) → took a x b → cut b y c → cut a (x ++ (y ++ z)) c
  second_cut a b c x y z h k = s.late a b c x (y ++ z) h (s.early b c y z k)

  pub gone-none : (a : S) (whole : List ℕ) → Gone took a a whole whole
  gone-none a whole = record { front = []; is = refl; taken = s.none a }

  pub gone-first : (a b : S) (x rest : List ℕ) → took a x b → Gone took a b (x ++ rest) rest
  gone-first a b x rest h = record { front = x; is = refl; taken = h }

  pub gone-more : (a b c : S) (whole x rest : List ℕ) → Gone took a b whole (x ++ rest) → took b x c → Gone took a c whole rest
  gone-more a b c whole x rest h k = record {
    front = h.front ++ x;
    is = h.is ∙ sym (append_assoc h.front x rest);
    taken = s.both a b c h.front x h.taken k;
  }

  pub gone-cut : (a b c : S) (whole x rest : List ℕ) → Gone took a b whole (x ++ rest) → cut b x c → cut a whole c
  gone-cut a b c whole x rest h k =
      subst (λ (t : List ℕ). cut a t c) (sym h.is) (s.late a b c h.front (x ++ rest) h.taken (s.early b c x rest k))

  pub gone-last : {V E : Type 0} (r : Result V E) (a b c : S) (whole rest : List ℕ) → Gone took a b whole rest → Takes took cut b rest c r → Takes took cut a whole c r
  gone-last r a b c whole rest h k =
      subst (λ (t : List ℕ). Takes took cut a t c r) (sym h.is) (in_turn r a b c h.front rest h.taken k)

  pub gone-all : (a b : S) (whole : List ℕ) → Gone took a b whole [] → took a whole b
  gone-all a b whole h = subst (λ (t : List ℕ). took a t b) (sym (h.is ∙ append-nil h.front)) h.taken
