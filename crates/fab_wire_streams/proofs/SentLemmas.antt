-- A text that goes out in parts.
use Rattle.std.proofs.Common.{◌≡◌, ℕ, zero, suc, ◌+◌, ◌<◌, List, [], ◌∷◌, ◌++◌, length, take, drop, get_or, refl, ap, sym, ◌∙◌, subst, append_assoc, add-one, arith, Option}
use Rattle.std.specs.Io.KnownBytes.{Appends}
use Rattle.std.specs.List.{flat_map}
use Rattle.std.proofs.lemmas.Grind.{common_steps}
use Rattle.std.proofs.lemmas.Bool.Decides.{nat_tests}
use Rattle.fab_wire_streams.specs.Failures.{Rose, one_more}
use Rattle.fab_wire_streams.specs.Sent.{AppendsBeginning}
use Rattle.fab_wire_streams.specs.SentLaws.{Appends-append, AppendsBeginning-append}

-- the front of a text has gone out, the rest has not, and no write failed
pub record SentTo (old new : Option (List ℕ)) (before after : ℕ) (text rest : List ℕ) : Type 0 where
  pub front : List ℕ
  pub whole : text ≡ front ++ rest
  pub appends : Appends old new front
  pub count : after ≡ before

-- one failure more is a rise, or the greatest count
pub rose-one_more : (count : ℕ) → Rose count (one_more count)
rose-one_more count = grind (arith, nat_tests)

-- some bytes more go out
pub sent-more : (a b c : Option (List ℕ)) (n m k : ℕ) (text x rest : List ℕ) → SentTo a b n m text (x ++ rest) → Appends b c x → k ≡ m → SentTo a c n k text rest
sent-more a b c n m k text x rest s h e = record {
  front = s.front ++ x;
  whole = s.whole ∙ sym (append_assoc s.front x rest);
  appends = Appends-append a b c s.front x s.appends h;
  count = e ∙ s.count;
}

-- the first bytes of what is left go out
pub sent-taken : (a b c : Option (List ℕ)) (n m k i : ℕ) (text rest left : List ℕ) → SentTo a b n m text rest → Appends b c (take i rest) → k ≡ m → left ≡ drop i rest → SentTo a c n k text left
sent-taken a b c n m k i text rest left s h e d =
    let whole : rest ≡ take i rest ++ left = rw d (grind (arith, common_steps)) in
    let P : List ℕ → Type 0 = λ t. SentTo a b n m text t in
    sent-more a b c n m k text (take i rest) left (subst P whole s) h e

-- a beginning of what is left goes out
pub sent-part : (a b c : Option (List ℕ)) (n m : ℕ) (text rest : List ℕ) → SentTo a b n m text rest → AppendsBeginning b c rest → AppendsBeginning a c text
sent-part a b c n m text rest s h =
    (s.front ++ h.0, h.1, s.whole ∙ ap (λ t. s.front ++ t) h.2 ∙ sym (append_assoc s.front h.0 h.1), Appends-append a b c s.front h.0 s.appends h.3)

flat-cut-suc : {X : Type 0} (f : X → List ℕ) (xs : List X) (i : ℕ) (d : X) → i < length xs → flat_map f (drop i xs) ≡ f (get_or xs i d) ++ flat_map f (drop (suc i) xs)
flat-cut-suc f [] i d h = absurd (omega arith)
flat-cut-suc f (y ∷ xs) zero d h = refl
flat-cut-suc f (y ∷ xs) (suc i) d h = flat-cut-suc f xs i d (omega arith)

-- the texts from a place on begin with the text there
pub flat-cut : {X : Type 0} (f : X → List ℕ) (xs : List X) (i : ℕ) (d : X) → i < length xs → flat_map f (drop i xs) ≡ f (get_or xs i d) ++ flat_map f (drop (i + 1) xs)
flat-cut f xs i d h = rw add-one (flat-cut-suc f xs i d h)

-- one text more has gone out
pub sent-text : {X : Type 0} (f : X → List ℕ) (a b c : Option (List ℕ)) (n m k : ℕ) (text : List ℕ) (xs : List X) (i : ℕ) (d : X)
    → SentTo a b n m text (flat_map f (drop i xs)) → i < length xs → Appends b c (f (get_or xs i d)) → k ≡ m
    → SentTo a c n k text (flat_map f (drop (i + 1) xs))
sent-text f a b c n m k text xs i d s h r e =
    let P : List ℕ → Type 0 = λ t. SentTo a b n m text t in
    sent-more a b c n m k text (f (get_or xs i d)) (flat_map f (drop (i + 1) xs)) (subst P (flat-cut f xs i d h) s) r e

-- a beginning of one text more has gone out
pub sent-text-part : {X : Type 0} (f : X → List ℕ) (a b c : Option (List ℕ)) (n m : ℕ) (text : List ℕ) (xs : List X) (i : ℕ) (d : X)
    → SentTo a b n m text (flat_map f (drop i xs)) → i < length xs → AppendsBeginning b c (f (get_or xs i d))
    → AppendsBeginning a c text
sent-text-part f a b c n m text xs i d s h r =
    let P : List ℕ → Type 0 = λ t. SentTo a b n m text t in
    sent-part a b c n m text (f (get_or xs i d) ++ flat_map f (drop (i + 1) xs)) (subst P (flat-cut f xs i d h) s) (AppendsBeginning-append b c (f (get_or xs i d)) _ r)
