-- Texts that are appended in turn, which the laws of sinks name.
use Rattle.std.specs.Prelude.{ℕ, List, ◌++◌, Option, Some, None}
use Rattle.std.proofs.Common.{ap, sym, ◌∙◌, append_assoc}
use Rattle.std.specs.Io.KnownBytes.{Appends}
use Rattle.fab_wire_streams.specs.Sent.{AppendsBeginning}

-- what is appended in two turns is appended as one
pub Appends-append : (a b c : Option (List ℕ)) (x y : List ℕ) → Appends a b x → Appends b c y → Appends a c (x ++ y)
Appends-append None b c x y h k = tt
Appends-append (Some xs) None c x y h k = absurd h
Appends-append (Some xs) (Some ys) None x y h k = absurd k
Appends-append (Some xs) (Some ys) (Some zs) x y h k = rw (k, h) (append_assoc xs x y)

-- a beginning of a text is one of a longer text
pub AppendsBeginning-append : (b c : Option (List ℕ)) (x y : List ℕ) → AppendsBeginning b c x → AppendsBeginning b c (x ++ y)
AppendsBeginning-append b c x y h = (h.0, h.1 ++ y, ap (λ t. t ++ y) h.2 ∙ append_assoc h.0 h.1 y, h.3)

-- a text, and then a beginning of another
pub AppendsBeginning-behind : (a b c : Option (List ℕ)) (x y : List ℕ) → Appends a b x → AppendsBeginning b c y → AppendsBeginning a c (x ++ y)
AppendsBeginning-behind a b c x y h k = (x ++ k.0, k.1, ap (λ t. x ++ t) k.2 ∙ sym (append_assoc x k.0 k.1), Appends-append a b c x k.0 h k.3)
