-- Facts on lists, sets and maps.
use Rattle.std.proofs.Common.{◌≡◌, ℕ, Result, Ok, Err, OnOk, List, Option, None, Some, Bool, true, false, All, slice_get, sym, subst, ◌∙◌, arith, inl, inr}
use mathlib.Core.Bool.{true≢false}
use Rattle.std.specs.declared.cmp.Ordering.{Ordering}
use Rattle.std.specs.FinMap as map
use Rattle.std.proofs.lemmas.Option.{slice_get_within, get_or_from_slice_get, same_Some, none-some}
use Rattle.fab_reach_base.specs.fab_lemmas.Firsts.{IsFirstWithout}
use Rattle.fab_reach_base.specs.fab_lemmas.Room.{IsFull, HasRoom}

-- a test is not true and false
pub not_both : {b : Bool} → b ≡ true → b ≡ false → ⊥
not_both t f = true≢false (sym t ∙ f)

-- an item of a list that has P throughout
pub all_at : {X : Type 0} (P : X → Type 0) (xs : List X) (i : ℕ) (x : X) → All P xs → slice_get xs i ≡ Some x → P x
all_at P xs i x all at = subst P (get_or_from_slice_get xs i x x at) (all i x (slice_get_within xs i x at))

-- no item is without P
pub none_without : {X : Type 0} (P : X → Type 0) (xs : List X) (x : X) → All P xs → ¬ IsFirstWithout P xs x
none_without P xs x all h = h.without (all_at P xs h.at x all h.is)

-- there is room, or there is none
pub room_or_full : {Q X : Type 0} {O : Q → Q → Ordering} (m : map.FinMap O X) (q : Q) (most : ℕ) → HasRoom m q most → ¬ IsFull m q most
room_or_full m q most (inl there) full = not_both there full.0
room_or_full m q most (inr few) full = omega (arith, few, full.1)

-- one value at most
pub one_value : {X : Type 0} {o : Option X} {x y : X} → o ≡ Some x → o ≡ Some y → x ≡ y
one_value {x = x} {y = y} a b = same_Some x y (sym a ∙ b)

-- a value is there, or none is
pub some_or_none : {X : Type 0} {o : Option X} {x : X} → o ≡ Some x → o ≡ None → ⊥
some_or_none {x = x} a b = none-some x (sym b ∙ a)

pub on_both : {X E : Type 0} {P Q S : Type 0} (r : Result X E) → OnOk r P → OnOk r Q → (P → Q → S) → OnOk r S
on_both (Ok x) p q f = f p q
on_both (Err e) p q f = tt

pub on_three : {X E : Type 0} {P Q S T : Type 0} (r : Result X E) → OnOk r P → OnOk r Q → OnOk r S → (P → Q → S → T) → OnOk r T
on_three (Ok x) p q s f = f p q s
on_three (Err e) p q s f = tt

pub on_four : {X E : Type 0} {P Q S T U : Type 0} (r : Result X E) → OnOk r P → OnOk r Q → OnOk r S → OnOk r T → (P → Q → S → T → U) → OnOk r U
on_four (Ok x) p q s t f = f p q s t
on_four (Err e) p q s t f = tt
