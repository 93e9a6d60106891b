-- What holds of what is there, if something is.
use Rattle.std.proofs.Common.{Bor, ◌≡◌, Option, None, Some, IfSome, is_some, refl, subst}
use Rattle.std.specs.Option.{option_copied, option_map}

-- what holds if something is there holds of it
pub at_some : {X : Type 0} (o : Option X) (P : X → Type 0) (x : X) → o ≡ Some x → IfSome o P → P x
at_some o P x is h = subst (λ a. IfSome a P) is h

-- and what holds of whatever is there holds if something is
pub some_at : {X : Type 0} (o : Option X) (P : X → Type 0) → ((x : X) → o ≡ Some x → P x) → IfSome o P
some_at None P h = tt
some_at (Some x) P h = h x refl

-- something is there just where what is seen of it is
pub is_copied : {X : Type 0} (o : Option (Bor X)) → is_some o ≡ is_some (option_copied o)
is_copied None = refl
is_copied (Some x) = refl

pub is_seen : {X Y : Type 0} (f : X → Y) (o : Option (Bor X)) → is_some o ≡ is_some (option_map f (option_copied o))
is_seen f None = refl
is_seen f (Some x) = refl
