-- Values that may be missing.
use Rattle.std.proofs.Common.{◌≡◌, false, Option, Some, None, is_some, refl}

-- what is not there is none
pub is-none : {A : Type 0} (o : Option A) → is_some o ≡ false → o ≡ None
is-none None h = refl
is-none (Some x) h = absurd (cc)
