-- What a layer is given of a phase holds of it.
use Rattle.std.proofs.Common.{◌≡◌, ℕ, Bool, true}
use Rattle.std.proofs.lemmas.Bool.{and_parts}
use Rattle.tsb_types.specs.Clip.{clipped}
use Rattle.tsb_types.specs.Sets.{is_phase}

pub clipped_holds : (test : ℕ → Bool) (p : ℕ) → clipped test p ≡ true → test p ≡ true
clipped_holds test p h = (and_parts (is_phase p) (test p) h).1

pub clipped_is_phase : (test : ℕ → Bool) (p : ℕ) → clipped test p ≡ true → is_phase p ≡ true
clipped_is_phase test p h = (and_parts (is_phase p) (test p) h).0
