-- A phase that is green is in service.
use Rattle.std.proofs.Common.{◌≡◌, true, refl}
use Rattle.tsb_types.specs.declared.interval.Interval.{Interval}
use Rattle.tsb_types.specs.declared.interval.Interval.TheVariants.{Red, Green, Yellow, RedClear}
use Rattle.tsb_types.specs.Intervals.{in_service, is_green}

pub serves-green : (i : Interval) → is_green i ≡ true → in_service i ≡ true
serves-green Red h = absurd (cc)
serves-green Green h = refl
serves-green Yellow h = refl
serves-green RedClear h = refl
