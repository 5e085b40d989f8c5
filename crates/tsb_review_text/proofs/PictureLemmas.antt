-- The bands of a week, minute by minute.
use Rattle.std.proofs.Common.{◌≡◌, ℕ, ◌+◌, suc, List, [], ◌++◌, flat_map, refl}
use Rattle.tsb_types.specs.Lists.{run_from}
use Rattle.tsb_plan.specs.Plan.{Plan}
use Rattle.tsb_field_diagram.specs.declared.week.WeekBand.{WeekBand}
use Rattle.tsb_review_text.specs.WeekPicture.{band_of}

-- those of so many minutes from one on
abbrev pub bands-from : Plan → ℕ → ℕ → ℕ → List WeekBand
bands-from plan first k n = flat_map (band_of plan first) (run_from k n)

pub bands-more : (plan : Plan) (first k n : ℕ) → bands-from plan first k (suc n) ≡ band_of plan first k ++ bands-from plan first (k + 1) n
unfolding run_from
bands-more plan first k n = refl

pub bands-none : (plan : Plan) (first k : ℕ) → bands-from plan first k 0 ≡ []
unfolding run_from
bands-none plan first k = refl
