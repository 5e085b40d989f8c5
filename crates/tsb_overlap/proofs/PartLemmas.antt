-- Parts by what they keep, of a choice.
use Rattle.std.proofs.Common.{◌≡◌, ◌≢◌, ℕ, ◌&&◌, ◌||◌, Bool, true, false, if◌then◌else◌, Option, Some, refl, subst, sym}
use Rattle.tsb_objects.specs.tsb_plan.Plan.{Plan, phases}
use Rattle.tsb_objects.specs.tsb_plan.Parts.{is_included, is_arrow, trails}
use Rattle.tsb_objects.specs.tsb_types.Intervals.{is_green}
use Rattle.tsb_objects.specs.tsb_types.Lists.{first}
use Rattle.tsb_overlap.specs.declared.parts.OverlapInterval.{OverlapInterval}
use Rattle.tsb_overlap.specs.declared.parts.OverlapInterval.TheVariants.{Red, Green, TrailGreen, Flashing, Yellow, RedClear}
use Rattle.tsb_overlap.specs.declared.parts.Part.{Part}
use Rattle.tsb_overlap.specs.Overlap.{Overlap, Given, standing, unturned, may_flash, ended_flash, turn_of, arrow_settled, trail_settled, settled}
use Rattle.tsb_overlap.specs.Cells.{overlap_of}
use Rattle.tsb_overlap.specs.Parts.{IsPartOf}

pub then-part : (b : Bool) (now : ℕ) (x y : Overlap) (part : Part) → b ≡ true → IsPartOf now x part → IsPartOf now (if b then x else y) part
then-part b now x y part e is = subst (λ (c : Bool). IsPartOf now (if c then x else y) part) (sym e) is

-- an arrow in red, trailing green or red clearance flashes, or is red
pub other-unturned : (plan : Plan) (given : Given) (o t now : ℕ) (part result : Part) → part.interval ≢ Yellow → part.interval ≢ Green → part.interval ≢ Flashing →
    IsPartOf now (if may_flash plan given o t then standing Flashing else standing Red) result →
    IsPartOf now (unturned plan given o t (overlap_of now part) part.interval) result
other-unturned plan given o t now part result not_yellow not_green not_flashing is = go part.interval part.timer part.phase not_yellow not_green not_flashing
  where
    go : (i : OverlapInterval) (timer : ℕ) (phase : Option ℕ) → i ≢ Yellow → i ≢ Green → i ≢ Flashing →
        IsPartOf now (unturned plan given o t (overlap_of now (record { interval = i; timer = timer; phase = phase })) i) result
    go Red timer phase a b c = is
    go TrailGreen timer phase a b c = is
    go RedClear timer phase a b c = is
    go Green timer phase a b c = absurd (b refl)
    go Yellow timer phase a b c = absurd (a refl)
    go Flashing timer phase a b c = absurd (c refl)

-- one that flashed flashes, or has its yellow
pub flash-unturned : (plan : Plan) (given : Given) (o t now : ℕ) (part result : Part) → part.interval ≡ Flashing →
    IsPartOf now (if may_flash plan given o t then standing Flashing else ended_flash t (first (λ p. is_included plan o p && given.was_green p) (phases plan))) result →
    IsPartOf now (unturned plan given o t (overlap_of now part) part.interval) result
flash-unturned plan given o t now part result e is = go part.interval part.timer part.phase e
  where
    go : (i : OverlapInterval) (timer : ℕ) (phase : Option ℕ) → i ≡ Flashing →
        IsPartOf now (unturned plan given o t (overlap_of now (record { interval = i; timer = timer; phase = phase })) i) result
    go Red timer phase e = absurd cc
    go Green timer phase e = absurd cc
    go TrailGreen timer phase e = absurd cc
    go Yellow timer phase e = absurd cc
    go RedClear timer phase e = absurd cc
    go Flashing timer phase e = is

-- an arrow whose turn is Green, and one whose turn is not
pub turned-part : (plan : Plan) (given : Given) (o t now : ℕ) (part result : Part) → turn_of plan o ≡ Some t → is_green (given.shown.interval t) ≡ true →
    IsPartOf now (standing Green) result → IsPartOf now (arrow_settled plan given o (overlap_of now part) (turn_of plan o)) result
turned-part plan given o t now part result turn green is = rw (turn, green) is

pub unturned-part : (plan : Plan) (given : Given) (o t now : ℕ) (part result : Part) → turn_of plan o ≡ Some t → is_green (given.shown.interval t) ≡ false →
    IsPartOf now (unturned plan given o t (overlap_of now part) part.interval) result → IsPartOf now (arrow_settled plan given o (overlap_of now part) (turn_of plan o)) result
unturned-part plan given o t now part result turn green is = rw (turn, green) is

-- an overlap by its kind
pub kind-arrow : (plan : Plan) (given : Given) (o now : ℕ) (part result : Part) → is_arrow plan o ≡ true →
    IsPartOf now (arrow_settled plan given o (overlap_of now part) (turn_of plan o)) result → IsPartOf now (settled plan given o (overlap_of now part)) result
unfolding settled
kind-arrow plan given o now part result arrow is = rw arrow is

pub kind-trail : (plan : Plan) (given : Given) (o now : ℕ) (part result : Part) → is_arrow plan o ≡ false → trails plan o ≡ true →
    IsPartOf now (trail_settled plan given o (overlap_of now part)) result → IsPartOf now (settled plan given o (overlap_of now part)) result
unfolding settled
kind-trail plan given o now part result arrow trail is = rw (arrow, trail) is

pub second-of : (a b : Bool) → (a || b) ≡ true → a ≡ false → b ≡ true
second-of true b e f = absurd cc
second-of false b e f = e
