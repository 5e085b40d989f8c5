-- What a review writes, part by part, and what a writer has taken of it.
use Rattle.std.specs.Prelude.{◌≡◌, ℕ, List, [], Option, Some, None, Result, OnErr, OnOk, flat_map, true}
use Rattle.std.specs.Io.KnownBytes.{Appends}
use Rattle.tsb_types.specs.Lists.{run_from}
use Rattle.tsb_lines.specs.Writes.{AppendsFront}
use Rattle.tsb_lines.specs.declared.writes.WriteError.{WriteError}
use Rattle.tsb_lines.specs.Seen.{Seen}
use Rattle.tsb_plan.specs.Plan.{Plan}
use Rattle.tsb_breaches.specs.declared.breach.Breach.{Breach}
use Rattle.tsb_breaches.specs.Breaches as breaches
use Rattle.tsb_breaches.specs.Found.{breach_at}
use Rattle.tsb_review.specs.declared.finding.Finding.{Finding}
use Rattle.tsb_review.specs.declared.place.Place.{Place}
use Rattle.tsb_review.specs.declared.place.Shape.{Shape}
use Rattle.tsb_review.specs.Advices as advices
use Rattle.tsb_review.specs.Findings.{finding_at}
use Rattle.tsb_review.specs.Places.{firsts, place_of, seconds, thirds}
use Rattle.tsb_review_text.specs.Lines.{breach_line, line_of}
use Rattle.tsb_review_text.specs.declared.review.Remark.{Remark}
use Rattle.tsb_review_text.specs.declared.review.Remark.TheVariants as remarks

-- a writer has taken this text, or the first bytes of it where a write has failed; else none has failed since
pub record Wrote (result : Result (Unit {0}) WriteError) (old new : Seen) (text : List ℕ) : Type 0 where
  pub whole : OnOk result (Appends old.bytes new.bytes text)
  pub front : AppendsFront old.bytes new.bytes text
  pub blame : OnErr result (new.failed ≡ true)
  pub well : OnOk result (new.failed ≡ old.failed)

-- the line of a finding, where there is one
abbrev pub line_in : Plan → Option Finding → List ℕ
line_in plan None = []
line_in plan (Some f) = line_of plan f

-- the line of a breach, where there is one
abbrev pub breach_line_in : Plan → Option Breach → List ℕ
breach_line_in plan None = []
breach_line_in plan (Some b) = breach_line plan b

-- the kind of the places of a remark
abbrev pub shape_of : Remark → Shape
shape_of (remarks.Advice a) = advices.shape a
shape_of (remarks.Breach f) = breaches.shape f

-- the line of a remark for a place, where there is one
abbrev pub line_at : Plan → Remark → Place → List ℕ
line_at plan (remarks.Advice a) place = line_in plan (finding_at plan a place)
line_at plan (remarks.Breach f) place = breach_line_in plan (breach_at plan f place)

-- that for the place of three numbers
abbrev pub text_at : Plan → Remark → ℕ → ℕ → ℕ → List ℕ
text_at plan r i j k = line_at plan r (place_of (shape_of r) i j k)

-- those for all places with these first two numbers
unfoldable pub text_beside : Plan → Remark → ℕ → ℕ → List ℕ
text_beside plan r i j = flat_map (text_at plan r i j) (run_from 1 (thirds (shape_of r)))

-- those for all places with this first number
unfoldable pub text_from : Plan → Remark → ℕ → List ℕ
text_from plan r i = flat_map (text_beside plan r i) (run_from 1 (seconds (shape_of r)))

-- those for all places
unfoldable pub text_of : Plan → Remark → List ℕ
text_of plan r = flat_map (text_from plan r) (run_from 1 (firsts (shape_of r)))
