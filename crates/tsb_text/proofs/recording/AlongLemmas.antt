-- What inputs have told is taken back with them.
use Rattle.std.proofs.Common.{◌≡◌, ◌∙◌, ℕ, ◌<◌, ◌≤◌, List, [], ◌∷◌, ◌++◌, length, take, refl, sym, ap, subst, arith}
use Rattle.std.proofs.Math.Seq.{take-append_seam}
use Rattle.tsb_types.specs.declared.event.Event.{Event}
use Rattle.tsb_types.specs.declared.row.Row.{Row}
use Rattle.tsb_step.specs.tsb_plan.Plan.{Plan}
use Rattle.tsb_step.specs.declared.inputs.Input.{Input}
use Rattle.tsb_step.specs.declared.inputs.Input.TheVariants.{Tick}
use Rattle.tsb_step.specs.declared.log_form.LogForm.{LogForm}
use Rattle.tsb_step.specs.Events.{events_of}
use Rattle.tsb_step.specs.Play.{back_to}
use Rattle.tsb_step.specs.Runs.{replay}
use Rattle.tsb_text.specs.declared.recording.told.Mark.{Mark}
use Rattle.tsb_text.specs.recording.Along.{noted_after, telling, told_along}
use Rattle.tsb_text.specs.Later.{event_tick, without_later}
use Rattle.tsb_text.specs.recording.Told.{DropsMark, Telling, gone_back, mark_tick}
use Rattle.tsb_text.proofs.recording.TickLemmas.{AreAt, at-none, at-more, at-of}
use Rattle.tsb_text.specs.kept.Kept.{IsNoTick}
use Rattle.tsb_text.proofs.BackLemmas.{back-at, no-less, same-now, undone-tick}
use Rattle.tsb_text.proofs.LaterLemmas.{AreBy, AreLater, by-none, by-more, later-none, later-more, by-append, by-stays, later-gone}

-- ## What was told up to now

at-by : (n t : ℕ) (es : List Event) → n ≤ t → AreAt n es → AreBy event_tick t es
at-by n t [] le at-none = by-none
at-by n t (x ∷ xs) le (at-more e es is more) = by-more x xs (subst (λ (k : ℕ). k ≤ t) (sym is) le) (at-by n t xs le more)

at-later : (n t : ℕ) (es : List Event) → t < n → AreAt n es → AreLater event_tick t es
at-later n t [] lt at-none = later-none
at-later n t (x ∷ xs) lt (at-more e es is more) = later-more x xs (subst (λ (k : ℕ). t < k) (sym is) lt) (at-later n t xs lt more)

-- what an input told, and the mark of one that is no tick
abbrev news : LogForm → Plan → Input → List Input → List Event
news form plan i is = events_of (noted_after form is) (replay plan is) i

abbrev mark : LogForm → Plan → List Input → Mark
mark form plan is = record { tick = (replay plan is).now; events = length (telling form plan is).events }

-- nothing that inputs have told is later than their last tick
record IsBy (t : ℕ) (told : Telling) : Type 0 where
  events : AreBy event_tick t told.events
  marks : AreBy mark_tick t told.marks

told-by : (form : LogForm) (plan : Plan) (is : List Input) (t : ℕ) → (replay plan is).now ≤ t → IsBy t (telling form plan is)
told-by form plan [] t le = record { events = by-none; marks = by-none }
told-by form plan (Tick row ∷ is) t le =
    let less : (replay plan is).now ≤ (replay plan (Tick row ∷ is)).now = no-less plan (Tick row) is in
    let before : IsBy t (telling form plan is) = told-by form plan is t (omega (arith, le, less)) in
    record { events = by-append event_tick t (telling form plan is).events (news form plan (Tick row) is) before.events (at-by (replay plan (Tick row ∷ is)).now t (news form plan (Tick row) is) le (at-of (noted_after form is) (replay plan is) (Tick row))); marks = before.marks }
told-by form plan (i ∷ is) t le =
    let less : (replay plan is).now ≤ (replay plan (i ∷ is)).now = no-less plan i is in
    let here : (replay plan is).now ≤ t = omega (arith, le, less) in
    let before : IsBy t (telling form plan is) = told-by form plan is t here in
    record {
      events = by-append event_tick t (telling form plan is).events (news form plan i is) before.events (at-by (replay plan (i ∷ is)).now t (news form plan i is) le (at-of (noted_after form is) (replay plan is) i));
      marks = by-append mark_tick t (telling form plan is).marks (mark form plan is ∷ []) before.marks (by-more (mark form plan is) [] here by-none);
    }

-- ## Taken back

made : List Event → List Mark → Telling
made events marks = record { events = events; marks = marks }

told-stays : (form : LogForm) (plan : Plan) (is : List Input) (t : ℕ) → (replay plan is).now ≤ t → gone_back t (telling form plan is) ≡ telling form plan is
unfolding made
told-stays form plan is t le =
    let all : IsBy t (telling form plan is) = told-by form plan is t le in
    λ j. made (by-stays event_tick t (telling form plan is).events all.events j) (by-stays mark_tick t (telling form plan is).marks all.marks j)

-- what was told by the newest input is later than a tick before it
newest-later : (form : LogForm) (plan : Plan) (t : ℕ) (i : Input) (is : List Input) → t ≤ (replay plan is).now → t < (replay plan (i ∷ is)).now → gone_back t (telling form plan (i ∷ is)) ≡ gone_back t (telling form plan is)
unfolding made
newest-later form plan t (Tick row) is le lt =
    let events : without_later event_tick t (telling form plan (Tick row ∷ is)).events ≡ without_later event_tick t (telling form plan is).events =
    later-gone event_tick t (telling form plan is).events (news form plan (Tick row) is) (at-later (replay plan (Tick row ∷ is)).now t (news form plan (Tick row) is) lt (at-of (noted_after form is) (replay plan is) (Tick row))) in
    λ j. made (events j) (without_later mark_tick t (telling form plan is).marks)
newest-later form plan t i is le lt =
    let same : (replay plan (i ∷ is)).now ≡ (replay plan is).now = same-now (replay plan is) i tt in
    let here : t < (replay plan is).now = omega (arith, lt, same) in
    let events : without_later event_tick t (telling form plan (i ∷ is)).events ≡ without_later event_tick t (telling form plan is).events =
    later-gone event_tick t (telling form plan is).events (news form plan i is) (at-later (replay plan (i ∷ is)).now t (news form plan i is) lt (at-of (noted_after form is) (replay plan is) i)) in
    let marks : without_later mark_tick t (telling form plan (i ∷ is)).marks ≡ without_later mark_tick t (telling form plan is).marks =
    later-gone mark_tick t (telling form plan is).marks (mark form plan is ∷ []) (later-more (mark form plan is) [] here later-none) in
    λ j. made (events j) (marks j)

-- a tick is taken back by going back to the tick before it
pub tick-undone : (form : LogForm) (plan : Plan) (row : Row) (is : List Input) → gone_back (replay plan is).now (telling form plan (Tick row ∷ is)) ≡ telling form plan is
tick-undone form plan row is = undone-tick plan (telling form plan) gone_back (told-stays form plan) (newest-later form plan) row is

pub gone-back : (form : LogForm) (plan : Plan) (t : ℕ) (is : List Input) → t ≤ (replay plan is).now → telling form plan (back_to plan t is) ≡ gone_back t (telling form plan is)
gone-back form plan t is le = back-at plan (telling form plan) gone_back (told-stays form plan) (newest-later form plan) t is le

-- any other input by its mark
pub record HasMark (form : LogForm) (plan : Plan) (i : Input) (is : List Input) : Type 0 where
  pub mark : Mark
  pub last : (telling form plan (i ∷ is)).marks ≡ (telling form plan is).marks ++ mark ∷ []
  pub before : take mark.events (telling form plan (i ∷ is)).events ≡ (telling form plan is).events

pub input-undone : (form : LogForm) (plan : Plan) (i : Input) (is : List Input) → IsNoTick i → HasMark form plan i is
input-undone form plan (Tick row) is none = absurd none
input-undone form plan i is none =
    record { mark = mark form plan is; last = refl; before = take-append_seam (telling form plan is).events (news form plan i is) }

-- ## The events

pub told-same : (form : LogForm) (plan : Plan) (is : List Input) → (telling form plan is).events ≡ told_along form plan is
told-same form plan [] = refl
told-same form plan (Tick row ∷ is) = ap (λ (es : List Event). es ++ events_of (noted_after form is) (replay plan is) (Tick row)) (told-same form plan is)
told-same form plan (i ∷ is) = ap (λ (es : List Event). es ++ events_of (noted_after form is) (replay plan is) i) (told-same form plan is)

-- an input that is no tick is dropped with its events
pub mark-dropped : (form : LogForm) (plan : Plan) (i : Input) (is : List Input) (new : Telling) → IsNoTick i → DropsMark (telling form plan (i ∷ is)) new → new ≡ telling form plan is
unfolding made
mark-dropped form plan i is new none drops =
    let has : HasMark form plan i is = input-undone form plan i is none in
    drops (telling form plan is).marks has.mark has.last ∙ (λ j. made (has.before j) (telling form plan is).marks)
