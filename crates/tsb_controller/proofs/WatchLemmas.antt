-- What is shown and what the monitor finds, by the rows, is what the one step shows and finds.
use Rattle.std.proofs.Common.{◌≡◌, ℕ, ◌-◌, ◌≤◌, Bool, false, Option, Some, None, is_some, option_map, refl, sym, ap, ap₂, ◌∙◌, arith}
use Rattle.tsb_step.specs.tsb_types.declared.lamp.Lamp.{Lamp}
use Rattle.tsb_step.specs.tsb_types.declared.row.Row.{Row}
use Rattle.tsb_step.specs.tsb_types.declared.limits.TheConstants.{OVERLAPS}
use Rattle.tsb_step.specs.tsb_plan.Plan.{Plan}
use Rattle.tsb_heads.specs.declared.display.Display.{Display}
use Rattle.tsb_heads.specs.declared.field.Field.{Field}
use Rattle.tsb_heads.specs.declared.monitor.Trip.{Trip}
use Rattle.tsb_heads.specs.Displays as heads
use Rattle.tsb_heads.specs.Heads.{Heads}
use Rattle.tsb_heads.specs.Laws.{AreAlike, ShowAlike}
use Rattle.tsb_heads.specs.Monitoring.{is_green, judge}
use Rattle.tsb_heads.specs.Promises.{IsSame, IsLaidOver, IsJudged}
use Rattle.tsb_heads.specs.Reading.{shown_by, commitment_of, heads_of, heads_of_field}
use Rattle.tsb_heads.proofs.OwnLemmas.{displays-own, fields-told, judge-same, same-both}
use Rattle.tsb_transact.specs.Desk.{Desk}
use Rattle.tsb_step.specs.Cells.{clock_at}
use Rattle.tsb_step.specs.Backed.{IsGoodInAll}
use Rattle.tsb_step.specs.Signs.{display, field, shown, watched}
use Rattle.tsb_step.specs.State.{State}
use Rattle.tsb_step.proofs.UnlitLemmas.{unlit_tick}
use Rattle.tsb_controller.specs.Promises.{ShowsDisplay, ShowsField, IsTicked, IsWatchedTick, IsLit, tripping}
use Rattle.tsb_controller.specs.Rows.{Rows, Beside, untripped, state_of}
use Rattle.tsb_controller.specs.Shown.{IsShown}

-- ## What is shown

alike : (plan : Plan) (tripped : Bool) (rows : Rows) (d : Display) (it : IsShown plan tripped rows d) (now : ℕ) (b : Beside) → is_some b.trip ≡ tripped →
    AreAlike (shown_by it.intervals it.pedestrians it.ring_1 it.ring_2 it.lights tripped) (shown (state_of now b rows))
alike plan tripped rows d it now b trips = record {
  interval = λ p from to. it.intervals_are _ p from to;
  pedestrian = λ p from to. it.pedestrians_are _ p from to;
  commitment = λ r. ap₂ (λ (x y : Option ℕ). commitment_of x y r) it.first_is it.second_is;
  light = λ o from to. it.lights_are (clock_at now b.trip) o from to;
  tripped = sym trips;
}

pub displayed : (plan : Plan) (tripped : Bool) (rows : Rows) (d : Display) → plan.phase_count ≤ 16 → IsShown plan tripped rows d → ShowsDisplay plan tripped rows d
unfolding display
displayed plan tripped rows d count it now b same trips =
    same-both (heads_of d) (heads.display plan (shown_by it.intervals it.pedestrians it.ring_1 it.ring_2 it.lights tripped)) (display (state_of now b rows)) it.displayed
    (rw same (displays-own plan (shown_by it.intervals it.pedestrians it.ring_1 it.ring_2 it.lights tripped) (shown (state_of now b rows)) count (alike plan tripped rows d it now b trips)))

pub fielded : (plan : Plan) (lamp : Option Lamp) (rows : Rows) (d : Display) (f : Field) → plan.phase_count ≤ 16 → IsShown plan false rows d → IsLaidOver d lamp f → ShowsField plan lamp rows f
unfolding field
fielded plan lamp rows d f count it laid now desk =
    fields-told plan it.intervals it.pedestrians it.ring_1 it.ring_2 it.lights lamp d f (shown (state_of now (untripped plan desk lamp) rows)) count
    (alike plan false rows d it now (untripped plan desk lamp) refl) it.displayed laid

-- ## What the monitor finds

show-alike : (f g : Heads) → IsSame f g → ShowAlike f g
show-alike f g same = record { vehicle = same.vehicle; pedestrian = same.pedestrian }

judged : (plan : Plan) (f g : Field) (h k : Heads) (found : Option Trip) → plan.phase_count ≤ 16 → plan.counts.overlaps ≤ OVERLAPS → IsSame (heads_of_field f) h → IsSame (heads_of_field g) k →
    IsJudged f g plan found → found ≡ judge plan h k
judged plan f g h k found count few before after is =
    is ∙ judge-same plan (heads_of_field f) h (heads_of_field g) k count (show-alike (heads_of_field f) h before) (show-alike (heads_of_field g) k after)
    (λ o from to arrow. ap is_green (after.overlap o from (omega (arith, to, few))))

-- at the tick of a trip timers are read as ever
tripped-now : (now : ℕ) (found : Option Trip) (plan : Plan) (desk : Desk) (lamp : Option Lamp) (rows : Rows) →
    state_of now (tripping now found plan desk lamp) rows
    ≡ record (state_of now (untripped plan desk lamp) rows) { trip = option_map (λ cause. record { cause = cause; tick = now }) found }
tripped-now now None plan desk lamp rows = refl
tripped-now now (Some cause) plan desk lamp rows = refl

-- so the state is the one that the monitor has watched
watched-now : (now : ℕ) (found : Option Trip) (plan : Plan) (desk : Desk) (lamp : Option Lamp) (rows : Rows) (before : State) →
    found ≡ judge plan (field before) (field (state_of now (untripped plan desk lamp) rows)) →
    state_of now (tripping now found plan desk lamp) rows ≡ watched before (state_of now (untripped plan desk lamp) rows)
unfolding watched
watched-now now found plan desk lamp rows before finds =
    tripped-now now found plan desk lamp rows
    ∙ ap (λ (o : Option Trip). record (state_of now (untripped plan desk lamp) rows) { trip = option_map (λ cause. record { cause = cause; tick = now }) o }) finds

pub watched-tick : (now : ℕ) (row : Row) (lamp : Option Lamp) (plan : Plan) (old new : Rows) (f g : Field) (found : Option Trip) → plan.phase_count ≤ 16 → plan.counts.overlaps ≤ OVERLAPS →
    ShowsField plan lamp old f → ShowsField plan lamp new g → IsTicked now row plan old new → IsJudged f g plan found →
    IsWatchedTick now row lamp plan old new found
watched-tick now row lamp plan old new f g found count few before after done is desk =
    watched-now now found plan desk lamp new t
    (judged plan f g (field t) (field (state_of now (untripped plan desk lamp) new)) found count few (before (now - 1) desk) (after now desk) is)
    ∙ ap (watched t) (done desk lamp)
  where
    t : State
    t = state_of (now - 1) (untripped plan desk lamp) old

pub lit : (was lamp : Option Lamp) (plan : Plan) (rows : Rows) (f g : Field) (found : Option Trip) → plan.phase_count ≤ 16 → plan.counts.overlaps ≤ OVERLAPS →
    ShowsField plan was rows f → ShowsField plan lamp rows g → IsJudged f g plan found → IsLit was lamp plan rows found
lit was lamp plan rows f g found count few before after is now desk =
    watched-now now found plan desk lamp rows (state_of now (untripped plan desk was) rows)
    (judged plan f g (field (state_of now (untripped plan desk was) rows)) (field (state_of now (untripped plan desk lamp) rows)) found count few (before now desk) (after now desk) is)

-- while no lamp is lit the monitor finds nothing at a tick, whatever is at the desk
pub unlit : (now : ℕ) (row : Row) (plan : Plan) (lamp : Option Lamp) (old new : Rows) → is_some lamp ≡ false →
    (desk : Desk) × IsGoodInAll (state_of (now - 1) (untripped plan desk lamp) old) → IsTicked now row plan old new → IsWatchedTick now row lamp plan old new None
unlit now row plan None old new dark good ticks = λ desk.
    ticks desk None ∙ sym (unlit_tick (state_of (now - 1) (untripped plan desk None) old) row good.0 good.1 refl refl)
unlit now row plan (Some lamp) old new dark good ticks = absurd cc
