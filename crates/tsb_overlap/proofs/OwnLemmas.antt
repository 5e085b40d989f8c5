-- A tick of the overlaps looks only at what is its own.
use Rattle.std.proofs.Common.{zero, suc, ◌≡◌, ℕ, ◌+◌, ◌-◌, ◌≤◌, Bool, false, not, ◌&&◌, ◌||◌, if◌then◌else◌, List, Option, Some, None, refl, sym, ap, ap₂, ◌∙◌, arith, inl, inr}
use Rattle.std.specs.List.{list_any}
use Rattle.std.proofs.Math.Path.{fun_ext}
use Rattle.std.proofs.lemmas.Bool.{cases_Bool, or_parts}
use Rattle.tsb_cells.specs.declared.timer.Timer.{Timer}
use Rattle.tsb_cells.specs.Timer.{has_reached}
use Rattle.tsb_objects.specs.tsb_types.declared.interval.Interval.{Interval}
use Rattle.tsb_objects.specs.tsb_types.declared.interval.PedestrianInterval.{PedestrianInterval}
use Rattle.tsb_objects.specs.tsb_types.declared.limits.TheConstants.{OVERLAPS}
use Rattle.tsb_objects.specs.tsb_types.Intervals.{is_green, in_service, is_dont_walk}
use Rattle.tsb_objects.specs.tsb_types.Lists.{first, run_from}
use Rattle.tsb_objects.proofs.tsb_types.FirstLemmas.{first-within}
use Rattle.tsb_objects.proofs.tsb_types.ClipLemmas.{any-agree, first-agree}
use Rattle.tsb_objects.specs.tsb_plan.Plan.{Plan, phases}
use Rattle.tsb_objects.specs.tsb_plan.Parts.{is_included, is_modifier, is_arrow, is_timed, trails, heeds_pedestrians, arrow_delay}
use Rattle.tsb_heads.specs.Laws.{ServeAlike}
use Rattle.tsb_heads.proofs.OwnLemmas.{kept-same}
use Rattle.tsb_overlap.specs.declared.parts.OverlapInterval.{OverlapInterval}
use Rattle.tsb_overlap.specs.declared.parts.OverlapInterval.TheVariants.{Red, Green, TrailGreen, Flashing, Yellow, RedClear}
use Rattle.tsb_overlap.specs.Overlap.{Overlap, Given, standing, begun, as_read, at_power_up, run_on, holds, is_held, may_be_kept, left_alone, trail_settled, turn_of, is_number, is_turning, is_open_to, is_walked, may_flash, ended_flash, not_flashing, flashing_or, unturned, arrow_settled, settled, next}
use Rattle.tsb_overlap.specs.Cells.{overlap_in, is_overlap}
use Rattle.tsb_overlap.specs.Laws.{AreAlike, TimesFew}
use Rattle.tsb_overlap.specs.Promises.{IsSame, IsRunOn, IsSettled}
use Rattle.tsb_overlap.proofs.CellLemmas.{at-rest, IsAmong, among-overlaps}

-- ## Settling

module _ (plan : Plan) (one other : Given) (count : plan.phase_count ≤ 16) (alike : AreAlike one other) where
  turning-same : (t : ℕ) → 1 ≤ t → t ≤ 16 → is_turning one t ≡ is_turning other t
  turning-same t from to =
      ap₂ (λ (i : Interval) (b : Bool). in_service i || b) (alike.interval t from to)
      (ap₂ (λ (c d : Option ℕ). is_number t c || is_number t d) (alike.commitment 1) (alike.commitment 2))

  walked-same : (o : ℕ) → list_any (is_walked plan one o) (phases plan) ≡ list_any (is_walked plan other o) (phases plan)
  walked-same o =
      any-agree plan.phase_count (is_walked plan one o) (is_walked plan other o) count
      (λ p from to. ap (λ (i : PedestrianInterval). is_included plan o p && not (is_dont_walk i)) (alike.pedestrian p from to))

  open-same : (o : ℕ) → list_any (is_open_to plan one o) (phases plan) ≡ list_any (is_open_to plan other o) (phases plan)
  open-same o =
      any-agree plan.phase_count (is_open_to plan one o) (is_open_to plan other o) count
      (λ p from to. ap₂ (λ (i : Interval) (timer : Timer). is_included plan o p && (is_green i && has_reached timer (arrow_delay plan o)))
      (alike.interval p from to) (alike.timer p from to))

  flash-same : (o t : ℕ) → 1 ≤ o → o ≤ OVERLAPS → 1 ≤ t → t ≤ 16 → may_flash plan one o t ≡ may_flash plan other o t
  unfolding may_flash
  flash-same o t o_from o_to from to =
      ap₂ (λ (a b : Bool). not a && b) (alike.omitted o o_from o_to)
      (ap₂ (λ (a b : Bool). not a && b) (turning-same t from to)
      (ap₂ (λ (a b : Bool). not (heeds_pedestrians plan o && a) && b) (walked-same o) (open-same o)))

  was-same : (o : ℕ) → first (λ p. is_included plan o p && one.was_green p) (phases plan) ≡ first (λ p. is_included plan o p && other.was_green p) (phases plan)
  was-same o =
      first-agree plan.phase_count (λ p. is_included plan o p && one.was_green p) (λ p. is_included plan o p && other.was_green p) count
      (λ p from to. ap (λ (b : Bool). is_included plan o p && b) (alike.was_green p from to))

  not_flashing-same : (o t : ℕ) (i : OverlapInterval) → not_flashing plan one o t i ≡ not_flashing plan other o t i
  not_flashing-same o t Red = refl
  not_flashing-same o t Green = refl
  not_flashing-same o t TrailGreen = refl
  not_flashing-same o t Flashing = ap (ended_flash t) (was-same o)
  not_flashing-same o t Yellow = refl
  not_flashing-same o t RedClear = refl

  module _ (o : ℕ) (o_from : 1 ≤ o) (o_to : o ≤ OVERLAPS) (x : Overlap) where
    flashing_or-same : (t : ℕ) → 1 ≤ t → t ≤ 16 → flashing_or plan one o t x ≡ flashing_or plan other o t x
    flashing_or-same t from to =
        ap₂ (λ (b : Bool) (y : Overlap). if b then standing Flashing else y) (flash-same o t o_from o_to from to) (not_flashing-same o t x.interval)

    unturned-same : (t : ℕ) (i : OverlapInterval) → 1 ≤ t → t ≤ 16 → unturned plan one o t x i ≡ unturned plan other o t x i
    unturned-same t Red from to = flashing_or-same t from to
    unturned-same t Green from to = refl
    unturned-same t TrailGreen from to = flashing_or-same t from to
    unturned-same t Flashing from to = flashing_or-same t from to
    unturned-same t Yellow from to = refl
    unturned-same t RedClear from to = flashing_or-same t from to

    arrow-same : (turn : Option ℕ) → turn_of plan o ≡ turn → arrow_settled plan one o x turn ≡ arrow_settled plan other o x turn
    arrow-same None is = refl
    arrow-same (Some t) is =
        let within = first-within (is_modifier plan o) 1 plan.phase_count t is in
        let to : t ≤ 16 = omega (arith, within.1, count) in
        ap₂ (λ (i : Interval) (y : Overlap). if is_green i then standing Green else y) (alike.interval t within.0 to)
        (unturned-same t x.interval within.0 to)

    left-same : (i : OverlapInterval) → left_alone one x i ≡ left_alone other x i
    left-same Red = refl
    left-same Green = ap (λ (b : Bool). if b then begun Yellow else begun TrailGreen) alike.preempted
    left-same TrailGreen = refl
    left-same Flashing = refl
    left-same Yellow = refl
    left-same RedClear = refl

    trail-same : trail_settled plan one o x ≡ trail_settled plan other o x
    trail-same =
        let serve : ServeAlike one.shown other.shown = record { interval = alike.interval; commitment = alike.commitment } in
        ap₂ (λ (b : Bool) (y : Overlap). if may_be_kept x.interval && b then standing Green else y)
        (kept-same plan one.shown other.shown count serve o) (left-same x.interval)

    pub settled-same : settled plan one o x ≡ settled plan other o x
    unfolding settled
    settled-same =
        ap₂ (λ (a b : Overlap). if is_arrow plan o then a else (if trails plan o then b else x)) (arrow-same (turn_of plan o) refl) trail-same

-- ## Who is held

pub held-same : (plan : Plan) (preempted : Bool) (f g : ℕ → Overlap) (p : ℕ) → plan.counts.overlaps ≤ OVERLAPS → IsSame f g →
    is_held plan preempted f p ≡ is_held plan preempted g p
unfolding is_held
held-same plan preempted f g p few same =
    any-agree plan.counts.overlaps (holds plan preempted f p) (holds plan preempted g p) few
    (λ o from to. ap (λ (x : Overlap). holds plan preempted (λ q. x) p o) (same o from to))

-- ## Overlaps that are not timed

pub untimed-runs : (plan : Plan) (preempted : Bool) (o : ℕ) (x : Overlap) → is_timed plan o ≡ false → run_on plan preempted o x ≡ x
unfolding run_on
untimed-runs plan preempted o x none =
    let parts = or_parts (is_arrow plan o) (trails plan o) none in rw (parts.0, parts.1) refl

pub untimed-settles : (plan : Plan) (given : Given) (o : ℕ) (x : Overlap) → is_timed plan o ≡ false → settled plan given o x ≡ x
unfolding settled
untimed-settles plan given o x none =
    let parts = or_parts (is_arrow plan o) (trails plan o) none in rw (parts.0, parts.1) refl

pub untimed-stays : (plan : Plan) (given : Given) (f : ℕ → Overlap) (o : ℕ) → is_timed plan o ≡ false → next plan given f o ≡ as_read (f o)
unfolding next
untimed-stays plan given f o none = untimed-settles plan given o _ none ∙ untimed-runs plan given.preempted o (as_read (f o)) none

never : (n : ℕ) (test : ℕ → Bool) (a : ℕ) → ((k : ℕ) → test k ≡ false) → list_any test (run_from a n) ≡ false
unfolding run_from
never zero test a none = refl
never (suc n) test a none = rw (none a) (never n test (a + 1) none)

pub untimed-free : (plan : Plan) (preempted : Bool) (f : ℕ → Overlap) (p : ℕ) → ((o : ℕ) → is_timed plan o ≡ false) → is_held plan preempted f p ≡ false
unfolding is_held
untimed-free plan preempted f p none =
    never plan.counts.overlaps (holds plan preempted f p) 1
    (λ o. let parts = or_parts (is_arrow plan o) (trails plan o) (none o) in rw parts.1 refl)

-- ## The whole tick

pub ticks-as_next : (now : ℕ) (plan : Plan) (seen given : Given) (old middle new : List ℕ) → plan.phase_count ≤ 16 → TimesFew plan → AreAlike seen given →
    IsRunOn now given.preempted plan old middle → IsSettled now seen plan middle new → overlap_in now new ≡ next plan given (overlap_in (now - 1) old)
unfolding next
ticks-as_next now plan seen given old middle new count few alike runs settles = fun_ext (λ o. at o)
  where
    at : (o : ℕ) → overlap_in now new o ≡ settled plan given o (run_on plan given.preempted o (as_read (overlap_in (now - 1) old o)))
    at o = elim (cases_Bool (is_overlap o)) [
      | inl on ↦
          (let i : IsAmong o = among-overlaps o on in
          settles o i.from i.to ∙ ap (settled plan seen o) (runs o i.from i.to) ∙ settled-same plan seen given count alike o i.from i.to _)
      | inr out ↦
          at-rest now new o out ∙ sym (ap (λ (x : Overlap). settled plan given o (run_on plan given.preempted o (as_read x))) (at-rest (now - 1) old o out)
          ∙ untimed-settles plan given o _ (few o out) ∙ untimed-runs plan given.preempted o (as_read at_power_up) (few o out))
    ]
