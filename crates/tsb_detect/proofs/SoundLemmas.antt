-- A tick that judges no detector and finds no alarm.
use Rattle.std.proofs.Common.{◌≡◌, ℕ, ◌+◌, ◌-◌, ◌&&◌, not, nat_lt, Bool, true, false, if◌then◌else◌, List, refl, sym, ◌∙◌, ap, subst, arith, None}
use Rattle.std.proofs.lemmas.Bool.Decides.{nat_tests}
use Rattle.tsb_cells.specs.declared.timer.Timer.{Timer}
use Rattle.tsb_cells.specs.declared.timer.Timer.TheVariants.{On}
use Rattle.tsb_cells.specs.Timer.{timer_at}
use Rattle.tsb_objects.specs.tsb_types.Sets.{names, wide_list_in}
use Rattle.tsb_objects.specs.tsb_plan.Plan.{Plan}
use Rattle.tsb_objects.specs.tsb_plan.Parts.{detector_delay}
use Rattle.tsb_detect.specs.declared.detector_row.DetectorRow.{DetectorRow}
use Rattle.tsb_detect.specs.Detector.{is_minute, has_lasted, differs, change_timer, new_alarm}
use Rattle.tsb_detect.specs.Cells.{row_in, detector_of, alarm_of_row, IsRowBy}
use Rattle.tsb_detect.specs.Rows.{row_with, IsRead, IsVisit, HasNoAlarm, IsUnjudged, steady_limit}
use Rattle.tsb_detect.proofs.RowLemmas.{same_values}
use Rattle.tsb_detect.proofs.NextLemmas.{none-of, alarm-none, settled-visit}

not-at-once : (limit : ℕ) → has_lasted (On 0) limit ≡ false
not-at-once limit = grind (arith, nat_tests)

lasted-of : (changes : Bool) (timer : Timer) (limit : ℕ) → has_lasted timer limit ≡ false → has_lasted (if changes then On 0 else timer) limit ≡ false
lasted-of true timer limit h = not-at-once limit
lasted-of false timer limit h = h

alarm-of : (plan : Plan) (d now : ℕ) (x : Bool) (r : DetectorRow) → is_minute now ≡ false → alarm_of_row r ≡ None →
    has_lasted (change_timer x (detector_of now r)) (steady_limit plan d x) ≡ false → new_alarm plan d now x (detector_of now r) ≡ None
alarm-of plan d now true r minute none lasted = rw (minute, none, lasted) refl
alarm-of plan d now false r minute none lasted = rw (minute, none, lasted) refl

abbrev pub waits : ℕ → Plan → ℕ → Bool → DetectorRow → Bool
waits now plan d x r = x && nat_lt (now + 1 - r.change) (detector_delay plan d)

parts : (now : ℕ) (plan : Plan) (d : ℕ) (x : Bool) (r : DetectorRow) → IsUnjudged now plan d x r →
    (is_minute now ≡ false) × (has_lasted (timer_at now r.change) (steady_limit plan d x) ≡ false) × (waits now plan d x r ≡ false)
parts now plan d x r sound = none-of (is_minute now) (has_lasted (timer_at now r.change) (steady_limit plan d x)) (waits now plan d x r) sound.due

pub part : (now : ℕ) (plan : Plan) (d : ℕ) (x : Bool) (r : DetectorRow) → IsUnjudged now plan d x r → is_minute now ≡ false
part now plan d x r sound = (parts now plan d x r sound).0

pub no-alarm : (now : ℕ) (plan : Plan) (d : ℕ) (x : Bool) (r : DetectorRow) → IsUnjudged now plan d x r → new_alarm plan d now x (detector_of now r) ≡ None
no-alarm now plan d x r sound =
    alarm-of plan d now x r (part now plan d x r sound) (alarm-none _ _ _ sound.none.inactive sound.none.present sound.none.erratic)
    (lasted-of (differs x r.input) (timer_at now r.change) (steady_limit plan d x) (parts now plan d x r sound).1)

not-risen : (x on was : Bool) → on ≡ x → was ≡ x → (on && not was) ≡ false
not-risen true on was p q = rw (p, q) refl
not-risen false on was p q = rw p refl

-- a detector as its input stays as it is, and was not actuated now
pub unmoved-visit : (now : ℕ) (plan : Plan) (d : ℕ) (x : Bool) (green : Timer) (on : Bool) (r : DetectorRow) → IsRead now r → IsUnjudged now plan d x r →
    r.input ≡ x → r.output ≡ x → on ≡ x → IsVisit now plan d x green r (row_with x on r r)
unmoved-visit now plan d x green on r read sound input output same =
    let still : DetectorRow = record r { actuated = false } in
    let visit : IsVisit now plan d x green still still =
    settled-visit now plan d x green still
    (record {
      by = record {
        inactive_present = read.by.inactive_present;
        inactive_erratic = read.by.inactive_erratic;
        present_erratic = read.by.present_erratic;
        rises = read.by.rises;
        changed = read.by.changed;
        change = read.by.change;
        extend = read.by.extend;
        present = read.by.present;
        idle = read.by.idle;
        failed = read.by.failed;
      };
      rises = read.rises;
    })
    (record { input = input; output = output; actuated = refl; inactive = sound.none.inactive; present = sound.none.present; erratic = sound.none.erratic })
    sound.due in
    let is_still : row_with x on r r ≡ still =
    same_values _ _ _ _ _ _ _ _ _ _ _ _ _ _ _ _ _ _
    (sym input) (same ∙ sym output) (not-risen x on r.output same output) (sym sound.none.inactive) (sym sound.none.present) (sym sound.none.erratic) refl refl refl in
    record {
      state = ap (detector_of now) is_still ∙ visit.state;
      by = subst (λ (row : DetectorRow). IsRowBy now row) (sym is_still) visit.by;
    }

pub kept : (a b : Bool) → b ≡ false → (a && not b) ≡ a
kept true b h = rw h refl
kept false b h = refl

pub taken : (a b : Bool) → b ≡ true → (a && not b) ≡ false
taken true b h = rw h refl
taken false b h = refl

pub input-of : (cells : List ℕ) (d : ℕ) → (row_in cells d).input ≡ names (wide_list_in cells 0) d
unfolding row_in
input-of cells d = refl

pub output-of : (cells : List ℕ) (d : ℕ) → (row_in cells d).output ≡ names (wide_list_in cells 2) d
unfolding row_in
output-of cells d = refl

-- three lists that are put
pub row-of-lists : (row : DetectorRow) (x on risen : Bool) (was r : DetectorRow) → HasNoAlarm r → risen ≡ (on && not was.output) →
    (let lists : DetectorRow = record r { input = x; output = on; actuated = risen } in row ≡ lists) → row ≡ row_with x on was r
row-of-lists row x on risen was r none rises e =
    e ∙ same_values _ _ _ _ _ _ _ _ _ _ _ _ _ _ _ _ _ _ refl refl rises none.inactive none.present none.erratic refl refl refl
