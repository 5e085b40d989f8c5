-- What the cells keep of an overlap, and the overlap that is read in them.
use Rattle.std.proofs.Common.{◌≡◌, ◌≢◌, ℕ, ◌+◌, ◌-◌, ◌<◌, ◌≤◌, ◌%◌, ◌||◌, Bool, true, false, if◌then◌else◌, List, length, slice_index, Option, refl, sym, ◌∙◌, ap, arith, inl, inr}
use Rattle.std.proofs.lemmas.Bool.{and_from, cond-true, le-leb}
use Rattle.std.proofs.lemmas.Bool.Decides.{nat_tests, eqb_tells}
use Rattle.tsb_cells.specs.declared.timer.Timer.{Timer}
use Rattle.tsb_cells.specs.Lists.{Elsewhere}
use Rattle.tsb_cells.proofs.TimerLemmas.{timer_at-this}
use Rattle.tsb_objects.specs.tsb_types.declared.lamp.Aspect.TheVariants as aspects
use Rattle.tsb_objects.specs.tsb_types.declared.limits.TheConstants.{OVERLAPS}
use Rattle.tsb_objects.specs.tsb_types.Sets.{names}
use Rattle.tsb_objects.proofs.tsb_types.SetLemmas.{names-zero}
use Rattle.tsb_objects.specs.tsb_plan.Parts.{unless_zero}
use Rattle.tsb_overlap.specs.declared.TheConstants.{CELLS}
use Rattle.tsb_overlap.specs.declared.parts.OverlapInterval.{OverlapInterval}
use Rattle.tsb_overlap.specs.declared.parts.OverlapInterval.TheVariants.{Red, Green, TrailGreen, Flashing, Yellow, RedClear}
use Rattle.tsb_overlap.specs.declared.parts.Part.{Part}
use Rattle.tsb_overlap.specs.Overlap.{Overlap, at_power_up, as_read, light, is_trail_green}
use Rattle.tsb_overlap.specs.Cells.{listed, interval_by, interval_in, part_in, overlap_of, overlap_in, omitted_in, is_overlap, IsOverlapBy, IsBy}
use Rattle.tsb_overlap.specs.Parts.{is_list, IsInOne, IsKept, IsPut}
use Rattle.tsb_overlap.proofs.ListLemmas.{interval-put, interval-listed, in-one-put}

-- ## Parts

same_values : (i i' : OverlapInterval) (t t' : ℕ) (p p' : Option ℕ) → i ≡ i' → t ≡ t' → p ≡ p' →
    (let x : Part = record { interval = i; timer = t; phase = p } in let y : Part = record { interval = i'; timer = t'; phase = p' } in x ≡ y)
same_values i i' t t' p p' a b c = rw (a, b, c) refl

pub same-part : (x y : Part) → x.interval ≡ y.interval → x.timer ≡ y.timer → x.phase ≡ y.phase → x ≡ y
same-part x y a b c = same_values _ _ _ _ _ _ a b c

same_fields : (i i' : OverlapInterval) (t t' : Timer) (p p' : Option ℕ) → i ≡ i' → t ≡ t' → p ≡ p' →
    (let x : Overlap = record { interval = i; timer = t; phase = p } in let y : Overlap = record { interval = i'; timer = t'; phase = p' } in x ≡ y)
same_fields i i' t t' p p' a b c = rw (a, b, c) refl

pub same-overlap : (x y : Overlap) → x.interval ≡ y.interval → x.timer ≡ y.timer → x.phase ≡ y.phase → x ≡ y
same-overlap x y a b c = same_fields _ _ _ _ _ _ a b c

-- an overlap that the lists name alike is in the same interval
interval-same : (old new : List ℕ) (o : ℕ) → ((k : ℕ) → k < 5 → listed new k o ≡ listed old k o) → interval_in new o ≡ interval_in old o
unfolding interval_in
interval-same old new o same =
    rw (same 0 (omega arith), same 1 (omega arith), same 2 (omega arith), same 3 (omega arith), same 4 (omega arith)) refl

-- cells that keep what they did
pub kept-part : (old new : List ℕ) (o : ℕ) → IsKept old new o → part_in new o ≡ part_in old o
kept-part old new o kept = same-part _ _ (interval-same old new o kept.lists) kept.timer (ap unless_zero kept.phase)

-- cells that keep this part
pub put-part : (part : Part) (new : List ℕ) (o : ℕ) → IsPut part new o → part_in new o ≡ part
put-part part new o put = same-part _ _ (interval-put new o part.interval put.lists) put.timer put.phase

pub kept-refl : (row : List ℕ) (o : ℕ) → IsKept row row o
kept-refl row o = record { lists = λ k below. refl; timer = refl; phase = refl }

pub kept-on : (old middle new : List ℕ) (o : ℕ) → IsKept old middle o → IsKept middle new o → IsKept old new o
kept-on old middle new o one two = record {
  lists = λ k below. two.lists k below ∙ one.lists k below;
  timer = two.timer ∙ one.timer;
  phase = two.phase ∙ one.phase;
}

-- ## Rows that can be

pub kept-by : (now : ℕ) (old new : List ℕ) (o : ℕ) → IsKept old new o → IsOverlapBy now old o → IsOverlapBy now new o
kept-by now old new o kept by = record {
  apart = λ j k less below here.
      kept.lists k below ∙ by.apart j k less below (sym (kept.lists j (omega (arith, less, below))) ∙ here);
  timer = omega (arith, kept.timer, by.timer);
  phase = omega (arith, kept.phase, by.phase);
}

pub put-by : (now : ℕ) (part : Part) (new : List ℕ) (o : ℕ) → part.timer ≤ now + 1 → IsPut part new o → IsOverlapBy now new o
put-by now part new o timer put = record {
  apart = in-one-put new o part.interval put.lists;
  timer = omega (arith, put.timer, timer);
  phase = put.small;
}

pub later : (m n : ℕ) (row : List ℕ) (o : ℕ) → m ≤ n → IsOverlapBy m row o → IsOverlapBy n row o
later m n row o after by = record { apart = by.apart; timer = omega (arith, by.timer, after); phase = by.phase }

pub rows-later : (m n : ℕ) (row : List ℕ) → m ≤ n → IsBy m row → IsBy n row
rows-later m n row after by = record { full = by.full; lists = by.lists; each = λ o from to. later m n row o after (by.each o from to) }

-- ## Overlaps

pub overlap-from : (o : ℕ) → 1 ≤ o → o ≤ OVERLAPS → is_overlap o ≡ true
overlap-from o from to = and_from _ _ (le-leb 1 o from) (le-leb o OVERLAPS to)

pub record IsAmong (o : ℕ) : Type 0 where
  pub from : 1 ≤ o
  pub to : o ≤ OVERLAPS

pub among-overlaps : (o : ℕ) → is_overlap o ≡ true → IsAmong o
among-overlaps o e = record { from = grind (arith, nat_tests, e); to = grind (arith, nat_tests, e) }

pub overlap_in-part : (now : ℕ) (row : List ℕ) (o : ℕ) → 1 ≤ o → o ≤ OVERLAPS → overlap_in now row o ≡ overlap_of now (part_in row o)
unfolding overlap_in
overlap_in-part now row o from to = cond-true (is_overlap o) _ at_power_up (overlap-from o from to)

pub at-rest : (now : ℕ) (row : List ℕ) (o : ℕ) → is_overlap o ≡ false → overlap_in now row o ≡ at_power_up
unfolding overlap_in
at-rest now row o out = rw out refl

-- as a tick reads it that is not the first
pub read-part : (now : ℕ) (part : Part) → 1 ≤ now → part.timer ≤ now - 1 + 1 → overlap_of now part ≡ as_read (overlap_of (now - 1) part)
read-part now part begun within = same-overlap _ _ refl (timer_at-this now part.timer begun within) refl

pub read-row : (now : ℕ) (row : List ℕ) (o : ℕ) → 1 ≤ now → IsBy (now - 1) row → 1 ≤ o → o ≤ OVERLAPS →
    overlap_of now (part_in row o) ≡ as_read (overlap_in (now - 1) row o)
read-row now row o begun by from to =
    read-part now (part_in row o) begun (by.each o from to).timer ∙ ap as_read (sym (overlap_in-part (now - 1) row o from to))

-- ## Lists

pub listed-same : (old new : List ℕ) (k o : ℕ) → slice_index new k ≡ slice_index old k → listed new k o ≡ listed old k o
listed-same old new k o same = ap (λ (cell : ℕ). names (cell % 65536) o) same

pub omitted-same : (old new : List ℕ) → slice_index new 5 ≡ slice_index old 5 → omitted_in new ≡ omitted_in old
omitted-same old new same = ap (λ (cell : ℕ). names (cell % 65536)) same

-- ## Power-up

abbrev pub IsBlank : List ℕ → Type 0
IsBlank row = (k : ℕ) → k < CELLS → slice_index row k ≡ 0

no-list : (row : List ℕ) (k o : ℕ) → k < 6 → IsBlank row → listed row k o ≡ false
no-list row k o below blank = ap (λ (cell : ℕ). names (cell % 65536) o) (blank k (omega (arith, below))) ∙ names-zero o

pub blank-omitted : (row : List ℕ) → IsBlank row → (o : ℕ) → omitted_in row o ≡ false
blank-omitted row blank o = no-list row 5 o (omega arith) blank

blank-part : (row : List ℕ) (o : ℕ) → IsBlank row → 1 ≤ o → o ≤ OVERLAPS → part_in row o ≡ record { interval = Red; timer = 0; phase = unless_zero 0 }
blank-part row o blank from to =
    same-part _ _ (interval-put row o Red (λ k below. no-list row k o (omega (arith, below)) blank))
    (blank (5 + o) (omega (arith, to))) (ap unless_zero (blank (5 + OVERLAPS + o) (omega (arith, to))))

pub blank-at_power_up : (now : ℕ) (row : List ℕ) → IsBlank row → (o : ℕ) → 1 ≤ o → o ≤ OVERLAPS → overlap_in now row o ≡ at_power_up
blank-at_power_up now row blank o from to = overlap_in-part now row o from to ∙ ap (overlap_of now) (blank-part row o blank from to)

pub blank-by : (now : ℕ) (row : List ℕ) → length row ≡ CELLS → IsBlank row → IsBy now row
blank-by now row full blank = record {
  full = full;
  lists = λ k below. omega (arith, blank k (omega (arith, below)));
  each = λ o from to. record {
    apart = λ j k less below here. no-list row k o (omega (arith, below)) blank;
    timer = omega (arith, blank (5 + o) (omega (arith, to)));
    phase = omega (arith, blank (5 + OVERLAPS + o) (omega (arith, to)));
  };
}

-- ## Arrows that are omitted

elsewhere-kept : (old new : List ℕ) (o : ℕ) → Elsewhere 5 old new → 1 ≤ o → IsKept old new o
elsewhere-kept old new o same from = record {
  lists = λ k below. listed-same old new k o (same k (λ e. omega (arith, e, below)));
  timer = same (5 + o) (λ e. omega (arith, e, from));
  phase = same (5 + OVERLAPS + o) (λ e. omega (arith, e));
}

pub elsewhere-overlaps : (now : ℕ) (old new : List ℕ) → Elsewhere 5 old new → (o : ℕ) → 1 ≤ o → o ≤ OVERLAPS → overlap_in now new o ≡ overlap_in now old o
elsewhere-overlaps now old new same o from to =
    overlap_in-part now new o from to ∙ ap (overlap_of now) (kept-part old new o (elsewhere-kept old new o same from)) ∙ sym (overlap_in-part now old o from to)

pub elsewhere-by : (now : ℕ) (old new : List ℕ) → length new ≡ CELLS → Elsewhere 5 old new → slice_index new 5 < 65536 → IsBy now old → IsBy now new
elsewhere-by now old new full same small by = record {
  full = full;
  lists = λ k below.
      elim (eqb_tells k 5) [
        | inl at ↦ rw at.1 small
        | inr other ↦ rw (same k other.1) (by.lists k below)
      ];
  each = λ o from to. kept-by now old new o (elsewhere-kept old new o same from) (by.each o from to);
}

-- ## Heads

-- the light of an overlap whose green is in two lists
pub light-read : (row : List ℕ) (o : ℕ) (green flashing yellow : Bool) → green ≡ (listed row 0 o || listed row 1 o) → flashing ≡ listed row 2 o → yellow ≡ listed row 3 o →
    (if green then aspects.Green else (if flashing then aspects.FlashingYellow else (if yellow then aspects.Yellow else aspects.Red))) ≡ light (interval_in row o)
unfolding interval_in
light-read row o green flashing yellow p q r = rw (p, q, r) (go (listed row 0 o) (listed row 1 o) (listed row 2 o) (listed row 3 o) (listed row 4 o))
  where
    go : (a b c d e : Bool) → (if a || b then aspects.Green else (if c then aspects.FlashingYellow else (if d then aspects.Yellow else aspects.Red))) ≡ light (interval_by a b c d e)
    go true b c d e = refl
    go false true c d e = refl
    go false false true d e = refl
    go false false false true e = refl
    go false false false false true = refl
    go false false false false false = refl

pub trail-read : (row : List ℕ) (o : ℕ) → IsInOne row o → listed row 1 o ≡ is_trail_green (interval_in row o)
trail-read row o one = interval-listed row o one 1 (omega arith) ∙ go (interval_in row o)
  where
    go : (i : OverlapInterval) → is_list 1 i ≡ is_trail_green i
    go Red = refl
    go Green = refl
    go TrailGreen = refl
    go Flashing = refl
    go Yellow = refl
    go RedClear = refl

-- ## Writing

-- of the other overlaps each list says what it did, where list k is written for one
pub others-listed : (k j q o : ℕ) (old new : List ℕ) → q ≢ o → ((p : ℕ) → p ≢ o → listed new k p ≡ listed old k p) → Elsewhere k old new → listed new j q ≡ listed old j q
others-listed k j q o old new other same elsewhere =
    elim (eqb_tells j k) [
      | inl at ↦ rw at.1 (same q other)
      | inr apart ↦ listed-same old new j q (elsewhere j apart.1)
    ]

-- the timer and the phase are put after the lists, which stay
pub put-whole : (part : Part) (middle timed new : List ℕ) (o phase : ℕ) → 1 ≤ o → ((k : ℕ) → k < 5 → listed middle k o ≡ is_list k part.interval) →
    slice_index timed (5 + o) ≡ part.timer → Elsewhere (5 + o) middle timed → slice_index new (5 + OVERLAPS + o) ≡ phase → Elsewhere (5 + OVERLAPS + o) timed new →
    unless_zero phase ≡ part.phase → phase ≤ 16 → IsPut part new o
put-whole part middle timed new o phase from named timer timed_same at same number small = record {
  lists = λ k below.
      listed-same timed new k o (same k (λ e. omega (arith, e, below))) ∙ listed-same middle timed k o (timed_same k (λ e. omega (arith, e, below, from))) ∙ named k below;
  timer = same (5 + o) (λ e. omega (arith, e)) ∙ timer;
  phase = ap unless_zero at ∙ number;
  small = omega (arith, at, small);
}
