-- That there is no event where nothing changes.
use Rattle.std.proofs.Common.{◌≡◌, ◌∙◌, ℕ, ◌<◌, ◌≤◌, Bool, true, false, [], Option, Some, None, IfSome, refl, ap, arith}
use Rattle.std.proofs.lemmas.Bool.{eq-eqb}
use Rattle.tsb_types.specs.Lists.{run_from, first}
use Rattle.tsb_types.proofs.FirstLemmas.{first-none, first-run_from}
use Rattle.tsb_field_display.specs.declared.shown.Shown.{Shown}
use Rattle.tsb_field_display.specs.declared.shown.Signals.{Signals}
use Rattle.tsb_types.specs.Events.{either}
use Rattle.tsb_field_display.specs.Events.{events_of, preempt_events, flash_events, is_in_flash, is_green, is_yellow, is_walk, is_clearance, is_overlap_green, is_overlap_yellow, is_overlap_arrow, is_overlap_lit}
use Rattle.tsb_types.proofs.EventLemmas.{none-told}

-- the least of a set, or none, is the first of its numbers
pub least-first : (test : ℕ → Bool) (o : Option ℕ) → (o ≡ None → (n : ℕ) → test n ≡ false) → IfSome o (λ n. 1 ≤ n) → IfSome o (λ n. n ≤ 16) →
    IfSome o (λ n. test n ≡ true) → IfSome o (λ n. (m : ℕ) → m < n → test m ≡ false) → first test (run_from 1 16) ≡ o
least-first test None none from within had least = first-none test (run_from 1 16) (none refl)
least-first test (Some n) none from within had least = first-run_from test 1 16 n from (omega (arith, within)) had least

-- ## Where nothing changes

none-preempt : (o : Option ℕ) (tick : ℕ) → preempt_events o tick o ≡ []
none-preempt None tick = refl
none-preempt (Some n) tick = rw (eq-eqb n n refl) refl

none-flash : (b : Bool) (tick : ℕ) → flash_events b tick b ≡ []
none-flash true tick = refl
none-flash false tick = refl

pub events-same : (s : Signals) (tick : ℕ) → events_of s (record { tick = tick; signals = s }) ≡ []
unfolding events_of
events-same s tick =
    rw (
      none-told tick 1 (is_green s),
      none-told tick 7 (is_green s),
      none-told tick 8 (is_yellow s),
      none-told tick 9 (is_yellow s),
      none-told tick 21 (is_walk s),
      none-told tick 22 (is_clearance s),
      none-told tick 23 (either (is_walk s) (is_clearance s)),
      none-told tick 32 (is_overlap_arrow s),
      none-told tick 33 (is_overlap_arrow s),
      none-told tick 61 (is_overlap_green s),
      none-told tick 63 (is_overlap_yellow s),
      none-told tick 64 (is_overlap_lit s),
      none-preempt s.preempt tick,
      none-flash (is_in_flash s) tick,
    ) refl

pub no-events : (before : Signals) (now : Shown) → before ≡ now.signals → events_of before now ≡ []
no-events before now same = ap (λ (s : Signals). events_of s now) same ∙ events-same now.signals now.tick
