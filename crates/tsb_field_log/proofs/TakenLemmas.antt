-- A street that has taken some events takes one more, or gives the rest of its log.
use Rattle.std.proofs.Common.{◌≡◌, ℕ, ◌≤◌, List, [], ◌∷◌, ◌++◌, sym, ap, ◌∙◌}
use Rattle.tsb_log_text.specs.declared.log.LogRow.{LogRow}
use Rattle.tsb_field_log.specs.declared.inputs.Wire.{Wire}
use Rattle.tsb_field_log.specs.declared.inputs.InputEvent.{InputEvent}
use Rattle.tsb_field_log.specs.declared.street.Street.{Street}
use Rattle.tsb_field_log.specs.Ticks.{row_in}
use Rattle.tsb_field_log.specs.Changes.{rows_of}
use Rattle.tsb_field_log.specs.Streets.{tick_at, rows_until, Follows}
use Rattle.tsb_field_log.specs.Pushed.{last_tick, rows_before}
use Rattle.tsb_field_log.specs.Taken.{HasTaken}
use Rattle.tsb_field_log.proofs.PushedLemmas.{last-push, order-push, order-last, rows-step, rows-end}

pub taken-push : (from : ℕ) (wires : List Wire) (es : List InputEvent) (e : InputEvent) (old new : Street) (rows : List LogRow) → HasTaken from wires es old
    → last_tick from es ≤ tick_at from e.nanos → tick_at from e.nanos ≤ 6000000 → Follows wires (es ++ e ∷ []) new → new.from ≡ old.from → new.tick ≡ tick_at old.from e.nanos
    → rows ≡ rows_until old.from wires es old.tick (tick_at old.from e.nanos)
    → HasTaken from wires (es ++ e ∷ []) new × (rows_before from wires (es ++ e ∷ []) ≡ rows_before from wires es ++ rows)
taken-push from wires es e old new rows t later most follows same tick told = (
  record {
    follows = follows;
    began = same ∙ t.began;
    tick = tick ∙ ap (λ (n : ℕ). tick_at n e.nanos) t.began ∙ sym (last-push from es e);
    ordered = order-push from 0 es e t.ordered later most;
  },
  rows-step from wires es e later ∙ ap (λ (rs : List LogRow). rows_before from wires es ++ rs) (sym known),
)
  where
    known : rows ≡ rows_until from wires es (last_tick from es) (tick_at from e.nanos)
    known = told ∙ ap (λ (n : ℕ). rows_until n wires es old.tick (tick_at n e.nanos)) t.began ∙ ap (λ (n : ℕ). rows_until from wires es n (tick_at from e.nanos)) t.tick

pub taken-whole : (from : ℕ) (wires : List Wire) (es : List InputEvent) (old : Street) (rows : List LogRow) → HasTaken from wires es old
    → rows ≡ rows_until old.from wires es old.tick 6000001 → rows_before from wires es ++ rows ≡ rows_of (row_in from wires es)
taken-whole from wires es old rows t told =
    ap (λ (rs : List LogRow). rows_before from wires es ++ rs)
    (told ∙ ap (λ (n : ℕ). rows_until n wires es old.tick 6000001) t.began ∙ ap (λ (n : ℕ). rows_until from wires es n 6000001) t.tick)
    ∙ rows-end from wires es (order-last from 0 es t.ordered)
