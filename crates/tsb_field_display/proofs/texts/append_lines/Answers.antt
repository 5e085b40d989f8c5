use Rattle.std.proofs.Common.{◌∙◌, ℕ, subst, sym}
use Rattle.std.proofs.Math.ListN.{drop_of_length-le}
use Rattle.tsb_event_text.specs.declared.texts.TimeText.{TimeText}
use Rattle.tsb_event_text.specs.Written.{bytes_of}
use Rattle.tsb_field_display.specs.Texts.{Tells}
use Rattle.tsb_field_display.specs.Ticks.{moment_of_tick}
use Rattle.tsb_field_display.proofs.SessionLineLemmas.{none-yet, one-more, all-told, event-first}
use Rattle.tsb_field_display.proofs.texts.append_lines.Goals as goal
use Rattle.tsb_field_display.proofs.texts.append_lines.Goals.{then-event-tick, else-event-tick}

pub loop-event-init : goal.loop-event-init
loop-event-init c = none-yet _ _ _ _ _ _ c.time_of_tick-time.ensures

pub loop-event-preserved : goal.loop-event-preserved
loop-event-preserved c =
    let first = event-first c.args.events.now c.loop-event.event-index c.loop-event-test.true in
    let at_tick : ℕ → TimeText → Type 0 = λ tick time. Tells (moment_of_tick c.args.from tick) (bytes_of time) in
    elim c.if-event-tick.branch [
      | then-event-tick w ↦
          one-more _ _ _ _ _ _ _ _ _ _ _ _ _ c.loop-event.invariant first w.tick-is
          (subst (λ (tick : ℕ). at_tick tick c.if-event-tick.time) (sym w.tick-is)
          (subst (λ (time : TimeText). at_tick _ time) (sym w.time-is) w.time_of_tick-time-then-event-tick.ensures))
          c.in_ok-append_event.ensures
      | else-event-tick w ↦
          one-more _ _ _ _ _ _ _ _ _ _ _ _ _ c.loop-event.invariant first (w.tick-is ∙ sym w.if-event-tick.false)
          (subst (λ (tick : ℕ). at_tick tick c.if-event-tick.time) (sym w.tick-is)
          (subst (λ (time : TimeText). at_tick c.loop-event.tick time) (sym w.time-is) c.loop-event.invariant.tells))
          c.in_ok-append_event.ensures
    ]

pub returns : goal.returns
returns c = all-told _ _ _ _ _ _ _ _ c.loop-event.invariant (drop_of_length-le c.args.events.now c.loop-event-test.false)
