use Rattle.std.proofs.Common.{◌≡◌, ◌≤◌, ◌-◌, ap, ◌∙◌, arith, inl, inr}
use Rattle.tsb_types.specs.Calendar.{month_up_to}
use Rattle.tsb_types.proofs.CalendarLemmas.{month_on}
use Rattle.tsb_types.proofs.calendar.month_of.Goals.{then-days_before-day, else-days_before-day}
use Rattle.tsb_types.proofs.calendar.month_of.Goals as goal

pub loop-next-preserved : goal.loop-next-preserved
loop-next-preserved c =
    let from : 2 ≤ c.loop-next.next = omega (arith, c.loop-next.auto.next) in
    elim c.if-days_before-day.branch [
      | then-days_before-day w ↦ record {
        value = month_on c.args.leap c.args.day c.loop-next.next c.loop-next.month c.days_before.result c.if-days_before-day.month from
            c.loop-next.invariant.value c.days_before.ensures.value (inl (w.if-days_before-day.true, w.month-is));
        from_one = (let is = w.month-is in omega (arith, is, from));
        within = (let is = w.month-is in omega (arith, is, c.loop-next-test.true));
      }
      | else-days_before-day w ↦ record {
        value = month_on c.args.leap c.args.day c.loop-next.next c.loop-next.month c.days_before.result c.if-days_before-day.month from
            c.loop-next.invariant.value c.days_before.ensures.value (inr (omega (arith, w.if-days_before-day.false), w.month-is));
        from_one = (let is = w.month-is in omega (arith, is, c.loop-next.invariant.from_one));
        within = (let is = w.month-is in omega (arith, is, c.loop-next.invariant.within));
      }
    ]

pub returns-clause-value : goal.returns-clause-value
returns-clause-value c =
    let all : c.loop-next.next - 2 ≡ 11 = omega (arith, c.loop-next-test.false, c.loop-next.auto.next-end) in
    c.loop-next.invariant.value ∙ ap (month_up_to c.args.leap c.args.day) all
