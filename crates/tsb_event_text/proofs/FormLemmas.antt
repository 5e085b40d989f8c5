-- Zones of clocks, and the words of forms.
use Rattle.std.proofs.Common.{refl, arith}
use Rattle.tsb_event_text.specs.declared.time_forms.TimeForm.TheVariants.{YearFirst, MonthFirst, DayFirst, Seconds, Milliseconds}
use Rattle.tsb_event_text.specs.Laws.{AreOneMoment, FormsAreNamed, OwnClocksStay}

pub one-moment : AreOneMoment
one-moment zone one other nanos early late = omega (arith, early, late)

pub own-stay : OwnClocksStay
own-stay zone nanos = omega arith

pub forms-named : FormsAreNamed
forms-named YearFirst = refl
forms-named MonthFirst = refl
forms-named DayFirst = refl
forms-named Seconds = refl
forms-named Milliseconds = refl
