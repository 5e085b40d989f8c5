use Rattle.tsb_field.proofs.run.run_wish.Goals as goal

pub returns-in-Events : goal.returns-in-Events
returns-in-Events g c = rw c.in-Events.is c.write_events.ensures

pub returns-in-Diagram : goal.returns-in-Diagram
returns-in-Diagram g c = rw c.in-Diagram.is c.write_diagram.ensures

pub returns-in-Review : goal.returns-in-Review
returns-in-Review g c = rw c.in-Review.is c.review_plan.ensures

pub returns-in-Schedule : goal.returns-in-Schedule
returns-in-Schedule g c = rw c.in-Schedule.is c.write_schedule.ensures

pub returns-in-Worksheet : goal.returns-in-Worksheet
returns-in-Worksheet g c = rw c.in-Worksheet.is c.write_worksheet_of.ensures

pub returns-in-Card : goal.returns-in-Card
returns-in-Card g c = rw c.in-Card.is c.write_card_of.ensures
