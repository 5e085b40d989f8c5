use Rattle.std.proofs.Common.{◌++◌, ℕ, List, codes}
use Rattle.tsb_field_diagram.specs.Week.{days_text, hours_text, of_each, week_drawing, week_head, week_label, week_plot}
use Rattle.tsb_field_diagram.proofs.CountLemmas.{then}
use Rattle.tsb_field_diagram.proofs.WeekLemmas.{texts}
use Rattle.tsb_field_diagram.proofs.week.append_week.Goals as goal

pub returns : goal.returns
unfolding week_drawing
returns c =
    let title = c.args.title.now in let days = texts c.args.days.now in let bands = c.args.bands.now in
    let r5 : List ℕ = codes "</svg>\n</svg>\n" in
    let r4 : List ℕ = of_each week_label bands ++ r5 in
    let r3 : List ℕ = week_plot bands ++ r4 in
    let r2 : List ℕ = hours_text ++ r3 in
    let r1 : List ℕ = days_text 0 days ++ r2 in
    then c.append.result c.args.text.now.items c.append_week_head.new.text.items c.append.new.text.items (week_head title) r1 c.in_ok-append_week_head.ensures
    (then c.append.result c.append_week_head.new.text.items c.append_days.new.text.items c.append.new.text.items (days_text 0 days) r2 c.in_ok-append_days.ensures
    (then c.append.result c.append_days.new.text.items c.append_hours.new.text.items c.append.new.text.items hours_text r3 c.in_ok-append_hours.ensures
    (then c.append.result c.append_hours.new.text.items c.append_plot.new.text.items c.append.new.text.items (week_plot bands) r4 c.in_ok-append_plot.ensures
    (then c.append.result c.append_plot.new.text.items c.append_labels.new.text.items c.append.new.text.items (of_each week_label bands) r5 c.in_ok-append_labels.ensures c.append.ensures))))
