use Rattle.std.proofs.Common.{◌≡◌, ℕ, Option, Some, sym, ap, ◌∙◌}
use Rattle.tsb_objects.specs.Checked.{checked_plan}
use Rattle.tsb_objects.specs.tsb_plan.Plan.{Plan}
use Rattle.tsb_objects.specs.tsb_plan.Running.{running, sequence_in_effect, is_coordinated_now, is_omitted_now}
use Rattle.tsb_coord.specs.Cells.{pattern_in}
use Rattle.tsb_coord.specs.Correction.{Correction, forces, lets_walk_again}
use Rattle.tsb_coord.specs.Layer.{cells_of}
use Rattle.tsb_coord.proofs.CorrectionLemmas.{selected_runs}
use Rattle.tsb_coord.proofs.coord.Coord.orders.Goals as goal

pub returns-in-Some : goal.returns-in-Some
returns-in-Some c =
    let plan : Plan = checked_plan c.args.plan.now in
    let selected : Option ℕ = pattern_in (cells_of c.args.self.now) in
    let n : ℕ = c.in-Some.n in
    let runs : Some n ≡ running plan selected = sym c.in-Some.is ∙ c.running.ensures.runs in
    let is : Some n ≡ selected = sym (selected_runs plan selected n (sym runs)) in
    record {
      orders = record {
        runs = runs;
        sequence = c.sequence_in_effect.ensures ∙ ap (sequence_in_effect plan) runs;
        hold = λ p from to. c.coordinated.ensures p from to ∙ ap (λ (o : Option ℕ). is_coordinated_now plan o p) runs;
        forced = λ p from to. c.asked_in-asked.ensures.forced p from to
            ∙ ap (λ (o : Option ℕ). forces plan o c.correction.result c.args.now p) is
            ∙ ap (λ (d : Correction). forces plan selected d c.args.now p) c.correction.ensures.value;
        recycle = λ p from to. c.asked_in-asked.ensures.recycle p from to
            ∙ ap (λ (o : Option ℕ). lets_walk_again plan o c.correction.result c.args.now p) is
            ∙ ap (λ (d : Correction). lets_walk_again plan selected d c.args.now p) c.correction.ensures.value;
        omit = λ p from to. c.omitted.ensures p from to ∙ ap (λ (o : Option ℕ). is_omitted_now plan o p) runs;
      };
    }
