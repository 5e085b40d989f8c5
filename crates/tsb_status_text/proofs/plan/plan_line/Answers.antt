use Rattle.std.proofs.Common.{◌≡◌, ◌∙◌, ◌++◌, List, ℕ, [], ap, refl}
use Rattle.json.specs.Print.{print}
use Rattle.tsb_plan.specs.Objects.{objects}
use Rattle.tsb_plan.specs.PlanOf.{plan_of}
use Rattle.tsb_plan.specs.Versions.{number_of}
use Rattle.tsb_plan_text.specs.PlanText.{reading}
use Rattle.tsb_status_text.specs.PlanLine.{plan_text}
use Rattle.tsb_status_text.proofs.TokenLemmas.{plan-on}
use Rattle.tsb_status_text.proofs.plan.plan_line.Goals as goal

pub returns-clause-line : goal.returns-clause-line
unfolding plan_text objects
returns-clause-line c =
    let before : c.write_objects.new.writer.before ≡ [] =
    c.write_objects.ensures.before ∙ c.u64.ensures.room.0 ∙ c.key.ensures.room.0 ∙ c.begin_object.ensures.room.0 ∙ c.new-writer.ensures.before ∙ c.new.ensures.items in
    c.into_inner.ensures.items
    ∙ ap (λ (bytes : List ℕ). bytes ++ print c.write_objects.new.writer.tokens) before
    ∙ ap print
    (plan-on (plan_of c.args.plan.now) _ _ c.new-writer.result.tokens c.begin_object.new.self.tokens c.key.new.self.tokens c.u64.new.self.tokens c.write_objects.new.writer.tokens
    refl (c.from.ensures ∙ c.number.ensures ∙ ap number_of c.version_for.ensures) c.new-writer.ensures.tokens c.in_ok-begin_object.ensures.ok c.in_ok-key.ensures.ok c.in_ok-u64.ensures.ok c.in_ok-write_objects.ensures.tokens)

pub returns-clause-reads_back : goal.returns-clause-reads_back
unfolding plan_of
returns-clause-reads_back c = λ sound.
    ap reading (returns-clause-line c)
    ∙ c.lines_are_read_back.ensures.reads (plan_of c.args.plan.now)
    (record { phases = refl; sides = refl; counts = refl; ranged = c.args.plan.now.ranged.each; elsewhere = λ o i hasnt. rw hasnt refl }) sound
