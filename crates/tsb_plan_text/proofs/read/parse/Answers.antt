use Rattle.std.proofs.Common.{◌≡◌, None, refl, inl, inr, sym, ◌∙◌}
use Rattle.serde_json.specs.Errors.{IsMemory}
use Rattle.serde_json.specs.View.{view}
use Rattle.tsb_plan_text.specs.PlanText.{data_of}
use Rattle.tsb_plan_text.specs.declared.error.PlanError.TheVariants.{Memory, NotJson}
use Rattle.tsb_plan_text.proofs.TextLemmas.{some_data, no_data}
use Rattle.tsb_plan_text.proofs.read.parse.Goals as goal

pub returns-in-Ok : goal.returns-in-Ok
returns-in-Ok c = rw (some_data c.args.text.now (view c.in-Ok.value) c.in-Ok.ensures.ok.0 c.in-Ok.ensures.ok.1) refl

pub returns-in-Err : goal.returns-in-Err
returns-in-Err c =
    elim c.json_fault.ensures.one [
      | inl memory ↦ rw memory tt
      | inr not_json ↦
          let other : IsMemory c.in-Err.error → ⊥ = λ m. absurd (let both : Memory ≡ NotJson = sym (c.json_fault.ensures.memory.1 m) ∙ not_json in cc) in
          let none : data_of c.args.text.now ≡ None = no_data c.args.text.now (c.in-Err.ensures.err other) in
          rw (not_json, none) refl
    ]
