use Rattle.std.proofs.Common.{ℕ, ◌≤◌, sym, ◌∙◌, subst, arith, inl, inr}
use Rattle.std.proofs.lemmas.Bool.Decides.{eqb_tells}
use Rattle.tsb_objects.specs.tsb_plan.Plan.{Plan}
use Rattle.tsb_objects.specs.tsb_plan.PlanOf.{plan_of}
use Rattle.tsb_phase.specs.declared.phase_row.PhaseRow.{PhaseRow}
use Rattle.tsb_phase.specs.Phase.{Given}
use Rattle.tsb_phase.specs.Promises.{given_of}
use Rattle.tsb_phase.specs.Cells.{row_in, IsRowBy}
use Rattle.tsb_phase.specs.Due.{IsStill, IsRevertedAs}
use Rattle.tsb_phase.specs.Layer.{cells_of}
use Rattle.tsb_phase.proofs.ReadLemmas.{later}
use Rattle.tsb_phase.proofs.DueLemmas.{red-still}
use Rattle.tsb_phase.proofs.phases.Phases.still_until.Goals as goal

pub loop-p-init : goal.loop-p-init
loop-p-init c = record {
  reverts = c.reverts_due-due.ensures;
  still = λ t q after soon from within out.
      let now : ℕ = c.args.now in
      let row : PhaseRow = row_in (cells_of c.args.self.now) q in
      let by : IsRowBy now row = c.requires.by q from within in
      red-still (plan_of c.args.plan.now) (given_of c.args.conditions.now) q row now t (sym (c.in_service-rest.ensures q) ∙ out)
      (later now t row (omega (arith, after)) by) (c.reverts_due-due.ensures t q soon from within (omega (arith, after)) by.red_revert);
}

pub loop-p-preserved : goal.loop-p-preserved
loop-p-preserved c =
    let p : ℕ = c.in-Some.p in
    let now : ℕ = c.args.now in
    let plan : Plan = plan_of c.args.plan.now in
    let given : Given = given_of c.args.conditions.now in
    let cells = cells_of c.args.self.now in
    record {
      reverts = λ t q soon from within. c.loop-p.invariant.reverts t q (omega (arith, soon)) from within;
      still = λ t q after soon from within out.
          elim (eqb_tells q p) [
            | inl same ↦
                (let here : 1 ≤ p = subst (λ (n : ℕ). 1 ≤ n) same.1 from in
                let last : p ≤ 16 = subst (λ (n : ℕ). n ≤ 16) same.1 within in
                let by : IsRowBy now (row_in cells p) = c.requires.by p here last in
                let reverts : IsRevertedAs plan p (row_in cells p) now t = c.loop-p.invariant.reverts t p (omega (arith, soon)) here last (omega (arith, after)) by.red_revert in
                subst (λ (n : ℕ). IsStill plan given n (row_in cells n) now t) (sym same.1)
                (subst (λ (r : PhaseRow). IsRevertedAs plan p r now t → IsStill plan given p r now t) c.load-was.ensures
                (c.due_of-turns.ensures t after (omega (arith, soon))) reverts))
            | inr other ↦ c.loop-p.invariant.still t q after (omega (arith, soon)) from within (sym (c.in-Some.ensures.others q other.1) ∙ out)
          ];
    }
