use Rattle.std.proofs.Common.{◌≡◌, ℕ, ◌<◌, Bool, true, false, None, Some, refl, sym, ◌∙◌, subst, inl, inr}
use Rattle.std.proofs.lemmas.Bool.Decides.{eqb_tells}
use Rattle.tsb_objects.specs.tsb_types.Lists.{run_from}
use Rattle.tsb_objects.specs.tsb_types.Sets.{has}
use Rattle.tsb_objects.proofs.tsb_types.FirstLemmas.{first-same}
use Rattle.tsb_objects.specs.tsb_plan.PlanOf.{plan_of}
use Rattle.tsb_objects.specs.Checked.{checked_plan}
use Rattle.tsb_heads.specs.Heads.{Heads}
use Rattle.tsb_heads.specs.Monitoring.{are_in_conflict, conflict_of}
use Rattle.tsb_heads.specs.Judging.{HaveWayOrArrow}
use Rattle.tsb_heads.proofs.ConflictLemmas.{after, left-is, others-are, none-without-way, found-pair, found-none}
use Rattle.tsb_heads.proofs.monitor.least_conflict.Goals as goal

pub returns-in-Some-first : goal.returns-in-Some-first
unfolding conflict_of checked_plan plan_of
returns-in-Some-first c = λ heads have.
    let seen = c.in-Some.ensures in
    let held = c.loop-p.invariant in
    let p : ℕ = c.in-Some.p in
    let left = left-is c.args.way c.loop-p.rest c.pop.new.self p held.within held.later seen.had seen.least seen.taken seen.others in
    let pair : Some c.in-Some-first.q ≡ conflict_of (checked_plan c.args.plan.now) heads p = c.in-Some-first.ensures.found ∙ first-same _ (are_in_conflict (checked_plan c.args.plan.now) heads p) (run_from 1 16)
    (λ q. others-are (checked_plan c.args.plan.now) heads c.args.way p q _ (has c.pop.new.self q) have (held.within p seen.had) (left q)
    (c.difference.ensures q ∙ rw (c.concurrent_to.ensures.row q) refl)) in
    let before : (r : ℕ) → r < p → conflict_of (checked_plan c.args.plan.now) heads r ≡ None = λ r below.
    go heads have r (seen.least r below) (has c.args.way r) refl in
    found-pair (checked_plan c.args.plan.now) heads p c.in-Some-first.q refl seen.from seen.within before (sym pair)
  where
    go : (heads : Heads) → HaveWayOrArrow (checked_plan c.args.plan.now) heads c.args.way → (r : ℕ) → has c.loop-p.rest r ≡ false → (w : Bool) → has c.args.way r ≡ w →
        conflict_of (checked_plan c.args.plan.now) heads r ≡ None
    go heads have r out true e = c.loop-p.invariant.none heads have r e out
    go heads have r out false e = none-without-way (checked_plan c.args.plan.now) heads r (sym (have r) ∙ e)

pub loop-p-preserved : goal.loop-p-preserved
unfolding conflict_of checked_plan plan_of
loop-p-preserved c =
    let seen = c.in-Some.ensures in
    let held = c.loop-p.invariant in
    let p : ℕ = c.in-Some.p in
    let plan = checked_plan c.args.plan.now in
    let left = left-is c.args.way c.loop-p.rest c.pop.new.self p held.within held.later seen.had seen.least seen.taken seen.others in
    record {
      within = λ q is.
          elim (eqb_tells q p) [
            | inl same ↦ subst (λ (n : ℕ). has c.args.way n ≡ true) (sym same.1) (held.within p seen.had)
            | inr other ↦ held.within q (sym (seen.others q other.1) ∙ is)
          ];
      later = λ q way out r is. after p q r _ _ _ _ (left q) (left r) way out is;
      none = λ heads have q way out.
          elim (eqb_tells q p) [
            | inl same ↦ subst (λ (n : ℕ). conflict_of plan heads n ≡ None) (sym same.1)
                (sym (c.in_default-first.ensures.found ∙ first-same _ (are_in_conflict plan heads p) (run_from 1 16)
                (λ r. others-are plan heads c.args.way p r _ (has c.pop.new.self r) have (held.within p seen.had) (left r)
                (c.difference.ensures r ∙ rw (c.concurrent_to.ensures.row r) refl))))
            | inr other ↦ held.none heads have q way (sym (seen.others q other.1) ∙ out)
          ];
    }

pub returns : goal.returns
returns c = λ heads have. found-none (checked_plan c.args.plan.now) heads (λ r. go heads have r (has c.args.way r) refl)
  where
    go : (heads : Heads) → HaveWayOrArrow (checked_plan c.args.plan.now) heads c.args.way → (r : ℕ) → (w : Bool) → has c.args.way r ≡ w →
        conflict_of (checked_plan c.args.plan.now) heads r ≡ None
    go heads have r true e = c.loop-p.invariant.none heads have r e (c.in_default.ensures.none refl r)
    go heads have r false e = none-without-way (checked_plan c.args.plan.now) heads r (sym (have r) ∙ e)
