-- The moves of the rings on the phases, one call after the other.
use Rattle.std.proofs.Common.{◌≡◌, ℕ, ◌≤◌, Bool, true, false, ◌||◌, if◌then◌else◌, List, Option, refl, ap, ◌∙◌, inl, inr}
use Rattle.std.proofs.lemmas.Bool.{cases_Bool}
use Rattle.tsb_step.specs.tsb_types.declared.flow.Moves.{Moves}
use Rattle.tsb_step.specs.tsb_types.declared.flow.Timing.{Timing}
use Rattle.tsb_step.specs.tsb_types.declared.interval.Interval.TheVariants.{Yellow}
use Rattle.tsb_step.specs.tsb_types.Lists.{is}
use Rattle.tsb_step.specs.tsb_types.Sets.{has, is_phase}
use Rattle.tsb_step.specs.tsb_plan.Plan.{Plan}
use Rattle.tsb_phase.specs.declared.conditions.Conditions.{Conditions}
use Rattle.tsb_phase.specs.Phase.{Phase, Given}
use Rattle.tsb_phase.specs.Moves.{ended, cleared, started_by, once_ended, once_cleared, once_started}
use Rattle.tsb_phase.specs.Promises.{given_of, IsClearing}
use Rattle.tsb_phase.specs.Cells.{phase_in, row_in}
use Rattle.tsb_controller.specs.Carried.{IsEndedIf, IsClearedIf, IsStartedIf, AreApart, IsCarriedOut, moved_by}

-- two calls, of phases that are not the same
twice : {A : Type 0} (a b : Bool) (f : A → A) (x : A) → (a ≡ true → b ≡ true → ⊥) →
    (if b then f (if a then f x else x) else (if a then f x else x)) ≡ (if a || b then f x else x)
twice true true f x apart = absurd (apart refl refl)
twice true false f x apart = refl
twice false true f x apart = refl
twice false false f x apart = refl

-- or where the second does nothing more
again : {A : Type 0} (a b : Bool) (f : A → A) (x : A) → f (f x) ≡ f x →
    (if b then f (if a then f x else x) else (if a then f x else x)) ≡ (if a || b then f x else x)
again true true f x same = same
again true false f x same = refl
again false true f x same = refl
again false false f x same = refl

-- the interval is the same at whatever tick the cells are read
pub same-interval : (m n : ℕ) (row : List ℕ) (p : ℕ) → (phase_in m row p).interval ≡ (phase_in n row p).interval
unfolding phase_in row_in
same-interval m n row p =
    elim (cases_Bool (is_phase p)) [
      | inl on ↦ rw on refl
      | inr out ↦ rw out refl
    ]

-- a phase that may be cleared may still be cleared once greens have ended
pub still-clearing : (p now : ℕ) (o : Option ℕ) (timing : Timing) (c : Conditions) (plan : Plan) (old new : List ℕ) → 1 ≤ p → p ≤ 16 →
    IsEndedIf o now timing c plan old new → IsClearing p old → IsClearing p new
still-clearing p now o timing c plan old new from to done clearing at =
    elim (cases_Bool (is p o)) [
      | inl on ↦
          (let here : (phase_in at new p).interval ≡ Yellow =
          same-interval at now new p ∙ ap (λ (x : Phase). x.interval) (done p from to) ∙ rw on refl in
          (rw here refl, rw here refl))
      | inr off ↦
          (let here : (phase_in at new p).interval ≡ (phase_in at old p).interval =
          same-interval at now new p ∙ ap (λ (x : Phase). x.interval) (done p from to) ∙ rw off (same-interval now at old p) in
          (rw here (clearing at).0, rw here (clearing at).1))
    ]

-- or the other ring's phase has gone Red
pub other-clearing : (p : ℕ) (o : Option ℕ) (old new : List ℕ) → 1 ≤ p → p ≤ 16 → (is p o ≡ true → ⊥) →
    IsClearedIf o old new → IsClearing p old → IsClearing p new
other-clearing p o old new from to apart done clearing at =
    elim (cases_Bool (is p o)) [
      | inl on ↦ absurd (apart on)
      | inr off ↦
          (let here : phase_in at new p ≡ phase_in at old p = done at p from to ∙ rw off refl in
          (rw here (clearing at).0, rw here (clearing at).1))
    ]

pub carried : (m : Moves) (now : ℕ) (timing : Timing) (c : Conditions) (plan : Plan) (r0 r1 r2 r3 r4 r5 r6 : List ℕ) → AreApart m →
    IsEndedIf m.first.ends now timing c plan r0 r1 → IsEndedIf m.second.ends now timing c plan r1 r2 →
    IsClearedIf m.first.clears r2 r3 → IsClearedIf m.second.clears r3 r4 →
    IsStartedIf m.first.starts now c plan r4 r5 → IsStartedIf m.second.starts now c plan r5 r6 →
    IsCarriedOut m now timing c plan r0 r6
carried m now timing c plan r0 r1 r2 r3 r4 r5 r6 apart one two three four five six q from to =
    let g : Given = given_of c in
    let over : Bool = has timing.gapped q in
    let ends : phase_in now r2 q ≡ once_ended plan g (moved_by m) q over (phase_in now r0 q) =
    two q from to ∙ ap (λ (x : Phase). if is q m.second.ends then ended plan g q over x else x) (one q from to)
    ∙ twice (is q m.first.ends) (is q m.second.ends) (ended plan g q over) (phase_in now r0 q) (apart.ends q) in
    let clears : phase_in now r4 q ≡ once_cleared (moved_by m) q (phase_in now r2 q) =
    four now q from to ∙ ap (λ (x : Phase). if is q m.second.clears then cleared x else x) (three now q from to)
    ∙ twice (is q m.first.clears) (is q m.second.clears) cleared (phase_in now r2 q) (apart.clears q) in
    let starts : phase_in now r6 q ≡ once_started plan g (moved_by m) q (phase_in now r4 q) =
    six q from to ∙ ap (λ (x : Phase). if is q m.second.starts then started_by plan g q x else x) (five q from to)
    ∙ again (is q m.first.starts) (is q m.second.starts) (started_by plan g q) (phase_in now r4 q) refl in
    starts ∙ ap (once_started plan g (moved_by m) q) (clears ∙ ap (once_cleared (moved_by m) q) ends)
