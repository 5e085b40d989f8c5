-- Whole runs, their desks aside: two that give the same and put the same plans into effect are the same.
use Rattle.std.proofs.Common.{◌≡◌, Bool, true, false, List, [], ◌∷◌, refl, sym, ap, ◌∙◌, subst, inl, inr}
use Rattle.std.proofs.lemmas.Bool.{cases_Bool}
use Rattle.tsb_objects.specs.tsb_plan.Plan.{Plan}
use Rattle.tsb_objects.specs.tsb_plan.Objects.{is_structural}
use Rattle.tsb_transact.specs.Desk.{with_edits}
use Rattle.tsb_transact.specs.Commit.{forgets_last_phases}
use Rattle.tsb_transact.specs.Calls.{committed_plan}
use Rattle.tsb_step.specs.declared.inputs.Input.{Input}
use Rattle.tsb_step.specs.declared.inputs.Input.TheVariants.{Begin, Set, Verify, Commit, Abort}
use Rattle.tsb_step.specs.State.{State}
use Rattle.tsb_step.specs.Step.{step}
use Rattle.tsb_step.specs.Signs.{display}
use Rattle.tsb_step.specs.Runs.{replay}
use Rattle.tsb_step.specs.DeskLaws.{is_of_desk, is_commit, by_any_station, told, put_into_effect, without_desk}
use Rattle.tsb_step.proofs.DeskLemmas.{change_the_desk_alone, leave_the_desk, read_no_desk, put, commit_puts, is_itself, still_commits}
use Rattle.tsb_step.proofs.OnceLemmas.{AreOnce, once_with, change_alike}

-- ## The edits of each desk are once

once_after : (s : State) (i : Input) → AreOnce s.desk.edits → AreOnce (step s i).desk.edits
unfolding step
once_after s (Begin station) once = tt
once_after s (Set station id v) once = once_with (record { id = id; value = v }) s.desk.edits once
once_after s (Verify station) once = once
once_after s (Commit station) once = tt
once_after s (Abort station) once = tt
once_after s i once = subst (λ d. AreOnce d.edits) (sym (leave_the_desk s i refl refl)) once

run_is_once : (plan : Plan) (is : List Input) → AreOnce (replay plan is).desk.edits
run_is_once plan [] = tt
run_is_once plan (i ∷ is) = once_after (replay plan is) i (run_is_once plan is)

-- ## One input of each run

abbrev AreAlike : Plan → List Input → List Input → Type 0
AreAlike plan is js = told is ≡ told js → put_into_effect plan is ≡ put_into_effect plan js →
    without_desk (replay plan is) ≡ without_desk (replay plan js)

-- the rings forget in both or in neither
forget_alike : (plan : Plan) (is js : List Input) → without_desk (replay plan is) ≡ without_desk (replay plan js) →
    committed_plan (replay plan is).plan (replay plan is).desk ≡ committed_plan (replay plan js).plan (replay plan js).desk →
    forgets_last_phases (replay plan is).plan (replay plan is).desk.edits
    ≡ forgets_last_phases (replay plan js).plan (replay plan js).desk.edits
forget_alike plan is js same next =
    let s : State = replay plan is in
    let t : State = replay plan js in
    let plans : s.plan ≡ t.plan = ap (λ x. x.plan) same in
    change_alike is_structural s.plan s.desk.edits t.desk.edits (run_is_once plan is) (run_is_once plan js)
    (next ∙ ap (λ x. with_edits x t.desk.edits) (sym plans)) ∙
    ap (λ x. forgets_last_phases x t.desk.edits) plans

commit_alike : (plan : Plan) (i j : Input) (is js : List Input) → is_commit i ≡ true → is_commit j ≡ true →
    without_desk (replay plan is) ≡ without_desk (replay plan js) →
    committed_plan (replay plan is).plan (replay plan is).desk ≡ committed_plan (replay plan js).plan (replay plan js).desk →
    without_desk (replay plan (i ∷ is)) ≡ without_desk (replay plan (j ∷ js))
commit_alike plan i j is js first second same next =
    let s : State = replay plan is in
    let t : State = replay plan js in
    let forget : Bool = forgets_last_phases s.plan s.desk.edits in
    let forget_too : Bool = forgets_last_phases t.plan t.desk.edits in
    commit_puts s i first ∙
    (ap (λ x. put x forget (without_desk s)) next ∙
    (ap (λ b. put (committed_plan t.plan t.desk) b (without_desk s)) (forget_alike plan is js same next) ∙
    (ap (λ x. put (committed_plan t.plan t.desk) forget_too x) same ∙
    sym (commit_puts t j second))))

other_alike : (s t : State) (i : Input) → is_of_desk i ≡ false → is_commit i ≡ false → without_desk s ≡ without_desk t →
    without_desk (step s i) ≡ without_desk (step t i)
other_alike s t i off commits same =
    read_no_desk s i off commits ∙ (ap (λ x. without_desk (step x i)) same ∙ sym (read_no_desk t i off commits))

heads : (a b : Input) (xs ys : List Input) → a ∷ xs ≡ b ∷ ys → (a ≡ b) × (xs ≡ ys)
heads a b xs ys e = (cc, cc)

plan_heads : (a b : Plan) (xs ys : List Plan) → a ∷ xs ≡ b ∷ ys → (a ≡ b) × (xs ≡ ys)
plan_heads a b xs ys e = (cc, cc)

both_alike : (plan : Plan) (i j : Input) (is js : List Input) → is_of_desk i ≡ false → is_of_desk j ≡ false →
    AreAlike plan is js → AreAlike plan (i ∷ is) (j ∷ js)
both_alike plan i j is js off off_too alike same plans =
    let tells = heads (by_any_station i) (by_any_station j) (told is) (told js) (rw off_too at (rw off at same)) in
    let commits_too : is_commit i ≡ is_commit j = sym (still_commits i) ∙ (ap is_commit tells.0 ∙ still_commits j) in
    elim (cases_Bool (is_commit i)) [
      | inl commits ↦
          let commits_also : is_commit j ≡ true = sym commits_too ∙ commits in
          let puts = plan_heads (committed_plan (replay plan is).plan (replay plan is).desk)
          (committed_plan (replay plan js).plan (replay plan js).desk) (put_into_effect plan is) (put_into_effect plan js)
          (rw commits_also at (rw commits at plans)) in
          commit_alike plan i j is js commits commits_also (alike tells.1 puts.1) puts.0
      | inr other ↦
          let other_also : is_commit j ≡ false = sym commits_too ∙ other in
          let one : i ≡ j = sym (is_itself i other) ∙ (tells.0 ∙ is_itself j other_also) in
          let before : without_desk (replay plan is) ≡ without_desk (replay plan js) =
          alike tells.1 (rw other_also at (rw other at plans)) in
          other_alike (replay plan is) (replay plan js) i off other before ∙
          ap (λ x. without_desk (step (replay plan js) x)) one
    ]

-- ## Both runs

no_commit : (i : Input) → is_of_desk i ≡ true → is_commit i ≡ false
no_commit (Commit station) of = cc
no_commit i of = refl

-- an input of the desk makes no difference
left_out : (plan : Plan) (i : Input) (is : List Input) → is_of_desk i ≡ true →
    (told (i ∷ is) ≡ told is) × (put_into_effect plan (i ∷ is) ≡ put_into_effect plan is)
    × (without_desk (replay plan (i ∷ is)) ≡ without_desk (replay plan is))
left_out plan i is of =
    (rw of refl, rw (no_commit i of) refl, ap without_desk (change_the_desk_alone (replay plan is) i of))

second_left_out : (plan : Plan) (is : List Input) (j : Input) (js : List Input) → is_of_desk j ≡ true →
    AreAlike plan is js → AreAlike plan is (j ∷ js)
second_left_out plan is j js of alike same plans =
    let out = left_out plan j js of in
    alike (same ∙ out.0) (plans ∙ out.1) ∙ sym out.2

first_left_out : (plan : Plan) (i : Input) (is js : List Input) → is_of_desk i ≡ true →
    AreAlike plan is js → AreAlike plan (i ∷ is) js
first_left_out plan i is js of alike same plans =
    let out = left_out plan i is of in
    out.2 ∙ alike (sym out.0 ∙ same) (sym out.1 ∙ plans)

not_nothing : (x : Input) (xs : List Input) → [] ≡ x ∷ xs → ⊥
not_nothing x xs e = cc

from_nothing : (plan : Plan) (js : List Input) → AreAlike plan [] js
from_nothing plan [] = λ same plans. refl
from_nothing plan (j ∷ js) =
    elim (cases_Bool (is_of_desk j)) [
      | inl of ↦ second_left_out plan [] j js of (from_nothing plan js)
      | inr off ↦ (λ same plans. absurd (not_nothing (by_any_station j) (told js) (rw off at same)))
    ]

by_second : (plan : Plan) (i : Input) (is : List Input) → is_of_desk i ≡ false → ((ks : List Input) → AreAlike plan is ks) →
    (js : List Input) → AreAlike plan (i ∷ is) js
by_second plan i is off alike [] =
    λ same plans. absurd (not_nothing (by_any_station i) (told is) (sym (rw off at same)))
by_second plan i is off alike (j ∷ js) =
    elim (cases_Bool (is_of_desk j)) [
      | inl of ↦ second_left_out plan (i ∷ is) j js of (by_second plan i is off alike js)
      | inr off_too ↦ both_alike plan i j is js off off_too (alike js)
    ]

pub act_by_plans : (plan : Plan) (is js : List Input) → AreAlike plan is js
act_by_plans plan [] js = from_nothing plan js
act_by_plans plan (i ∷ is) js =
    elim (cases_Bool (is_of_desk i)) [
      | inl of ↦ first_left_out plan i is js of (act_by_plans plan is js)
      | inr off ↦ by_second plan i is off (λ ks. act_by_plans plan is ks) js
    ]

-- a display shows nothing of the desk
shows_no_desk : (s : State) → display s ≡ display (without_desk s)
unfolding display
shows_no_desk s = refl

pub show_the_same : (plan : Plan) (is js : List Input) → told is ≡ told js →
    put_into_effect plan is ≡ put_into_effect plan js → display (replay plan is) ≡ display (replay plan js)
show_the_same plan is js same plans =
    shows_no_desk (replay plan is) ∙ (ap display (act_by_plans plan is js same plans) ∙ sym (shows_no_desk (replay plan js)))
