-- Ticks in which nothing happens to the preempts: their cells and what they ask stay.
use Rattle.std.proofs.Common.{◌≡◌, ℕ, ◌+◌, ◌-◌, ◌<◌, ◌≤◌, ◌==◌, Bool, true, false, not, ◌&&◌, ◌||◌, List, slice_index, Option, Some, None, is_some, is_none, refl, sym, ◌∙◌, ap, subst, arith}
use Rattle.tsb_types.specs.declared.limits.TheConstants.{PREEMPTS}
use Rattle.tsb_types.specs.declared.flow.Intervals.{Intervals}
use Rattle.tsb_types.specs.declared.interval.Interval.{Interval}
use Rattle.tsb_types.specs.declared.number_set.NumberSet.{NumberSet}
use Rattle.tsb_types.specs.declared.row.Row.{Row}
use Rattle.tsb_types.specs.Flow.{interval_of}
use Rattle.tsb_types.specs.Lists.{run_from, first, is}
use Rattle.tsb_types.specs.Sets.{names, has_number, list_in, set_of_list}
use Rattle.tsb_objects.specs.tsb_plan.Plan.{Plan}
use Rattle.tsb_preempt.specs.declared.orders.PreemptOrders.{PreemptOrders}
use Rattle.tsb_preempt.specs.declared.serving.Serving.{Serving}
use Rattle.tsb_preempt.specs.Service.{Service, ends_dwell}
use Rattle.tsb_preempt.specs.Preempts.{Preempts, may_begin, if_may_begin, is_dwell, wanted_by, next_from_read}
use Rattle.tsb_preempt.specs.Cells.{service_in, preempts_in, IsBy}
use Rattle.tsb_preempt.specs.Promises.{given_by, IsSame, AreOrders, IsTicked, AreOrdered}
use Rattle.tsb_preempt.specs.Rows.{serving_of, IsServingBy, requests_by, served, spends}
use Rattle.tsb_preempt.specs.Layer.{AreDelayed}
use Rattle.tsb_preempt.specs.Done.{IsDone, ChangesNothing}
use Rattle.tsb_preempt.specs.Due.{StaysInService, IsWaiting, AreStanding}
use Rattle.tsb_preempt.proofs.ReadLemmas.{stays-by, read}
use Rattle.tsb_preempt.proofs.DoneLemmas.{IsFound, IsAsked, state, orders, done-kept}
use Rattle.tsb_objects.proofs.PassLemmas.{or-false}
use Rattle.tsb_types.proofs.FirstLemmas.{first-passes, first-within}

-- what is found before `due`
pub record IsQuiet (plan : Plan) (row : Row) (intervals : Intervals) (cells : List ℕ) (inputs spent : NumberSet) (was : Option Serving) (due : ℕ) : Type 0 where
  pub few : plan.counts.preempts ≤ PREEMPTS
  pub inputs_are : (n : ℕ) → has_number inputs n ≡ (has_number row.preempts n || names (list_in cells 0) n)
  pub spent_are : (n : ℕ) → has_number spent n ≡ names (list_in cells 1) n
  pub within : (n : ℕ) → (has_number spent n && not (has_number inputs n)) ≡ false
  pub delays : (t : ℕ) → AreDelayed t inputs cells cells
  pub was_is : (t : ℕ) → serving_of t was ≡ service_in t cells
  pub was_by : (t : ℕ) → IsBy t cells → IsServingBy t was
  pub waits : (t : ℕ) → ((n : ℕ) → 1 ≤ n → n ≤ PREEMPTS → slice_index cells (1 + n) ≤ t + 1) → t < due →
      (n : ℕ) → 1 ≤ n → n ≤ PREEMPTS → IsWaiting t t plan cells inputs spent was n
  pub serves : (t : ℕ) → IsServingBy t was → t < due → StaysInService plan (interval_of intervals) (has_number inputs) (serving_of t was)

-- ## Of values

and-not : (a b : Bool) → (a && not b) ≡ false → a ≡ (a && b)
and-not true true h = refl
and-not true false h = cc
and-not false b h = refl

and-true : (a : Bool) → (a && true) ≡ false → a ≡ false
and-true true h = h
and-true false h = refl

none-spends : (a b c : Bool) → c ≡ false → false ≡ ((true && (a && c)) && b)
none-spends true b c h = rw h refl
none-spends false b c h = refl

none-begins : (s : Option Service) (test : ℕ → Bool) (count : ℕ) → ((n : ℕ) → 1 ≤ n → n ≤ count → (may_begin s n && test n) ≡ false) →
    None ≡ if_may_begin s (first test (run_from 1 count))
none-begins s test count waits = go (first test (run_from 1 count)) refl
  where
    go : (o : Option ℕ) → first test (run_from 1 count) ≡ o → None ≡ if_may_begin s o
    go None e = refl
    go (Some m) e =
        let there = first-within test 1 count m e in
        let on : test m ≡ true = first-passes test (run_from 1 count) m e in
        let never : may_begin s m ≡ false =
        and-true (may_begin s m) (ap (λ (b : Bool). may_begin s m && b) (sym on) ∙ waits m there.0 (omega (arith, there.1))) in
        rw never refl

still-served : (plan : Plan) (interval : ℕ → Interval) (input : ℕ → Bool) (s : Option Service) → StaysInService plan interval input s → s ≡ served plan interval input s None
still-served plan interval input None stays = refl
still-served plan interval input (Some s) stays = sym stays.moves

still-spends : (plan : Plan) (interval : ℕ → Interval) (input : ℕ → Bool) (s : Option Service) (n : ℕ) → StaysInService plan interval input s → is n None ≡ spends plan input s None n
still-spends plan interval input None n stays = refl
still-spends plan interval input (Some s) n stays = none-spends (s.preempt == n) (input n) (is_dwell s.stage && ends_dwell plan (input s.preempt) s) stays.dwells

wanted-still : (now t : ℕ) (plan : Plan) (s : Option Serving) → wanted_by plan (serving_of now s) ≡ wanted_by plan (serving_of t s)
wanted-still now t plan None = refl
wanted-still now t plan (Some s) = refl

pub none-ends : (s : Option Service) → false ≡ (is_some s && is_none s)
none-ends None = refl
none-ends (Some s) = refl

-- ## Of one tick

abbrev asks_at : ℕ → Plan → List ℕ → NumberSet → NumberSet → Option ℕ
asks_at t plan cells inputs spent = first (λ n. requests_by t plan n (has_number inputs n) (has_number spent n) (slice_index cells (1 + n))) (run_from 1 plan.counts.preempts)

found-still : (t : ℕ) (plan : Plan) (row : Row) (intervals : Intervals) (cells : List ℕ) (inputs spent : NumberSet) (was : Option Serving) →
    plan.counts.preempts ≤ PREEMPTS →
    ((n : ℕ) → has_number inputs n ≡ (has_number row.preempts n || names (list_in cells 0) n)) → ((n : ℕ) → has_number spent n ≡ names (list_in cells 1) n) →
    ((n : ℕ) → (has_number spent n && not (has_number inputs n)) ≡ false) → AreDelayed t inputs cells cells → serving_of t was ≡ service_in t cells →
    ((n : ℕ) → 1 ≤ n → n ≤ PREEMPTS → IsWaiting t t plan cells inputs spent was n) → StaysInService plan (interval_of intervals) (has_number inputs) (serving_of t was) →
    IsFound t plan row intervals cells cells cells cells inputs spent spent was was (asks_at t plan cells inputs spent) None None
found-still t plan row intervals cells inputs spent was few inputs_are spent_are within delays was_is waits stays = record {
  few = few;
  inputs_are = inputs_are;
  still_are = λ n. and-not (has_number spent n) (has_number inputs n) (within n) ∙ ap (λ (b : Bool). b && has_number inputs n) (spent_are n);
  was_is = was_is;
  delays = delays;
  asks_is = refl;
  begins_is = none-begins (serving_of t was) (λ n. requests_by t plan n (has_number inputs n) (has_number spent n) (slice_index cells (1 + n)))
      plan.counts.preempts (λ n from to. waits n from (omega (arith, to, few)));
  serving_is = still-served plan (interval_of intervals) (has_number inputs) (serving_of t was) stays;
  spender_is = λ n. still-spends plan (interval_of intervals) (has_number inputs) (serving_of t was) n stays;
  spent_are = λ n. or-false (has_number spent n);
  listed = λ n from to. sym (spent_are n);
  lists = λ j other. refl;
  service_is = sym was_is;
  kept = λ j below. refl;
}

-- a tick that finds nothing to change
pub still-done : (t : ℕ) (plan : Plan) (row : Row) (intervals : Intervals) (cells : List ℕ) (inputs : NumberSet) (was : Option Serving) (answer : PreemptOrders) →
    plan.counts.preempts ≤ PREEMPTS → IsBy t cells →
    ((n : ℕ) → has_number inputs n ≡ (has_number row.preempts n || names (list_in cells 0) n)) → serving_of t was ≡ service_in t cells →
    ChangesNothing t plan intervals inputs cells was → IsAsked t plan was was answer → IsDone t plan (given_by row intervals) cells cells answer
still-done t plan row intervals cells inputs was answer few by told was_is still asked =
    let spent : NumberSet = set_of_list (list_in cells 1) in
    done-kept t plan row intervals cells cells cells cells inputs spent spent was was (asks_at t plan cells inputs spent) None None by
    (found-still t plan row intervals cells inputs spent was few told (λ n. refl) still.settled.spent still.settled.delays was_is still.waits still.stays) answer asked by

-- ## Of ticks

module _ (now : ℕ) (plan : Plan) (row : Row) (intervals : Intervals) (cells : List ℕ) (inputs spent : NumberSet) (was : Option Serving) (due : ℕ)
    (by : IsBy now cells) (s : IsQuiet plan row intervals cells inputs spent was due) where
  abbrev asks : ℕ → Option ℕ
  asks t = asks_at t plan cells inputs spent

  found : (t : ℕ) → IsBy t cells → t < due → IsFound t plan row intervals cells cells cells cells inputs spent spent was was (asks t) None None
  found t late before =
      found-still t plan row intervals cells inputs spent was s.few s.inputs_are s.spent_are s.within (s.delays t) (s.was_is t)
      (s.waits t (λ n from to. (late.each n from to).delay) before) (s.serves t (s.was_by t late) before)

  pub quiet : (t : ℕ) → now < t → t < due → IsTicked t row intervals plan cells cells
  quiet t after before =
      let early : IsBy (t - 1) cells = stays-by now (t - 1) cells (omega arith) by in
      let late : IsBy t cells = stays-by now t cells (omega arith) by in
      subst (λ (w : Preempts). IsSame (preempts_in t cells) (next_from_read plan (given_by row intervals) w)) (sym (read t cells (omega arith) early))
      (state t plan row intervals cells cells cells cells inputs spent spent was was (asks t) None None late (found t late before))

  asked : (t : ℕ) (answer : PreemptOrders) → AreStanding now plan cells answer → IsAsked t plan was was answer
  unfolding preempts_in
  asked t answer standing = record {
    target_is = standing.target ∙ ap (wanted_by plan) (sym (s.was_is now)) ∙ wanted-still now t plan was;
    must_end_is = standing.must_end;
    ended_is = standing.ended ∙ none-ends (serving_of t was);
  }

  pub standing : (t : ℕ) → now < t → t < due → (answer : PreemptOrders) → AreStanding now plan cells answer → AreOrdered t row intervals plan cells answer
  standing t after before answer stands =
      let early : IsBy (t - 1) cells = stays-by now (t - 1) cells (omega arith) by in
      let late : IsBy t cells = stays-by now t cells (omega arith) by in
      subst (λ (w : Preempts). AreOrders plan (given_by row intervals) w answer) (sym (read t cells (omega arith) early))
      (orders t plan row intervals cells cells cells cells inputs spent spent was was (asks t) None None late (found t late before) answer (asked t answer stands))
