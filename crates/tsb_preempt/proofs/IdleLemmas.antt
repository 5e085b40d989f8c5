-- A tick in which no input is on, no delay timer runs, none is spent and none is in service changes nothing.
use Rattle.std.proofs.Common.{◌≡◌, ℕ, ◌+◌, ◌-◌, ◌%◌, ◌≤◌, Bool, false, ◌&&◌, ◌||◌, List, slice_index, None, refl, sym, ◌∙◌, ap, subst, inl, inr, arith}
use Rattle.std.proofs.lemmas.Bool.{cases_Bool}
use Rattle.std.proofs.Math.Bool.{and-false}
use Rattle.tsb_types.specs.declared.limits.TheConstants.{PREEMPTS}
use Rattle.tsb_types.specs.declared.flow.Intervals.{Intervals}
use Rattle.tsb_types.specs.declared.number_set.NumberSet.{NumberSet}
use Rattle.tsb_types.specs.declared.row.Row.{Row}
use Rattle.tsb_types.specs.Sets as sets
use Rattle.tsb_types.specs.Sets.{names, has_number, list_in, set_of_list}
use Rattle.tsb_types.proofs.SetLemmas.{names-zero, same-list_of}
use Rattle.tsb_objects.specs.tsb_plan.Plan.{Plan}
use Rattle.tsb_preempt.specs.declared.orders.PreemptOrders.{PreemptOrders}
use Rattle.tsb_preempt.specs.Preempts.{Preempts, wanted_by, next_from_read}
use Rattle.tsb_preempt.specs.Cells.{service_in, preempts_in, IsBy}
use Rattle.tsb_preempt.specs.Promises.{given_by, IsSame, IsTicked, AreOrders, AreOrdered}
use Rattle.tsb_preempt.specs.Rows.{delay_cell, requests_by}
use Rattle.tsb_preempt.specs.Done.{IsDone, IsIdle}
use Rattle.tsb_preempt.specs.Due.{AreStanding}
use Rattle.tsb_preempt.proofs.ReadLemmas.{switches-told, stays-by, read}
use Rattle.tsb_preempt.proofs.ServiceLemmas.{first-never}
use Rattle.tsb_preempt.proofs.SetLemmas.{names-low}
use Rattle.tsb_preempt.proofs.DoneLemmas.{IsFound, IsAsked, done-kept}

-- numbers whose lowest bits are 0 name no preempt
pub none-named : (w n : ℕ) → w % 256 ≡ 0 → 1 ≤ n → n ≤ PREEMPTS → names w n ≡ false
none-named w n low from within = sym (names-low w n from within) ∙ ap (λ (x : ℕ). names (x % 65536) n) low ∙ names-zero n

none-requests : (now : ℕ) (plan : Plan) (n cell : ℕ) (on : Bool) → on ≡ false → requests_by now plan n on false cell ≡ false
none-requests now plan n cell on off = rw off (and-false _)

still-off : (now cell : ℕ) (on : Bool) → on ≡ false → cell ≡ 0 → cell ≡ delay_cell now on cell
still-off now cell on off blank = rw off blank

none-serves : (now : ℕ) (cells : List ℕ) → slice_index cells (2 + PREEMPTS) ≡ 0 → None ≡ service_in now cells
unfolding service_in
none-serves now cells blank = rw blank refl

no-spent : (cells : List ℕ) (n : ℕ) → slice_index cells 1 ≡ 0 → names (list_in cells 1) n ≡ false
no-spent cells n blank = ap (λ (x : ℕ). names (x % 65536) n) blank ∙ names-zero n

-- a preempt whose delay timer is Off is not spent
none-spent : (now : ℕ) (cells : List ℕ) (n : ℕ) → IsBy now cells → 1 ≤ n → n ≤ PREEMPTS → slice_index cells (1 + n) ≡ 0 → names (list_in cells 1) n ≡ false
none-spent now cells n by from within off = elim (cases_Bool (names (list_in cells 1) n)) [
  | inl on ↦ absurd (not_from (slice_index cells (1 + n)) off ((by.each n from within).spent on))
  | inr none ↦ none
]
  where
    not_from : (cell : ℕ) → cell ≡ 0 → 1 ≤ cell → ⊥
    not_from cell off from = omega (arith, off, from)

spent-zero : (now : ℕ) (cells : List ℕ) (inputs : NumberSet) → IsBy now cells → IsIdle inputs cells → slice_index cells 1 ≡ 0
unfolding sets.number_of_bits
spent-zero now cells inputs by idle =
    sym (switches-told cells 1 by.spent)
    ∙ same-list_of PREEMPTS (names (list_in cells 1)) (λ n. false) (λ n from within. none-spent now cells n by from within (idle.delays n from within))

pub idle-found : (now : ℕ) (plan : Plan) (row : Row) (intervals : Intervals) (cells : List ℕ) (inputs : NumberSet) → plan.counts.preempts ≤ PREEMPTS →
    slice_index cells 1 ≡ 0 →
    ((n : ℕ) → has_number inputs n ≡ (has_number row.preempts n || names (list_in cells 0) n)) → IsIdle inputs cells →
    IsFound now plan row intervals cells cells cells cells inputs (set_of_list 0) (set_of_list 0) None None None None None
idle-found now plan row intervals cells inputs few none told idle = record {
  inputs_are = told;
  still_are = λ n. names-zero n ∙ sym (ap (λ (b : Bool). b && has_number inputs n) (no-spent cells n none));
  was_is = none-serves now cells idle.serving;
  few = few;
  delays = record {
    each = λ n from within. still-off now _ _ (idle.off n from within) (idle.delays n from within);
    before = λ j below. refl;
    behind = λ j from. refl;
  };
  asks_is = sym (first-never _ 1 plan.counts.preempts
      (λ n from below. rw (names-zero n) (none-requests now plan n _ (has_number inputs n) (idle.off n from (omega (arith, below, few))))));
  begins_is = refl;
  serving_is = refl;
  spender_is = λ n. refl;
  spent_are = λ n. rw (names-zero n) refl;
  listed = λ n from within. no-spent cells n none ∙ sym (names-zero n);
  lists = λ j other. refl;
  service_is = sym (none-serves now cells idle.serving);
  kept = λ j below. refl;
}

pub idle-done : (now : ℕ) (plan : Plan) (row : Row) (intervals : Intervals) (cells : List ℕ) (inputs : NumberSet) (answer : PreemptOrders) → plan.counts.preempts ≤ PREEMPTS → IsBy now cells →
    ((n : ℕ) → has_number inputs n ≡ (has_number row.preempts n || names (list_in cells 0) n)) → IsIdle inputs cells →
    IsAsked now plan None None answer → IsDone now plan (given_by row intervals) cells cells answer
idle-done now plan row intervals cells inputs answer few by told idle asked =
    done-kept now plan row intervals cells cells cells cells inputs (set_of_list 0) (set_of_list 0) None None None None None
    by (idle-found now plan row intervals cells inputs few (spent-zero now cells inputs by idle) told idle) answer asked by

-- ## As a tick reads them

module _ (now : ℕ) (plan : Plan) (row : Row) (intervals : Intervals) (cells : List ℕ) (inputs : NumberSet) (few : plan.counts.preempts ≤ PREEMPTS) (begun : 1 ≤ now)
    (by : IsBy (now - 1) cells) (told : (n : ℕ) → has_number inputs n ≡ (has_number row.preempts n || names (list_in cells 0) n))
    (idle : IsIdle inputs cells) where
  late : IsBy now cells
  late = stays-by (now - 1) now cells (omega arith) by

  nothing : PreemptOrders
  nothing = record { target = None; must_end = record { numbers = set_of_list 0 }; ended = false }

  pub idle-ordered : (answer : PreemptOrders) → IsAsked now plan None None answer → AreOrdered now row intervals plan cells answer
  idle-ordered answer asked =
      subst (λ (w : Preempts). AreOrders plan (given_by row intervals) w answer) (sym (read now cells begun by))
      (idle-done now plan row intervals cells inputs answer few late told idle asked).orders

  pub idle-ticked : IsTicked now row intervals plan cells cells
  unfolding nothing
  idle-ticked =
      subst (λ (w : Preempts). IsSame (preempts_in now cells) (next_from_read plan (given_by row intervals) w)) (sym (read now cells begun by))
      (idle-done now plan row intervals cells inputs nothing few late told idle (record { target_is = refl; must_end_is = λ p from within. names-zero p; ended_is = refl })).state

  -- orders that stay, at whatever tick they are read, are what it answers
  pub idle-standing : (m : ℕ) (orders : PreemptOrders) → AreStanding m plan cells orders → AreOrdered now row intervals plan cells orders
  unfolding preempts_in service_in
  idle-standing m orders standing =
      idle-ordered orders
      (record {
        target_is = standing.target ∙ ap (wanted_by plan) (sym (none-serves m cells idle.serving));
        must_end_is = standing.must_end;
        ended_is = standing.ended;
      })
