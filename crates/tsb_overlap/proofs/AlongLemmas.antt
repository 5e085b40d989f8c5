-- A loop over the overlaps that are timed: those gone over are as the tick makes them, and the others as they were.
use Rattle.std.proofs.Common.{◌≡◌, ◌≢◌, ℕ, ◌-◌, ◌≤◌, ◌||◌, Bool, true, false, List, length, refl, sym, ap, ◌∙◌, subst, arith, inl, inr}
use Rattle.std.specs.List.{list_any}
use Rattle.std.proofs.lemmas.Bool.{cases_Bool, and_parts, or_cases, or_left, or_right}
use Rattle.std.proofs.lemmas.Bool.Decides.{eqb_tells}
use Rattle.tsb_objects.specs.tsb_types.declared.limits.TheConstants.{OVERLAPS}
use Rattle.tsb_objects.specs.tsb_types.declared.number_set.NumberSet.{NumberSet}
use Rattle.tsb_objects.specs.tsb_types.Lists.{run_from}
use Rattle.tsb_objects.specs.tsb_types.Sets.{has_number}
use Rattle.tsb_objects.specs.tsb_plan.Plan.{Plan}
use Rattle.tsb_objects.specs.tsb_plan.Parts.{is_timed, is_arrow, trails}
use Rattle.tsb_objects.specs.TimedOverlaps.{AreTimed}
use Rattle.tsb_objects.proofs.tsb_rules.RuleLemmas.{Passes, some-run_from}
use Rattle.tsb_objects.proofs.tsb_types.RunLemmas.{any-at}
use Rattle.tsb_overlap.specs.declared.TheConstants.{CELLS}
use Rattle.tsb_overlap.specs.Overlap.{Overlap, Given, run_on, holds_by, holds, is_held, settled}
use Rattle.tsb_overlap.specs.Cells.{part_in, overlap_of, overlap_in, IsOverlapBy, IsBy}
use Rattle.tsb_overlap.specs.Layer.{KeepsLists}
use Rattle.tsb_overlap.specs.Parts.{IsKept, KeepsOthers}
use Rattle.tsb_overlap.specs.Promises.{IsRunOn, IsSettled}
use Rattle.tsb_overlap.proofs.ListLemmas.{not-both}
use Rattle.tsb_overlap.proofs.CellLemmas.{kept-part, kept-refl, kept-on, kept-by, overlap_in-part, read-row}
use Rattle.tsb_overlap.proofs.OwnLemmas.{untimed-runs, untimed-settles}

-- what a tick makes of each overlap, of those of a plan that are timed; `rest` are those left to go over
pub record IsAlong (made : ℕ → Overlap → Overlap) (now : ℕ) (plan : Plan) (first cells : List ℕ) (rest : NumberSet) : Type 0 where
  pub done : (q : ℕ) → 1 ≤ q → q ≤ OVERLAPS → has_number rest q ≡ false → is_timed plan q ≡ true →
      overlap_of now (part_in cells q) ≡ made q (overlap_of now (part_in first q))
  pub left : (q : ℕ) → 1 ≤ q → q ≤ OVERLAPS → has_number rest q ≡ true → IsKept first cells q
  pub timed : (q : ℕ) → 1 ≤ q → q ≤ OVERLAPS → has_number rest q ≡ true → is_timed plan q ≡ true
  pub others : (q : ℕ) → 1 ≤ q → q ≤ OVERLAPS → is_timed plan q ≡ false → IsKept first cells q
  pub by : (q : ℕ) → 1 ≤ q → q ≤ OVERLAPS → IsOverlapBy now cells q

pub along-begins : (made : ℕ → Overlap → Overlap) (now : ℕ) (plan : Plan) (row : List ℕ) (rest : NumberSet) → AreTimed plan rest →
    ((q : ℕ) → 1 ≤ q → q ≤ OVERLAPS → IsOverlapBy now row q) → IsAlong made now plan row row rest
along-begins made now plan row rest are by = record {
  done = λ q from to out is. absurd (not-both (is_timed plan q) is (sym (are q) ∙ out));
  left = λ q from to on. kept-refl row q;
  timed = λ q from to on. sym (are q) ∙ on;
  others = λ q from to is. kept-refl row q;
  by = by;
}

-- overlap n is gone over
pub record IsStep (made : ℕ → Overlap → Overlap) (now : ℕ) (n : ℕ) (was new : List ℕ) : Type 0 where
  pub own : overlap_of now (part_in new n) ≡ made n (overlap_of now (part_in was n))
  pub by : IsOverlapBy now new n
  pub others : KeepsOthers n was new

pub along-goes_on : (made : ℕ → Overlap → Overlap) (now : ℕ) (plan : Plan) (first was new : List ℕ) (rest after : NumberSet) (n : ℕ) →
    IsAlong made now plan first was rest → 1 ≤ n → n ≤ OVERLAPS → has_number rest n ≡ true → has_number after n ≡ false →
    ((q : ℕ) → q ≢ n → has_number after q ≡ has_number rest q) → IsStep made now n was new → IsAlong made now plan first new after
along-goes_on made now plan first was new rest after n along n_from n_to had taken same step = record {
  done = λ q from to out is.
      elim (eqb_tells q n) [
        | inl at ↦ subst (λ (k : ℕ). overlap_of now (part_in new k) ≡ made k (overlap_of now (part_in first k))) (sym at.1) here
        | inr other ↦
            ap (overlap_of now) (kept-part was new q (step.others q from to other.1)) ∙ along.done q from to (sym (same q other.1) ∙ out) is
      ];
  left = λ q from to on.
      elim (eqb_tells q n) [
        | inl at ↦ absurd (not-both (has_number after q) on (subst (λ (k : ℕ). has_number after k ≡ false) (sym at.1) taken))
        | inr other ↦ kept-on first was new q (along.left q from to (sym (same q other.1) ∙ on)) (step.others q from to other.1)
      ];
  timed = λ q from to on.
      elim (eqb_tells q n) [
        | inl at ↦ absurd (not-both (has_number after q) on (subst (λ (k : ℕ). has_number after k ≡ false) (sym at.1) taken))
        | inr other ↦ along.timed q from to (sym (same q other.1) ∙ on)
      ];
  others = λ q from to is.
      elim (eqb_tells q n) [
        | inl at ↦ absurd (not-both (is_timed plan q) (subst (λ (k : ℕ). is_timed plan k ≡ true) (sym at.1) (along.timed n n_from n_to had)) is)
        | inr other ↦ kept-on first was new q (along.others q from to is) (step.others q from to other.1)
      ];
  by = λ q from to.
      elim (eqb_tells q n) [
        | inl at ↦ subst (λ (k : ℕ). IsOverlapBy now new k) (sym at.1) step.by
        | inr other ↦ kept-by now was new q (step.others q from to other.1) (along.by q from to)
      ];
}
  where
    here : overlap_of now (part_in new n) ≡ made n (overlap_of now (part_in first n))
    here = step.own ∙ ap (λ x. made n (overlap_of now x)) (kept-part first was n (along.left n n_from n_to had))

-- where none is left, each is as the tick makes it; one that is not timed stays
pub along-ends : (made : ℕ → Overlap → Overlap) (now : ℕ) (plan : Plan) (first cells : List ℕ) (rest : NumberSet) → IsAlong made now plan first cells rest →
    ((n : ℕ) → has_number rest n ≡ false) → ((q : ℕ) (x : Overlap) → is_timed plan q ≡ false → made q x ≡ x) →
    (q : ℕ) → 1 ≤ q → q ≤ OVERLAPS → overlap_of now (part_in cells q) ≡ made q (overlap_of now (part_in first q))
along-ends made now plan first cells rest along none stays q from to =
    elim (cases_Bool (is_timed plan q)) [
      | inl is ↦ along.done q from to (none q) is
      | inr not ↦ ap (overlap_of now) (kept-part first cells q (along.others q from to not)) ∙ sym (stays q (overlap_of now (part_in first q)) not)
    ]

pub along-by : (made : ℕ → Overlap → Overlap) (m now : ℕ) (plan : Plan) (first cells : List ℕ) (rest : NumberSet) → IsAlong made now plan first cells rest →
    IsBy m first → KeepsLists first cells → length cells ≡ CELLS → IsBy now cells
along-by made m now plan first cells rest along by lists full = record {
  full = full;
  lists = λ k below. lists k (by.lists k below) below;
  each = along.by;
}

-- ## As a tick begins

pub run-whole : (now : ℕ) (preempted : Bool) (plan : Plan) (old new : List ℕ) (rest : NumberSet) → 1 ≤ now → IsBy (now - 1) old →
    IsAlong (run_on plan preempted) now plan old new rest → ((n : ℕ) → has_number rest n ≡ false) → IsRunOn now preempted plan old new
run-whole now preempted plan old new rest begun by along none o from to =
    overlap_in-part now new o from to
    ∙ along-ends (run_on plan preempted) now plan old new rest along none (λ q x. untimed-runs plan preempted q x) o from to
    ∙ ap (run_on plan preempted o) (read-row now old o begun by from to)

-- overlap q, of what its cells keep, holds phase p in tick `now`
abbrev pub holds_at : ℕ → Bool → Plan → List ℕ → ℕ → ℕ → Bool
holds_at now preempted plan row p q = holds_by plan q (run_on plan preempted q (overlap_of now (part_in row q))).interval p

-- the phases that overlaps gone over hold; of those that are left nothing is said
pub record AreHeldSoFar (held : ℕ → Bool) (test : ℕ → ℕ → Bool) (rest : NumberSet) : Type 0 where
  pub some : (p : ℕ) → held p ≡ true → Passes (test p) 1 OVERLAPS
  pub all : (p q : ℕ) → 1 ≤ q → q ≤ OVERLAPS → has_number rest q ≡ false → test p q ≡ true → held p ≡ true

pub held-whole : (now : ℕ) (preempted : Bool) (plan : Plan) (old : List ℕ) (held : ℕ → Bool) (rest : NumberSet) → 1 ≤ now → IsBy (now - 1) old →
    plan.counts.overlaps ≡ OVERLAPS → AreHeldSoFar held (holds_at now preempted plan old) rest → ((n : ℕ) → has_number rest n ≡ false) →
    (p : ℕ) → held p ≡ is_held plan preempted (overlap_in (now - 1) old) p
unfolding is_held
held-whole now preempted plan old held rest begun by count sofar none p =
    told (held p) refl
  where
    same : (q : ℕ) → 1 ≤ q → q ≤ OVERLAPS → holds_at now preempted plan old p q ≡ holds plan preempted (overlap_in (now - 1) old) p q
    same q from to = ap (λ (x : Overlap). holds_by plan q (run_on plan preempted q x).interval p) (read-row now old q begun by from to)

    told : (b : Bool) → held p ≡ b → held p ≡ list_any (holds plan preempted (overlap_in (now - 1) old) p) (run_from 1 plan.counts.overlaps)
    told true is =
        let one : Passes (holds_at now preempted plan old p) 1 OVERLAPS = sofar.some p is in
        let to : one.one ≤ OVERLAPS = omega (arith, one.below) in
        is ∙ sym (any-at (holds plan preempted (overlap_in (now - 1) old) p) 1 plan.counts.overlaps one.one one.from (omega (arith, one.below, count)) (sym (same one.one one.from to) ∙ one.passes))
    told false is = is ∙ sym (free (list_any (holds plan preempted (overlap_in (now - 1) old) p) (run_from 1 plan.counts.overlaps)) refl)
      where
        free : (b : Bool) → list_any (holds plan preempted (overlap_in (now - 1) old) p) (run_from 1 plan.counts.overlaps) ≡ b → b ≡ false
        free false e = refl
        free true e =
            let one : Passes (holds plan preempted (overlap_in (now - 1) old) p) 1 plan.counts.overlaps = some-run_from (holds plan preempted (overlap_in (now - 1) old) p) 1 plan.counts.overlaps e in
            let to : one.one ≤ OVERLAPS = omega (arith, one.below, count) in
            sym (sofar.all p one.one one.from to (none one.one) (same one.one one.from to ∙ one.passes)) ∙ is

-- ## After the phases have moved

pub settle-whole : (now : ℕ) (given : Given) (plan : Plan) (old new : List ℕ) (rest : NumberSet) → IsAlong (settled plan given) now plan old new rest →
    ((n : ℕ) → has_number rest n ≡ false) → IsSettled now given plan old new
settle-whole now given plan old new rest along none o from to =
    overlap_in-part now new o from to
    ∙ along-ends (settled plan given) now plan old new rest along none (λ q x. untimed-settles plan given q x) o from to
    ∙ ap (settled plan given o) (sym (overlap_in-part now old o from to))

-- ## What is held, along the loop

pub held-begins : (now : ℕ) (preempted : Bool) (plan : Plan) (row : List ℕ) (held : ℕ → Bool) (rest : NumberSet) → ((p : ℕ) → held p ≡ false) → AreTimed plan rest →
    AreHeldSoFar held (holds_at now preempted plan row) rest
held-begins now preempted plan row held rest none are = record {
  some = λ p is. absurd (not-both (held p) is (none p));
  all = λ p q from to out holds.
      let trail = and_parts (trails plan q) _ holds in
      absurd (not-both (is_timed plan q) (or_right (is_arrow plan q) (trails plan q) trail.0) (sym (are q) ∙ out));
}

-- what overlap n holds is added
pub held-goes_on : (now : ℕ) (preempted : Bool) (plan : Plan) (first was : List ℕ) (held own more : ℕ → Bool) (rest after : NumberSet) (n : ℕ) →
    IsAlong (run_on plan preempted) now plan first was rest → AreHeldSoFar held (holds_at now preempted plan first) rest → 1 ≤ n → n ≤ OVERLAPS → has_number rest n ≡ true →
    ((q : ℕ) → q ≢ n → has_number after q ≡ has_number rest q) → ((p : ℕ) → more p ≡ (held p || own p)) →
    ((p : ℕ) → own p ≡ holds_at now preempted plan was p n) → AreHeldSoFar more (holds_at now preempted plan first) after
held-goes_on now preempted plan first was held own more rest after n along sofar from to had same joined owned = record {
  some = λ p is.
      elim (or_cases (held p) (own p) (sym (joined p) ∙ is)) [
        | inl before ↦ sofar.some p before
        | inr now_held ↦ record { one = n; from = from; below = omega (arith, to); passes = sym (here p) ∙ now_held }
      ];
  all = λ p q q_from q_to out holds.
      joined p ∙ elim (eqb_tells q n) [
        | inl at ↦ or_right (held p) (own p) (here p ∙ subst (λ (k : ℕ). holds_at now preempted plan first p k ≡ true) at.1 holds)
        | inr other ↦ or_left (held p) (own p) (sofar.all p q q_from q_to (sym (same q other.1) ∙ out) holds)
      ];
}
  where
    here : (p : ℕ) → own p ≡ holds_at now preempted plan first p n
    here p =
        owned p
        ∙ ap (λ x. holds_by plan n (run_on plan preempted n (overlap_of now x)).interval p) (kept-part first was n (along.left n from to had))
