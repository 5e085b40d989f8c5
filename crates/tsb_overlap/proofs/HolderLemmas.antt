-- The least overlap that holds a phase.
use Rattle.std.proofs.Common.{zero, suc, ◌≡◌, ℕ, ◌+◌, ◌-◌, ◌<◌, ◌≤◌, Bool, true, false, if◌then◌else◌, List, Some, None, refl, sym, ap, ◌∙◌, subst, arith, inl, inr}
use Rattle.std.proofs.lemmas.Bool.{cases_eq}
use Rattle.tsb_objects.specs.tsb_types.declared.limits.TheConstants.{OVERLAPS}
use Rattle.tsb_objects.specs.tsb_types.Lists.{first, run_from}
use Rattle.tsb_objects.specs.tsb_plan.Plan.{Plan}
use Rattle.tsb_overlap.specs.declared.parts.Part.{Part}
use Rattle.tsb_overlap.specs.Parts.{IsPartOf}
use Rattle.tsb_overlap.specs.Overlap.{Overlap, as_read, run_on, holds_by, holds, trail_left}
use Rattle.tsb_overlap.specs.Cells.{part_in, overlap_of, overlap_in, IsBy}
use Rattle.tsb_overlap.proofs.CellLemmas.{read-row, overlap_in-part}

-- the least of a run that passes is found
pub first-from : (n : ℕ) (test : ℕ → Bool) (a k : ℕ) → a ≤ k → k < a + n → test k ≡ true → ((q : ℕ) → a ≤ q → q < k → test q ≡ false) →
    first test (run_from a n) ≡ Some k
unfolding run_from
first-from zero test a k from below had least = absurd (omega (arith, from, below))
first-from (suc n) test a k from below had least =
    elim (cases_eq a k) [
      | inl same ↦ rw (ap test same ∙ had) (ap Some same)
      | inr other ↦
          rw (least a (omega arith) (omega (arith, from, other)))
          (first-from n test (a + 1) k (omega (arith, from, other)) (omega (arith, below)) had (λ q start under. least q (omega (arith, start)) under))
    ]

pub first-never : (n : ℕ) (test : ℕ → Bool) (a : ℕ) → ((q : ℕ) → a ≤ q → q < a + n → test q ≡ false) → first test (run_from a n) ≡ None
unfolding run_from
first-never zero test a never = refl
first-never (suc n) test a never =
    rw (never a (omega arith) (omega arith)) (first-never n test (a + 1) (λ q from below. never q (omega (arith, from)) (omega (arith, below))))

-- an overlap that a call finds to hold the phase, and one that it does not
pub held-some : (b : Bool) (left found : ℕ) → Some found ≡ (if b then Some left else None) → (b ≡ true) × (found ≡ left)
held-some true left found e = let same : found ≡ left = cc in (refl, same)
held-some false left found e = absurd cc

pub held-none : (b : Bool) (left : ℕ) → None ≡ (if b then Some left else None) → b ≡ false
held-none true left e = absurd cc
held-none false left e = refl

-- as the tick after `now` reads it
pub read-next : (now : ℕ) (row : List ℕ) (o : ℕ) → IsBy now row → 1 ≤ o → o ≤ OVERLAPS → overlap_of (now + 1) (part_in row o) ≡ as_read (overlap_in now row o)
read-next now row o by from to =
    let at : now + 1 - 1 ≡ now = omega arith in
    subst (λ (n : ℕ). overlap_of (now + 1) (part_in row o) ≡ as_read (overlap_in n row o)) at
    (read-row (now + 1) row o (omega arith) (subst (λ (n : ℕ). IsBy n row) (sym at) by) from to)

module _ (plan : Plan) (preempted : Bool) (now : ℕ) (row : List ℕ) (phase o : ℕ) (was part : Part) (by : IsBy now row) (from : 1 ≤ o) (to : o ≤ OVERLAPS)
    (read : was ≡ part_in row o) (ran : IsPartOf (now + 1) (run_on plan preempted o (overlap_of (now + 1) was)) part) where
  same-holds : holds plan preempted (overlap_in now row) phase o ≡ holds_by plan o part.interval phase
  same-holds =
      ap (λ (x : Overlap). holds_by plan o x.interval phase)
      (ap (run_on plan preempted o) (sym (ap (overlap_of (now + 1)) read ∙ read-next now row o by from to)) ∙ sym ran.state)

  same-left : trail_left plan preempted o (overlap_of now was) was.interval ≡ trail_left plan preempted o (overlap_in now row o) (overlap_in now row o).interval
  same-left =
      ap (λ (x : Overlap). trail_left plan preempted o x x.interval) (ap (overlap_of now) read ∙ sym (overlap_in-part now row o from to))

  pub held-then : (left : ℕ) → holds_by plan o part.interval phase ≡ true → left ≡ trail_left plan preempted o (overlap_of now was) was.interval →
      Some left ≡ (if holds plan preempted (overlap_in now row) phase o
      then Some (trail_left plan preempted o (overlap_in now row o) (overlap_in now row o).interval) else None)
  held-then left is told = rw (same-holds ∙ is) (ap Some (told ∙ same-left))

  pub held-else : holds_by plan o part.interval phase ≡ false →
      None ≡ (if holds plan preempted (overlap_in now row) phase o
      then Some (trail_left plan preempted o (overlap_in now row o) (overlap_in now row o).interval) else None)
  held-else is = rw (same-holds ∙ is) refl
