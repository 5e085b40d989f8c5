-- The green of arrows as right of way of their turns.
use Rattle.std.proofs.Common.{◌≡◌, ℕ, zero, suc, ◌+◌, ◌<◌, ◌≤◌, ◌==◌, Bool, true, false, ◌&&◌, refl, sym, ap, ◌∙◌, arith, inl, inr}
use Rattle.std.specs.List.{list_any}
use Rattle.std.proofs.Math.Bool.{and-false}
use Rattle.std.proofs.lemmas.Bool.{and_from, and_parts, both_ways, cases_lt, false≢true, or_cases}
use Rattle.std.proofs.lemmas.Bool.Decides.{nat_tests}
use Rattle.tsb_objects.specs.tsb_types.Lists.{among, run_from}
use Rattle.tsb_objects.specs.tsb_types.Sets.{names}
use Rattle.tsb_objects.specs.tsb_plan.Parts.{is_arrow, is_modifier}
use Rattle.tsb_objects.specs.tsb_plan.Plan.{Plan, phases}
use Rattle.tsb_objects.specs.tsb_rules.Consistent.{IsPhase}
use Rattle.tsb_objects.proofs.tsb_types.RunLemmas.{among-run, any-at, any-never}
use Rattle.tsb_objects.proofs.tsb_types.SetLemmas.{names-above}
use Rattle.tsb_heads.specs.Heads.{Heads}
use Rattle.tsb_heads.specs.Laws.{HasNoArrows, AreGreenAlike}
use Rattle.tsb_heads.specs.Monitoring.{is_green, is_green_arrow_of, has_green_arrow}
use Rattle.tsb_heads.proofs.OverlapLemmas.{or-same}

-- overlap o is an arrow of the plan that is green, and p, a phase of it, its protected turn
pub record IsGreenArrow (plan : Plan) (heads : Heads) (p o : ℕ) : Type 0 where
  pub listed : among p (phases plan) ≡ true
  pub from : 1 ≤ o
  pub within : o ≤ plan.counts.overlaps
  pub arrow : is_arrow plan o ≡ true
  pub turn : is_modifier plan o p ≡ true
  pub green : is_green (heads.overlap o) ≡ true

-- one of a run that passes a test
any-found : (test : ℕ → Bool) (a n : ℕ) → list_any test (run_from a n) ≡ true → (k : ℕ) × ((a ≤ k) × ((k < a + n) × (test k ≡ true)))
unfolding run_from
any-found test a zero is = cc
any-found test a (suc n) is =
    elim (or_cases (test a) (list_any test (run_from (a + 1) n)) is) [
      | inl here ↦ (a, (omega arith, (omega arith, here)))
      | inr later ↦ (let found = any-found test (a + 1) n later in
          (found.0, (omega (arith, found.1.0), (omega (arith, found.1.1.0), found.1.1.1))))
    ]

-- a phase that is listed is one of the plan
pub listed-phase : (plan : Plan) (p : ℕ) → among p (phases plan) ≡ true → IsPhase plan p
listed-phase plan p is =
    let found = any-found (λ q. q == p) 1 plan.phase_count is in
    let same : found.0 ≡ p = grind (arith, nat_tests, found.1.1.1) in
    record { from_one = omega (arith, found.1.0, same); within = omega (arith, found.1.1.0, same) }

-- of 16 phases a list of 16 bits names no other
pub listed-names : (list p : ℕ) → list ≤ 65535 → names list p ≡ true → among p (run_from 1 16) ≡ true
listed-names list zero fits is = absurd (false≢true is)
listed-names list (suc k) fits is =
    elim (cases_lt k 16) [
      | inl below ↦ among-run (suc k) 1 16 (omega arith) (omega (arith, below))
      | inr above ↦ absurd (both_ways (names list (suc k)) (names-above 16 (suc k) list (omega (arith, fits)) (omega (arith, above))) is)
    ]

-- so a turn has the green of an arrow
pub green-arrow : (plan : Plan) (heads : Heads) (p : ℕ) → has_green_arrow plan heads p ≡ true → (o : ℕ) × IsGreenArrow plan heads p o
unfolding has_green_arrow
green-arrow plan heads p is =
    let both = and_parts (among p (phases plan)) (list_any (is_green_arrow_of plan heads p) (run_from 1 plan.counts.overlaps)) is in
    let found = any-found (is_green_arrow_of plan heads p) 1 plan.counts.overlaps both.1 in
    let o : ℕ = found.0 in
    let parts = and_parts (is_arrow plan o) (is_modifier plan o p && is_green (heads.overlap o)) found.1.1.1 in
    let turns = and_parts (is_modifier plan o p) (is_green (heads.overlap o)) parts.1 in (
      o,
      record {
        listed = both.0;
        from = found.1.0;
        within = omega (arith, found.1.1.0);
        arrow = parts.0;
        turn = turns.0;
        green = turns.1;
      },
    )

-- in a plan without arrows none has
pub no-arrow : (plan : Plan) (heads : Heads) (p : ℕ) → HasNoArrows plan → has_green_arrow plan heads p ≡ false
unfolding has_green_arrow
no-arrow plan heads p none =
    ap (λ (b : Bool). among p (phases plan) && b)
    (any-never (is_green_arrow_of plan heads p) 1 plan.counts.overlaps
    (λ o from below. ap (λ (b : Bool). b && (is_modifier plan o p && is_green (heads.overlap o))) (none o from (omega (arith, below)))))
    ∙ and-false (among p (phases plan))

-- tests that agree on a run find the same
any-alike : (f g : ℕ → Bool) (a n : ℕ) → ((k : ℕ) → a ≤ k → k < a + n → f k ≡ g k) → list_any f (run_from a n) ≡ list_any g (run_from a n)
unfolding run_from
any-alike f g a zero same = refl
any-alike f g a (suc n) same =
    or-same _ _ _ _ (same a (omega arith) (omega arith)) (any-alike f g (a + 1) n (λ k from below. same k (omega (arith, from)) (omega (arith, below))))

-- heads whose arrows are green alike give the same turns their way
pub arrow-same : (plan : Plan) (h g : Heads) (p : ℕ) → AreGreenAlike plan h g → has_green_arrow plan h p ≡ has_green_arrow plan g p
unfolding has_green_arrow
arrow-same plan h g p alike =
    ap (λ (b : Bool). among p (phases plan) && b)
    (any-alike (is_green_arrow_of plan h p) (is_green_arrow_of plan g p) 1 plan.counts.overlaps
    (λ o from below. at o (is_arrow plan o) (alike o from (omega (arith, below)))))
  where
    at : (o : ℕ) (b : Bool) → (b ≡ true → is_green (h.overlap o) ≡ is_green (g.overlap o)) →
        (b && (is_modifier plan o p && is_green (h.overlap o))) ≡ (b && (is_modifier plan o p && is_green (g.overlap o)))
    at o false same = refl
    at o true same = ap (λ (b : Bool). is_modifier plan o p && b) (same refl)

-- and a green arrow gives its turn its way
pub has-arrow : (plan : Plan) (heads : Heads) (p o : ℕ) → IsGreenArrow plan heads p o → has_green_arrow plan heads p ≡ true
unfolding has_green_arrow
has-arrow plan heads p o is =
    and_from (among p (phases plan)) (list_any (is_green_arrow_of plan heads p) (run_from 1 plan.counts.overlaps)) is.listed
    (any-at (is_green_arrow_of plan heads p) 1 plan.counts.overlaps o is.from (omega (arith, is.within)) (rw (is.arrow, is.turn, is.green) refl))

-- a set of phases is that of the turns where each of these is of a green arrow, and all turns are among them
pub turns-told : (plan : Plan) (heads : Heads) (turns : ℕ → Bool) → ((p : ℕ) → turns p ≡ true → (o : ℕ) × IsGreenArrow plan heads p o) →
    ((o p : ℕ) → IsGreenArrow plan heads p o → turns p ≡ true) → (p : ℕ) → turns p ≡ has_green_arrow plan heads p
turns-told plan heads turns found turned p =
    both (turns p) (has_green_arrow plan heads p) (λ is. has-arrow plan heads p (found p is).0 (found p is).1)
    (λ is. turned (green-arrow plan heads p is).0 p (green-arrow plan heads p is).1)
  where
    both : (a b : Bool) → (a ≡ true → b ≡ true) → (b ≡ true → a ≡ true) → a ≡ b
    both true b f g = sym (f refl)
    both false true f g = g refl
    both false false f g = refl
