-- A tick and what the rings then did give the memories after a tick, of all numbers.
use Rattle.std.proofs.Common.{List, ◌≡◌, ℕ, ◌+◌, ◌≤◌, ◌==◌, Bool, true, false, ◌&&◌, if◌then◌else◌, min, refl, ◌∙◌, arith, inl, inr}
use Rattle.std.proofs.lemmas.Bool.{cases_Bool}
use Rattle.std.proofs.lemmas.Bool.Decides.{nat_tests}
use Rattle.tsb_objects.specs.tsb_types.Lists.{is}
use Rattle.tsb_objects.specs.tsb_types.Sets.{has, is_phase}
use Rattle.tsb_objects.specs.tsb_types.Clip.{Agree}
use Rattle.tsb_objects.specs.tsb_plan.Plan.{Plan}
use Rattle.tsb_objects.specs.tsb_plan.Parts.{unless_zero}
use Rattle.tsb_objects.specs.tsb_plan.declared.object.Object.TheVariants.{VehicleDetectorCallPhase}
use Rattle.tsb_calls.specs.Memories.{Memories, Given, calls, was_green, actuations, vehicle_memory, pedestrian_memory, counted, as_set}
use Rattle.tsb_calls.specs.Settled.{Done, settled, pedestrian_call}
use Rattle.tsb_calls.specs.Cells.{memories_in}
use Rattle.tsb_calls.specs.Promises.{given_of, done_of, IsSet, IsSettled}
use Rattle.tsb_calls.specs.declared.observed.Observed.{Observed}
use Rattle.tsb_calls.specs.declared.decided.Decided.{Decided}
use Rattle.tsb_calls.specs.Laws.{AreOff}
use Rattle.tsb_calls.specs.Looks.{AgreeOnPhases, AreAlike, AgreeOnMoves, IsPlaced, MovesPhases, TicksGiveNext}
use Rattle.tsb_calls.proofs.CountLemmas.{count-same, count-none}
use Rattle.tsb_calls.proofs.StateLemmas.{whole-same, off-read}
use Rattle.tsb_calls.proofs.LookLemmas.{look-alike, settled-alike}

-- no detector calls what is no phase
not-called : (plan : Plan) (d p : ℕ) → plan.value VehicleDetectorCallPhase d ≤ 16 → is_phase p ≡ false → calls plan d p ≡ false
not-called plan d p most out = go (plan.value VehicleDetectorCallPhase d) most
  where
    go : (n : ℕ) → n ≤ 16 → is p (unless_zero n) ≡ false
    go n small = elim (cases_Bool (n == 0)) [
      | inl none ↦ rw none refl
      | inr some ↦ rw some (grind (arith, nat_tests, small, some, out))
    ]

no-actuations : (plan : Plan) (g : Given) (p : ℕ) → IsPlaced plan → is_phase p ≡ false → actuations plan g p ≡ 0
unfolding actuations
no-actuations plan g p placed out =
    count-same (λ d. calls plan d p && g.actuated d) (λ d. false) 1 plan.counts.vehicle_detectors
    (λ d from below. let none : calls plan d p ≡ false = not-called plan d p (placed.called d from (omega (arith, below))) out in rw none refl)
    ∙ count-none (λ d. false) 1 plan.counts.vehicle_detectors (λ d. refl)

zero-count : (b : Bool) → (if b then 0 else min 255 (0 + 0)) ≡ 0
zero-count true = refl
zero-count false = refl

sets-off : (plan : Plan) (g : Given) (w : Memories) → IsPlaced plan → AreOff w → AreOff (as_set plan g w)
unfolding vehicle_memory pedestrian_memory counted
sets-off plan g w placed off = record {
  vehicle = λ p out. rw (off.vehicle p out, placed.enabled p out) refl;
  pedestrian = λ p out. rw (off.pedestrian p out, placed.enabled p out) refl;
  count = λ p out. rw (off.count p out, no-actuations plan g p placed out) (zero-count (was_green g p));
}

settled-off : (d : Done) (f : ℕ → Bool) (m : Memories) → MovesPhases d → AreOff m → AreOff (settled d f m)
settled-off d f m moved off = record {
  vehicle = λ p out. rw (moved.starts p out, moved.ends p out, off.vehicle p out) refl;
  pedestrian = λ p out. rw (off.pedestrian p out) refl;
  count = λ p out. rw (moved.ends p out, off.count p out) refl;
}

joined : (m n o : Memories) → AreAlike m n → AreAlike n o → AreAlike m o
joined m n o e f = record {
  vehicle = λ p from to. e.vehicle p from to ∙ f.vehicle p from to;
  pedestrian = λ p from to. e.pedestrian p from to ∙ f.pedestrian p from to;
  count = λ p from to. e.count p from to ∙ f.count p from to;
}

alike : (m : Memories) → AreAlike m m
alike m = record { vehicle = λ p from to. refl; pedestrian = λ p from to. refl; count = λ p from to. refl }

module _ (plan : Plan) (given : Given) (done : Done) (old mid new : List ℕ) where
  abbrev was : Memories
  was = memories_in old

  abbrev set : Memories
  set = as_set plan given was

  abbrev call : ℕ → Bool
  call = pedestrian_call plan given was

  given-next : IsPlaced plan → MovesPhases done → AreAlike (memories_in new) (settled done call set) → memories_in new ≡ settled done call set
  given-next placed phases same =
      whole-same (memories_in new) (settled done call set) same (off-read new) (settled-off done call set phases (sets-off plan given was placed (off-read old)))

  after-tick : (observed : Observed) → IsPlaced plan → AgreeOnPhases plan (given_of observed) given → IsSet observed plan old mid → AreAlike (memories_in mid) set
  after-tick observed placed seen sets =
      joined (memories_in mid) (as_set plan (given_of observed) was) set
      (record { vehicle = λ p from to. (sets p from to).vehicle; pedestrian = λ p from to. (sets p from to).pedestrian; count = λ p from to. (sets p from to).count })
      ((look-alike plan (given_of observed) given placed.count seen).sets was was (alike was))

  after-rings : (decided : Decided) → AgreeOnMoves (done_of decided) done → Agree (has decided.pedestrian) call → AreAlike (memories_in mid) set →
      IsSettled decided mid new → AreAlike (memories_in new) (settled done call set)
  after-rings decided moved walks same settles =
      joined (memories_in new) (settled (done_of decided) (has decided.pedestrian) (memories_in mid)) (settled done call set)
      (record { vehicle = λ p from to. (settles p from to).vehicle; pedestrian = λ p from to. (settles p from to).pedestrian; count = λ p from to. (settles p from to).count })
      (settled-alike (done_of decided) done (has decided.pedestrian) call (memories_in mid) set moved walks same)

pub ticks-give : TicksGiveNext
ticks-give plan given done observed decided old mid new placed seen moved phases walks sets settles =
    given-next plan given done old mid new placed phases
    (after-rings plan given done old mid new decided moved walks (after-tick plan given done old mid new observed placed seen sets) settles)
