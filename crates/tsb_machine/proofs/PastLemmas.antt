-- The way back of a machine whose records take their inputs back.
use Rattle.std.proofs.Common.{zero, suc, ◌≡◌, ℕ, ◌<◌, ◌≤◌, ◌==◌, Bool, true, false, if◌then◌else◌, List, [], ◌∷◌, length, drop, refl, ap, subst, arith, ◌∙◌, eqb, cond}
use Rattle.std.proofs.lemmas.Bool.{cond-true, cond-false, eq-eqb, ne_eqb, eqb-false, eqb-true}
use Rattle.tsb_machine.specs.Machine.{Machine, replay, run, records_of, back_to}
use Rattle.tsb_machine.specs.Past.{Whole, applied, after, taken_back, earlier, pasts, sought, IsLeastBack}
use Rattle.tsb_machine.specs.Laws.{GivesBack, GiveBack, GoesBack, HaveCome, CountsTicks}

module _ {State Input Change : Type 0} (m : Machine State Input Change) where
  -- ## What is sought

  -- here, or further back
  pub sought-here : (t : ℕ) (s : State) (rs : List Change) → m.now s ≡ t → sought m t s rs ≡ record { state = s; records = rs }
  sought-here t s [] h = refl
  sought-here t s (r ∷ rs) h = cond-true (eqb (m.now s) t) (record { state = s; records = r ∷ rs }) (sought m t (m.undone r s) rs) (eq-eqb (m.now s) t h)

  pub sought-back : (t : ℕ) (s : State) (rs : List Change) → (m.now s ≡ t → ⊥) →
      sought m t s rs ≡ sought m t (taken_back m s rs).state (taken_back m s rs).records
  sought-back t s [] h = refl
  sought-back t s (r ∷ rs) h = cond-false (eqb (m.now s) t) (record { state = s; records = r ∷ rs }) (sought m t (m.undone r s) rs) (ne_eqb _ _ h)

  -- where it is reached it is the fewest back
  pub sought-least : (t : ℕ) (s : State) (rs : List Change) → m.now (sought m t s rs).state ≡ t →
      IsLeastBack m t (record { state = s; records = rs }) (sought m t s rs)
  sought-least t s [] reached = record { count = 0; enough = omega arith; taken = refl; reached = reached; least = λ j h. absurd (omega arith) }
  sought-least t s (r ∷ rs) reached = at (eqb (m.now s) t) refl (λ h. sought-least t (m.undone r s) rs h)
    where
      below : eqb (m.now s) t ≡ false → (rest : IsLeastBack m t (record { state = m.undone r s; records = rs }) (sought m t (m.undone r s) rs)) →
          (j : ℕ) → j < suc rest.count → m.now (earlier m (record { state = s; records = r ∷ rs }) j).state ≡ t → ⊥
      below e rest zero h = eqb-false (m.now s) t e
      below e rest (suc j) h = rest.least j (omega arith)

      at : (b : Bool) → eqb (m.now s) t ≡ b →
          (m.now (sought m t (m.undone r s) rs).state ≡ t → IsLeastBack m t (record { state = m.undone r s; records = rs }) (sought m t (m.undone r s) rs)) →
          IsLeastBack m t (record { state = s; records = r ∷ rs }) (sought m t s (r ∷ rs))
      at true e before =
          let here : sought m t s (r ∷ rs) ≡ record { state = s; records = r ∷ rs } =
          cond-true (eqb (m.now s) t) (record { state = s; records = r ∷ rs }) (sought m t (m.undone r s) rs) e in
          record { count = 0; enough = omega arith; taken = here; reached = reached; least = λ j h. absurd (omega arith) }
      at false e before =
          let on : sought m t s (r ∷ rs) ≡ sought m t (m.undone r s) rs =
          cond-false (eqb (m.now s) t) (record { state = s; records = r ∷ rs }) (sought m t (m.undone r s) rs) e in
          let rest : IsLeastBack m t (record { state = m.undone r s; records = rs }) (sought m t (m.undone r s) rs) =
          before (subst (λ (w : Whole State Change). m.now w.state ≡ t) on reached) in
          let many : suc rest.count ≤ suc (length rs) = omega (arith, rest.enough) in
          record { count = suc rest.count; enough = many; taken = on ∙ rest.taken; reached = reached; least = below e rest }

  -- ## Undo

  pub undo_gives_back : (w : Whole State Change) (i : Input) → GivesBack m w.state i → earlier m (applied m i w) 1 ≡ w
  undo_gives_back w i back =
      ap (λ (s : State). let made : Whole State Change = record { state = s; records = w.records } in made) back

module _ {State Input Change : Type 0} (m : Machine State Input Change) (start : State) where
  -- the whole after a run, with its newest record taken back
  pub taken-after : (i : Input) (is : List Input) → GiveBack m start (i ∷ is) →
      taken_back m (replay m start (i ∷ is)) (records_of m start (i ∷ is)) ≡ after m start is
  taken-after i is come =
      ap (λ (s : State). let made : Whole State Change = record { state = s; records = records_of m start is } in made) come.1

  pub earlier-suc : (i : Input) (is : List Input) → GiveBack m start (i ∷ is) → (k : ℕ) →
      earlier m (after m start (i ∷ is)) (suc k) ≡ earlier m (after m start is) k
  earlier-suc i is come k = ap (λ (w : Whole State Change). earlier m w k) (taken-after i is come)

  -- ## After a run

  pub pasts_are_the_run : (is : List Input) → GiveBack m start is → pasts m (replay m start is) (records_of m start is) ≡ run m start is
  pasts_are_the_run [] come = refl
  pasts_are_the_run (i ∷ is) come =
      ap (λ (s : State). replay m start (i ∷ is) ∷ pasts m s (records_of m start is)) come.1
      ∙ ap (λ (ss : List State). replay m start (i ∷ is) ∷ ss) (pasts_are_the_run is come.0)

  pub earlier_are_replays : (is : List Input) → GiveBack m start is → (k : ℕ) → k ≤ length is →
      earlier m (after m start is) k ≡ after m start (drop k is)
  earlier_are_replays is come zero few = refl
  earlier_are_replays [] come (suc k) few = absurd (omega arith)
  earlier_are_replays (i ∷ is) come (suc k) few =
      let fewer : k ≤ length is = omega (arith, few) in
      earlier-suc i is come k ∙ earlier_are_replays is come.0 k fewer

  pub seeks_are_replays : (is : List Input) → GiveBack m start is → (t : ℕ) →
      sought m t (replay m start is) (records_of m start is) ≡ after m start (back_to m start t is)
  seeks_are_replays [] come t = refl
  seeks_are_replays (i ∷ is) come t =
      elim (eqb (m.now (replay m start (i ∷ is))) t) as (λ b. cond b (after m start (i ∷ is)) (sought m t (m.undone (m.record_of i (replay m start is) (replay m start (i ∷ is))) (replay m start (i ∷ is))) (records_of m start is))
      ≡ after m start (cond b (i ∷ is) (back_to m start t is))) [
        | true ↦ refl
        | false ↦ ap (λ (s : State). sought m t s (records_of m start is)) come.1 ∙ seeks_are_replays is come.0 t
      ]

  -- ## Tick numbers

  reached : CountsTicks m start → (is : List Input) → GiveBack m start is → (t : ℕ) → t ≤ m.now (replay m start is) →
      m.now (replay m start (back_to m start t is)) ≡ t
  reached counts [] come t below = let zero_is : m.now start ≡ 0 = counts.begins in omega (arith, below, zero_is)
  reached counts (i ∷ is) come t below = go (m.now (replay m start (i ∷ is)) == t) refl (λ h. reached counts is come.0 t h)
    where
      go : (b : Bool) → (m.now (replay m start (i ∷ is)) == t) ≡ b → (t ≤ m.now (replay m start is) → m.now (replay m start (back_to m start t is)) ≡ t) →
          m.now (replay m start (if b then i ∷ is else back_to m start t is)) ≡ t
      go true e later = eqb-true (m.now (replay m start (i ∷ is))) t e
      go false e later =
          let other : m.now (replay m start (i ∷ is)) ≡ t → ⊥ = eqb-false (m.now (replay m start (i ∷ is))) t e in
          let one : m.now (replay m start (i ∷ is)) ≤ suc (m.now (replay m start is)) = counts.by_one (replay m start is) i in
          later (omega (arith, below, one, other))

  pub seeks_are_least : CountsTicks m start → (is : List Input) → GiveBack m start is → (t : ℕ) → t ≤ m.now (replay m start is) →
      IsLeastBack m t (after m start is) (sought m t (replay m start is) (records_of m start is))
  seeks_are_least counts is come t below =
      sought-least m t (replay m start is) (records_of m start is)
      (ap (λ (w : Whole State Change). m.now w.state) (seeks_are_replays is come t) ∙ reached counts is come t below)

  -- an earlier tick number is no greater
  pub earlier-now : CountsTicks m start → (is : List Input) → GiveBack m start is → (k : ℕ) → k ≤ length is →
      m.now (earlier m (after m start is) k).state ≤ m.now (replay m start is)
  earlier-now counts is come zero few = omega arith
  earlier-now counts [] come (suc k) few = absurd (omega arith)
  earlier-now counts (i ∷ is) come (suc k) few =
      let fewer : k ≤ length is = omega (arith, few) in
      let on : m.now (replay m start is) ≤ m.now (replay m start (i ∷ is)) = counts.on (replay m start is) i in
      let before : m.now (earlier m (after m start is) k).state ≤ m.now (replay m start is) = earlier-now counts is come.0 k fewer in
      let same : m.now (earlier m (after m start (i ∷ is)) (suc k)).state ≡ m.now (earlier m (after m start is) k).state =
      ap (λ (w : Whole State Change). m.now w.state) (earlier-suc i is come k) in
      omega (arith, on, before, same)

module _ {State Input Change : Type 0} (m : Machine State Input Change) (start : State) (IsGood : State → Type 0) (CanCome : State → Input → Type 0) where
  -- ## Machines that have it of their good states

  -- each state of a run is good
  pub good_run : GoesBack m start IsGood CanCome → (is : List Input) → HaveCome m start CanCome is → IsGood (replay m start is)
  good_run goes [] come = goes.begins
  good_run goes (i ∷ is) come = goes.stays (replay m start is) i (good_run goes is come.0) come.1

  pub gives_back : GoesBack m start IsGood CanCome → (is : List Input) → HaveCome m start CanCome is → GiveBack m start is
  gives_back goes [] come = tt
  gives_back goes (i ∷ is) come = (gives_back goes is come.0, goes.back (replay m start is) i (good_run goes is come.0) come.1)
