-- The last change of a watched value, as a run has it, is the one with the greatest tick number.
use Rattle.std.proofs.Common.{zero, suc, ◌≡◌, ◌≢◌, ℕ, ◌<◌, ◌≤◌, List, [], ◌∷◌, length, Option, Some, None, refl, sym, ap, subst, arith, ◌∙◌, inl, inr, ◌⊎◌}
use Rattle.tsb_machine.specs.Machine.{Machine, replay, run, records_of}
use Rattle.tsb_machine.specs.Past.{Whole, after, earlier}
use Rattle.tsb_machine.specs.Watches.{TellsLastChange, ChangesAt, IsLastChange, IsTold}
use Rattle.tsb_machine.specs.Laws.{GiveBack, CountsTicks}
use Rattle.tsb_machine.proofs.PastLemmas.{earlier-suc, earlier-now}

module _ {State Input Change Value : Type 0} (m : Machine State Input Change) (start : State) (value : State → Value) where
  abbrev Come : List Input → Type 0
  Come is = GiveBack m start is

  -- the value k records back
  abbrev at : List Input → ℕ → Value
  at is k = value (earlier m (after m start is) k).state

  at-suc : (i : Input) (is : List Input) → Come (i ∷ is) → (k : ℕ) → at (i ∷ is) (suc k) ≡ at is k
  at-suc i is come k = ap (λ (w : Whole State Change). value w.state) (earlier-suc m start i is come k)

  abbrev tick : List Input → ℕ → ℕ
  tick is k = m.now (earlier m (after m start is) k).state

  tick-suc : (i : Input) (is : List Input) → Come (i ∷ is) → (k : ℕ) → tick (i ∷ is) (suc k) ≡ tick is k
  tick-suc i is come k = ap (λ (w : Whole State Change). m.now w.state) (earlier-suc m start i is come k)

  length-records : (is : List Input) → length (records_of m start is) ≡ length is
  length-records [] = refl
  length-records (i ∷ is) = ap suc (length-records is)

  -- what one input more gives
  told-more : (i : Input) (is : List Input) (t : Option ℕ) → TellsLastChange m value (run m start (i ∷ is)) t →
      ((value (replay m start (i ∷ is)) ≢ value (replay m start is)) × (t ≡ Some (m.now (replay m start (i ∷ is)))))
      ⊎ ((value (replay m start (i ∷ is)) ≡ value (replay m start is)) × TellsLastChange m value (run m start is) t)
  told-more i [] t h = h
  told-more i (j ∷ is) t h = h

  changed-here : CountsTicks m start → (i : Input) (is : List Input) → Come (i ∷ is) → value (replay m start (i ∷ is)) ≢ value (replay m start is) →
      IsLastChange m value (after m start (i ∷ is)) (m.now (replay m start (i ∷ is)))
  changed-here counts i is come differs = record {
    back = 0;
    within = omega arith;
    at = refl;
    changes = λ e. differs (e ∙ at-suc i is come 0);
    greatest = λ k few c. earlier-now m start counts (i ∷ is) come k (let size : length (records_of m start is) ≡ length is = length-records is in omega (arith, few, size));
  }

  changed-before : (i : Input) (is : List Input) (t : ℕ) → Come (i ∷ is) → value (replay m start (i ∷ is)) ≡ value (replay m start is) →
      IsLastChange m value (after m start is) t → IsLastChange m value (after m start (i ∷ is)) t
  changed-before i is t come same last = record {
    back = suc last.back;
    within = (let few : last.back < length (records_of m start is) = last.within in omega (arith, few));
    at = tick-suc i is come last.back ∙ last.at;
    changes = λ e. last.changes (sym (at-suc i is come last.back) ∙ e ∙ at-suc i is come (suc last.back));
    greatest = greatest;
  }
    where
      greatest : (k : ℕ) → k < suc (length (records_of m start is)) → ChangesAt m value (after m start (i ∷ is)) k → tick (i ∷ is) k ≤ t
      greatest zero few c = absurd (c (same ∙ sym (at-suc i is come 0)))
      greatest (suc k) few c =
          let fewer : k < length (records_of m start is) = omega (arith, few) in
          let moved : tick (i ∷ is) (suc k) ≡ tick is k = tick-suc i is come k in
          let below : tick is k ≤ t = last.greatest k fewer (λ e. c (at-suc i is come k ∙ e ∙ sym (at-suc i is come (suc k)))) in
          omega (arith, moved, below)

  same-before : (i : Input) (is : List Input) → Come (i ∷ is) → value (replay m start (i ∷ is)) ≡ value (replay m start is) →
      IsTold m value (after m start is) None → IsTold m value (after m start (i ∷ is)) None
  same-before i is come same told zero few = same ∙ sym (at-suc i is come 0)
  same-before i is come same told (suc k) few =
      let fewer : k < length (records_of m start is) = omega (arith, few) in
      at-suc i is come k ∙ told k fewer ∙ sym (at-suc i is come (suc k))

  told-before : (i : Input) (is : List Input) (t : Option ℕ) → Come (i ∷ is) → value (replay m start (i ∷ is)) ≡ value (replay m start is) →
      IsTold m value (after m start is) t → IsTold m value (after m start (i ∷ is)) t
  told-before i is None come same told = same-before i is come same told
  told-before i is (Some t) come same told = changed-before i is t come same told

  pub last_is_greatest : CountsTicks m start → (is : List Input) → Come is → (t : Option ℕ) →
      TellsLastChange m value (run m start is) t → IsTold m value (after m start is) t
  last_is_greatest counts [] come t h = subst (IsTold m value (after m start [])) (sym h) (λ k few. absurd (omega (arith, few)))
  last_is_greatest counts (i ∷ is) come t h =
      elim (told-more i is t h) [
        | inl new ↦ subst (IsTold m value (after m start (i ∷ is))) (sym new.1) (changed-here counts i is come new.0)
        | inr old ↦ told-before i is t come old.0 (last_is_greatest counts is come.0 t old.1)
      ]
