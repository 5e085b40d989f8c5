-- What a green lacks, by the wait of a phase, is what is shown of its ring.
use Rattle.std.proofs.Common.{◌≡◌, ℕ, Bool, true, false, ◌||◌, if◌then◌else◌, Option, Some, None, is_some, refl, subst, ap}
use Rattle.tsb_step.specs.tsb_cells.Timer.{has_reached}
use Rattle.tsb_step.specs.tsb_types.declared.interval.PedestrianInterval.{PedestrianInterval}
use Rattle.tsb_step.specs.tsb_types.declared.interval.PedestrianInterval.TheVariants.{DontWalk, Walk, PedestrianClear}
use Rattle.tsb_step.specs.tsb_types.Intervals.{is_green, is_walk, is_clearance}
use Rattle.tsb_step.specs.tsb_phase.Pedestrian.{ended_by}
use Rattle.tsb_step.specs.tsb_phase.Ready.{may_end, needs_forced}
use Rattle.tsb_step.specs.tsb_ring.Rings.{Ring, own_ring}
use Rattle.tsb_step.specs.declared.waits.Lack.{Lack}
use Rattle.tsb_step.specs.declared.waits.Lack.TheVariants as lacks
use Rattle.tsb_step.specs.declared.waits.Wait.TheVariants as waits
use Rattle.tsb_step.specs.State.{State, interval, pedestrian_part}
use Rattle.tsb_step.specs.Status.{status, serving, where_is, initial_left, walk_left, clearance_left}
use Rattle.tsb_step.specs.WaitLaws.{IsLacking}
use Rattle.tsb_step.specs.Waits.{gap_left, phases_again, time_to_last, part_lack, cause_lack, lack, is_committed, committed_wait, free_wait, wait}
use Rattle.tsb_step.proofs.WaitSoLemmas.{is-wait, waits-are-so}
use Rattle.tsb_laws.specs.TimesLeft.{IsLackShown}

-- a value of the ring's phase is shown where that passes the test
shown_where : (test : ℕ → Bool) (value : ℕ → ℕ) (o : Option ℕ) (q : ℕ) → o ≡ Some q → test q ≡ true → where_is test value o ≡ Some (value q)
shown_where test value o q e h = rw (e, h) refl

module _ (s : State) (r : Ring) (q : ℕ) (l : Lack) (serves : serving s r ≡ Some q) (green : is_green (interval s q) ≡ true) where
  cause_shown : (ends forced : Bool) →
      (if ends then None else (if forced then Some lacks.ForceOff else Some (lacks.Gap (gap_left s.plan q (s.phases q))))) ≡ Some l → IsLackShown s r q l
  unfolding status
  cause_shown true forced h = absurd cc
  cause_shown false true h = let same : lacks.ForceOff ≡ l = cc in subst (IsLackShown s r q) same serves
  cause_shown false false h =
      let same : lacks.Gap (gap_left s.plan q (s.phases q)) ≡ l = cc in
      let left = shown_where (λ p. is_green (interval s p)) (λ p. gap_left s.plan p (s.phases p)) (serving s r) q serves green in
      subst (IsLackShown s r q) same (record { phase = serves; left = left })

  time_shown : (lasted : Bool) →
      (if lasted then cause_lack s.plan (phases_again s) q (s.phases q) else Some (lacks.Initial (initial_left s q))) ≡ Some l → IsLackShown s r q l
  unfolding status
  time_shown true h =
      cause_shown (is_some (ended_by (phases_again s) q) || may_end s.plan (phases_again s) q (s.phases q)) (needs_forced (phases_again s) q) h
  time_shown false h =
      let same : lacks.Initial (initial_left s q) ≡ l = cc in
      let left = shown_where (λ p. is_green (interval s p)) (initial_left s) (serving s r) q serves green in
      subst (IsLackShown s r q) same (record { phase = serves; left = left })

  lack_shown : lack s q ≡ Some l → IsLackShown s r q l
  unfolding status lack
  lack_shown h = go (pedestrian_part s q) refl h
    where
      go : (part : PedestrianInterval) → pedestrian_part s q ≡ part → part_lack s.plan (phases_again s) q (s.phases q) part ≡ Some l → IsLackShown s r q l
      go DontWalk k x = time_shown (has_reached (s.phases q).timer (time_to_last s.plan (phases_again s) q (ended_by (phases_again s) q))) x
      go Walk k x =
          let same : lacks.Walk (walk_left s q) ≡ l = cc in
          let left = shown_where (λ p. is_walk (pedestrian_part s p)) (walk_left s) (serving s r) q serves (ap is_walk k) in
          subst (IsLackShown s r q) same (record { phase = serves; left = left })
      go PedestrianClear k x =
          let same : lacks.Clearance (clearance_left s q) ≡ l = cc in
          let left = shown_where (λ p. is_clearance (pedestrian_part s p)) (clearance_left s) (serving s r) q serves (ap is_clearance k) in
          subst (IsLackShown s r q) same (record { phase = serves; left = left })

pub lacks_shown : (s : State) (p q : ℕ) (l : Lack) → (status s).wait p ≡ Some (waits.Green q l) → IsLackShown s (own_ring s.plan p) q l
unfolding status wait
lacks_shown s p q l h =
    let it : IsLacking s p q l = waits-are-so s p (waits.Green q l) h in
    lack_shown s (own_ring s.plan p) q l (rw (dark, it.serves) refl) it.green it.lacks
  where
    dark : is_some s.trip ≡ false
    dark = go (is_some s.trip) refl (is-wait s p (waits.Green q l) h)
      where
        go : (b : Bool) → is_some s.trip ≡ b →
            (if b then Some waits.Flash else (if is_committed s p then committed_wait s p (own_ring s.plan p) else free_wait s p (own_ring s.plan p)))
            ≡ Some (waits.Green q l) → is_some s.trip ≡ false
        go true k x = absurd cc
        go false k x = k
