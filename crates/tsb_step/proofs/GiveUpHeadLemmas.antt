-- What rings give up changes no head, and what they are still committed to under a preempt that chooses anew is wanted.
use Rattle.std.proofs.Common.{◌≡◌, ℕ, ◌+◌, ◌==◌, Bool, true, false, not, if◌then◌else◌, Option, Some, None, is_some, option_map, refl, sym, ap, ◌∙◌, inl, inr, ◌⊎◌}
use Rattle.std.proofs.lemmas.Bool.{cases_Bool, and_parts, true≢false, false≢true, false_from_ne_true}
use Rattle.tsb_types.specs.declared.row.Row.{Row}
use Rattle.tsb_types.specs.Lists.{run_from}
use Rattle.tsb_objects.specs.tsb_plan.Parts.{is_anew, is_timed}
use Rattle.tsb_objects.specs.tsb_plan.Plan.{is_enabled}
use Rattle.tsb_heads.specs.Overlaps.{is_kept_green, lasts, IsOverlap, some_lasts, is_on_yellow, has_green_modifier, has_yellow_modifier, is_on_last_yellow, overlap_head}
use Rattle.tsb_heads.specs.Reading.{commitment_of}
use Rattle.tsb_heads.proofs.LastingLemmas.{kept-left, head-left, none-lasts}
use Rattle.tsb_preempt.specs.Preempts as preempts
use Rattle.tsb_preempt.specs.Service.{Service}
use Rattle.tsb_ring.specs.GivenUp.{given_up}
use Rattle.tsb_ring.specs.Rings as rings
use Rattle.tsb_ring.specs.Rings.{Ring, Ring1, Ring2}
use Rattle.tsb_ring.proofs.GivenUpLemmas.{left_of_target}
use Rattle.tsb_step.specs.declared.inputs.Input.TheVariants.{Tick}
use Rattle.tsb_step.specs.State.{State}
use Rattle.tsb_step.specs.Tick.{preempts_given, preempts_read, new_service, service, target, must_end, after_moves, gives_up, new_rings, after_rings, next}
use Rattle.tsb_step.specs.Signs.{commitment, shown, is_choosing, is_lasting, watched}
use Rattle.tsb_step.specs.Step.{step}
use Rattle.tsb_step.specs.TimeLaws.{ShowsTheSame}
use Rattle.tsb_step.proofs.GiveUpLemmas.{committed_by_moves, gives_by, gives_none_lasting, keeps_all}
use Rattle.tsb_step.proofs.StandLemmas.{choosing_then, rings_then}

-- ## Heads

-- a commitment of fewer, by the number of its ring
fewer_by_number : (a b x y : Option ℕ) → ((c : ℕ) → x ≡ Some c → a ≡ Some c) → ((c : ℕ) → y ≡ Some c → b ≡ Some c) → (n c : ℕ) →
    commitment_of x y n ≡ Some c → commitment_of a b n ≡ Some c
fewer_by_number a b x y first second n c h = go (n == 1) (n == 2) h
  where
    go : (f g : Bool) → (if f then x else (if g then y else None)) ≡ Some c → (if f then a else (if g then b else None)) ≡ Some c
    go true g k = first c k
    go false true k = second c k
    go false false k = absurd cc

module _ (s : State) (row : Row) where
  left : (n c : ℕ) → commitment (after_rings s row) n ≡ Some c → commitment (after_moves s row) n ≡ Some c
  left =
      fewer_by_number ((after_moves s row).rings.commitment Ring1) ((after_moves s row).rings.commitment Ring2)
      ((after_rings s row).rings.commitment Ring1) ((after_rings s row).rings.commitment Ring2)
      (λ c h. committed_by_moves s row Ring1 c h) (λ c h. committed_by_moves s row Ring2 c h)

  -- no overlap lasts where something is given up, and so each shows the same
  given_head : gives_up s row ≡ true → (o : ℕ) → IsOverlap s.plan o →
      overlap_head s.plan (shown (after_rings s row)) o ≡ overlap_head s.plan (shown (after_moves s row)) o
  given_head h o at =
      head-left s.plan (shown (after_moves s row)) (commitment (after_rings s row)) left o
      (none-lasts s.plan (shown (after_moves s row)) o (gives_by s row h).1 at)

  -- nor does what keeps an overlap green change
  kept_given : gives_up s row ≡ true → (o : ℕ) → IsOverlap s.plan o →
      is_kept_green s.plan (shown (after_rings s row)) o ≡ is_kept_green s.plan (shown (after_moves s row)) o
  kept_given h o at =
      kept-left s.plan (shown (after_moves s row)) (commitment (after_rings s row)) left o
      (none-lasts s.plan (shown (after_moves s row)) o (gives_by s row h).1 at)

  -- the overlaps, which follow then, change neither
  untimed_head : (o : ℕ) → is_timed s.plan o ≡ false →
      overlap_head s.plan (shown (next s row)) o ≡ overlap_head s.plan (shown (after_rings s row)) o
  unfolding is_kept_green is_on_yellow has_green_modifier has_yellow_modifier is_on_last_yellow
  untimed_head o untimed = rw untimed refl

  pub kept_aside : (o : ℕ) → is_kept_green s.plan (shown (next s row)) o ≡ is_kept_green s.plan (shown (after_rings s row)) o
  unfolding is_kept_green
  kept_aside o = refl

  pub kept_by_moves : (o : ℕ) → IsOverlap s.plan o →
      is_kept_green s.plan (shown (next s row)) o ≡ is_kept_green s.plan (shown (after_moves s row)) o
  kept_by_moves o at = kept_aside o ∙ by (gives_up s row) refl
    where
      by : (b : Bool) → gives_up s row ≡ b → is_kept_green s.plan (shown (after_rings s row)) o ≡ is_kept_green s.plan (shown (after_moves s row)) o
      by true h = kept_given h o at
      by false h = ap (λ (x : State). is_kept_green x.plan (shown x) o) (keeps_all s row h)

  pub shows_the_same : ShowsTheSame (after_moves s row) (next s row)
  shows_the_same = record { phases = refl; overlap = λ o at untimed. untimed_head o untimed ∙ by (gives_up s row) refl o at; kept = kept_by_moves }
    where
      by : (b : Bool) → gives_up s row ≡ b → (o : ℕ) → IsOverlap s.plan o →
          overlap_head s.plan (shown (after_rings s row)) o ≡ overlap_head s.plan (shown (after_moves s row)) o
      by true h o at = given_head h o at
      by false h o at = ap (λ (x : State). overlap_head x.plan (shown x) o) (keeps_all s row h)

  -- the monitor, which judges last, changes nothing of what keeps one green
  kept_watched : (o : ℕ) → s.trip ≡ None → is_kept_green (step s (Tick row)).plan (shown (step s (Tick row))) o ≡ is_kept_green s.plan (shown (next s row)) o
  unfolding step watched is_kept_green
  kept_watched o dark = go (is_some s.trip) (ap is_some dark)
    where
      kept : State → Bool
      kept x = is_kept_green x.plan (shown x) o

      go : (b : Bool) → b ≡ false →
          kept (if b then record s { now = s.now + 1 } else (if b then next s row else watched s (next s row))) ≡ kept (next s row)
      go true h = absurd (true≢false h)
      go false h = refl

  pub kept_then : (o : ℕ) → s.trip ≡ None → IsOverlap s.plan o →
      is_kept_green (step s (Tick row)).plan (shown (step s (Tick row))) o ≡ is_kept_green s.plan (shown (after_moves s row)) o
  kept_then o dark at = kept_watched o dark ∙ kept_by_moves o at

  -- ## Commitments

  -- the monitor, which judges last, changes nothing of it
  lasting_then : s.trip ≡ None → is_lasting (step s (Tick row)) ≡ is_lasting (next s row)
  unfolding step watched some_lasts lasts run_from
  lasting_then dark = go (is_some s.trip) (ap is_some dark)
    where
      go : (b : Bool) → b ≡ false →
          is_lasting (if b then record s { now = s.now + 1 } else (if b then next s row else watched s (next s row))) ≡ is_lasting (next s row)
      go true h = absurd (true≢false h)
      go false h = refl

  -- where the rings keep all
  lasting_aside : is_lasting (next s row) ≡ is_lasting (after_rings s row)
  unfolding some_lasts lasts run_from
  lasting_aside = refl

  lasting_kept : gives_up s row ≡ false → is_lasting (next s row) ≡ is_lasting (after_moves s row)
  lasting_kept h = lasting_aside ∙ ap is_lasting (keeps_all s row h)

  -- a preempt that chooses anew has a target
  has_target : is_anew s.plan (service s row) ≡ true → is_some (target s row) ≡ true
  unfolding new_service
  has_target h = go (preempts.new_service s.plan (preempts_given s row) (preempts_read s)) refl h
    where
      go : (o : Option Service) → preempts.new_service s.plan (preempts_given s row) (preempts_read s) ≡ o →
          is_anew s.plan (option_map (λ (x : Service). x.preempt) o) ≡ true → is_some (target s row) ≡ true
      go None e k = absurd (false≢true k)
      go (Some x) e k = ap (λ (o : Option Service). is_some (preempts.wanted_by s.plan o)) e

  of_target : (t : Option (ℕ → Bool)) → target s row ≡ t → is_some t ≡ true → (r : Ring) (c : ℕ) →
      (given_up s.plan t (after_moves s row).rings).commitment r ≡ Some c → must_end s row c ≡ false
  of_target None e some r c h = absurd (false≢true some)
  of_target (Some list) e some r c h =
      let it = (left_of_target s.plan list (after_moves s row).rings r c h).0 in
      ap (λ (o : Option (ℕ → Bool)). preempts.is_outside o c) e ∙ ap not (and_parts (is_enabled s.plan c) (list c) it).1

  -- where they are given up
  pub rings_given_up : gives_up s row ≡ true → (next s row).rings ≡ given_up s.plan (target s row) (after_moves s row).rings
  unfolding new_rings
  rings_given_up h = rw h refl

  gives : is_anew s.plan (service s row) ≡ true → is_lasting (after_moves s row) ≡ false → gives_up s row ≡ true
  unfolding gives_up
  gives h e = rw (h, e) refl

  -- so they are where it is in service after the tick and no overlap lasts then
  pub gave_up : s.trip ≡ None → is_choosing (step s (Tick row)) ≡ true → is_lasting (step s (Tick row)) ≡ false → gives_up s row ≡ true
  gave_up dark choosing quiet = gives (sym (choosing_then s row dark) ∙ choosing) (false_from_ne_true (is_lasting (after_moves s row)) lasted)
    where
      lasted : is_lasting (after_moves s row) ≡ true → ⊥
      lasted e = true≢false (sym (lasting_then dark ∙ lasting_kept (gives_none_lasting s row e) ∙ e) ∙ quiet)

  pub wants_commitments : (r : Ring) (c : ℕ) → s.trip ≡ None → is_anew s.plan (service s row) ≡ true →
      (step s (Tick row)).rings.commitment r ≡ Some c → (must_end s row c ≡ false) ⊎ (is_lasting (step s (Tick row)) ≡ true)
  wants_commitments r c dark anew h =
      elim (cases_Bool (is_lasting (after_moves s row))) [
        | inl e ↦ inr (lasting_then dark ∙ lasting_kept (gives_none_lasting s row e) ∙ e)
        | inr e ↦ (let same : (step s (Tick row)).rings ≡ given_up s.plan (target s row) (after_moves s row).rings =
            rings_then s row dark ∙ rings_given_up (gives anew e) in
            inl (of_target (target s row) refl (has_target anew) r c (sym (ap (λ (x : rings.State). x.commitment r) same) ∙ h)))
      ]
