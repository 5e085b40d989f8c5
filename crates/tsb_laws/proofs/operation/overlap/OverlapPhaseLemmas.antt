-- An overlap that is green or yellow includes a phase that is in service. Proves `overlaps_go_with_phases`.
use Rattle.std.proofs.Common.{◌≡◌, ℕ, Bool, true, false, not, ◌&&◌, ◌||◌, if◌then◌else◌, is_some, refl, sym, ap, ◌∙◌, inl, inr}
use Rattle.std.proofs.lemmas.Bool.{and_parts, or_cases, false≢true}
use Rattle.tsb_step.specs.tsb_types.declared.lamp.Aspect.TheVariants as aspects
use Rattle.tsb_step.specs.tsb_types.Intervals.{is_yellow, in_service}
use Rattle.tsb_step.specs.tsb_plan.Parts.{includes_none, is_arrow, is_included, is_minus_green_yellow, is_timed, trails}
use Rattle.tsb_step.proofs.tsb_rules.RuleLemmas.{Passes, some-run_from}
use Rattle.tsb_step.specs.tsb_heads.Heads.{vehicle_head}
use Rattle.tsb_step.specs.tsb_heads.Overlaps.{is_followed, keeps_green, is_kept_green, is_on_yellow, has_green_modifier, has_yellow_modifier, is_on_last_yellow, normal_aspect, minus_green_yellow_aspect, aspect_by_type, head_by_phases, overlap_head}
use Rattle.tsb_step.specs.tsb_heads.Displays.{ordered, flashed, flashing}
use Rattle.tsb_step.specs.tsb_heads.Monitoring.{gives_way, has_right_of_way}
use Rattle.tsb_step.specs.State.{State, interval}
use Rattle.tsb_step.specs.Signs.{shown, display}
use Rattle.tsb_step.specs.Good.{IsGood}
use Rattle.tsb_step.specs.Backed.{AreBacked, IsTrailed, TrailsBy}
use Rattle.tsb_step.specs.tsb_overlap.declared.parts.OverlapInterval.{OverlapInterval}
use Rattle.tsb_step.specs.tsb_overlap.declared.parts.OverlapInterval.TheVariants as overlaps
use Rattle.tsb_step.specs.tsb_overlap.Overlap.{light}
use Rattle.tsb_step.proofs.SafeLemmas.{served_together, way_in_service}
use Rattle.tsb_laws.specs.OverlapPhases.{GoesWithPhases}
use Rattle.tsb_laws.proofs.heads.LitLemmas.{flashes_no_way, yellow_serves}
use Rattle.tsb_laws.proofs.heads.TimedLemmas.{clears_serves, keeps_serves}

-- ## An included phase in service

record Carries (s : State) (o : ℕ) : Type 0 where
  phase : ℕ
  included : is_included s.plan o phase ≡ true
  serves : in_service (interval s phase) ≡ true

kept_by_one : (s : State) (o : ℕ) → is_kept_green s.plan (shown s) o ≡ true → Carries s o
unfolding is_kept_green
kept_by_one s o h =
    let f : Passes (λ p. is_included s.plan o p && keeps_green s.plan (shown s) o p) 1 s.plan.phase_count = some-run_from _ 1 s.plan.phase_count h in
    let both = and_parts (is_included s.plan o f.one) (keeps_green s.plan (shown s) o f.one) f.passes in
    record { phase = f.one; included = both.0; serves = keeps_serves (interval s f.one) (is_followed s.plan (shown s) o f.one) both.1 }

yellow_by_one : (s : State) (o : ℕ) → is_on_yellow s.plan (shown s) o ≡ true → Carries s o
unfolding is_on_yellow
yellow_by_one s o h =
    let f : Passes (λ p. is_included s.plan o p && is_yellow (interval s p)) 1 s.plan.phase_count = some-run_from _ 1 s.plan.phase_count h in
    let both = and_parts (is_included s.plan o f.one) (is_yellow (interval s f.one)) f.passes in
    record { phase = f.one; included = both.0; serves = yellow_serves (interval s f.one) both.1 }

last_by_one : (s : State) (o : ℕ) → is_on_last_yellow s.plan (shown s) o ≡ true → Carries s o
unfolding is_on_last_yellow
last_by_one s o h =
    let f : Passes (λ p. is_included s.plan o p && (is_yellow (interval s p) && not (is_followed s.plan (shown s) o p))) 1 s.plan.phase_count =
    some-run_from _ 1 s.plan.phase_count h in
    let both = and_parts (is_included s.plan o f.one) (is_yellow (interval s f.one) && not (is_followed s.plan (shown s) o f.one)) f.passes in
    let yellow = and_parts (is_yellow (interval s f.one)) (not (is_followed s.plan (shown s) o f.one)) both.1 in
    record { phase = f.one; included = both.0; serves = yellow_serves (interval s f.one) yellow.0 }

-- ## The head

normal_carries : (s : State) (o : ℕ) → gives_way (normal_aspect s.plan (shown s) o) ≡ true → Carries s o
normal_carries s o h = go (is_kept_green s.plan (shown s) o) (is_on_yellow s.plan (shown s) o) refl refl h
  where
    go : (kept yellow : Bool) → is_kept_green s.plan (shown s) o ≡ kept → is_on_yellow s.plan (shown s) o ≡ yellow →
        gives_way (if kept then aspects.Green else (if yellow then aspects.Yellow else aspects.Red)) ≡ true → Carries s o
    go true yellow k l x = kept_by_one s o k
    go false true k l x = yellow_by_one s o l
    go false false k l x = absurd (false≢true x)

minus_carries : (s : State) (o : ℕ) → gives_way (minus_green_yellow_aspect s.plan (shown s) o) ≡ true → Carries s o
minus_carries s o h =
    go (is_kept_green s.plan (shown s) o && not (has_green_modifier s.plan (shown s) o))
    (is_on_last_yellow s.plan (shown s) o && not (has_yellow_modifier s.plan (shown s) o)) refl refl h
  where
    go : (kept yellow : Bool) → (is_kept_green s.plan (shown s) o && not (has_green_modifier s.plan (shown s) o)) ≡ kept →
        (is_on_last_yellow s.plan (shown s) o && not (has_yellow_modifier s.plan (shown s) o)) ≡ yellow →
        gives_way (if kept then aspects.Green else (if yellow then aspects.Yellow else aspects.Red)) ≡ true → Carries s o
    go true yellow k l x = kept_by_one s o (and_parts (is_kept_green s.plan (shown s) o) (not (has_green_modifier s.plan (shown s) o)) k).0
    go false true k l x = last_by_one s o (and_parts (is_on_last_yellow s.plan (shown s) o) (not (has_yellow_modifier s.plan (shown s) o)) l).0
    go false false k l x = absurd (false≢true x)

by_type : (s : State) (o : ℕ) → gives_way (aspect_by_type s.plan (shown s) o) ≡ true → Carries s o
by_type s o h = go (is_minus_green_yellow s.plan o) h
  where
    go : (b : Bool) → gives_way (if b then minus_green_yellow_aspect s.plan (shown s) o else normal_aspect s.plan (shown s) o) ≡ true → Carries s o
    go true x = minus_carries s o x
    go false x = normal_carries s o x

untimed_carries : (s : State) (o : ℕ) → gives_way (head_by_phases s.plan (shown s) o) ≡ true → Carries s o
untimed_carries s o h = go (includes_none s.plan o) h
  where
    go : (b : Bool) → gives_way (if b then aspects.Dark else aspect_by_type s.plan (shown s) o) ≡ true → Carries s o
    go true x = absurd (false≢true x)
    go false x = by_type s o x

trailed_carries : (s : State) (o : ℕ) → IsTrailed s o → Carries s o
trailed_carries s o x = record { phase = x.phase; included = x.included; serves = clears_serves (interval s x.phase) x.clears }

-- an overlap that trails, by its interval
trailing_carries : (s : State) (o : ℕ) (i : OverlapInterval) → TrailsBy s o i → gives_way (light i) ≡ true → Carries s o
trailing_carries s o overlaps.Red by h = absurd (false≢true h)
trailing_carries s o overlaps.Green by h = kept_by_one s o by
trailing_carries s o overlaps.TrailGreen by h = trailed_carries s o by
trailing_carries s o overlaps.Flashing by h = absurd by
trailing_carries s o overlaps.Yellow by h = trailed_carries s o by
trailing_carries s o overlaps.RedClear by h = trailed_carries s o by

head_carries : (s : State) → AreBacked s → (o : ℕ) → is_arrow s.plan o ≡ false → gives_way (overlap_head s.plan (shown s) o) ≡ true → Carries s o
head_carries s backed o none h = go (is_timed s.plan o) refl h
  where
    go : (b : Bool) → is_timed s.plan o ≡ b → gives_way (if b then light (s.overlaps o).interval else head_by_phases s.plan (shown s) o) ≡ true → Carries s o
    go true timed x =
        let trail : trails s.plan o ≡ true = sym (ap (λ (a : Bool). a || trails s.plan o) none) ∙ timed in
        trailing_carries s o (s.overlaps o).interval ((backed o).trail none trail) x
    go false timed x = untimed_carries s o x

carries : (s : State) → AreBacked s → (o : ℕ) → is_arrow s.plan o ≡ false → gives_way ((display s).overlap o) ≡ true → Carries s o
unfolding display
carries s backed o none h = go (is_some s.trip) h
  where
    go : (b : Bool) → gives_way ((if b then flashing (ordered s.plan (shown s)) else ordered s.plan (shown s)).overlap o) ≡ true → Carries s o
    go true x = absurd (flashes_no_way (overlap_head s.plan (shown s) o) x)
    go false x = head_carries s backed o none x

-- ## Flashing heads give no right of way

flash_gives_no_way : (s : State) (q : ℕ) → has_right_of_way (flashing (ordered s.plan (shown s))) q ≡ true → ⊥
flash_gives_no_way s q h =
    elim (or_cases (gives_way (flashed (vehicle_head s.plan (shown s) q))) false h) [
      | inl k ↦ flashes_no_way (vehicle_head s.plan (shown s) q) k
      | inr k ↦ false≢true k
    ]

pub way_serves : (s : State) → IsGood s → (q : ℕ) → has_right_of_way (display s) q ≡ true → in_service (interval s q) ≡ true
unfolding display
way_serves s good q h = go (is_some s.trip) h
  where
    go : (b : Bool) → has_right_of_way (if b then flashing (ordered s.plan (shown s)) else ordered s.plan (shown s)) q ≡ true →
        in_service (interval s q) ≡ true
    go true x = absurd (flash_gives_no_way s q x)
    go false x = way_in_service s good q x

-- ## So the overlap goes with what is in service

pub goes_with_phases : (s : State) → IsGood s → AreBacked s → (o : ℕ) → is_arrow s.plan o ≡ false → gives_way ((display s).overlap o) ≡ true → GoesWithPhases s o
goes_with_phases s good backed o none h =
    let it : Carries s o = carries s backed o none h in
    record {
      phase = it.phase;
      included = it.included;
      serves = it.serves;
      together = λ q k. served_together s good it.phase q it.serves k;
      ways = λ q k. served_together s good it.phase q it.serves (way_serves s good q k);
    }
