-- Laws of arrows and of overlaps that trail, of any phases, rings and preempts that a tick may give them.
use Rattle.std.proofs.Common.{◌≡◌, ◌≢◌, ℕ, ◌+◌, ◌-◌, ◌<◌, ◌≤◌, ◌==◌, nat_le, max, Bool, true, false, not, ◌&&◌, ◌||◌, if◌then◌else◌, Option, Some, None, ◌⊎◌, refl, sym, ap, ◌∙◌, subst, arith, inl, inr}
use Rattle.std.specs.List.{list_any}
use Rattle.std.proofs.lemmas.Bool.{and_parts, or_cases, or_parts, cases_Bool, not-true}
use Rattle.std.proofs.lemmas.Bool.Decides.{nat_tests}
use Rattle.tsb_cells.specs.declared.timer.Timer.{Timer}
use Rattle.tsb_cells.specs.declared.timer.Timer.TheVariants.{Off, On}
use Rattle.tsb_cells.specs.Timer.{has_reached, is_on, advanced}
use Rattle.tsb_objects.specs.tsb_types.Intervals.{is_green}
use Rattle.tsb_objects.specs.tsb_plan.Plan.{Plan, phases, yellow_change}
use Rattle.tsb_objects.specs.tsb_plan.Parts.{is_arrow, is_included, trails, trail_green, trail_yellow, trail_red, heeds_pedestrians}
use Rattle.tsb_objects.proofs.tsb_rules.RuleLemmas.{Passes, some-run_from}
use Rattle.tsb_heads.specs.Overlaps.{is_kept_green}
use Rattle.tsb_overlap.specs.declared.parts.OverlapInterval.{OverlapInterval}
use Rattle.tsb_overlap.specs.declared.parts.OverlapInterval.TheVariants.{Red, Green, TrailGreen, Flashing, Yellow, RedClear}
use Rattle.tsb_overlap.specs.Overlap.{Overlap, Given, standing, begun, as_read, run_on, trail_by, trail_green_on, trail_yellow_on, trail_red_on, arrow_by, arrow_yellow_on, may_be_kept, left_alone, trail_settled, turn_of, is_turning, is_open_to, is_walked, may_flash, ended_flash, not_flashing, flashing_or, unturned, arrow_settled, settled, next, is_trailing, trail_left}
use Rattle.tsb_overlap.proofs.DueLemmas.{trail-run_on}
use Rattle.tsb_overlap.proofs.ListLemmas.{not-both}
use Rattle.tsb_overlap.specs.Laws.{IsPermitted, IsOfKind, HasHadItsYellow}

-- an overlap, field by field
abbrev of : OverlapInterval → Timer → Option ℕ → Overlap
of i timer phase = record { interval = i; timer = timer; phase = phase }

-- ## What comes of a choice

choice : (b : Bool) (y z : Overlap) (P : OverlapInterval → Type 0) → P y.interval → P z.interval → P (if b then y else z).interval
choice true y z P one two = one
choice false y z P one two = two

-- ## Arrows that flash

ended-ungreen : (t : ℕ) (p : Option ℕ) → (ended_flash t p).interval ≢ Green
ended-ungreen t None e = cc
ended-ungreen t (Some p) e = cc

ended-unflashing : (t : ℕ) (p : Option ℕ) → (ended_flash t p).interval ≢ Flashing
ended-unflashing t None e = cc
ended-unflashing t (Some p) e = cc

not_flashing-ungreen : (plan : Plan) (given : Given) (o t : ℕ) (i : OverlapInterval) → (not_flashing plan given o t i).interval ≢ Green
not_flashing-ungreen plan given o t Red e = cc
not_flashing-ungreen plan given o t Green e = cc
not_flashing-ungreen plan given o t TrailGreen e = cc
not_flashing-ungreen plan given o t Flashing e = ended-ungreen t _ e
not_flashing-ungreen plan given o t Yellow e = cc
not_flashing-ungreen plan given o t RedClear e = cc

not_flashing-unflashing : (plan : Plan) (given : Given) (o t : ℕ) (i : OverlapInterval) → (not_flashing plan given o t i).interval ≢ Flashing
not_flashing-unflashing plan given o t Red e = cc
not_flashing-unflashing plan given o t Green e = cc
not_flashing-unflashing plan given o t TrailGreen e = cc
not_flashing-unflashing plan given o t Flashing e = ended-unflashing t _ e
not_flashing-unflashing plan given o t Yellow e = cc
not_flashing-unflashing plan given o t RedClear e = cc

module _ (plan : Plan) (given : Given) (o t : ℕ) (timer : Timer) (phase : Option ℕ) where
  flashing_or-ungreen : (i : OverlapInterval) → (flashing_or plan given o t (of i timer phase)).interval ≢ Green
  flashing_or-ungreen i e = go (may_flash plan given o t) e
    where
      go : (b : Bool) → (if b then standing Flashing else not_flashing plan given o t i).interval ≢ Green
      go true e = cc
      go false e = not_flashing-ungreen plan given o t i e

  unturned-ungreen : (i : OverlapInterval) → (unturned plan given o t (of i timer phase) i).interval ≢ Green
  unturned-ungreen Red e = flashing_or-ungreen Red e
  unturned-ungreen Green e = cc
  unturned-ungreen TrailGreen e = flashing_or-ungreen TrailGreen e
  unturned-ungreen Flashing e = flashing_or-ungreen Flashing e
  unturned-ungreen Yellow e = cc
  unturned-ungreen RedClear e = flashing_or-ungreen RedClear e

  flashing_or-may : (i : OverlapInterval) → (flashing_or plan given o t (of i timer phase)).interval ≡ Flashing → may_flash plan given o t ≡ true
  flashing_or-may i e = go (may_flash plan given o t) refl e
    where
      go : (b : Bool) → may_flash plan given o t ≡ b → (if b then standing Flashing else not_flashing plan given o t i).interval ≡ Flashing → may_flash plan given o t ≡ true
      go true may e = may
      go false may e = absurd (not_flashing-unflashing plan given o t i e)

  unturned-may : (i : OverlapInterval) → (unturned plan given o t (of i timer phase) i).interval ≡ Flashing → may_flash plan given o t ≡ true
  unturned-may Red e = flashing_or-may Red e
  unturned-may Green e = absurd cc
  unturned-may TrailGreen e = flashing_or-may TrailGreen e
  unturned-may Flashing e = flashing_or-may Flashing e
  unturned-may Yellow e = absurd cc
  unturned-may RedClear e = flashing_or-may RedClear e

  flashes-as_may : (i : OverlapInterval) → (arrow_settled plan given o (of i timer phase) (Some t)).interval ≡ Flashing → may_flash plan given o t ≡ true
  flashes-as_may i e = go (is_green (given.shown.interval t)) e
    where
      go : (b : Bool) → (if b then standing Green else unturned plan given o t (of i timer phase) i).interval ≡ Flashing → may_flash plan given o t ≡ true
      go true e = absurd cc
      go false e = unturned-may i e

  green-as_turn : (i : OverlapInterval) → (arrow_settled plan given o (of i timer phase) (Some t)).interval ≡ Green → is_green (given.shown.interval t) ≡ true
  green-as_turn i e = go (is_green (given.shown.interval t)) refl e
    where
      go : (b : Bool) → is_green (given.shown.interval t) ≡ b → (if b then standing Green else unturned plan given o t (of i timer phase) i).interval ≡ Green →
          is_green (given.shown.interval t) ≡ true
      go true green e = green
      go false green e = absurd (unturned-ungreen i e)

permits : (plan : Plan) (given : Given) (o t : ℕ) → may_flash plan given o t ≡ true → IsPermitted plan given o t
unfolding may_flash
permits plan given o t may =
    let one = and_parts (not (given.omitted o)) _ may in
    let two = and_parts (not (is_turning given t)) _ one.1 in
    let three = and_parts (not (heeds_pedestrians plan o && list_any (is_walked plan given o) (phases plan))) _ two.1 in
    let some : Passes (is_open_to plan given o) 1 plan.phase_count = some-run_from (is_open_to plan given o) 1 plan.phase_count three.1 in
    let here = and_parts (is_included plan o some.one) _ some.passes in
    let green = and_parts (is_green (given.shown.interval some.one)) _ here.1 in
    record { phase = some.one; included = here.0; green = green.0; apart = not-true (is_turning given t) two.0 }

-- an arrow after a tick, where its turn is known
arrow-next : (plan : Plan) (given : Given) (f : ℕ → Overlap) (o t : ℕ) → is_arrow plan o ≡ true → turn_of plan o ≡ Some t →
    next plan given f o ≡ arrow_settled plan given o (run_on plan given.preempted o (as_read (f o))) (Some t)
unfolding next settled
arrow-next plan given f o t arrow turn = rw (arrow, turn) refl

pub flashes-by_permission : (plan : Plan) (given : Given) (f : ℕ → Overlap) (o t : ℕ) → is_arrow plan o ≡ true → turn_of plan o ≡ Some t →
    (next plan given f o).interval ≡ Flashing → IsPermitted plan given o t
flashes-by_permission plan given f o t arrow turn e =
    let y : Overlap = run_on plan given.preempted o (as_read (f o)) in
    permits plan given o t (flashes-as_may plan given o t y.timer y.phase y.interval (sym (ap (λ (x : Overlap). x.interval) (arrow-next plan given f o t arrow turn)) ∙ e))

turned : (plan : Plan) (given : Given) (o t : ℕ) (y : Overlap) → is_green (given.shown.interval t) ≡ true → (arrow_settled plan given o y (Some t)).interval ≡ Green
turned plan given o t y green = rw green refl

pub is-its_turn : (plan : Plan) (given : Given) (f : ℕ → Overlap) (o t : ℕ) → is_arrow plan o ≡ true → turn_of plan o ≡ Some t →
    ((next plan given f o).interval ≡ Green → is_green (given.shown.interval t) ≡ true)
    × (is_green (given.shown.interval t) ≡ true → (next plan given f o).interval ≡ Green)
is-its_turn plan given f o t arrow turn =
    let y : Overlap = run_on plan given.preempted o (as_read (f o)) in
    let is : (next plan given f o).interval ≡ (arrow_settled plan given o y (Some t)).interval = ap (λ (x : Overlap). x.interval) (arrow-next plan given f o t arrow turn) in (
      (λ e. green-as_turn plan given o t y.timer y.phase y.interval (sym is ∙ e)),
      (λ green. is ∙ turned plan given o t y green),
    )

-- ## Lit overlaps that end

-- it is red, or in red clearance
abbrev IsOut : OverlapInterval → Type 0
IsOut i = (i ≡ Red) ⊎ (i ≡ RedClear)

-- it is lit
abbrev IsLit : OverlapInterval → Type 0
IsLit Green = Unit {0}
IsLit TrailGreen = Unit {0}
IsLit Flashing = Unit {0}
IsLit Yellow = Unit {0}
IsLit Red = ⊥
IsLit RedClear = ⊥

lit-not_out : (i : OverlapInterval) → IsLit i → IsOut i → ⊥
lit-not_out Green lit (inl e) = cc
lit-not_out Green lit (inr e) = cc
lit-not_out TrailGreen lit (inl e) = cc
lit-not_out TrailGreen lit (inr e) = cc
lit-not_out Flashing lit (inl e) = cc
lit-not_out Flashing lit (inr e) = cc
lit-not_out Yellow lit (inl e) = cc
lit-not_out Yellow lit (inr e) = cc
lit-not_out Red lit out = lit
lit-not_out RedClear lit out = lit

ended-lit : (t : ℕ) (p : Option ℕ) → IsLit (ended_flash t p).interval
ended-lit t None = tt
ended-lit t (Some p) = tt

unturned-lit : (plan : Plan) (given : Given) (o t : ℕ) (timer : Timer) (phase : Option ℕ) (i : OverlapInterval) → IsLit i → i ≢ TrailGreen →
    IsLit (unturned plan given o t (of i timer phase) i).interval
unturned-lit plan given o t timer phase Green lit other = tt
unturned-lit plan given o t timer phase Yellow lit other = tt
unturned-lit plan given o t timer phase Flashing lit other = choice (may_flash plan given o t) (standing Flashing) _ IsLit tt (ended-lit t _)
unturned-lit plan given o t timer phase TrailGreen lit other = absurd (other refl)
unturned-lit plan given o t timer phase Red lit other = absurd lit
unturned-lit plan given o t timer phase RedClear lit other = absurd lit

arrow-lit : (plan : Plan) (given : Given) (o : ℕ) (timer : Timer) (phase turn : Option ℕ) (i : OverlapInterval) → IsLit i → i ≢ TrailGreen →
    IsLit (arrow_settled plan given o (of i timer phase) turn).interval
arrow-lit plan given o timer phase None i lit other = lit
arrow-lit plan given o timer phase (Some t) i lit other =
    choice (is_green (given.shown.interval t)) (standing Green) _ IsLit tt (unturned-lit plan given o t timer phase i lit other)

-- what an arrow that ends had
abbrev HadArrowYellow : Plan → OverlapInterval → Timer → Option ℕ → Type 0
HadArrowYellow plan i timer phase = (i ≡ Yellow) × ((p : ℕ) → phase ≡ Some p → has_reached timer (yellow_change plan p) ≡ true)

module _ (plan : Plan) (given : Given) (o : ℕ) (turn : Option ℕ) (timer : Timer) where
  yellow-ends : (phase : Option ℕ) → IsOut (arrow_settled plan given o (arrow_yellow_on plan (of Yellow timer phase) phase) turn).interval →
      HadArrowYellow plan Yellow timer phase
  yellow-ends None out = absurd (lit-not_out _ (arrow-lit plan given o timer None turn Yellow tt (λ e. cc)) out)
  yellow-ends (Some p) out = go (has_reached timer (yellow_change plan p)) refl out
    where
      go : (b : Bool) → has_reached timer (yellow_change plan p) ≡ b →
          IsOut (arrow_settled plan given o (if b then standing Red else of Yellow timer (Some p)) turn).interval → HadArrowYellow plan Yellow timer (Some p)
      go true reached out = (refl, λ q e. let same : p ≡ q = cc in subst (λ (n : ℕ). has_reached timer (yellow_change plan n) ≡ true) same reached)
      go false reached out = absurd (lit-not_out _ (arrow-lit plan given o timer (Some p) turn Yellow tt (λ e. cc)) out)

  arrow-ends : (phase : Option ℕ) (i : OverlapInterval) → is_arrow plan o ≡ true → IsOfKind plan o i → i ≢ Red → i ≢ RedClear →
      IsOut (arrow_settled plan given o (arrow_by plan (of i timer phase) i) turn).interval → HadArrowYellow plan i timer phase
  arrow-ends phase Red arrow kind not_red not_clear out = absurd (not_red refl)
  arrow-ends phase RedClear arrow kind not_red not_clear out = absurd (not_clear refl)
  arrow-ends phase TrailGreen arrow kind not_red not_clear out = absurd cc
  arrow-ends phase Green arrow kind not_red not_clear out = absurd (lit-not_out _ (arrow-lit plan given o timer phase turn Green tt (λ e. cc)) out)
  arrow-ends phase Flashing arrow kind not_red not_clear out = absurd (lit-not_out _ (arrow-lit plan given o timer phase turn Flashing tt (λ e. cc)) out)
  arrow-ends phase Yellow arrow kind not_red not_clear out = yellow-ends phase out

-- an overlap that trails
left-lit : (given : Given) (timer : Timer) (phase : Option ℕ) (i : OverlapInterval) → IsLit i → IsLit (left_alone given (of i timer phase) i).interval
left-lit given timer phase Green lit = choice given.preempted (begun Yellow) (begun TrailGreen) IsLit tt tt
left-lit given timer phase TrailGreen lit = tt
left-lit given timer phase Flashing lit = tt
left-lit given timer phase Yellow lit = tt
left-lit given timer phase Red lit = lit
left-lit given timer phase RedClear lit = lit

trail-lit : (plan : Plan) (given : Given) (o : ℕ) (timer : Timer) (phase : Option ℕ) (i : OverlapInterval) → IsLit i →
    IsLit (trail_settled plan given o (of i timer phase)).interval
trail-lit plan given o timer phase i lit =
    choice (may_be_kept i && is_kept_green plan given.shown o) (standing Green) _ IsLit tt (left-lit given timer phase i lit)

module _ (plan : Plan) (given : Given) (o : ℕ) (preempted : Bool) (timer : Timer) (phase : Option ℕ) where
  trail_green-lit : IsLit (trail_settled plan given o (trail_green_on plan o preempted (of TrailGreen timer phase))).interval
  trail_green-lit = go (preempted || has_reached timer (trail_green plan o))
    where
      go : (b : Bool) → IsLit (trail_settled plan given o (if b then begun Yellow else of TrailGreen timer phase)).interval
      go true = trail-lit plan given o (On 0) None Yellow tt
      go false = trail-lit plan given o timer phase TrailGreen tt

  trail_yellow-ends : IsOut (trail_settled plan given o (trail_yellow_on plan o (of Yellow timer phase))).interval → has_reached timer (trail_yellow plan o) ≡ true
  trail_yellow-ends out = go (has_reached timer (trail_yellow plan o)) refl out
    where
      go : (b : Bool) → has_reached timer (trail_yellow plan o) ≡ b →
          IsOut (trail_settled plan given o (if b then (if trail_red plan o == 0 then standing Red else begun RedClear) else of Yellow timer phase)).interval →
          has_reached timer (trail_yellow plan o) ≡ true
      go true reached out = reached
      go false reached out = absurd (lit-not_out _ (trail-lit plan given o timer phase Yellow tt) out)

  trail-ends : (i : OverlapInterval) → is_arrow plan o ≡ false → IsOfKind plan o i → i ≢ Red → i ≢ RedClear →
      IsOut (trail_settled plan given o (trail_by plan o preempted (of i timer phase) i)).interval → (i ≡ Yellow) × (has_reached timer (trail_yellow plan o) ≡ true)
  trail-ends Red arrow kind not_red not_clear out = absurd (not_red refl)
  trail-ends RedClear arrow kind not_red not_clear out = absurd (not_clear refl)
  trail-ends TrailGreen arrow kind not_red not_clear out = absurd (lit-not_out _ trail_green-lit out)
  trail-ends Green arrow kind not_red not_clear out = absurd (lit-not_out _ (trail-lit plan given o timer phase Green tt) out)
  trail-ends Flashing arrow kind not_red not_clear out = absurd cc
  trail-ends Yellow arrow kind not_red not_clear out = (refl, trail_yellow-ends out)

arrow-whole : (plan : Plan) (given : Given) (f : ℕ → Overlap) (o : ℕ) → is_arrow plan o ≡ true →
    next plan given f o ≡ arrow_settled plan given o (arrow_by plan (as_read (f o)) (f o).interval) (turn_of plan o)
unfolding next settled run_on
arrow-whole plan given f o arrow = rw arrow refl

trail-whole : (plan : Plan) (given : Given) (f : ℕ → Overlap) (o : ℕ) → is_arrow plan o ≡ false → trails plan o ≡ true →
    next plan given f o ≡ trail_settled plan given o (trail_by plan o given.preempted (as_read (f o)) (f o).interval)
unfolding next settled run_on
trail-whole plan given f o arrow trails = rw (arrow, trails) refl

pub ends-in_yellow : (plan : Plan) (given : Given) (f : ℕ → Overlap) (o : ℕ) → (is_arrow plan o ≡ true) ⊎ (trails plan o ≡ true) →
    IsOfKind plan o (f o).interval → (f o).interval ≢ Red → (f o).interval ≢ RedClear → IsOut (next plan given f o).interval → HasHadItsYellow plan o (f o)
ends-in_yellow plan given f o timed kind not_red not_clear out =
    elim (cases_Bool (is_arrow plan o)) [
      | inl arrow ↦
          (let had = arrow-ends plan given o (turn_of plan o) (advanced (f o).timer) (f o).phase (f o).interval arrow kind not_red not_clear
          (subst (λ (x : Overlap). IsOut x.interval) (arrow-whole plan given f o arrow) out) in
          record { yellow = had.0; arrow = λ p is e. had.1 p e; trail = λ not_arrow. absurd (not-both (is_arrow plan o) arrow not_arrow) })
      | inr not_arrow ↦
          (let trail : trails plan o ≡ true = elim timed [ inl arrow ↦ absurd (not-both (is_arrow plan o) arrow not_arrow) | inr trail ↦ trail ] in
          let had = trail-ends plan given o given.preempted (advanced (f o).timer) (f o).phase (f o).interval not_arrow kind not_red not_clear
          (subst (λ (x : Overlap). IsOut x.interval) (trail-whole plan given f o not_arrow trail) out) in
          record { yellow = had.0; arrow = λ p arrow e. absurd (not-both (is_arrow plan o) arrow not_arrow); trail = λ is. had.1 })
    ]

-- ## Times of overlaps that trail

module _ (plan : Plan) (given : Given) (o : ℕ) (timer : Timer) (phase : Option ℕ) where
  green-lasts : (i : OverlapInterval) → i ≡ TrailGreen →
      (trail_settled plan given o (trail_by plan o given.preempted (of i timer phase) i)).interval ≡ Yellow →
      (given.preempted ≡ true) ⊎ (has_reached timer (trail_green plan o) ≡ true)
  green-lasts Red e yellow = absurd cc
  green-lasts Green e yellow = absurd cc
  green-lasts Flashing e yellow = absurd cc
  green-lasts Yellow e yellow = absurd cc
  green-lasts RedClear e yellow = absurd cc
  green-lasts TrailGreen e yellow = go (given.preempted || has_reached timer (trail_green plan o)) refl yellow
    where
      still : (b : Bool) → (if b then standing Green else of TrailGreen timer phase).interval ≡ Yellow → ⊥
      still true e = cc
      still false e = cc

      go : (b : Bool) → (given.preempted || has_reached timer (trail_green plan o)) ≡ b →
          (trail_settled plan given o (if b then begun Yellow else of TrailGreen timer phase)).interval ≡ Yellow →
          (given.preempted ≡ true) ⊎ (has_reached timer (trail_green plan o) ≡ true)
      go true over yellow = or_cases given.preempted (has_reached timer (trail_green plan o)) over
      go false over yellow = absurd (still (is_kept_green plan given.shown o) yellow)

  clear-lasts : (i : OverlapInterval) → i ≡ RedClear →
      (trail_settled plan given o (trail_by plan o given.preempted (of i timer phase) i)).interval ≢ RedClear → has_reached timer (trail_red plan o) ≡ true
  clear-lasts Red e other = absurd cc
  clear-lasts Green e other = absurd cc
  clear-lasts Flashing e other = absurd cc
  clear-lasts Yellow e other = absurd cc
  clear-lasts TrailGreen e other = absurd cc
  clear-lasts RedClear e other = go (has_reached timer (trail_red plan o)) refl other
    where
      go : (b : Bool) → has_reached timer (trail_red plan o) ≡ b →
          (trail_settled plan given o (if b then standing Red else of RedClear timer phase)).interval ≢ RedClear → has_reached timer (trail_red plan o) ≡ true
      go true reached other = reached
      go false reached other = absurd (other refl)

pub trails-last : (plan : Plan) (given : Given) (f : ℕ → Overlap) (o : ℕ) → is_arrow plan o ≡ false → trails plan o ≡ true →
    (f o).interval ≡ TrailGreen → (next plan given f o).interval ≡ Yellow →
    (given.preempted ≡ true) ⊎ (has_reached (as_read (f o)).timer (trail_green plan o) ≡ true)
trails-last plan given f o arrow trail was yellow =
    green-lasts plan given o (advanced (f o).timer) (f o).phase (f o).interval was
    (subst (λ (x : Overlap). x.interval ≡ Yellow) (trail-whole plan given f o arrow trail) yellow)

pub clearances-last : (plan : Plan) (given : Given) (f : ℕ → Overlap) (o : ℕ) → is_arrow plan o ≡ false → trails plan o ≡ true →
    (f o).interval ≡ RedClear → (next plan given f o).interval ≢ RedClear → has_reached (as_read (f o)).timer (trail_red plan o) ≡ true
clearances-last plan given f o arrow trail was other =
    clear-lasts plan given o (advanced (f o).timer) (f o).phase (f o).interval was
    (subst (λ (x : Overlap). x.interval ≢ RedClear) (trail-whole plan given f o arrow trail) other)

-- ## What is left of a trail

falls : (n time rest : ℕ) → nat_le time (n + 1) ≡ false → max 1 (time - (n + 1)) + rest < max 1 (time - n) + rest
falls n time rest h = let more : n + 1 < time = grind (arith, nat_tests, h) in omega (arith, more)

module _ (plan : Plan) (o n : ℕ) (phase : Option ℕ) where
  abbrev left : Bool → Overlap → ℕ
  left preempted x = trail_left plan preempted o x x.interval

  green-falls : (preempted : Bool) → 1 ≤ trail_yellow plan o →
      left preempted (trail_green_on plan o preempted (of TrailGreen (On (n + 1)) phase)) < left preempted (of TrailGreen (On n) phase)
  green-falls true some = omega arith
  green-falls false some = go (nat_le (trail_green plan o) (n + 1)) refl
    where
      go : (b : Bool) → nat_le (trail_green plan o) (n + 1) ≡ b →
          left false (if b then begun Yellow else of TrailGreen (On (n + 1)) phase) < left false (of TrailGreen (On n) phase)
      go true reached = omega (arith, some)
      go false reached = falls n (trail_green plan o) (trail_yellow plan o + trail_red plan o) reached

  yellow-falls : (preempted : Bool) → left preempted (trail_yellow_on plan o (of Yellow (On (n + 1)) phase)) < left preempted (of Yellow (On n) phase)
  yellow-falls preempted = go (nat_le (trail_yellow plan o) (n + 1)) refl
    where
      over : (b : Bool) → (trail_red plan o == 0) ≡ b → left preempted (if b then standing Red else begun RedClear) < left preempted (of Yellow (On n) phase)
      over true none = omega arith
      over false some = let more : 1 ≤ trail_red plan o = grind (arith, nat_tests, some) in omega (arith, more)

      go : (b : Bool) → nat_le (trail_yellow plan o) (n + 1) ≡ b →
          left preempted (if b then (if trail_red plan o == 0 then standing Red else begun RedClear) else of Yellow (On (n + 1)) phase)
          < left preempted (of Yellow (On n) phase)
      go true reached = over (trail_red plan o == 0) refl
      go false reached = falls n (trail_yellow plan o) (trail_red plan o) reached

  clear-falls : (preempted : Bool) → left preempted (trail_red_on plan o (of RedClear (On (n + 1)) phase)) < left preempted (of RedClear (On n) phase)
  clear-falls preempted = go (nat_le (trail_red plan o) (n + 1)) refl
    where
      go : (b : Bool) → nat_le (trail_red plan o) (n + 1) ≡ b →
          left preempted (if b then standing Red else of RedClear (On (n + 1)) phase) < left preempted (of RedClear (On n) phase)
      go true reached = omega arith
      go false reached = let more : n + 1 < trail_red plan o = grind (arith, nat_tests, reached) in omega (arith, more)

  trail-falls : (preempted : Bool) (i : OverlapInterval) → 1 ≤ trail_yellow plan o → 1 ≤ left preempted (of i (On n) phase) →
      left preempted (trail_by plan o preempted (of i (On (n + 1)) phase) i) < left preempted (of i (On n) phase)
  trail-falls preempted Red some runs = absurd (omega arith)
  trail-falls preempted Green some runs = absurd (omega arith)
  trail-falls preempted Flashing some runs = absurd (omega arith)
  trail-falls preempted TrailGreen some runs = green-falls preempted some
  trail-falls preempted Yellow some runs = yellow-falls preempted
  trail-falls preempted RedClear some runs = clear-falls preempted

pub trail-runs_out : (plan : Plan) (preempted : Bool) (o : ℕ) (x : Overlap) → is_arrow plan o ≡ false → trails plan o ≡ true →
    1 ≤ trail_yellow plan o → is_on x.timer ≡ true → 1 ≤ trail_left plan preempted o x x.interval →
    trail_left plan preempted o (run_on plan preempted o (as_read x)) (run_on plan preempted o (as_read x)).interval < trail_left plan preempted o x x.interval
trail-runs_out plan preempted o x arrow trail some on runs = go x.timer on runs
  where
    go : (timer : Timer) → is_on timer ≡ true → 1 ≤ trail_left plan preempted o (of x.interval timer x.phase) x.interval →
        trail_left plan preempted o (run_on plan preempted o (as_read (of x.interval timer x.phase))) (run_on plan preempted o (as_read (of x.interval timer x.phase))).interval
        < trail_left plan preempted o (of x.interval timer x.phase) x.interval
    go Off on runs = absurd cc
    go (On n) on runs =
        rw (trail-run_on plan preempted o (of x.interval (On (n + 1)) x.phase) arrow trail) (trail-falls plan o n x.phase preempted x.interval some runs)

-- ## Over a whole tick

module _ (plan : Plan) (given : Given) (o n : ℕ) (phase : Option ℕ) where
  -- it is not held, or less is left than so much
  abbrev IsLess : ℕ → Overlap → Type 0
  IsLess most x = (is_trailing x.interval ≡ false) ⊎ ((is_on x.timer ≡ true) × (trail_left plan false o x x.interval < most))

  settled-less : (most : ℕ) (i : OverlapInterval) (timer : Timer) (p : Option ℕ) → i ≢ Green → IsLess most (of i timer p) → IsLess most (trail_settled plan given o (of i timer p))
  settled-less most i timer p not_green less = go (may_be_kept i && is_kept_green plan given.shown o)
    where
      alone : (j : OverlapInterval) → j ≢ Green → IsLess most (of j timer p) → IsLess most (left_alone given (of j timer p) j)
      alone Red other was = was
      alone Green other was = absurd (other refl)
      alone TrailGreen other was = was
      alone Flashing other was = was
      alone Yellow other was = was
      alone RedClear other was = was

      go : (b : Bool) → IsLess most (if b then standing Green else left_alone given (of i timer p) i)
      go true = inl refl
      go false = alone i not_green less

  green-ends : 1 ≤ trail_yellow plan o →
      IsLess (trail_left plan false o (of TrailGreen (On n) phase) TrailGreen)
      (trail_settled plan given o (trail_green_on plan o given.preempted (of TrailGreen (On (n + 1)) phase)))
  green-ends some = go (given.preempted || has_reached (On (n + 1)) (trail_green plan o)) refl
    where
      go : (b : Bool) → (given.preempted || has_reached (On (n + 1)) (trail_green plan o)) ≡ b →
          IsLess (trail_left plan false o (of TrailGreen (On n) phase) TrailGreen)
          (trail_settled plan given o (if b then begun Yellow else of TrailGreen (On (n + 1)) phase))
      go true over = settled-less _ Yellow (On 0) None (λ e. cc) (inr (refl, omega (arith, some)))
      go false left =
          let parts = or_parts given.preempted (nat_le (trail_green plan o) (n + 1)) left in
          settled-less _ TrailGreen (On (n + 1)) phase (λ e. cc) (inr (refl, falls n (trail_green plan o) (trail_yellow plan o + trail_red plan o) parts.1))

  yellow-ends_less : IsLess (trail_left plan false o (of Yellow (On n) phase) Yellow) (trail_settled plan given o (trail_yellow_on plan o (of Yellow (On (n + 1)) phase)))
  yellow-ends_less = go (nat_le (trail_yellow plan o) (n + 1)) (trail_red plan o == 0) refl refl
    where
      go : (b none : Bool) → nat_le (trail_yellow plan o) (n + 1) ≡ b → (trail_red plan o == 0) ≡ none →
          IsLess (trail_left plan false o (of Yellow (On n) phase) Yellow)
          (trail_settled plan given o (if b then (if none then standing Red else begun RedClear) else of Yellow (On (n + 1)) phase))
      go true true reached is = settled-less _ Red Off None (λ e. cc) (inl refl)
      go true false reached is =
          let more : 1 ≤ trail_red plan o = grind (arith, nat_tests, is) in
          settled-less _ RedClear (On 0) None (λ e. cc) (inr (refl, omega (arith, more)))
      go false none reached is = settled-less _ Yellow (On (n + 1)) phase (λ e. cc) (inr (refl, falls n (trail_yellow plan o) (trail_red plan o) reached))

  clear-ends : IsLess (trail_left plan false o (of RedClear (On n) phase) RedClear) (trail_settled plan given o (trail_red_on plan o (of RedClear (On (n + 1)) phase)))
  clear-ends = go (nat_le (trail_red plan o) (n + 1)) refl
    where
      go : (b : Bool) → nat_le (trail_red plan o) (n + 1) ≡ b →
          IsLess (trail_left plan false o (of RedClear (On n) phase) RedClear)
          (trail_settled plan given o (if b then standing Red else of RedClear (On (n + 1)) phase))
      go true reached = settled-less _ Red Off None (λ e. cc) (inl refl)
      go false reached =
          let more : n + 1 < trail_red plan o = grind (arith, nat_tests, reached) in
          settled-less _ RedClear (On (n + 1)) phase (λ e. cc) (inr (refl, omega (arith, more)))

  trail-ends_less : (i : OverlapInterval) → 1 ≤ trail_yellow plan o → is_trailing i ≡ true →
      IsLess (trail_left plan false o (of i (On n) phase) i) (trail_settled plan given o (trail_by plan o given.preempted (of i (On (n + 1)) phase) i))
  trail-ends_less Red some is = absurd cc
  trail-ends_less Green some is = absurd cc
  trail-ends_less Flashing some is = absurd cc
  trail-ends_less TrailGreen some is = green-ends some
  trail-ends_less Yellow some is = yellow-ends_less
  trail-ends_less RedClear some is = clear-ends

pub trails-end : (plan : Plan) (given : Given) (f : ℕ → Overlap) (o : ℕ) → is_arrow plan o ≡ false → trails plan o ≡ true → 1 ≤ trail_yellow plan o →
    is_trailing (f o).interval ≡ true → is_on (f o).timer ≡ true →
    (is_trailing (next plan given f o).interval ≡ false)
    ⊎ ((is_on (next plan given f o).timer ≡ true)
    × (trail_left plan false o (next plan given f o) (next plan given f o).interval < trail_left plan false o (f o) (f o).interval))
trails-end plan given f o arrow trail some trailing on =
    rw (trail-whole plan given f o arrow trail) (go (f o).timer on)
  where
    go : (timer : Timer) → is_on timer ≡ true →
        (let y : Overlap = trail_settled plan given o (trail_by plan o given.preempted (of (f o).interval (advanced timer) (f o).phase) (f o).interval) in
        (is_trailing y.interval ≡ false)
        ⊎ ((is_on y.timer ≡ true) × (trail_left plan false o y y.interval < trail_left plan false o (of (f o).interval timer (f o).phase) (f o).interval)))
    go Off on = absurd cc
    go (On n) on = trail-ends_less plan given o n (f o).phase (f o).interval some trailing
