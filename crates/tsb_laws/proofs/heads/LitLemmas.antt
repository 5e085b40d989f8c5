-- No input but a tick, a trip and the reset of a trip changes a lit head: a commit that could has to wait while a phase is
-- in service, and each other input leaves all from which heads are found.
use Rattle.std.proofs.Common.{◌≡◌, ℕ, ◌==◌, nat_lt, Bool, true, false, not, ◌&&◌, ◌||◌, if◌then◌else◌, List, [], ◌∷◌, Option, None, is_some, refl, sym, ap, ◌∙◌, inl, inr, ◌⊎◌}
use Rattle.std.specs.List.{list_any}
use Rattle.std.proofs.Math.Path.{fun_ext}
use Rattle.std.proofs.lemmas.Bool.{and_parts, true≢false, false≢true}
use Rattle.tsb_step.specs.tsb_types.declared.interval.Interval.{Interval}
use Rattle.tsb_step.specs.tsb_types.declared.interval.Interval.TheVariants as intervals
use Rattle.tsb_step.specs.tsb_types.declared.interval.PedestrianInterval.{PedestrianInterval}
use Rattle.tsb_step.specs.tsb_types.declared.interval.PedestrianInterval.TheVariants.{DontWalk, Walk, PedestrianClear}
use Rattle.tsb_step.specs.tsb_types.declared.lamp.Aspect.{Aspect}
use Rattle.tsb_step.specs.tsb_types.declared.lamp.Aspect.TheVariants.{Dark, Red, Yellow, Green, FlashingRed, FlashingYellow}
use Rattle.tsb_step.specs.tsb_types.declared.lamp.PedestrianAspect.TheVariants as pedestrian_aspects
use Rattle.tsb_step.specs.tsb_types.Intervals.{is_green, is_yellow, is_red_clear, is_dont_walk, in_service}
use Rattle.tsb_step.specs.tsb_types.Sets.{names}
use Rattle.tsb_step.specs.tsb_plan.declared.object.Object.TheVariants.{PhaseEnabled, PhaseRing, PhaseConcurrency, OverlapIncludedPhases, OverlapType, OverlapModifierPhases, OverlapAcrossRings, OverlapTrailGreen}
use Rattle.tsb_step.specs.tsb_plan.Objects.{is_structural}
use Rattle.tsb_step.specs.tsb_plan.Parts.{is_included, is_modifier, is_timed}
use Rattle.tsb_step.specs.tsb_plan.Plan.{Plan, phases, ring_of, is_enabled, walk}
use Rattle.tsb_step.specs.tsb_rules.PatternRules.{some_and}
use Rattle.tsb_step.specs.tsb_heads.Heads.{Shown, aspect_of, vehicle_head, pedestrian_aspect_of, pedestrian_head}
use Rattle.tsb_step.specs.tsb_heads.Displays.{ordered, flashed, flashing}
use Rattle.tsb_step.specs.tsb_heads.Monitoring.{gives_way, lets_walk}
use Rattle.tsb_step.specs.tsb_heads.Overlaps.{other_ring, is_followed, keeps_green, is_kept_green, is_on_yellow, has_green_modifier, has_yellow_modifier, is_on_last_yellow, head_by_phases, overlap_head}
use Rattle.tsb_step.specs.tsb_heads.Reading.{commitment_of}
use Rattle.tsb_step.specs.tsb_ring.Rings.{Ring, Ring1, Ring2}
use Rattle.tsb_step.proofs.tsb_ring.MoveLemmas.{or_cases}
use Rattle.tsb_step.proofs.tsb_types.OptionLemmas.{is-none}
use Rattle.tsb_step.specs.declared.inputs.Input.{Input}
use Rattle.tsb_step.specs.declared.inputs.Input.TheVariants as inputs
use Rattle.tsb_step.specs.State.{State, interval, pedestrian_part}
use Rattle.tsb_step.specs.Signs.{display, shown}
use Rattle.tsb_step.specs.Step.{step, verdict}
use Rattle.tsb_step.specs.Good.{IsGood}
use Rattle.tsb_step.specs.Backed.{AreBacked}
use Rattle.tsb_step.specs.tsb_overlap.declared.parts.OverlapInterval.{OverlapInterval}
use Rattle.tsb_step.specs.tsb_overlap.Overlap.{Overlap, light}
use Rattle.tsb_laws.proofs.heads.TimedLemmas.{Source, timed_source}
use Rattle.tsb_step.specs.TimeLaws.{is_tick}
use Rattle.tsb_step.proofs.ClearLemmas.{plan_stays}
use Rattle.tsb_step.proofs.EditLemmas.{kept, same_phase_count}
use Rattle.tsb_step.proofs.EndLemmas.{walks_in_green}
use Rattle.tsb_step.proofs.YellowLemmas.{leaves_structure, enabled_lit, plan_of_reset}
use Rattle.tsb_laws.specs.LitHeads.{is_lit, KeepsLitHeads}
use Rattle.tsb_laws.proofs.safety.StretchLemmas.{Goes, ticks, stays, goes}

-- ## Heads of a controller that has not tripped

pub dark_is_ordered : (s : State) → is_some s.trip ≡ false → display s ≡ ordered s.plan (shown s)
unfolding display
dark_is_ordered s h = go (is_some s.trip) h
  where
    go : (b : Bool) → b ≡ false → (if b then flashing (ordered s.plan (shown s)) else ordered s.plan (shown s)) ≡ ordered s.plan (shown s)
    go true k = absurd (true≢false k)
    go false k = refl

pub flashes_no_way : (a : Aspect) → gives_way (flashed a) ≡ true → ⊥
flashes_no_way Dark h = cc
flashes_no_way Red h = cc
flashes_no_way Yellow h = cc
flashes_no_way Green h = cc
flashes_no_way FlashingRed h = cc
flashes_no_way FlashingYellow h = cc

pub flashes_not_lit : (a : Aspect) → is_lit (flashed a) ≡ true → ⊥
flashes_not_lit Dark h = cc
flashes_not_lit Red h = cc
flashes_not_lit Yellow h = cc
flashes_not_lit Green h = cc
flashes_not_lit FlashingRed h = cc
flashes_not_lit FlashingYellow h = cc

-- right of way is one way to be lit
pub way_is_lit : (a : Aspect) → gives_way a ≡ true → is_lit a ≡ true
way_is_lit Green h = refl
way_is_lit Yellow h = refl
way_is_lit Dark h = cc
way_is_lit Red h = cc
way_is_lit FlashingRed h = cc
way_is_lit FlashingYellow h = cc

pub dark_by_vehicle : (s : State) (p : ℕ) → gives_way ((display s).vehicle p) ≡ true → is_some s.trip ≡ false
unfolding display
dark_by_vehicle s p h = go (is_some s.trip) h
  where
    go : (b : Bool) → gives_way ((if b then flashing (ordered s.plan (shown s)) else ordered s.plan (shown s)).vehicle p) ≡ true → b ≡ false
    go true k = absurd (flashes_no_way (vehicle_head s.plan (shown s) p) k)
    go false k = refl

pub dark_by_pedestrian : (s : State) (p : ℕ) → lets_walk ((display s).pedestrian p) ≡ true → is_some s.trip ≡ false
unfolding display
dark_by_pedestrian s p h = go (is_some s.trip) h
  where
    go : (b : Bool) → lets_walk ((if b then flashing (ordered s.plan (shown s)) else ordered s.plan (shown s)).pedestrian p) ≡ true → b ≡ false
    go true k = absurd (false≢true k)
    go false k = refl

pub dark_by_overlap : (s : State) (o : ℕ) → gives_way ((display s).overlap o) ≡ true → is_some s.trip ≡ false
unfolding display
dark_by_overlap s o h = go (is_some s.trip) h
  where
    go : (b : Bool) → gives_way ((if b then flashing (ordered s.plan (shown s)) else ordered s.plan (shown s)).overlap o) ≡ true → b ≡ false
    go true k = absurd (flashes_no_way (overlap_head s.plan (shown s) o) k)
    go false k = refl

pub dark_by_lit : (s : State) (o : ℕ) → is_lit ((display s).overlap o) ≡ true → is_some s.trip ≡ false
unfolding display
dark_by_lit s o h = go (is_some s.trip) h
  where
    go : (b : Bool) → is_lit ((if b then flashing (ordered s.plan (shown s)) else ordered s.plan (shown s)).overlap o) ≡ true → b ≡ false
    go true k = absurd (flashes_not_lit (overlap_head s.plan (shown s) o) k)
    go false k = refl

-- ## What heads are found from

record SamePlan (plan later : Plan) : Type 0 where
  pub count : later.phase_count ≡ plan.phase_count
  pub enabled : (p : ℕ) → is_enabled later p ≡ is_enabled plan p
  pub ring : (p : ℕ) → ring_of later p ≡ ring_of plan p
  pub included : (o : ℕ) → later.value OverlapIncludedPhases o ≡ plan.value OverlapIncludedPhases o
  pub type : (o : ℕ) → later.value OverlapType o ≡ plan.value OverlapType o
  pub modifiers : (o : ℕ) → later.value OverlapModifierPhases o ≡ plan.value OverlapModifierPhases o
  pub trail : (o : ℕ) → later.value OverlapTrailGreen o ≡ plan.value OverlapTrailGreen o
  pub option : (o : ℕ) → later.value OverlapAcrossRings o ≡ plan.value OverlapAcrossRings o
  pub lists : later.value PhaseConcurrency ≡ plan.value PhaseConcurrency

alike : (plan later : Plan) → later ≡ plan → SamePlan plan later
alike plan later e = record {
  count = ap (λ (x : Plan). x.phase_count) e;
  enabled = λ p. ap (λ (x : Plan). is_enabled x p) e;
  ring = λ p. ap (λ (x : Plan). ring_of x p) e;
  included = λ o. ap (λ (x : Plan). x.value OverlapIncludedPhases o) e;
  type = λ o. ap (λ (x : Plan). x.value OverlapType o) e;
  modifiers = λ o. ap (λ (x : Plan). x.value OverlapModifierPhases o) e;
  trail = λ o. ap (λ (x : Plan). x.value OverlapTrailGreen o) e;
  option = λ o. ap (λ (x : Plan). x.value OverlapAcrossRings o) e;
  lists = ap (λ (x : Plan). x.value PhaseConcurrency) e;
}

alike_committed : (s : State) (station q : ℕ) → IsGood s → verdict s (inputs.Commit station) ≡ None → in_service (interval s q) ≡ true →
    SamePlan s.plan (step s (inputs.Commit station)).plan
unfolding step
alike_committed s station q good taken serves = record {
  count = same_phase_count s.plan s.desk.edits;
  enabled = λ p. ap (λ (v : ℕ). v == 1) (kept is_structural s.plan s.desk.edits (leaves_structure s station q good taken serves) PhaseEnabled p refl);
  ring = λ p. kept is_structural s.plan s.desk.edits (leaves_structure s station q good taken serves) PhaseRing p refl;
  included = λ o. kept is_structural s.plan s.desk.edits (leaves_structure s station q good taken serves) OverlapIncludedPhases o refl;
  type = λ o. kept is_structural s.plan s.desk.edits (leaves_structure s station q good taken serves) OverlapType o refl;
  modifiers = λ o. kept is_structural s.plan s.desk.edits (leaves_structure s station q good taken serves) OverlapModifierPhases o refl;
  trail = λ o. kept is_structural s.plan s.desk.edits (leaves_structure s station q good taken serves) OverlapTrailGreen o refl;
  option = λ o. kept is_structural s.plan s.desk.edits (leaves_structure s station q good taken serves) OverlapAcrossRings o refl;
  lists = fun_ext (λ p. kept is_structural s.plan s.desk.edits (leaves_structure s station q good taken serves) PhaseConcurrency p refl);
}

-- an input that is taken while a phase is in service leaves all of the plan that heads look at
plan_after : (s : State) (i : Input) (q : ℕ) → IsGood s → verdict s i ≡ None → in_service (interval s q) ≡ true → SamePlan s.plan (step s i).plan
unfolding step
plan_after s (inputs.Tick row) q good taken serves = alike s.plan (step s (inputs.Tick row)).plan (plan_stays s row)
plan_after s (inputs.Fault lamp) q good taken serves = alike s.plan (step s (inputs.Fault lamp)).plan (enabled_lit s lamp)
plan_after s inputs.Reset q good taken serves = alike s.plan (step s inputs.Reset).plan (plan_of_reset s)
plan_after s (inputs.Commit station) q good taken serves = alike_committed s station q good taken serves
plan_after s i q good taken serves = alike s.plan s.plan refl

record SameSight (s t : State) : Type 0 where
  pub plan : SamePlan s.plan t.plan
  pub interval : (p : ℕ) → interval t p ≡ interval s p
  pub part : (p : ℕ) → pedestrian_part t p ≡ pedestrian_part s p
  pub commitment : (r : Ring) → t.rings.commitment r ≡ s.rings.commitment r
  pub overlaps : t.overlaps ≡ s.overlaps

sight_after : (s : State) (i : Input) (q : ℕ) → IsGood s → is_tick i ≡ false → verdict s i ≡ None → s.trip ≡ None →
    in_service (interval s q) ≡ true → SameSight s (step s i)
sight_after s i q good t taken dark serves = go (goes s i dark)
  where
    go : Goes s i → SameSight s (step s i)
    go (ticks row e) = absurd (true≢false (sym (ap is_tick e) ∙ t))
    go (stays none same) = record {
      plan = plan_after s i q good taken serves;
      interval = same.interval;
      part = same.part;
      commitment = same.commitment;
      overlaps = same.overlaps;
    }

-- ## Vehicle heads

pub vehicle_serves : (on : Bool) (i : Interval) → gives_way (if on then aspect_of i else Dark) ≡ true → (on ≡ true) × (in_service i ≡ true)
vehicle_serves false i h = absurd (false≢true h)
vehicle_serves true intervals.Red h = absurd (false≢true h)
vehicle_serves true intervals.Green h = (refl, refl)
vehicle_serves true intervals.Yellow h = (refl, refl)
vehicle_serves true intervals.RedClear h = absurd (false≢true h)

same_vehicle : (s t : State) (p : ℕ) → SameSight s t → vehicle_head t.plan (shown t) p ≡ vehicle_head s.plan (shown s) p
same_vehicle s t p same = go (is_enabled t.plan p) (is_enabled s.plan p) (interval t p) (interval s p) (same.plan.enabled p) (same.interval p)
  where
    go : (a b : Bool) (i j : Interval) → a ≡ b → i ≡ j → (if a then aspect_of i else Dark) ≡ (if b then aspect_of j else Dark)
    go a b i j e f = rw (e, f) refl

-- ## Pedestrian heads

-- a head that lets walk is of an enabled phase in walk or clearance, and shows it
record Walks (plan : Plan) (x : Shown) (p : ℕ) : Type 0 where
  pub enabled : is_enabled plan p ≡ true
  pub walks : is_dont_walk (x.pedestrian p) ≡ false

has_walk : (on far : Bool) (part : PedestrianInterval) →
    lets_walk (if on && (far || not (is_dont_walk part)) then pedestrian_aspect_of part else pedestrian_aspects.Dark) ≡ true →
    (on ≡ true) × (is_dont_walk part ≡ false)
has_walk false far part h = absurd (false≢true h)
has_walk true far Walk h = (refl, refl)
has_walk true far PedestrianClear h = (refl, refl)
has_walk true true DontWalk h = absurd (false≢true h)
has_walk true false DontWalk h = absurd (false≢true h)

shows_part : (on far : Bool) (part : PedestrianInterval) → on ≡ true → is_dont_walk part ≡ false →
    (if on && (far || not (is_dont_walk part)) then pedestrian_aspect_of part else pedestrian_aspects.Dark) ≡ pedestrian_aspect_of part
shows_part false far part e h = absurd (false≢true e)
shows_part true true part e h = refl
shows_part true false Walk e h = refl
shows_part true false PedestrianClear e h = refl
shows_part true false DontWalk e h = absurd (true≢false h)

pedestrian_walks : (plan : Plan) (x : Shown) (p : ℕ) → lets_walk (pedestrian_head plan x p) ≡ true → Walks plan x p
pedestrian_walks plan x p h =
    let both = has_walk (is_enabled plan p) (nat_lt 0 (walk plan p)) (x.pedestrian p) h in
    record { enabled = both.0; walks = both.1 }

pedestrian_shows : (plan : Plan) (x : Shown) (p : ℕ) → Walks plan x p → pedestrian_head plan x p ≡ pedestrian_aspect_of (x.pedestrian p)
pedestrian_shows plan x p it = shows_part (is_enabled plan p) (nat_lt 0 (walk plan p)) (x.pedestrian p) it.enabled it.walks

same_pedestrian : (s t : State) (p : ℕ) → SameSight s t → lets_walk (pedestrian_head s.plan (shown s) p) ≡ true →
    pedestrian_head t.plan (shown t) p ≡ pedestrian_head s.plan (shown s) p
same_pedestrian s t p same h =
    let it : Walks s.plan (shown s) p = pedestrian_walks s.plan (shown s) p h in
    let later : Walks t.plan (shown t) p = record {
      enabled = same.plan.enabled p ∙ it.enabled;
      walks = ap is_dont_walk (same.part p) ∙ it.walks;
    } in
    pedestrian_shows t.plan (shown t) p later ∙ ap pedestrian_aspect_of (same.part p) ∙ sym (pedestrian_shows s.plan (shown s) p it)

-- pedestrians walk or clear only beside a Green phase
pedestrian_serves : (s : State) (p : ℕ) → IsGood s → lets_walk (pedestrian_head s.plan (shown s) p) ≡ true → in_service (interval s p) ≡ true
pedestrian_serves s p good h =
    let it : Walks s.plan (shown s) p = pedestrian_walks s.plan (shown s) p h in
    ap in_service (walks_in_green s p good (λ (e : pedestrian_part s p ≡ DontWalk). true≢false (sym (ap is_dont_walk e) ∙ it.walks)))

-- ## Overlap heads

any_same : (f g : ℕ → Bool) (ps : List ℕ) → ((p : ℕ) → f p ≡ g p) → list_any f ps ≡ list_any g ps
any_same f g [] h = refl
any_same f g (p ∷ ps) h = rw (h p, any_same f g ps h) refl

some_same : (plan later : Plan) (f g : ℕ → Bool) → later.phase_count ≡ plan.phase_count → ((p : ℕ) → f p ≡ g p) →
    list_any f (phases later) ≡ list_any g (phases plan)
some_same plan later f g e h = rw e (any_same f g (phases plan) h)

-- of one phase p of this ring, with the two commitments: whether a phase of this list follows it, with this value of
-- `overlapAcrossRings` and these lists of concurrent phases
followed_by : ℕ → ℕ → (ℕ → ℕ) → ℕ → Option ℕ → Option ℕ → ℕ → Bool
followed_by list option lists ring one two p =
    some_and (λ q. names list q) (commitment_of one two ring)
    || (option == 1 && (is_some (commitment_of one two ring)
    && some_and (λ q. names list q && not (names (lists q) p)) (commitment_of one two (other_ring ring))))

-- in this interval: whether an overlap of this list is kept green by it, and so on
kept_by : ℕ → ℕ → (ℕ → ℕ) → Interval → ℕ → Option ℕ → Option ℕ → ℕ → Bool
kept_by list option lists i ring one two p =
    names list p && (is_green i || ((is_yellow i || is_red_clear i) && followed_by list option lists ring one two p))

last_by : ℕ → ℕ → (ℕ → ℕ) → Interval → ℕ → Option ℕ → Option ℕ → ℕ → Bool
last_by list option lists i ring one two p = names list p && (is_yellow i && not (followed_by list option lists ring one two p))

green_by : ℕ → Interval → ℕ → Bool
green_by list i p = names list p && is_green i

yellow_by : ℕ → Interval → ℕ → Bool
yellow_by list i p = names list p && is_yellow i

kept_same : (l m u v : ℕ) (s t : ℕ → ℕ) (i j : Interval) (x y : ℕ) (a b c d : Option ℕ) (p : ℕ) → m ≡ l → v ≡ u → t ≡ s → j ≡ i → y ≡ x → c ≡ a → d ≡ b →
    kept_by m v t j y c d p ≡ kept_by l u s i x a b p
kept_same l m u v s t i j x y a b c d p e n w f g h k = rw (e, n, w, f, g, h, k) refl

last_same : (l m u v : ℕ) (s t : ℕ → ℕ) (i j : Interval) (x y : ℕ) (a b c d : Option ℕ) (p : ℕ) → m ≡ l → v ≡ u → t ≡ s → j ≡ i → y ≡ x → c ≡ a → d ≡ b →
    last_by m v t j y c d p ≡ last_by l u s i x a b p
last_same l m u v s t i j x y a b c d p e n w f g h k = rw (e, n, w, f, g, h, k) refl

green_same : (l m : ℕ) (i j : Interval) (p : ℕ) → m ≡ l → j ≡ i → green_by m j p ≡ green_by l i p
green_same l m i j p e f = rw (e, f) refl

yellow_same : (l m : ℕ) (i j : Interval) (p : ℕ) → m ≡ l → j ≡ i → yellow_by m j p ≡ yellow_by l i p
yellow_same l m i j p e f = rw (e, f) refl

kept_alike : (s t : State) (o : ℕ) → SameSight s t → is_kept_green t.plan (shown t) o ≡ is_kept_green s.plan (shown s) o
unfolding is_kept_green kept_by followed_by
kept_alike s t o same =
    some_same s.plan t.plan (λ p. is_included t.plan o p && keeps_green t.plan (shown t) o p) (λ p. is_included s.plan o p && keeps_green s.plan (shown s) o p)
    same.plan.count (λ p. kept_same (s.plan.value OverlapIncludedPhases o) (t.plan.value OverlapIncludedPhases o)
    (s.plan.value OverlapAcrossRings o) (t.plan.value OverlapAcrossRings o) (s.plan.value PhaseConcurrency) (t.plan.value PhaseConcurrency) (interval s p) (interval t p)
    (ring_of s.plan p) (ring_of t.plan p) (s.rings.commitment Ring1) (s.rings.commitment Ring2) (t.rings.commitment Ring1) (t.rings.commitment Ring2) p
    (same.plan.included o) (same.plan.option o) same.plan.lists (same.interval p) (same.plan.ring p) (same.commitment Ring1) (same.commitment Ring2))

last_alike : (s t : State) (o : ℕ) → SameSight s t → is_on_last_yellow t.plan (shown t) o ≡ is_on_last_yellow s.plan (shown s) o
unfolding is_on_last_yellow last_by followed_by
last_alike s t o same =
    some_same s.plan t.plan (λ p. is_included t.plan o p && (is_yellow (interval t p) && not (is_followed t.plan (shown t) o p)))
    (λ p. is_included s.plan o p && (is_yellow (interval s p) && not (is_followed s.plan (shown s) o p)))
    same.plan.count (λ p. last_same (s.plan.value OverlapIncludedPhases o) (t.plan.value OverlapIncludedPhases o)
    (s.plan.value OverlapAcrossRings o) (t.plan.value OverlapAcrossRings o) (s.plan.value PhaseConcurrency) (t.plan.value PhaseConcurrency) (interval s p) (interval t p)
    (ring_of s.plan p) (ring_of t.plan p) (s.rings.commitment Ring1) (s.rings.commitment Ring2) (t.rings.commitment Ring1) (t.rings.commitment Ring2) p
    (same.plan.included o) (same.plan.option o) same.plan.lists (same.interval p) (same.plan.ring p) (same.commitment Ring1) (same.commitment Ring2))

on_alike : (s t : State) (o : ℕ) → SameSight s t → is_on_yellow t.plan (shown t) o ≡ is_on_yellow s.plan (shown s) o
unfolding is_on_yellow yellow_by
on_alike s t o same =
    some_same s.plan t.plan (λ p. is_included t.plan o p && is_yellow (interval t p)) (λ p. is_included s.plan o p && is_yellow (interval s p))
    same.plan.count (λ p. yellow_same (s.plan.value OverlapIncludedPhases o) (t.plan.value OverlapIncludedPhases o) (interval s p) (interval t p) p
    (same.plan.included o) (same.interval p))

green_modifier_alike : (s t : State) (o : ℕ) → SameSight s t → has_green_modifier t.plan (shown t) o ≡ has_green_modifier s.plan (shown s) o
unfolding has_green_modifier green_by
green_modifier_alike s t o same =
    some_same s.plan t.plan (λ p. is_modifier t.plan o p && is_green (interval t p)) (λ p. is_modifier s.plan o p && is_green (interval s p))
    same.plan.count (λ p. green_same (s.plan.value OverlapModifierPhases o) (t.plan.value OverlapModifierPhases o) (interval s p) (interval t p) p
    (same.plan.modifiers o) (same.interval p))

yellow_modifier_alike : (s t : State) (o : ℕ) → SameSight s t → has_yellow_modifier t.plan (shown t) o ≡ has_yellow_modifier s.plan (shown s) o
unfolding has_yellow_modifier yellow_by
yellow_modifier_alike s t o same =
    some_same s.plan t.plan (λ p. is_modifier t.plan o p && is_yellow (interval t p)) (λ p. is_modifier s.plan o p && is_yellow (interval s p))
    same.plan.count (λ p. yellow_same (s.plan.value OverlapModifierPhases o) (t.plan.value OverlapModifierPhases o) (interval s p) (interval t p) p
    (same.plan.modifiers o) (same.interval p))

-- the head, by its list, its type and what is found of its phases
head_by : ℕ → ℕ → Bool → Bool → Bool → Bool → Bool → Aspect
head_by list type kept green last yellow on =
    if list == 0 then Dark else
    (if type == 1 then (if kept && not green then Green else (if last && not yellow then Yellow else Red))
    else (if kept then Green else (if on then Yellow else Red)))

head_same : (l m : ℕ) (x y : ℕ) (a b c d e v w z t u : Bool) → m ≡ l → y ≡ x → v ≡ a → w ≡ b → z ≡ c → t ≡ d → u ≡ e →
    head_by m y v w z t u ≡ head_by l x a b c d e
head_same l m x y a b c d e v w z t u f g h i j k n = rw (f, g, h, i, j, k, n) refl

by_phases_same : (s t : State) (o : ℕ) → SameSight s t → head_by_phases t.plan (shown t) o ≡ head_by_phases s.plan (shown s) o
unfolding head_by
by_phases_same s t o same =
    head_same (s.plan.value OverlapIncludedPhases o) (t.plan.value OverlapIncludedPhases o) (s.plan.value OverlapType o) (t.plan.value OverlapType o)
    (is_kept_green s.plan (shown s) o) (has_green_modifier s.plan (shown s) o) (is_on_last_yellow s.plan (shown s) o)
    (has_yellow_modifier s.plan (shown s) o) (is_on_yellow s.plan (shown s) o)
    (is_kept_green t.plan (shown t) o) (has_green_modifier t.plan (shown t) o) (is_on_last_yellow t.plan (shown t) o)
    (has_yellow_modifier t.plan (shown t) o) (is_on_yellow t.plan (shown t) o)
    (same.plan.included o) (same.plan.type o) (kept_alike s t o same) (green_modifier_alike s t o same) (last_alike s t o same)
    (yellow_modifier_alike s t o same) (on_alike s t o same)

-- with the light of one that has intervals of its own
whole : ℕ → ℕ → ℕ → OverlapInterval → Aspect → Aspect
whole list type trail own other = if (type == 2 && not (list == 0)) || (not (trail == 0) && not (list == 0)) then light own else other

whole_same : (l m x y d e : ℕ) (i j : OverlapInterval) (a b : Aspect) → m ≡ l → y ≡ x → e ≡ d → j ≡ i → b ≡ a → whole m y e j b ≡ whole l x d i a
whole_same l m x y d e i j a b f g h k n = rw (f, g, h, k, n) refl

same_overlap : (s t : State) (o : ℕ) → SameSight s t → overlap_head t.plan (shown t) o ≡ overlap_head s.plan (shown s) o
unfolding whole
same_overlap s t o same =
    whole_same (s.plan.value OverlapIncludedPhases o) (t.plan.value OverlapIncludedPhases o) (s.plan.value OverlapType o) (t.plan.value OverlapType o)
    (s.plan.value OverlapTrailGreen o) (t.plan.value OverlapTrailGreen o) (s.overlaps o).interval (t.overlaps o).interval
    (head_by_phases s.plan (shown s) o) (head_by_phases t.plan (shown t) o)
    (same.plan.included o) (same.plan.type o) (same.plan.trail o) (ap (λ (f : ℕ → Overlap). (f o).interval) same.overlaps) (by_phases_same s t o same)

-- ## A phase in service under an overlap that is lit

pub record Server (s : State) : Type 0 where
  pub phase : ℕ
  pub serves : in_service (interval s phase) ≡ true

server_in : (s : State) (test : ℕ → Bool) (ps : List ℕ) → ((p : ℕ) → test p ≡ true → in_service (interval s p) ≡ true) →
    list_any test ps ≡ true → Server s
server_in s test [] h k = absurd (false≢true k)
server_in s test (p ∷ ps) h k =
    elim (or_cases (test p) (list_any test ps) k) [
      | inl here ↦ record { phase = p; serves = h p here }
      | inr later ↦ server_in s test ps h later
    ]

keeper_serves : (named followed : Bool) (i : Interval) → (named && (is_green i || ((is_yellow i || is_red_clear i) && followed))) ≡ true →
    in_service i ≡ true
keeper_serves false followed i h = absurd (false≢true h)
keeper_serves true followed intervals.Red h = absurd (false≢true h)
keeper_serves true followed intervals.Green h = refl
keeper_serves true followed intervals.Yellow h = refl
keeper_serves true followed intervals.RedClear h = refl

pub yellow_serves : (i : Interval) → is_yellow i ≡ true → in_service i ≡ true
yellow_serves intervals.Yellow h = refl
yellow_serves i h = cc

kept_serves : (s : State) (o : ℕ) → is_kept_green s.plan (shown s) o ≡ true → Server s
unfolding is_kept_green
kept_serves s o h =
    server_in s (λ p. is_included s.plan o p && keeps_green s.plan (shown s) o p) (phases s.plan)
    (λ p k. keeper_serves (is_included s.plan o p) (is_followed s.plan (shown s) o p) (interval s p) k) h

on_serves : (s : State) (o : ℕ) → is_on_yellow s.plan (shown s) o ≡ true → Server s
unfolding is_on_yellow
on_serves s o h =
    server_in s (λ p. is_included s.plan o p && is_yellow (interval s p)) (phases s.plan)
    (λ p k. yellow_serves (interval s p) (and_parts (is_included s.plan o p) (is_yellow (interval s p)) k).1) h

last_serves : (s : State) (o : ℕ) → is_on_last_yellow s.plan (shown s) o ≡ true → Server s
unfolding is_on_last_yellow
last_serves s o h =
    server_in s (λ p. is_included s.plan o p && (is_yellow (interval s p) && not (is_followed s.plan (shown s) o p))) (phases s.plan)
    (λ p k. yellow_serves (interval s p)
    (and_parts (is_yellow (interval s p)) _ (and_parts (is_included s.plan o p) _ k).1).0) h

-- a lit head is kept green, or some phase makes it yellow
lit_by : (list type : ℕ) (kept green last yellow on : Bool) → gives_way (head_by list type kept green last yellow on) ≡ true →
    (kept ≡ true) ⊎ ((last ≡ true) ⊎ (on ≡ true))
unfolding head_by
lit_by list type true green last yellow on h = inl refl
lit_by list type false green true yellow on h = inr (inl refl)
lit_by list type false green false yellow true h = inr (inr refl)
lit_by list type false green false yellow false h = go (list == 0) (type == 1) h
  where
    go : (a b : Bool) →
        gives_way (if a then Dark else (if b then (if false && not green then Green else (if false && not yellow then Yellow else Red))
        else (if false then Green else (if false then Yellow else Red)))) ≡ true → (false ≡ true) ⊎ ((false ≡ true) ⊎ (false ≡ true))
    go true b k = absurd (false≢true k)
    go false true k = absurd (false≢true k)
    go false false k = absurd (false≢true k)

-- by the phases a head that is lit gives right of way
lit_gives_way : (list type : ℕ) (kept green last yellow on : Bool) → is_lit (head_by list type kept green last yellow on) ≡ true →
    gives_way (head_by list type kept green last yellow on) ≡ true
unfolding head_by
lit_gives_way list type kept green last yellow on h =
    go (list == 0) (type == 1) (kept && not green) (last && not yellow) kept on h
  where
    go : (a b c d e f : Bool) →
        is_lit (if a then Dark else (if b then (if c then Green else (if d then Yellow else Red)) else (if e then Green else (if f then Yellow else Red)))) ≡ true →
        gives_way (if a then Dark else (if b then (if c then Green else (if d then Yellow else Red)) else (if e then Green else (if f then Yellow else Red)))) ≡ true
    go true b c d e f k = absurd (false≢true k)
    go false true true d e f k = refl
    go false true false true e f k = refl
    go false true false false e f k = absurd (false≢true k)
    go false false c d true f k = refl
    go false false c d false true k = refl
    go false false c d false false k = absurd (false≢true k)

untimed_serves : (s : State) (o : ℕ) → is_lit (head_by_phases s.plan (shown s) o) ≡ true → Server s
unfolding head_by
untimed_serves s o lit =
    let h : gives_way (head_by_phases s.plan (shown s) o) ≡ true =
    lit_gives_way (s.plan.value OverlapIncludedPhases o) (s.plan.value OverlapType o) (is_kept_green s.plan (shown s) o) (has_green_modifier s.plan (shown s) o)
    (is_on_last_yellow s.plan (shown s) o) (has_yellow_modifier s.plan (shown s) o) (is_on_yellow s.plan (shown s) o) lit in
    elim (lit_by (s.plan.value OverlapIncludedPhases o) (s.plan.value OverlapType o) (is_kept_green s.plan (shown s) o) (has_green_modifier s.plan (shown s) o)
    (is_on_last_yellow s.plan (shown s) o) (has_yellow_modifier s.plan (shown s) o) (is_on_yellow s.plan (shown s) o) h) [
      | inl k ↦ kept_serves s o k
      | inr k ↦ elim k [
        | inl k ↦ last_serves s o k
        | inr k ↦ on_serves s o k
      ]
    ]

pub overlap_serves : (s : State) → IsGood s → AreBacked s → (o : ℕ) → is_lit (overlap_head s.plan (shown s) o) ≡ true → Server s
overlap_serves s good backed o h = go (is_timed s.plan o) refl h
  where
    go : (b : Bool) → is_timed s.plan o ≡ b → is_lit (if b then light (s.overlaps o).interval else head_by_phases s.plan (shown s) o) ≡ true → Server s
    go true timed k = let x : Source s o = timed_source s good backed o timed k in record { phase = x.phase; serves = x.serves }
    go false timed k = untimed_serves s o k

-- ## The law

pub keeps_lit_heads : (s : State) (i : Input) → IsGood s → AreBacked s → is_tick i ≡ false → verdict s i ≡ None → (step s i).trip ≡ s.trip →
    KeepsLitHeads (display s) (display (step s i))
keeps_lit_heads s i good backed t taken trips = record {
  vehicle = λ p lit.
      (let dark : is_some s.trip ≡ false = dark_by_vehicle s p lit in
      let here : gives_way (vehicle_head s.plan (shown s) p) ≡ true = rw (dark_is_ordered s dark) at lit in
      let serves = (vehicle_serves (is_enabled s.plan p) (interval s p) here).1 in
      rw (dark_is_ordered s dark, dark_is_ordered (step s i) (ap is_some trips ∙ dark))
      (same_vehicle s (step s i) p (sight_after s i p good t taken (is-none s.trip dark) serves)));
  pedestrian = λ p lit.
      (let dark : is_some s.trip ≡ false = dark_by_pedestrian s p lit in
      let here : lets_walk (pedestrian_head s.plan (shown s) p) ≡ true = rw (dark_is_ordered s dark) at lit in
      rw (dark_is_ordered s dark, dark_is_ordered (step s i) (ap is_some trips ∙ dark))
      (same_pedestrian s (step s i) p (sight_after s i p good t taken (is-none s.trip dark) (pedestrian_serves s p good here)) here));
  overlap = λ o lit.
      (let dark : is_some s.trip ≡ false = dark_by_lit s o lit in
      let here : is_lit (overlap_head s.plan (shown s) o) ≡ true = rw (dark_is_ordered s dark) at lit in
      let server : Server s = overlap_serves s good backed o here in
      rw (dark_is_ordered s dark, dark_is_ordered (step s i) (ap is_some trips ∙ dark))
      (same_overlap s (step s i) o (sight_after s i server.phase good t taken (is-none s.trip dark) server.serves)));
}
