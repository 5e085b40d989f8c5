-- Where the options are 0, a tick is that of the controller without options.
use Rattle.std.proofs.Common.{◌≡◌, ℕ, ◌+◌, ◌-◌, Bool, true, false, not, ◌&&◌, ◌||◌, if◌then◌else◌, Option, Some, None, is_some, refl, sym, ap, ap₂, ◌∙◌}
use Rattle.std.proofs.Math.Path.{fun_ext}
use Rattle.std.proofs.lemmas.Bool.{and_right}
use Rattle.tsb_step.specs.tsb_types.declared.flow.Moves.{Moves}
use Rattle.tsb_step.specs.tsb_types.declared.row.Row.{Row}
use Rattle.tsb_step.specs.tsb_types.Clip.{clipped}
use Rattle.tsb_step.specs.tsb_types.Flow.{gives_walk}
use Rattle.tsb_step.specs.tsb_types.Intervals.{is_green, is_dont_walk}
use Rattle.tsb_step.specs.tsb_types.Sets.{is_phase}
use Rattle.tsb_step.specs.tsb_calls.Memories.{pedestrian_memory}
use Rattle.tsb_step.specs.tsb_calls.Settled as settled
use Rattle.tsb_step.specs.tsb_plan.Plan.{Plan}
use Rattle.tsb_step.specs.tsb_plan.Running.{running}
use Rattle.tsb_step.specs.tsb_coord.Coordinated.{agree, force_off, local, local_in}
use Rattle.tsb_step.specs.tsb_coord.Correction.{clocked, is_in_step}
use Rattle.tsb_step.specs.tsb_phase.Phase as phase
use Rattle.tsb_step.specs.tsb_phase.Next as phase_next
use Rattle.tsb_step.specs.tsb_phase.Pedestrian as pedestrian
use Rattle.tsb_step.specs.tsb_phase.Ready as timing
use Rattle.tsb_step.specs.tsb_ring.GivenUp.{given_up}
use Rattle.tsb_step.specs.tsb_ring.Moves as ring_moves
use Rattle.tsb_step.specs.tsb_ring.Next as rings_next
use Rattle.tsb_step.specs.tsb_ring.Rings as rings
use Rattle.tsb_step.specs.tsb_overlap.Overlap as overlaps
use Rattle.tsb_step.specs.tsb_overlap.Overlap.{Overlap}
use Rattle.tsb_step.specs.State.{State}
use Rattle.tsb_step.specs.Signs.{is_lasting}
use Rattle.tsb_step.specs.Tick as tick
use Rattle.tsb_overlap.proofs.OwnLemmas.{untimed-stays, untimed-free}
use Rattle.tsb_laws.specs.Options.{OptionsOff}
use Rattle.tsb_laws.specs.PlainParts as parts
use Rattle.tsb_laws.specs.PlainStep as plain
use Rattle.tsb_laws.specs.WithoutOptions.{HasEachAtZero}
use Rattle.tsb_laws.proofs.operation.pattern.OptionsOffLemmas.{options-off}
use Rattle.tsb_laws.proofs.options.PlainPartLemmas.{IsStill, ready_agrees, next_agrees, untimed}

-- each phase has no dynamic maximum, nor what one keeps, and each overlap is as at power-up
pub record AreStill (s : State) : Type 0 where
  pub phases : (p : ℕ) → IsStill (s.phases p)
  pub overlaps : (o : ℕ) → s.overlaps o ≡ overlaps.at_power_up

-- ## The local counter

pub local_agrees : (plan : Plan) → OptionsOff plan → (t : ℕ) (selected : Option ℕ) → local plan t selected ≡ parts.local plan t selected
local_agrees plan off t selected = go (running plan selected)
  where
    go : (runs : Option ℕ) → local_in plan t runs ≡ parts.local_in plan t runs
    go None = refl
    go (Some n) = ap Some (off.offsets n t)

-- ## What phase timing is given

forced_agrees : (s : State) → OptionsOff s.plan → (p : ℕ) → clipped (tick.forced s) p ≡ clipped (plain.forced s) p
forced_agrees s off p =
    let t : ℕ = clocked s.plan s.pattern s.correction (s.now + 1) in
    ap (λ (b : Bool). is_phase p && b)
    (off.forcing s.pattern s.correction (s.now + 1) p
    ∙ off.forced t s.pattern p
    ∙ ap (λ (l : Option ℕ). agree l (force_off s.plan (running s.plan s.pattern) p)) (local_agrees s.plan off t s.pattern))

recycle_agrees : (s : State) → OptionsOff s.plan → (p : ℕ) → clipped (tick.recycle s) p ≡ false
recycle_agrees s off p =
    ap (λ (b : Bool). is_phase p && (is_in_step s.plan s.pattern s.correction (s.now + 1 - 1) && b)) (off.recycled (clocked s.plan s.pattern s.correction (s.now + 1)) s.pattern p)
    ∙ and_right (is_phase p) (is_in_step s.plan s.pattern s.correction (s.now + 1 - 1) && false)
    (and_right (is_in_step s.plan s.pattern s.correction (s.now + 1 - 1)) false refl)

given_agrees : (s : State) (row : Row) → OptionsOff s.plan → tick.phases_given s row ≡ plain.phases_given s row
unfolding tick.phases_given plain.phases_given
given_agrees s row off =
    ap₂ (λ (f r : ℕ → Bool). record (plain.phases_given s row) { forced = f; recycle = r })
    (fun_ext (λ p. forced_agrees s off p)) (fun_ext (λ p. recycle_agrees s off p))

-- no phase may walk again
never_recycled : (s : State) (row : Row) (p : ℕ) → (plain.phases_given s row).recycle p ≡ false
unfolding plain.phases_given
never_recycled s row p = refl

-- ## What the rings are given, and how they move

ready_same : (s : State) (row : Row) → HasEachAtZero s.plan → (p : ℕ) → clipped (tick.ready s row) p ≡ clipped (plain.ready s row) p
ready_same s row none p =
    ap (λ (b : Bool). is_phase p && b)
    (ap (λ (g : phase.Given). timing.is_ready s.plan g p (tick.phase_read s p)) (given_agrees s row (options-off s.plan none.options))
    ∙ ready_agrees s.plan none (plain.phases_given s row) p (tick.phase_read s p) (never_recycled s row p))

-- no overlap holds a phase
unheld : (s : State) (row : Row) → HasEachAtZero s.plan → (p : ℕ) → tick.held s row p ≡ false
unfolding tick.held
unheld s row none p = untimed-free s.plan (is_some (tick.service s row)) s.overlaps p (untimed s.plan none)

over_same : (s : State) (row : Row) → HasEachAtZero s.plan → (p : ℕ) → clipped (tick.lets_go s row) p ≡ clipped (tick.over s) p
over_same s row none p =
    ap (λ (b : Bool). is_phase p && (tick.over s p && not b)) (unheld s row none p)
    ∙ ap (λ (b : Bool). is_phase p && b) (whole (tick.over s p))
  where
    whole : (b : Bool) → (b && true) ≡ b
    whole true = refl
    whole false = refl

rings_same : (s : State) (row : Row) → HasEachAtZero s.plan → tick.rings_given s row ≡ plain.rings_given s row
unfolding tick.rings_given plain.rings_given
rings_same s row none =
    ap₂ (λ (f g : ℕ → Bool). record (plain.rings_given s row) { ready = f; over = g })
    (fun_ext (λ p. ready_same s row none p)) (fun_ext (λ p. over_same s row none p))

moves_same : (s : State) (row : Row) → HasEachAtZero s.plan → tick.moves s row ≡ plain.moves s row
unfolding tick.moves plain.moves
moves_same s row none = ap (λ (g : rings.Given). ring_moves.moves s.plan s.rings g) (rings_same s row none)

walks_same : (s : State) (row : Row) → OptionsOff s.plan → (p : ℕ) → clipped (tick.walks_again s row) p ≡ false
walks_same s row off p =
    ap (λ (g : phase.Given). is_phase p && pedestrian.walks_again g p (tick.phase_read s p)) (given_agrees s row off)
    ∙ ap (λ (b : Bool). is_phase p && (is_dont_walk (tick.phase_read s p).pedestrian && (is_green (tick.phase_read s p).interval
    && (b && (gives_walk ((plain.phases_given s row).pedestrian_call p) (plain.phases_given s row).service
    && not ((tick.phase_read s p).forced && (plain.phases_given s row).conflict p)))))) (never_recycled s row p)
    ∙ and_right (is_phase p) (is_dont_walk (tick.phase_read s p).pedestrian && (is_green (tick.phase_read s p).interval && false))
    (and_right (is_dont_walk (tick.phase_read s p).pedestrian) (is_green (tick.phase_read s p).interval && false)
    (and_right (is_green (tick.phase_read s p).interval) false refl))

-- ## The new state

-- of what phase timing and rings are given, how the rings move, and whose walk begins within the green
after_by : State → Row → phase.Given → rings.Given → Moves → (ℕ → Bool) → State
after_by s row g r m walks = record (plain.next s row) {
  memories = settled.next s.plan (tick.calls_given s row) (record (plain.done s row) {
    starts = ring_moves.is_started m;
    ends = ring_moves.is_ended m;
    gapped = clipped (λ p. timing.is_gapped_now s.plan g p (tick.phase_read s p));
    walks = walks;
  }) s.memories;
  phases = λ p. phase_next.next s.plan g (record (plain.moved s row) {
    ends = ring_moves.is_ended m;
    clears = ring_moves.is_cleared m;
    starts = ring_moves.is_started m;
  }) p (s.phases p);
  rings = rings_next.next s.plan s.rings r;
}

as_after : (s : State) (row : Row) →
    tick.after_moves s row ≡ after_by s row (tick.phases_given s row) (tick.rings_given s row) (tick.moves s row) (clipped (tick.walks_again s row))
unfolding after_by
as_after s row = refl

-- what remembers pedestrians, where no walk begins within a green
memory_same : (s : State) (row : Row) (p : ℕ) →
    settled.pedestrian_after (plain.done s row) (settled.pedestrian_call s.plan (tick.calls_given s row) s.memories)
    (pedestrian_memory s.plan (tick.calls_given s row) s.memories) p
    ≡ parts.memory_after (plain.done s row) (settled.pedestrian_call s.plan (tick.calls_given s row) s.memories)
    (pedestrian_memory s.plan (tick.calls_given s row) s.memories) p
memory_same s row p =
    ap (λ (b : Bool). pedestrian_memory s.plan (tick.calls_given s row) s.memories p && not b)
    (alone (parts.walk_starts (plain.done s row) (settled.pedestrian_call s.plan (tick.calls_given s row) s.memories) p))
  where
    alone : (b : Bool) → (b || false) ≡ b
    alone true = refl
    alone false = refl

after_plain : (s : State) (row : Row) → HasEachAtZero s.plan → AreStill s →
    after_by s row (plain.phases_given s row) (plain.rings_given s row) (plain.moves s row) (λ p. false) ≡ plain.next s row
unfolding after_by
after_plain s row none still =
    ap₂ (λ (f : ℕ → Bool) (g : ℕ → phase.Phase). record (plain.next s row) {
      memories = record (parts.memories_after s.plan (tick.calls_given s row) (plain.done s row) s.memories) { pedestrian = f };
      phases = g;
    }) (fun_ext (λ p. memory_same s row p))
    (fun_ext (λ p. next_agrees s.plan none (plain.phases_given s row) (plain.moved s row) p (s.phases p) (never_recycled s row p) (still.phases p)))

after_same : (s : State) (row : Row) → HasEachAtZero s.plan → AreStill s → tick.after_moves s row ≡ plain.next s row
after_same s row none still =
    as_after s row
    ∙ ap₂ (λ (g : phase.Given) (r : rings.Given). after_by s row g r (tick.moves s row) (clipped (tick.walks_again s row)))
    (given_agrees s row (options-off s.plan none.options)) (rings_same s row none)
    ∙ ap₂ (λ (m : Moves) (w : ℕ → Bool). after_by s row (plain.phases_given s row) (plain.rings_given s row) m w)
    (moves_same s row none) (fun_ext (λ p. walks_same s row (options-off s.plan none.options) p))
    ∙ after_plain s row none still

-- no ring gives up what it is committed to
kept : (s : State) (row : Row) → OptionsOff s.plan → tick.new_rings s row ≡ (tick.after_moves s row).rings
unfolding tick.gives_up tick.new_rings
kept s row off =
    ap (λ (b : Bool). if b && not (is_lasting (tick.after_moves s row))
    then given_up s.plan (tick.target s row) (tick.after_moves s row).rings else (tick.after_moves s row).rings)
    (off.kept (tick.service s row))

pub next_same : (s : State) (row : Row) → HasEachAtZero s.plan → AreStill s → tick.next s row ≡ plain.next s row
next_same s row none still =
    ap₂ (λ (r : rings.State) (f : ℕ → Overlap). record (tick.after_moves s row) { rings = r; overlaps = f })
    (kept s row (options-off s.plan none.options)) (fun_ext (λ o. overlap_stays o))
    ∙ after_same s row none still
  where
    overlap_stays : (o : ℕ) → overlaps.next s.plan (tick.overlaps_given s row) s.overlaps o ≡ s.overlaps o
    overlap_stays o =
        untimed-stays s.plan (tick.overlaps_given s row) s.overlaps o (untimed s.plan none o)
        ∙ ap overlaps.as_read (still.overlaps o) ∙ sym (still.overlaps o)
