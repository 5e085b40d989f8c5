-- Which inputs are refused and why, by computing: the first cause that applies, and nothing else.
use Rattle.std.specs.Prelude.{◌≡◌, ℕ, true, false, List, [], ◌∷◌, map, Option, Some, None, refl}
use Rattle.tsb_types.specs.declared.refusal.Refusal.{Refusal}
use Rattle.tsb_types.specs.declared.refusal.Refusal.TheVariants.{NoSuchObject, OutOfRange, Busy, NotOwner, NotOpen, NotVerified, TooManyEdits, NoSuchPattern, NoSuchPreempt, TickLimit, InService}
use Rattle.tsb_types.specs.Lists.{run_from}
use Rattle.tsb_types.specs.Sets.{all_off}
use Rattle.tsb_objects.specs.tsb_plan.declared.object.Object.TheVariants.{PhaseMaximum1, SplitTime, PreemptDwellPhase}
use Rattle.tsb_ring.specs.Rings.{Ring}
use Rattle.tsb_ring.proofs.Examples.Scenes.{both}
use Rattle.tsb_transact.specs.declared.desk_state.DeskState.TheVariants.{Transaction, Done}
use Rattle.tsb_transact.specs.declared.edit.Edit.{Edit}
use Rattle.tsb_step.specs.declared.inputs.Input.TheVariants.{Tick, Pattern, Switch, Fault, Reset, Begin, Set, Verify, Commit, Abort}
use Rattle.tsb_step.specs.State.{State}
use Rattle.tsb_step.specs.Step.{verdict}
use Rattle.tsb_step.proofs.Examples.Scenes.{opened, red, resting, at_barrier, dwelling}
use Rattle.tsb_step.proofs.Examples.SignsExamples.{tripped}
use Rattle.tsb_step.proofs.Examples.StepExamples.{id, edit, editing, symmetric}

-- all phases are Red, and the rings have these commitments and this crossing
abbrev pub with_rings : (Ring → Option ℕ) → Option ℕ → State
with_rings commitment crossing = record red { rings = record red.rings { commitment = commitment; crossing = crossing } }

ticks : map (λ n. verdict (record red { now = n }) (Tick all_off)) (5999999 ∷ 6000000 ∷ []) ≡ None ∷ Some TickLimit ∷ []
unfolding opened
ticks = refl

selects : map (λ n. verdict tripped (Pattern n)) (0 ∷ 2 ∷ 3 ∷ 17 ∷ [])
    ≡ None ∷ None ∷ Some NoSuchPattern ∷ Some NoSuchPattern ∷ []
unfolding opened
selects = refl

-- a controller that has tripped takes ticks, faults and resets
are_taken : map (verdict tripped) (Tick all_off ∷ Fault None ∷ Reset ∷ []) ≡ None ∷ None ∷ None ∷ []
unfolding opened
are_taken = refl

-- preempt 3 has no dwell phases: it may be switched off, but not on
switches : map (λ on. verdict resting (Switch 3 on)) (true ∷ false ∷ []) ≡ Some NoSuchPreempt ∷ None ∷ []
unfolding opened
switches = refl

abbrev pub owned : State
owned = editing Transaction symmetric resting

begins_once : map (λ s. verdict s (Begin 1)) (resting ∷ owned ∷ []) ≡ None ∷ Some (Busy 1) ∷ []
unfolding opened
begins_once = refl

-- the station first, then the index, then the value, then the room
asks_in_order : verdict resting (Set 1 (id PhaseMaximum1 17) 256) ∷ verdict owned (Set 2 (id PhaseMaximum1 17) 256)
    ∷ verdict owned (Set 1 (id PhaseMaximum1 17) 256)
    ∷ verdict owned (Set 1 (id PhaseMaximum1 2) 256) ∷ verdict owned (Set 1 (id PhaseMaximum1 2) 255) ∷ []
    ≡ Some NotOpen ∷ Some NotOwner ∷ Some NoSuchObject ∷ Some OutOfRange ∷ None ∷ []
unfolding opened
asks_in_order = refl

-- a 65th object, but not one that is there
abbrev pub full : State
full = editing Transaction (map (λ k. edit SplitTime k 9) (run_from 1 64)) resting

has_no_room : map (λ k. verdict full (Set 1 (id SplitTime k) 9)) (64 ∷ 65 ∷ []) ≡ None ∷ Some TooManyEdits ∷ []
unfolding opened
has_no_room = refl

is_not_open : map (verdict resting) (Verify 1 ∷ Commit 1 ∷ Abort 1 ∷ []) ≡ Some NotOpen ∷ Some NotOpen ∷ Some NotOpen ∷ []
unfolding opened
is_not_open = refl

-- a check and an abort need the desk, and a commit a check that found nothing, before the structure has to wait
need_desk : map (verdict owned) (Verify 2 ∷ Abort 2 ∷ Commit 2 ∷ Verify 1 ∷ Abort 1 ∷ Commit 1 ∷ [])
    ≡ Some NotOwner ∷ Some NotOwner ∷ Some NotOwner ∷ None ∷ None ∷ Some NotVerified ∷ []
unfolding opened
need_desk = refl

-- the structure waits while a phase is in service, or there is a commitment or a crossing alone
abbrev pub commit_at : List Edit → State → Option Refusal
commit_at edits s = verdict (editing Done edits s) (Commit 1)

structure_waits : map (commit_at symmetric)
    (red ∷ resting ∷ with_rings (both (Some 3) None) None ∷ with_rings (both None None) (Some 2) ∷ [])
    ≡ None ∷ Some InService ∷ Some InService ∷ Some InService ∷ []
unfolding opened
structure_waits = refl

-- a preempt's lists wait while a preempt is in service, but not for the rings
lists_wait : map (commit_at (edit PreemptDwellPhase 2 8 ∷ [])) (red ∷ resting ∷ dwelling 5 ∷ [])
    ≡ None ∷ None ∷ Some InService ∷ []
unfolding opened
lists_wait = refl

-- other objects never wait
others_do_not : map (commit_at (edit PhaseMaximum1 2 30 ∷ [])) (resting ∷ at_barrier ∷ dwelling 5 ∷ [])
    ≡ None ∷ None ∷ None ∷ []
unfolding opened
others_do_not = refl
