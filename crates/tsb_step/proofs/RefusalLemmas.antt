-- No input is refused as out of memory by what it asks: the verdict on it is another refusal, or none.
use Rattle.std.proofs.Common.{◌≡◌, ◌≢◌, ℕ, Bool, true, false, ◌&&◌, if◌then◌else◌, Option, Some, None, nat_le, nat_lt, ◌==◌, ◌||◌, not, is_some}
use Rattle.tsb_types.specs.declared.refusal.Refusal.{Refusal}
use Rattle.tsb_types.specs.declared.refusal.Refusal.TheVariants.{Memory, NoSuchObject, OutOfRange, NotOwner, NotVerified, TooManyEdits, NoSuchPattern, NoSuchPreempt, TickLimit, InService}
use Rattle.tsb_objects.specs.tsb_plan.Plan.{Plan}
use Rattle.tsb_objects.specs.tsb_plan.declared.object.ObjectId.{ObjectId}
use Rattle.tsb_machine.specs.Play.{IsRefusal}
use Rattle.tsb_coord.specs.Coordinated as coordination
use Rattle.tsb_preempt.specs.Preempts as preempts
use Rattle.tsb_preempt.specs.Service.{has_dwell}
use Rattle.tsb_transact.specs.Calls as desk
use Rattle.tsb_transact.specs.Commit as commit
use Rattle.tsb_transact.specs.Desk.{is_done}
use Rattle.tsb_step.specs.declared.inputs.Input.{Input}
use Rattle.tsb_step.specs.declared.inputs.Input.TheVariants.{Tick, Pattern, Switch, Begin, Set, Verify, Commit, Abort, Omit}
use Rattle.tsb_step.specs.State.{State}
use Rattle.tsb_step.specs.Step.{verdict, is_serving, last_tick}
use Rattle.tsb_step.specs.Tables.{place_refusal, version_of, has_place, greatest_of}
use Rattle.tsb_objects.specs.tsb_plan.Versions.{has_object}

-- one of two
either : (b : Bool) (x y : Option Refusal) → x ≢ Some Memory → y ≢ Some Memory → (if b then x else y) ≢ Some Memory
either true x y f g = f
either false x y f g = g

first : (x y : Option Refusal) → x ≢ Some Memory → y ≢ Some Memory → desk.or_refusal x y ≢ Some Memory
first None y f g = g
first (Some e) y f g = f

stranger : (station : ℕ) (owner : Option ℕ) → desk.stranger_refusal station owner ≢ Some Memory
stranger station None = λ h. cc
stranger station (Some owner) = either (owner == station) None (Some NotOwner) (λ h. cc) (λ h. cc)

busy : (owner : Option ℕ) → desk.busy_refusal owner ≢ Some Memory
busy None = λ h. cc
busy (Some owner) = λ h. cc

place : (plan : Plan) (id : ObjectId) (v : ℕ) → place_refusal plan id v ≢ Some Memory
place plan id v =
    either (has_object (version_of plan) id.object && has_place plan id.object id.index) (if nat_le v (greatest_of plan id.object) then None else Some OutOfRange) (Some NoSuchObject)
    (either (nat_le v (greatest_of plan id.object)) None (Some OutOfRange) (λ h. cc) (λ h. cc)) (λ h. cc)

pub never-memory : (s : State) (i : Input) → verdict s i ≢ Some Memory
unfolding verdict
never-memory s (Tick row) = either (nat_lt s.now last_tick) None (Some TickLimit) (λ h. cc) (λ h. cc)
never-memory s (Pattern n) = either (n == 0 || coordination.is_pattern s.plan n) None (Some NoSuchPattern) (λ h. cc) (λ h. cc)
never-memory s (Switch n on) = either (preempts.is_preempt n && (not on || has_dwell s.plan n)) None (Some NoSuchPreempt) (λ h. cc) (λ h. cc)
never-memory s (Begin station) = busy s.desk.owner
never-memory s (Set station id v) =
    first (desk.stranger_refusal station s.desk.owner) _ (stranger station s.desk.owner)
    (first (place_refusal s.plan id v) _ (place s.plan id v) (either (desk.has_no_room id s.desk.edits) (Some TooManyEdits) None (λ h. cc) (λ h. cc)))
never-memory s (Verify station) = stranger station s.desk.owner
never-memory s (Commit station) =
    first (desk.stranger_refusal station s.desk.owner) _ (stranger station s.desk.owner)
    (first (desk.refused_if (not (is_done s.desk.state)) NotVerified) _ (either (not (is_done s.desk.state)) (Some NotVerified) None (λ h. cc) (λ h. cc))
    (either (commit.must_wait s.plan (is_serving s) (is_some s.preempts.service) s.desk.edits) (Some InService) None (λ h. cc) (λ h. cc)))
never-memory s (Abort station) = stranger station s.desk.owner
never-memory s (Omit list) = either (nat_lt list 65536) None (Some OutOfRange) (λ h. cc) (λ h. cc)
never-memory s i = λ h. cc

-- so a verdict is a refusal that may be answered
pub refuses : (s : State) (i : Input) (e : Refusal) → verdict s i ≡ Some e → IsRefusal (verdict s i) e
refuses s i Memory h = absurd (never-memory s i h)
refuses s i e h = h
