-- The names of states. Those of NTCIP 1202 and 1201 are theirs; the parts of a ring, the desk and waits have the names
-- of the definitions.
use Rattle.std.specs.Prelude.{ℕ, List, codes}
use Rattle.tsb_step.specs.tsb_transact.declared.desk_state.DeskState.{DeskState}
use Rattle.tsb_step.specs.tsb_transact.declared.desk_state.DeskState.TheVariants as desk_states
use Rattle.tsb_step.specs.declared.status.RingPart.{RingPart}
use Rattle.tsb_step.specs.declared.status.RingPart.TheVariants as parts
use Rattle.tsb_step.specs.declared.status.PreemptState.{PreemptState}
use Rattle.tsb_step.specs.declared.status.PreemptState.TheVariants as preempt_states
use Rattle.tsb_step.specs.declared.status.FreeStatus.{FreeStatus}
use Rattle.tsb_step.specs.declared.status.FreeStatus.TheVariants.{NotFree, CommandFree, BadPlan}
use Rattle.tsb_step.specs.declared.status.FlashStatus.{FlashStatus}
use Rattle.tsb_step.specs.declared.status.FlashStatus.TheVariants.{NotFlash, Mmu}

-- the coded part of ringStatus
abbrev pub part_name : RingPart → List ℕ
part_name parts.MinimumGreen = codes "minimumGreen"
part_name parts.Extension = codes "extension"
part_name parts.Maximum = codes "maximum"
part_name parts.GreenRest = codes "greenRest"
part_name parts.YellowChange = codes "yellowChange"
part_name parts.RedClearance = codes "redClearance"
part_name parts.RedRest = codes "redRest"

-- preemptState
abbrev pub preempt_name : PreemptState → List ℕ
preempt_name preempt_states.NotActive = codes "notActive"
preempt_name preempt_states.NotActiveWithCall = codes "notActiveWithCall"
preempt_name preempt_states.EntryStarted = codes "entryStarted"
preempt_name preempt_states.TrackService = codes "trackService"
preempt_name preempt_states.Dwell = codes "dwell"
preempt_name preempt_states.ExitStarted = codes "exitStarted"
preempt_name preempt_states.MaxPresence = codes "maxPresence"

-- localFreeStatus
abbrev pub free_name : FreeStatus → List ℕ
free_name NotFree = codes "notFree"
free_name CommandFree = codes "commandFree"
free_name BadPlan = codes "badPlan"

-- unitFlashStatus
abbrev pub flash_name : FlashStatus → List ℕ
flash_name NotFlash = codes "notFlash"
flash_name Mmu = codes "mmu"

-- how far a transaction is
abbrev pub desk_name : DeskState → List ℕ
desk_name desk_states.Normal = codes "normal"
desk_name desk_states.Transaction = codes "transaction"
desk_name desk_states.Verify = codes "verify"
desk_name desk_states.Done = codes "done"
