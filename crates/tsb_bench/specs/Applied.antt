-- What becomes of a bench that is given an input: the clauses of `apply` as one, for the private calls below it.
use Rattle.std.specs.Prelude.{◌≡◌, ◌+◌, ◌<◌, ◌≤◌, ◌∷◌, length, None, Err, OnOk, OnErr, IfErr, Result}
use Rattle.tsb_history.specs.History.{record_size}
use Rattle.tsb_types.specs.declared.refusal.Refusal.{Refusal}
use Rattle.tsb_types.specs.declared.refusal.Refusal.TheVariants.{Memory}
use Rattle.tsb_machine.specs.Play.{IsRefusal}
use Rattle.tsb_step.specs.declared.inputs.Input.{Input}
use Rattle.tsb_step.specs.Past.{record_of, earlier}
use Rattle.tsb_step.specs.Step.{step, verdict, kind_of}
use Rattle.tsb_bench.specs.Cabinet.{most_cells}
use Rattle.tsb_bench.specs.Held.{Held, state_of, whole}

-- `old` before it, `new` after it; each field is the clause of `apply` of that name
pub record IsApplied (i : Input) (old new : Held) (result : Result (Unit {0}) Refusal) : Type 0 where
  pub allowed : OnOk result (verdict (state_of old) i ≡ None)
  pub state : OnOk result (state_of new ≡ step (state_of old) i)
  pub records : OnOk result (new.records ≡ record_of i (state_of old) (state_of new) ∷ old.records)
  pub back : OnOk result (earlier (whole new) 1 ≡ whole old)
  pub refused : IfErr result (IsRefusal (verdict (state_of old) i))
  pub err : OnErr result (new ≡ old)
  pub few : OnOk result (length (record_of i (state_of old) (state_of new)).entries ≤ most_cells (kind_of i))
  pub wanting : result ≡ Err Memory → old.room < record_size (most_cells (kind_of i))
  pub room : OnOk result (old.room ≤ new.room + record_size (length (record_of i (state_of old) (state_of new)).entries))
