-- The line that ends a strict run or record.
use Rattle.std.specs.Prelude.{ℕ, List, Bool, true, false, take, Option, Some, None, option_map}
use Rattle.tsb_dialog.specs.declared.answers.Flow.{Flow}
use Rattle.tsb_dialog.specs.declared.answers.Flow.TheVariants.{On, Over}
use Rattle.tsb_text.specs.declared.faults.LineFault.{LineFault}
use Rattle.tsb_text.specs.declared.faults.OnFault.{OnFault}
use Rattle.tsb_text.specs.declared.faults.OnFault.TheVariants as faults
use Rattle.tsb_text.specs.declared.stop.Stop.{Stop}

-- its number from 1 on, its first 200 bytes, and what is wrong with it
pub record Stopped : Type 0 where
  pub number : ℕ
  pub line : List ℕ
  pub fault : LineFault

-- a line with which something is wrong ends a strict run
abbrev pub stopped_at : OnFault → ℕ → List ℕ → Option LineFault → Option Stopped
stopped_at faults.Stop number line (Some fault) = Some (record { number = number; line = take 200 line; fault = fault })
stopped_at on_fault number line fault = None

-- the line that a call gave
abbrev pub stop_in : Option Stop → Option Stopped
stop_in stop = option_map (λ (x : Stop). record { number = x.number; line = x.line.items; fault = x.fault }) stop

-- whether a run goes on: after a line that is not `quit`, and that does not end it
abbrev pub flow_after : Bool → Option Stopped → Flow
flow_after is_quit (Some stopped) = Over
flow_after true None = Over
flow_after false None = On
