-- The line that tells a fault of a log, without its end. Lines of the log count from 1.
use Rattle.std.specs.Prelude.{ℕ, List, ◌++◌, codes, decimal}
use Rattle.tsb_log_text.specs.declared.error.LogError.{LogError}
use Rattle.tsb_log_text.specs.declared.error.LogError.TheVariants.{Memory, TooLarge, Malformed, TickOrder}

-- what a log's fault is told as
abbrev pub log_fault : LogError → List ℕ
log_fault Memory = codes "memory"
log_fault TooLarge = codes "log: too large"
log_fault (Malformed line) = codes "log line " ++ decimal line ++ codes ": malformed"
log_fault (TickOrder line) = codes "log line " ++ decimal line ++ codes ": tick order"
