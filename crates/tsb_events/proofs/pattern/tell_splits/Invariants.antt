use Rattle.std.proofs.Common.{◌≡◌, ◌+◌, ◌-◌, ◌≤◌, ◌++◌, flat_map}
use Rattle.arrayvec.specs.ArrayVec.{array_vec_len}
use Rattle.tsb_types.specs.Lists.{run_from}
use Rattle.tsb_types.specs.declared.event.TheConstants.{SPLIT_CHANGES}
use Rattle.tsb_step.specs.Events.{if_differs, split_events}
use Rattle.tsb_events.specs.Seen.{selected_of}
use Rattle.tsb_events.proofs.pattern.tell_splits.Given as goal

-- what is told, with the splits of the phases that follow, is all; and there is room for these
abbrev pub invariant-loop-k : goal.invariant-loop-k
invariant-loop-k l = record {
  told : l.events.items ++ flat_map (λ p. if_differs l.tick (SPLIT_CHANGES + p - 1) ((selected_of l.was).split p) ((selected_of l.now).split p)) (run_from (l.k + 1) (16 - l.k)) ≡ l.fn.events.items ++ split_events l.tick (selected_of l.was) (selected_of l.now);
  room : array_vec_len l.events ≤ array_vec_len l.fn.events + l.k;
}
