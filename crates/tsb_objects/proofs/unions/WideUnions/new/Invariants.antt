use Rattle.std.proofs.Common.{◌≡◌, ℕ, ◌+◌, ◌-◌, ◌*◌, ◌<◌, ◌&&◌, [], get_or, length}
use Rattle.tsb_types.specs.Lists.{some_passes, run_from}
use Rattle.tsb_types.specs.Sets.{names}
use Rattle.tsb_objects.proofs.unions.WideUnions.new.Given as goal

-- the words of the eights so far are the unions
abbrev pub invariant-loop-k : goal.invariant-loop-k
invariant-loop-k l = record {
  full : length l.eights ≡ 8;
  told : (k j p : ℕ) → k < l.k → j < 256 →
      names (get_or (get_or l.eights k []) j 0) p ≡ some_passes (λ n. names j n && names (get_or l.sets (8 * k + (n - 1)) 0) p) (run_from 1 8);
}
