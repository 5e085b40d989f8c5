use Rattle.std.proofs.Common.{◌≡◌, ℕ, ◌+◌, ◌-◌, ◌^◌, ◌<◌, ◌&&◌, get_or, length}
use Rattle.tsb_types.specs.Lists.{some_passes, run_from}
use Rattle.tsb_types.specs.Sets.{names}
use Rattle.tsb_objects.proofs.unions.unions_of_eight.Given as goal

-- the words of the numbers so far are told
abbrev pub invariant-loop-place : goal.invariant-loop-place
invariant-loop-place g l = record {
  full : length l.unions ≡ 256;
  made : l.made ≡ 2 ^ l.place;
  told : (j p : ℕ) → j < l.made →
      names (get_or l.unions j 0) p ≡ some_passes (λ n. names j n && names (get_or l.sets (l.fn.before + (n - 1)) 0) p) (run_from 1 8);
}

-- and as many of those with one number more
abbrev pub invariant-loop-k : goal.invariant-loop-k
invariant-loop-k g l = record {
  full : length l.unions ≡ 256;
  made : l.made ≡ 2 ^ l.place;
  place : l.place < 8;
  set : l.set ≡ get_or l.sets (l.fn.before + l.place) 0;
  told : (j p : ℕ) → j < l.made + l.k →
      names (get_or l.unions j 0) p ≡ some_passes (λ n. names j n && names (get_or l.sets (l.fn.before + (n - 1)) 0) p) (run_from 1 8);
}
