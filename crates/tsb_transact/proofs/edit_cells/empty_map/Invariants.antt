use Rattle.std.proofs.Common.{◌≡◌, ℕ, ◌≤◌, None, nat_eq}
use Rattle.indexmap.specs.IndexMap.{index_map_len, get}
use Rattle.tsb_transact.proofs.edit_cells.empty_map.Given as goal

abbrev pub invariant-loop-place : goal.invariant-loop-place
invariant-loop-place l = record {
  count : index_map_len l.edits ≡ l.place;
  absent : (k : ℕ) → l.place ≤ k → get nat_eq l.edits k ≡ None;
}
