use Rattle.std.proofs.Common.{◌≡◌, ◌≤◌, ◌+◌, ◌*◌, drop}
use Rattle.tsb_plan_text.specs.TreeSize.{tree_bytes}
use Rattle.tsb_plan_text.proofs.tree.tree_bytes.Given as goal

-- what was counted and what is left add up
abbrev pub invariant-loop-byte : goal.invariant-loop-byte
invariant-loop-byte l =
    (l.bytes + tree_bytes (drop l.byte-index l.text) ≡ tree_bytes l.text) × (l.bytes ≤ 900 * l.byte-index)
