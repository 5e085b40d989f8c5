use Rattle.std.proofs.Common.{arith, ◌≡◌, ◌≢◌, ◌∙◌, ℕ, ◌+◌, ◌*◌, ◌/◌, ◌<◌, ◌≤◌, ◌++◌, List, [], ◌∷◌, length, get_or, drop, ap, sym}
use Rattle.std.proofs.lemmas.List.{append-nil}
use Rattle.arrayvec.specs.ArrayVec.{ArrayVec}
use Rattle.tsb_cells.specs.Blocks.{block_changes}
use Rattle.tsb_cells.specs.Diff.{diff_from, shifted}
use Rattle.tsb_cells.specs.Row.{row_at}
use Rattle.tsb_cells.proofs.BlockChangeLemmas.{cell-added, cell-agrees, cell-fits, none-behind, row-cell, row-long, row-short, row-whole}
use Rattle.tsb_cells.proofs.bank.Bank.add_block.Goals.{then-i+then-self-i, else-i, else-i-via-then-i+else-self-i, else-i-via-else-i}
use Rattle.tsb_cells.proofs.bank.Bank.add_block.Goals as goal

pub loop-k-init : goal.loop-k-init
loop-k-init g c =
    let width : ℕ = g.row.N / 64 + 1 in
    let before : List ℕ = c.args.self.now.before in
    let cells : List ℕ = c.args.self.now.cells in
    ap (λ (at : ℕ). c.args.out.now.items ++ shifted c.args.offset (diff_from at (row_at width before (c.args.block * c.block.result)) (row_at width cells (c.args.block * c.block.result))))
    (let e : c.args.block * c.block.result + 0 ≡ c.args.block * c.block.result = omega arith in e)
    ∙ ap (λ (w : ℕ). c.args.out.now.items ++ shifted c.args.offset (diff_from (c.args.block * w) (row_at width before (c.args.block * w)) (row_at width cells (c.args.block * w))))
    c.block.ensures

-- the cell of a step, which differs, among the block's cells
record Differs (w first k n : ℕ) (before cells : List ℕ) : Type 0 where
  pub within : k < length (row_at w before first)
  pub also : k < length (row_at w cells first)
  pub apart : get_or (row_at w before first) k 0 ≢ get_or (row_at w cells first) k 0

differs : (w first k n : ℕ) (before cells : List ℕ) → length before ≡ n → length cells ≡ n → k < w → first + k < n →
    get_or before (first + k) 0 ≢ get_or cells (first + k) 0 → Differs w first k n before cells
differs w first k n before cells before_full cells_full within short apart = record {
  within = row-long w first k before within (omega (arith, before_full, short));
  also = row-long w first k cells within (omega (arith, cells_full, short));
  apart = λ same. apart (sym (row-cell w first k before within) ∙ same ∙ row-cell w first k cells within);
}

pub push-requires : goal.push-requires
push-requires g c =
    let width : ℕ = g.row.N / 64 + 1 in
    let first : ℕ = c.args.block * c.block.result in
    let before : List ℕ = c.args.self.now.before in
    let cells : List ℕ = c.args.self.now.cells in
    let within : c.loop-k.k < width = omega (arith, c.block-k-end.ensures, c.loop-k-test.true) in
    let it : Differs width first c.loop-k.k g.row.N before cells =
    differs width first c.loop-k.k g.row.N before cells c.args.self.now.before_full c.args.self.now.cells_full within c.if-i.true c.if-self-i.true in (
      omega arith,
      cell-fits first c.loop-k.k c.args.offset g.row.M (row_at width before first) (row_at width cells first) c.loop-k.out.items c.args.out.now.items
          (block_changes g.row.N c.args.block before cells) it.within it.also it.apart c.loop-k.invariant c.requires.room,
    )

pub loop-k-preserved : goal.loop-k-preserved
loop-k-preserved g c =
    let width : ℕ = g.row.N / 64 + 1 in
    let first : ℕ = c.args.block * c.block.result in
    let before : List ℕ = c.args.self.now.before in
    let cells : List ℕ = c.args.self.now.cells in
    let k : ℕ = c.loop-k.k in
    let before_full : length before ≡ g.row.N = c.args.self.now.before_full in
    let cells_full : length cells ≡ g.row.N = c.args.self.now.cells_full in
    let within : k < width = omega (arith, c.block-k-end.ensures, c.loop-k-test.true) in
    let stays : diff_from (first + k) (drop k (row_at width before first)) (drop k (row_at width cells first))
    ≡ diff_from (first + (k + 1)) (drop (k + 1) (row_at width before first)) (drop (k + 1) (row_at width cells first)) →
    c.if-i.out.items ≡ c.loop-k.out.items →
    c.if-i.out.items ++ shifted c.args.offset (diff_from (first + (k + 1)) (drop (k + 1) (row_at width before first)) (drop (k + 1) (row_at width cells first)))
    ≡ c.args.out.now.items ++ shifted c.args.offset (block_changes g.row.N c.args.block before cells) =
    λ none same. ap (λ (es : List (ℕ × ℕ)). es ++ shifted c.args.offset (diff_from (first + (k + 1)) (drop (k + 1) (row_at width before first)) (drop (k + 1) (row_at width cells first)))) same
    ∙ ap (λ (es : List (ℕ × ℕ)). c.loop-k.out.items ++ shifted c.args.offset es) (sym none) ∙ c.loop-k.invariant in
    elim c.if-i.branch [
      | then-i+then-self-i w ↦
          let it : Differs width first k g.row.N before cells = differs width first k g.row.N before cells before_full cells_full within w.if-i.true w.if-self-i.true in
          let grows : c.if-i.out.items ≡ c.loop-k.out.items ++ (c.args.offset + (first + k), get_or (row_at width before first) k 0) ∷ [] =
          ap (λ (x : ArrayVec (ℕ × ℕ)). x.items) w.out-is ∙ w.push.ensures.items
          ∙ ap (λ (v : ℕ). c.loop-k.out.items ++ (c.args.offset + (first + k), v) ∷ []) (sym (row-cell width first k before within)) in
          cell-added first k c.args.offset (row_at width before first) (row_at width cells first) c.loop-k.out.items c.if-i.out.items
          (c.args.out.now.items ++ shifted c.args.offset (block_changes g.row.N c.args.block before cells)) it.within it.also it.apart grows c.loop-k.invariant
      | else-i w ↦
          stays
          (elim w.else-i.branch [
            | else-i-via-then-i+else-self-i v ↦
                cell-agrees first k (row_at width before first) (row_at width cells first) (row-long width first k before within (omega (arith, before_full, v.if-i.true)))
                (row-long width first k cells within (omega (arith, cells_full, v.if-i.true)))
                (row-cell width first k before within ∙ v.if-self-i.false ∙ sym (row-cell width first k cells within))
            | else-i-via-else-i v ↦
                let over : length (row_at width before first) ≤ k = row-short width first k before (omega (arith, before_full, v.if-i.false)) in
                none-behind first k (row_at width before first) (row_at width cells first) over
                ∙ sym (none-behind first (k + 1) (row_at width before first) (row_at width cells first) (omega (arith, over)))
          ])
          (ap (λ (x : ArrayVec (ℕ × ℕ)). x.items) w.out-is)
    ]

pub returns : goal.returns
returns g c =
    let width : ℕ = g.row.N / 64 + 1 in
    let first : ℕ = c.args.block * c.block.result in
    let before : List ℕ = c.args.self.now.before in
    let cells : List ℕ = c.args.self.now.cells in
    let all : width ≤ c.loop-k.k = omega (arith, c.block-k-end.ensures, c.loop-k-test.false) in
    sym (append-nil c.loop-k.out.items)
    ∙ ap (λ (es : List (ℕ × ℕ)). c.loop-k.out.items ++ shifted c.args.offset es)
    (sym (none-behind first c.loop-k.k (row_at width before first) (row_at width cells first) (row-whole width first c.loop-k.k before all)))
    ∙ c.loop-k.invariant
