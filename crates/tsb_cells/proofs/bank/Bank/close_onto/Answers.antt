use Rattle.std.proofs.Common.{arith, ◌≡◌, ℕ, ◌+◌, ◌-◌, ◌*◌, ◌%◌, ◌^◌, ◌≤◌, length, refl, sym, ◌∙◌, ap, List, [], ◌++◌, w64, bit_and, rules}
use Rattle.std.specs.Int.{trailing_zeros}
use Rattle.std.proofs.lemmas.List.{append-nil, length-append}
use Rattle.tsb_cells.specs.Blocks.{block_changes, kept_in}
use Rattle.tsb_cells.specs.Diff.{diff, shifted}
use Rattle.tsb_cells.proofs.BlockLemmas.{length_kept, kept-unwritten, taken-smaller, first-within}
use Rattle.tsb_cells.proofs.BlockChangeLemmas.{block-added, first-settled}
use Rattle.tsb_cells.proofs.DiffLemmas.{diff-same, length-diff, length-followed}
use Rattle.tsb_cells.proofs.bank.Bank.close_onto.Goals as goal

pub loop-rest-smaller : goal.loop-rest-smaller
loop-rest-smaller g c = taken-smaller c.loop-rest.rest (omega arith) c.loop-rest-test.true

pub add_block-requires : goal.add_block-requires
add_block-requires g c =
    let cells : List ℕ = c.args.self.now.cells in
    let before : List ℕ = c.args.self.now.before in
    let kept : List ℕ = kept_in g.row.N c.args.self.now.written cells before in
    let left : List (ℕ × ℕ) = diff (kept_in g.row.N c.loop-rest.rest cells before) cells in
    let own : List (ℕ × ℕ) = block_changes g.row.N (trailing_zeros w64 c.loop-rest.rest) before cells in
    let lens : length c.loop-rest.out.items + length left ≡ length c.args.out.now.items + length (diff kept cells) =
    length-followed c.loop-rest.out.items c.args.out.now.items left (diff kept cells) c.args.offset c.loop-rest.invariant in
    let parts : length left ≡ length own + length (diff (kept_in g.row.N (bit_and c.loop-rest.rest (18446744073709551615 - 1 * 2 ^ (trailing_zeros w64 c.loop-rest.rest) % 18446744073709551616)) cells before) cells) =
    ap length (first-settled g.row.N c.loop-rest.rest cells before c.args.self.now.cells_full c.args.self.now.before_full (omega arith) c.loop-rest-test.true)
    ∙ length-append own _ in
    let most : length (diff kept cells) ≤ length kept = length-diff kept cells in
    let full : length kept ≡ g.row.N = c.args.self.now.kept_full in
    (omega arith, (omega arith, (first-within c.loop-rest.rest (omega arith) c.loop-rest-test.true, (c.requires.fits, omega (arith, lens, parts, most, full, c.requires.room)))))

pub loop-rest-preserved : goal.loop-rest-preserved
loop-rest-preserved g c =
    let cells : List ℕ = c.args.self.now.cells in
    let before : List ℕ = c.args.self.now.before in
    block-added c.loop-rest.out.items c.add_block.new.out.items c.args.offset (diff (kept_in g.row.N c.loop-rest.rest cells before) cells)
    (block_changes g.row.N (trailing_zeros w64 c.loop-rest.rest) before cells) _
    (first-settled g.row.N c.loop-rest.rest cells before c.args.self.now.cells_full c.args.self.now.before_full (omega arith) c.loop-rest-test.true)
    c.add_block.ensures
    ∙ c.loop-rest.invariant

pub invariant_of-self-clause-kept_full : goal.invariant_of-self-clause-kept_full
invariant_of-self-clause-kept_full g c = length_kept _ _ _ _

pub invariant_of-self-clause-same_closed : goal.invariant_of-self-clause-same_closed
invariant_of-self-clause-same_closed g c = λ closed. kept-unwritten g.row.N 0 c.args.self.now.cells c.args.self.now.before c.args.self.now.cells_full refl

pub returns-clause-changes : goal.returns-clause-changes
returns-clause-changes g c =
    let cells : List ℕ = c.args.self.now.cells in
    let same : cells ≡ kept_in g.row.N c.loop-rest.rest cells c.args.self.now.before =
    kept-unwritten g.row.N c.loop-rest.rest cells c.args.self.now.before c.args.self.now.cells_full c.loop-rest-test.false in
    let none : diff (kept_in g.row.N c.loop-rest.rest cells c.args.self.now.before) cells ≡ [] =
    ap (λ (kept : List ℕ). diff kept cells) (sym same) ∙ diff-same cells in
    sym (append-nil c.loop-rest.out.items) ∙ ap (λ (es : List (ℕ × ℕ)). c.loop-rest.out.items ++ shifted c.args.offset es) (sym none)
    ∙ c.loop-rest.invariant

pub returns-clause-len : goal.returns-clause-len
returns-clause-len g c =
    let kept : List ℕ = kept_in g.row.N c.args.self.now.written c.args.self.now.cells c.args.self.now.before in
    let es : List (ℕ × ℕ) = diff kept c.args.self.now.cells in
    let lens : length c.loop-rest.out.items + 0 ≡ length c.args.out.now.items + length es =
    length-followed c.loop-rest.out.items c.args.out.now.items [] es c.args.offset (append-nil c.loop-rest.out.items ∙ returns-clause-changes g c) in
    let most : length es ≤ length kept = length-diff kept c.args.self.now.cells in
    let full : length kept ≡ g.row.N = c.args.self.now.kept_full in
    omega (arith, lens, most, full)

pub returns-clause-closed : goal.returns-clause-closed
returns-clause-closed g c = search rules fits 100
