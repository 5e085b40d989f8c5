use Rattle.std.proofs.Common.{arith, ◌≡◌, ◌∙◌, ℕ, ◌+◌, ◌*◌, ◌/◌, ◌<◌, ◌≤◌, get_or, ap, sym, length-set}
use Rattle.std.specs.Int.{bit_at}
use Rattle.std.proofs.lemmas.Nat.Bits.{shr_and_one}
use Rattle.tsb_cells.proofs.BlockLemmas.{length_kept, kept-more, marked-same, none-unmarked, some-marked, block-start, block-end}
use Rattle.tsb_cells.proofs.bank.Bank.keep_block.Goals as goal

pub returns-then-self-block-ne0-clause-marked : goal.returns-then-self-block-ne0-clause-marked
returns-then-self-block-ne0-clause-marked g c =
    λ k is. some-marked g.row.N c.args.self.now.written k
    (λ none. c.if-self-block-ne0.true (shr_and_one c.args.self.now.written c.args.block ∙ ap (bit_at c.args.self.now.written) (sym is) ∙ none))

pub invariant_of-self-clause-before_full : goal.invariant_of-self-clause-before_full
invariant_of-self-clause-before_full g c =
    length-set c.loop-k.self.before (c.args.block * c.block.result + c.loop-k.k) _ ∙ c.loop-k.self.before_full

pub invariant_of-self-clause-kept_full : goal.invariant_of-self-clause-kept_full
invariant_of-self-clause-kept_full g c = length_kept _ _ _ _

pub invariant_of-self-2-clause-kept_full : goal.invariant_of-self-2-clause-kept_full
invariant_of-self-2-clause-kept_full g c = length_kept _ _ _ _

pub returns-clause-marked : goal.returns-clause-marked
returns-clause-marked g c = λ k is. marked-same g.row.N c.loop-k.self.written c.args.block k c.requires.within is

pub returns-clause-kept : goal.returns-clause-kept
returns-clause-kept g c =
    let width : ℕ = g.row.N / 64 + 1 in
    let first : c.block.result ≡ width = c.block.ensures in
    let end : c.block-k-end.result ≡ width = c.block-k-end.ensures in
    let all : width ≤ c.loop-k.k = omega (arith, end, c.loop-k-test.false) in
    let word : c.loop-k.self.written ≡ c.args.self.now.written = c.loop-k.invariant.written in
    rw (word, c.loop-k.invariant.cells)
    (kept-more g.row.N c.args.self.now.written c.args.block c.args.self.now.cells c.args.self.now.before c.loop-k.self.before c.requires.within
    (λ k below is. none-unmarked g.row.N c.args.self.now.written k
    (ap (bit_at c.args.self.now.written) is ∙ sym (shr_and_one c.args.self.now.written c.args.block) ∙ c.if-self-block-ne0.false))
    (λ k below is.
    let from : c.args.block * width ≤ k = block-start k c.args.block (g.row.N / 64) is in
    let to : k < c.args.block * width + width = block-end k c.args.block (g.row.N / 64) is in
    c.loop-k.invariant.here k (rw first from) (rw first (omega (arith, to, all))) below ∙ ap (λ (row : _). get_or row k 0) c.loop-k.invariant.cells)
    c.loop-k.invariant.others)
