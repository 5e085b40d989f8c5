use Rattle.std.proofs.Common.{ℕ, ◌&&◌, ◌||◌, Bool, slice_index, arith, ◌∙◌, ap, ap₂}
use Rattle.tsb_types.specs.Sets.{names, has_number}
use Rattle.tsb_objects.proofs.PassLemmas.{pass-same}
use Rattle.tsb_objects.proofs.UnionLemmas.{union-of}
use Rattle.tsb_objects.proofs.unions.Unions.of.Goals as goal

pub returns : goal.returns
returns c = λ test are p from within.
    let list : ℕ = c.list-list.result in
    let unions = c.args.self.now in
    c.union.ensures p
    ∙ ap₂ (λ (a b : Bool). a || b)
    (c.from_list.ensures p ∙ ap (λ (k : ℕ). names (slice_index unions.low k) p) c.from.ensures)
    (c.from_list-2.ensures p ∙ ap (λ (k : ℕ). names (slice_index unions.high k) p) c.from-2.ensures)
    ∙ union-of test unions are list p (omega arith) from within
    ∙ pass-same (λ n. names list n && test n p) (λ n. has_number c.args.numbers n && test n p) 1 16 (λ n first below.
    ap (λ (b : Bool). b && test n p) (c.list-list.ensures n))
