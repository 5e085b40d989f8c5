use Rattle.std.proofs.Common.{◌≡◌, ℕ, ◌+◌, ◌*◌, ◌-◌, ◌∙◌, ap, subst, arith, drop, take, length, vec_len, vec_capacity, rules}
use Rattle.tsb_history.specs.Bytes.{changes_at}
use Rattle.tsb_history.specs.History.{Recorded, size_of}
use Rattle.tsb_history.proofs.PlaceLemmas.{size-laid}
use Rattle.tsb_history.proofs.QuietLemmas.{AreFound, AreTaken, found-in, taken}
use Rattle.tsb_history.proofs.history.History.pop_quiet.Goals as goal

pub overflow_mul-quiet : goal.overflow_mul-quiet
overflow_mul-quiet c =
    let at : c.len-end.result ≡ length c.self.inside.bytes.items = search rules in
    let within = (found-in c.args.most c.quiet_before-quiet.result c.self.inside.count c.self.inside.bytes.items c.deref.result.now c.len-end.result c.deref.ensures.value at c.quiet_before-quiet.ensures c.self.invariant.laid).passed.within in
    omega (arith, within, at, c.len-end.type_inv)

pub overflow_sub-end : goal.overflow_sub-end
overflow_sub-end c =
    let at : c.len-end.result ≡ length c.self.inside.bytes.items = search rules in
    let within = (found-in c.args.most c.quiet_before-quiet.result c.self.inside.count c.self.inside.bytes.items c.deref.result.now c.len-end.result c.deref.ensures.value at c.quiet_before-quiet.ensures c.self.invariant.laid).passed.within in
    omega (arith, within, at)

pub overflow_sub-self : goal.overflow_sub-self
overflow_sub-self c =
    let at : c.len-end.result ≡ length c.self.inside.bytes.items = search rules in
    (found-in c.args.most c.quiet_before-quiet.result c.self.inside.count c.self.inside.bytes.items c.deref.result.now c.len-end.result c.deref.ensures.value at c.quiet_before-quiet.ensures c.self.invariant.laid).few

pub invariant_of-self : goal.invariant_of-self
invariant_of-self c =
    let at : c.len-end.result ≡ length c.self.inside.bytes.items = search rules in
    let are : AreFound c.args.most c.quiet_before-quiet.result c.self.inside.count c.self.inside.bytes.items (length c.self.inside.bytes.items) =
    found-in c.args.most c.quiet_before-quiet.result c.self.inside.count c.self.inside.bytes.items c.deref.result.now c.len-end.result c.deref.ensures.value at c.quiet_before-quiet.ensures c.self.invariant.laid in
    let few = are.few in
    (taken c.quiet_before-quiet.result c.self.inside.count (c.self.inside.count - c.quiet_before-quiet.result) c.self.inside.bytes.items c.truncate.new.self.items (omega (arith, few)) c.self.invariant are.most
    (c.truncate.ensures.items ∙ ap (λ (m : ℕ). take (m - 3 * c.quiet_before-quiet.result) c.self.inside.bytes.items) at)).kept

pub returns-clause-rest : goal.returns-clause-rest
returns-clause-rest c =
    let at : c.len-end.result ≡ length c.self.inside.bytes.items = search rules in
    let are : AreFound c.args.most c.quiet_before-quiet.result c.self.inside.count c.self.inside.bytes.items (length c.self.inside.bytes.items) =
    found-in c.args.most c.quiet_before-quiet.result c.self.inside.count c.self.inside.bytes.items c.deref.result.now c.len-end.result c.deref.ensures.value at c.quiet_before-quiet.ensures c.self.invariant.laid in
    let few = are.few in
    (taken c.quiet_before-quiet.result c.self.inside.count (c.self.inside.count - c.quiet_before-quiet.result) c.self.inside.bytes.items c.truncate.new.self.items (omega (arith, few)) c.self.invariant are.most
    (c.truncate.ensures.items ∙ ap (λ (m : ℕ). take (m - 3 * c.quiet_before-quiet.result) c.self.inside.bytes.items) at)).rest ∙ ap (λ p. drop c.quiet_before-quiet.result p.records) c.self.view_is

pub returns-clause-room : goal.returns-clause-room
returns-clause-room c =
    let at : c.len-end.result ≡ length c.self.inside.bytes.items = search rules in
    let are : AreFound c.args.most c.quiet_before-quiet.result c.self.inside.count c.self.inside.bytes.items (length c.self.inside.bytes.items) =
    found-in c.args.most c.quiet_before-quiet.result c.self.inside.count c.self.inside.bytes.items c.deref.result.now c.len-end.result c.deref.ensures.value at c.quiet_before-quiet.ensures c.self.invariant.laid in
    let few = are.few in
    let left : AreTaken c.quiet_before-quiet.result c.self.inside.count (c.self.inside.count - c.quiet_before-quiet.result) c.self.inside.bytes.items c.truncate.new.self.items =
    taken c.quiet_before-quiet.result c.self.inside.count (c.self.inside.count - c.quiet_before-quiet.result) c.self.inside.bytes.items c.truncate.new.self.items (omega (arith, few)) c.self.invariant are.most
    (c.truncate.ensures.items ∙ ap (λ (m : ℕ). take (m - 3 * c.quiet_before-quiet.result) c.self.inside.bytes.items) at) in
    let small : size_of (changes_at (c.self.inside.count - c.quiet_before-quiet.result) c.truncate.new.self.items (length c.truncate.new.self.items)) ≡ length c.truncate.new.self.items =
    size-laid (c.self.inside.count - c.quiet_before-quiet.result) c.truncate.new.self.items (length c.truncate.new.self.items) left.kept.laid in
    let whole : size_of (changes_at c.self.inside.count c.self.inside.bytes.items (length c.self.inside.bytes.items)) ≡ length c.self.inside.bytes.items =
    size-laid c.self.inside.count c.self.inside.bytes.items (length c.self.inside.bytes.items) c.self.invariant.laid in
    let within = are.passed.within in
    subst (λ (p : Recorded). size_of (changes_at (c.self.inside.count - c.quiet_before-quiet.result) c.truncate.new.self.items (length c.truncate.new.self.items)) + (vec_capacity c.truncate.new.self - vec_len c.truncate.new.self) ≡ size_of p.records + p.room) c.self.view_is
    (omega (arith, small, whole, within, at, c.self.inside.bytes.ok.0, c.self.inside.bytes.ok.1, c.truncate.new.self.ok.0, c.truncate.ensures.len, c.truncate.ensures.capacity))
