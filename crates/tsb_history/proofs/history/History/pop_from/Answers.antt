use Rattle.std.proofs.Common.{◌≡◌, ◌≤◌, ◌+◌, ◌-◌, ◌∙◌, ap, subst, arith, length, vec_len, vec_capacity, Some}
use Rattle.tsb_history.specs.Bytes.{changes_at, start_at}
use Rattle.tsb_history.specs.History.{Recorded, newest_start, older, size_of}
use Rattle.tsb_history.proofs.PlaceLemmas.{size-newest, start-some, start-is}
use Rattle.tsb_history.proofs.ByteLemmas.{IsShrunk, shrunk, kept-shrunk}
use Rattle.tsb_history.proofs.history.History.pop_from.Goals as goal

-- the newest record begins there
begins : (c : goal.After-self-1) → newest_start (changes_at c.self.inside.count c.self.inside.bytes.items (length c.self.inside.bytes.items)) ≡ Some c.args.start
begins c = ap (λ p. newest_start p.records) c.self.view_is ∙ c.requires.start

is-one : (c : goal.After-self-1) → c.self.inside.count ≡ 0 → ⊥
is-one c = start-some c.self.inside.count c.self.inside.bytes.items (length c.self.inside.bytes.items) c.args.start (begins c)

at : (c : goal.After-self-1) → c.args.start ≡ start_at c.self.inside.bytes.items (length c.self.inside.bytes.items)
at c = start-is c.self.inside.count c.self.inside.bytes.items (length c.self.inside.bytes.items) c.args.start c.self.invariant.laid (begins c)

rest : (c : goal.After-self-1) → IsShrunk (c.self.inside.count - 1) c.self.inside.count c.self.inside.bytes.items c.truncate.new.self.items
rest c = shrunk c.self.inside.count c.self.inside.bytes.items c.truncate.new.self.items c.args.start c.self.invariant.laid (is-one c) (at c) c.truncate.ensures.items

pub invariant_of-self : goal.invariant_of-self
invariant_of-self c =
    kept-shrunk c.self.inside.count c.self.inside.bytes.items c.truncate.new.self.items c.args.start c.self.invariant (is-one c) (at c) c.truncate.ensures.items

pub returns-clause-rest : goal.returns-clause-rest
returns-clause-rest c = (rest c).records ∙ ap (λ p. older p.records) c.self.view_is

pub returns-clause-room : goal.returns-clause-room
returns-clause-room c =
    let start : c.args.start ≡ start_at c.self.inside.bytes.items (length c.self.inside.bytes.items) = at c in
    let left : size_of (changes_at (c.self.inside.count - 1) c.truncate.new.self.items (length c.truncate.new.self.items)) ≡ size_of (older (changes_at c.self.inside.count c.self.inside.bytes.items (length c.self.inside.bytes.items))) = ap size_of (rest c).records in
    let took : size_of (changes_at c.self.inside.count c.self.inside.bytes.items (length c.self.inside.bytes.items)) + start_at c.self.inside.bytes.items (length c.self.inside.bytes.items)
    ≡ size_of (older (changes_at c.self.inside.count c.self.inside.bytes.items (length c.self.inside.bytes.items))) + length c.self.inside.bytes.items =
    size-newest c.self.inside.count c.self.inside.bytes.items (length c.self.inside.bytes.items) (is-one c) c.self.invariant.laid in
    let within : start_at c.self.inside.bytes.items (length c.self.inside.bytes.items) ≤ length c.self.inside.bytes.items = omega arith in
    subst (λ (p : Recorded). size_of (changes_at (c.self.inside.count - 1) c.truncate.new.self.items (length c.truncate.new.self.items)) + (vec_capacity c.truncate.new.self - vec_len c.truncate.new.self) ≡ size_of p.records + p.room) c.self.view_is
    (omega (arith, start, left, took, within, c.self.inside.bytes.ok.0, c.self.inside.bytes.ok.1, c.truncate.ensures.len, c.truncate.ensures.capacity))
