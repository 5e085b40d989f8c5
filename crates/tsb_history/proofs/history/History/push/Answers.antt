use Rattle.std.proofs.Common.{◌≡◌, ◌≤◌, ◌+◌, ◌-◌, ◌*◌, ◌∷◌, ◌∙◌, ℕ, ap, arith, length, length-append, vec_len, vec_capacity}
use Rattle.tsb_history.specs.Bytes.{record_bytes}
use Rattle.tsb_history.proofs.PlaceLemmas.{count-laid}
use Rattle.tsb_history.proofs.ByteLemmas.{grown, kept-grown, length-record_bytes}
use Rattle.tsb_history.proofs.history.History.push.Goals as goal

pub overflow_add-self : goal.overflow_add-self
overflow_add-self c =
    let few : c.self.inside.count ≤ length c.self.inside.bytes.items = count-laid c.self.inside.count c.self.inside.bytes.items (length c.self.inside.bytes.items) c.self.invariant.laid in
    omega (arith, few, c.self.inside.bytes.small, c.self.inside.bytes.ok.0, c.self.inside.bytes.ok.1)

pub invariant_of-self : goal.invariant_of-self
invariant_of-self c =
    kept-grown c.self.inside.count c.self.inside.bytes.items c.write_record.new.bytes.items (record { kind = c.args.kind; entries = c.args.entries.now })
    c.self.invariant (record { few = c.requires.few; entries = c.write_record.ensures.fits }) c.write_record.ensures.items

pub returns-clause-records : goal.returns-clause-records
returns-clause-records c =
    (grown c.self.inside.count c.self.inside.bytes.items c.write_record.new.bytes.items (record { kind = c.args.kind; entries = c.args.entries.now })
    c.self.invariant.laid (record { few = c.requires.few; entries = c.write_record.ensures.fits }) c.write_record.ensures.items).records
    ∙ ap (λ p. record { kind = c.args.kind; entries = c.args.entries.now } ∷ p.records) c.self.view_is

pub returns-clause-room : goal.returns-clause-room
returns-clause-room c =
    let was : vec_capacity c.self.inside.bytes - vec_len c.self.inside.bytes ≡ c.args.self.now.room = ap (λ p. p.room) c.self.view_is in
    let more : length c.write_record.new.bytes.items ≡ length c.self.inside.bytes.items + (6 * length c.args.entries.now + 3) =
    ap length c.write_record.ensures.items
    ∙ length-append c.self.inside.bytes.items (record_bytes (record { kind = c.args.kind; entries = c.args.entries.now }))
    ∙ ap (λ (m : ℕ). length c.self.inside.bytes.items + m) (length-record_bytes (record { kind = c.args.kind; entries = c.args.entries.now })) in
    omega (arith, was, more, c.self.inside.bytes.ok.0, c.write_record.new.bytes.ok.0, c.write_record.ensures.capacity)
