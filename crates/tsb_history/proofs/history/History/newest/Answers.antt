use Rattle.std.proofs.Common.{◌≡◌, ◌∙◌, ℕ, List, [], ap, ap₂, sym, rules, length, Some}
use Rattle.tsb_history.specs.Bytes.{change_at, changes_at, start_at, IsRecordAt}
use Rattle.tsb_history.specs.History.{Change, newest_at}
use Rattle.tsb_history.proofs.PlaceLemmas.{newest_at-some}
use Rattle.tsb_history.proofs.QuietLemmas.{first-whole}
use Rattle.tsb_history.proofs.history.History.newest.Goals as goal

-- a history that has records counts some
some : (records : List Change) (count : ℕ) (bytes : List ℕ) → changes_at count bytes (length bytes) ≡ records → (records ≡ [] → ⊥) → count ≡ 0 → ⊥
some records count bytes is there e = there (sym is ∙ ap (λ (n : ℕ). changes_at n bytes (length bytes)) e)

pub read_record-requires-clause-whole : goal.read_record-requires-clause-whole
read_record-requires-clause-whole c =
    let at : IsRecordAt c.self.inside.bytes.items (length c.self.inside.bytes.items) =
    first-whole c.self.inside.count c.self.inside.bytes.items (length c.self.inside.bytes.items) (some c.args.self.now.records c.self.inside.count c.self.inside.bytes.items (ap (λ h. h.records) c.self.view_is) c.requires) c.self.invariant.laid in
    search rules

pub returns-clause-newest : goal.returns-clause-newest
returns-clause-newest c =
    let change : c.read_record.result.0 ≡ change_at c.self.inside.bytes.items (length c.self.inside.bytes.items) = search rules in
    let start : c.read_record.result.1 ≡ start_at c.self.inside.bytes.items (length c.self.inside.bytes.items) = search rules in
    sym (ap (λ p. newest_at p.records) c.self.view_is)
    ∙ newest_at-some c.self.inside.count c.self.inside.bytes.items (length c.self.inside.bytes.items) (some c.args.self.now.records c.self.inside.count c.self.inside.bytes.items (ap (λ h. h.records) c.self.view_is) c.requires) c.self.invariant.laid
    ∙ sym (ap₂ (λ (r : Change) (m : ℕ). Some (r, m)) change start)
