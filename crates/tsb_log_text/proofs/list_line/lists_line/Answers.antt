use Rattle.std.proofs.Common.{◌≡◌, ◌∙◌, ◌∷◌, ◌++◌, ◌≤◌, [], ℕ, List, codes, length, subst, sym}
use Rattle.tsb_lines.specs.Digits.{seven_digits}
use Rattle.tsb_lines.proofs.ShortLemmas.{all-of, said, then}
use Rattle.tsb_types.specs.Sets.{has_detector, has_number, names}
use Rattle.tsb_log_text.specs.ListText.{kind_text, lists_line}
use Rattle.tsb_log_text.proofs.RoomLemmas.{kind-same, line-ends, line-short}
use Rattle.tsb_log_text.proofs.list_line.lists_line.Goals as goal

pub returns : goal.returns
unfolding lists_line
returns c =
    let tick : List ℕ = seven_digits c.args.row.tick in
    let v : List ℕ = kind_text (codes " V") 64 (has_detector c.args.row.row.vehicles) in
    let p : List ℕ = kind_text (codes " P") 16 (has_number c.args.row.row.pedestrians) in
    let e : List ℕ = kind_text (codes " E") 8 (has_number c.args.row.row.preempts) in
    let one = said (kind-same (codes " V") 64 (names c.list.result) (has_detector c.args.row.row.vehicles) c.list.ensures) c.push_kind.ensures in
    let buttons : (k : ℕ) → names c.from-pedestrians.result k ≡ has_number c.args.row.row.pedestrians k = λ k. rw c.from-pedestrians.ensures (c.list-2.ensures k) in
    let calls : (k : ℕ) → names c.from-preempts.result k ≡ has_number c.args.row.row.preempts k = λ k. rw c.from-preempts.ensures (c.list-3.ensures k) in
    let two = said (kind-same (codes " P") 16 (names c.from-pedestrians.result) (has_number c.args.row.row.pedestrians) buttons) c.push_kind-2.ensures in
    let three = said (kind-same (codes " E") 8 (names c.from-preempts.result) (has_number c.args.row.row.preempts) calls) c.push_kind-3.ensures in
    let first = said c.seven_digits.ensures c.push.ensures.line in
    let short : length (tick ++ (v ++ (p ++ (e ++ 10 ∷ [])))) ≤ 200 =
    subst (λ (ts : List ℕ). length ts ≤ 200) (sym (line-ends tick v p e (10 ∷ []))) (line-short c.args.row) in
    all-of c.new-line.ensures short ((then) first ((then) one ((then) two ((then) three c.push-2.ensures.line)))) ∙ line-ends tick v p e (10 ∷ [])
