-- Equal bytes are the spelling of equal records: the newest record is read from the end of either,
-- and what stands before it is the spelling of the others.
use Rattle.std.proofs.Common.{◌≡◌, ◌<◌, ◌+◌, ◌*◌, ℕ, List, [], ◌∷◌, ◌++◌, length, take, sym, ap, arith, ◌∙◌, length-append, take_at, refl}
use Rattle.std.proofs.lemmas.List.Elements.{All-tail, All-head}
use Rattle.tsb_history.specs.History.{Change, FitsRecord}
use Rattle.tsb_history.specs.Bytes.{bytes_of, record_bytes, change_at, start_at}
use Rattle.tsb_history.specs.Laws.{IsUnambiguous}
use Rattle.tsb_history.proofs.ByteLemmas.{IsRead, record-read, length-record_bytes}

-- a record is spelled in some byte
spelled-more : (r : Change) (rs : List Change) → 0 < length (bytes_of (r ∷ rs))
spelled-more r rs =
    let joined : length (bytes_of rs ++ record_bytes r) ≡ length (bytes_of rs) + length (record_bytes r) = length-append (bytes_of rs) (record_bytes r) in
    let some : length (record_bytes r) ≡ 6 * length r.entries + 3 = length-record_bytes r in
    omega arith

pub unambiguous : IsUnambiguous
unambiguous [] [] fits others same = refl
unambiguous [] (q ∷ qs) fits others same =
    let some : 0 < length (bytes_of (q ∷ qs)) = spelled-more q qs in
    let none : 0 ≡ length (bytes_of (q ∷ qs)) = ap length same in
    absurd (omega arith)
unambiguous (r ∷ rs) [] fits others same =
    let some : 0 < length (bytes_of (r ∷ rs)) = spelled-more r rs in
    let none : length (bytes_of (r ∷ rs)) ≡ 0 = ap length same in
    absurd (omega arith)
unambiguous (r ∷ rs) (q ∷ qs) fits others same =
    let first : IsRead (bytes_of rs) r = record-read (bytes_of rs) r (All-head FitsRecord r rs fits) in
    let second : IsRead (bytes_of qs) q = record-read (bytes_of qs) q (All-head FitsRecord q qs others) in
    let newest : r ≡ q = sym first.change ∙ ap (λ (bs : List ℕ). change_at bs (length bs)) same ∙ second.change in
    let start : length (bytes_of rs) ≡ length (bytes_of qs) = sym first.start ∙ ap (λ (bs : List ℕ). start_at bs (length bs)) same ∙ second.start in
    let before : bytes_of rs ≡ bytes_of qs =
    sym (take_at (bytes_of rs) (record_bytes r) (length (bytes_of rs)) refl)
    ∙ ap (take (length (bytes_of rs))) same
    ∙ take_at (bytes_of qs) (record_bytes q) (length (bytes_of rs)) (sym start) in
    ap (λ (s : Change). s ∷ rs) newest
    ∙ ap (λ (ss : List Change). q ∷ ss) (unambiguous rs qs (All-tail FitsRecord r rs fits) (All-tail FitsRecord q qs others) before)
