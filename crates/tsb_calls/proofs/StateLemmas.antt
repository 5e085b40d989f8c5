-- The table of memories in range is read as they are, and rows say memories in range.
use Rattle.std.proofs.Common.{zero, suc, ◌≡◌, ℕ, ◌+◌, ◌<◌, ◌≤◌, false, List, [], ◌∷◌, slice_index, map, refl, sym, ◌∙◌, subst, arith, inl, inr}
use Rattle.std.proofs.Math.Path.{fun_ext}
use Rattle.std.proofs.lemmas.Bool.{cases_Bool}
use Rattle.std.proofs.lemmas.Bool.Decides.{nat_tests}
use Rattle.tsb_objects.specs.tsb_types.Lists.{run_from}
use Rattle.tsb_objects.specs.tsb_types.Sets.{names, list_of, list_in, is_phase}
use Rattle.tsb_objects.proofs.tsb_types.SetLemmas.{list_of-below, names-above}
use Rattle.tsb_objects.proofs.tsb_types.ClipLemmas.{among_16, is_phase_from}
use Rattle.tsb_cells.proofs.TableLemmas.{front-read, column-read, length-column, list-read}
use Rattle.tsb_calls.specs.Memories.{Memories}
use Rattle.tsb_calls.specs.Cells.{memories_in, memories_cells, IsBy}
use Rattle.tsb_calls.specs.Laws.{AreOff, AreInRange, AreRead}
use Rattle.tsb_calls.specs.Looks.{AreAlike}

-- ## Two memories

-- two that are alike, and off elsewhere, are one
pub whole-same : (m n : Memories) → AreAlike m n → AreOff m → AreOff n → m ≡ n
whole-same m n same off also = parts (fun_ext (λ p. vehicle p)) (fun_ext (λ p. pedestrian p)) (fun_ext (λ p. count p))
  where
    parts : m.vehicle ≡ n.vehicle → m.pedestrian ≡ n.pedestrian → m.count ≡ n.count → m ≡ n
    parts a b c = λ i. record { vehicle = a i; pedestrian = b i; count = c i }

    vehicle : (p : ℕ) → m.vehicle p ≡ n.vehicle p
    vehicle p = elim (cases_Bool (is_phase p)) [
      | inl on ↦ same.vehicle p (among_16 p on).from (among_16 p on).to
      | inr out ↦ off.vehicle p out ∙ sym (also.vehicle p out)
    ]

    pedestrian : (p : ℕ) → m.pedestrian p ≡ n.pedestrian p
    pedestrian p = elim (cases_Bool (is_phase p)) [
      | inl on ↦ same.pedestrian p (among_16 p on).from (among_16 p on).to
      | inr out ↦ off.pedestrian p out ∙ sym (also.pedestrian p out)
    ]

    count : (p : ℕ) → m.count p ≡ n.count p
    count p = elim (cases_Bool (is_phase p)) [
      | inl on ↦ same.count p (among_16 p on).from (among_16 p on).to
      | inr out ↦ off.count p out ∙ sym (also.count p out)
    ]

-- ## Rows

names-outside : (list p : ℕ) → list < 65536 → is_phase p ≡ false → names list p ≡ false
names-outside list zero below out = refl
names-outside list (suc k) below out = names-above 16 (suc k) list below (grind (arith, nat_tests, out))

-- what a row says of what is no phase
pub off-read : (row : List ℕ) → AreOff (memories_in row)
off-read row = record {
  vehicle = λ p out. names-outside (list_in row 0) p (omega arith) out;
  pedestrian = λ p out. names-outside (list_in row 1) p (omega arith) out;
  count = λ p out. rw out refl;
}

pub in-range : (row : List ℕ) → IsBy row → AreInRange (memories_in row)
in-range row by = record {
  counts = λ p from to. rw (is_phase_from p from to) (by.counts p from to);
  others = off-read row;
}

-- ## The table

module _ (m : Memories) (ranged : AreInRange m) where
  abbrev lists : List ℕ
  lists = list_of 16 m.vehicle ∷ list_of 16 m.pedestrian ∷ []

  list-at : (k : ℕ) → k < 2 → slice_index (memories_cells m) k ≡ slice_index lists k
  list-at k below = front-read lists (map m.count (run_from 1 16)) k below

  count-at : (p : ℕ) → 1 ≤ p → p ≤ 16 → slice_index (memories_cells m) (1 + p) ≡ m.count p
  count-at p from to = column-read 16 2 lists m.count p refl (omega arith) from to

  read-alike : AreAlike (memories_in (memories_cells m)) m
  read-alike = record {
    vehicle = λ p from to. list-read (memories_cells m) 0 m.vehicle p (list-at 0 (omega arith)) from to;
    pedestrian = λ p from to. list-read (memories_cells m) 1 m.pedestrian p (list-at 1 (omega arith)) from to;
    count = λ p from to. rw (is_phase_from p from to) (count-at p from to);
  }

  pub calls-read : AreRead m
  calls-read = record {
    same = whole-same (memories_in (memories_cells m)) m read-alike (off-read (memories_cells m)) ranged.others;
    by = record {
      full = length-column 16 lists m.count;
      vehicle = subst (λ (n : ℕ). n < 65536) (sym (list-at 0 (omega arith))) (list_of-below 16 m.vehicle);
      pedestrian = subst (λ (n : ℕ). n < 65536) (sym (list-at 1 (omega arith))) (list_of-below 16 m.pedestrian);
      counts = λ p from to. subst (λ (n : ℕ). n ≤ 255) (sym (count-at p from to)) (ranged.counts p from to);
    };
  }
