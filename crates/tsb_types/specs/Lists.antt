-- Words on lists of phases and on what may be none.
use Rattle.std.specs.List.{list_any}
use Rattle.std.specs.Prelude.{ℕ, zero, suc, ◌+◌, ◌==◌, Bool, false, if◌then◌else◌, List, [], ◌∷◌, Option, Some, None, is_some, find}

-- the first of a list that passes a test
abbrev pub first : (ℕ → Bool) → List ℕ → Option ℕ
first test ps = find test ps

-- some of a list passes a test
abbrev pub some_passes : (ℕ → Bool) → List ℕ → Bool
some_passes test ps = is_some (first test ps)

-- p is one of a list
abbrev pub among : ℕ → List ℕ → Bool
among p ps = list_any (λ q. q == p) ps

-- there is a number, and it is p
abbrev pub is : ℕ → Option ℕ → Bool
is p None = false
is p (Some q) = q == p

-- the first, or where there is none the second
abbrev pub or_else : Option ℕ → Option ℕ → Option ℕ
or_else None o = o
or_else (Some p) o = Some p

-- the number, or where there is none the second
abbrev pub or_number : Option ℕ → ℕ → ℕ
or_number None n = n
or_number (Some m) n = m

-- n numbers from a on
unfoldable pub run_from : ℕ → ℕ → List ℕ
run_from a zero = []
run_from a (suc n) = a ∷ run_from (a + 1) n

-- what comes after the first p in a list; nothing where p is not in it
abbrev pub after : ℕ → List ℕ → List ℕ
after p [] = []
after p (q ∷ qs) = if q == p then qs else after p qs

-- what comes up to the first p in a list, p with it; the whole list where p is not in it
abbrev pub up_to : ℕ → List ℕ → List ℕ
up_to p [] = []
up_to p (q ∷ qs) = q ∷ (if q == p then [] else up_to p qs)

-- what comes later in a list than the last phase; the whole list where there is no last phase
abbrev pub later : Option ℕ → List ℕ → List ℕ
later None ps = ps
later (Some p) ps = after p ps

-- what comes up to the last phase, with it; nothing where there is none. It is searched after what is later, so that a
-- ring goes through its sequence in a circle
abbrev pub not_later : Option ℕ → List ℕ → List ℕ
not_later None ps = []
not_later (Some p) ps = up_to p ps
