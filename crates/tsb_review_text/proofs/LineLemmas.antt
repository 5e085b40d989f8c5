-- The line of a finding or of a breach, and how long it is.
use Rattle.std.proofs.Common.{◌≡◌, ◌∙◌, ℕ, zero, suc, ◌+◌, ◌*◌, ◌/◌, ◌%◌, ◌<◌, ◌≤◌, ◌==◌, nat_le, Bool, false, true, ◌&&◌, if◌then◌else◌, List, [], ◌∷◌, ◌++◌, append_assoc, length, length-append, drop, drop-cons, get_or, sum_by, flat_map, decimal, codes, Option, refl, sym, ap, subst, arith, rules}
use Rattle.std.proofs.lemmas.Bool.Decides.{nat_tests}
use Rattle.std.proofs.lemmas.Fmt.{length-decimal-le}
use Rattle.std.proofs.lemmas.List.Sums.{sum_by-cons}
use Rattle.tsb_review.specs.declared.advice.Advice.{Advice}
use Rattle.tsb_types.specs.Lists.{run_from}
use Rattle.tsb_plan.specs.declared.object.Object.{Object}
use Rattle.tsb_plan.specs.declared.object.ObjectId.{ObjectId}
use Rattle.tsb_plan.specs.Names.{name_of}
use Rattle.tsb_plan.specs.Plan.{Plan}
use Rattle.tsb_review.specs.declared.finding.Finding.{Finding}
use Rattle.tsb_review.specs.declared.numbers.Numbers.{Numbers}
use Rattle.tsb_review.specs.Alike.{is_also_in}
use Rattle.tsb_review.specs.Findings.{ends_walk_for_track, crosses_walk, unused_value}
use Rattle.tsb_breaches.specs.declared.fault.RuleFault.{RuleFault}
use Rattle.tsb_review_text.specs.declared.line.TheConstants.{LONGEST}
use Rattle.tsb_lines.specs.ShortLines.{Adds, fitting}
use Rattle.tsb_review_text.specs.Bytes.{ended}
use Rattle.tsb_review_text.specs.Lines.{also, filled, fraction, id_name, part, seconds, table_name, value_name}
use Rattle.tsb_review_text.specs.BreachTemplates.{breach_template}
use Rattle.tsb_review_text.specs.Templates.{template, wording}
use Rattle.tsb_lines.proofs.ShortLemmas.{all-of, onto-fitting, said, then}

-- one more of a list is written, of those that are left
pub part-on : (written : ℕ → List ℕ) (end xs : List ℕ) (k : ℕ) (line new all : List ℕ) → k < length xs → Adds LONGEST line (written (get_or xs k 0)) new →
    fitting LONGEST (line ++ ended written end (drop k xs)) ≡ all → fitting LONGEST (new ++ ended written end (drop (k + 1) xs)) ≡ all
part-on written end xs k line new all below added so =
    let rest : List ℕ = ended written end (drop (k + 1) xs) in
    let next : suc k ≡ k + 1 = omega arith in
    ap (λ (ts : List ℕ). fitting LONGEST (ts ++ rest)) added.line
    ∙ onto-fitting LONGEST (line ++ written (get_or xs k 0)) rest
    ∙ ap (fitting LONGEST) (append_assoc line (written (get_or xs k 0)) rest)
    ∙ ap (λ (m : ℕ). fitting LONGEST (line ++ ended written end (get_or xs k 0 ∷ drop m xs))) (sym next)
    ∙ ap (λ (bs : List ℕ). fitting LONGEST (line ++ ended written end bs)) (sym (drop-cons xs k 0 below))
    ∙ so

-- all of a list is written, and what ends it
ended-all : (written : ℕ → List ℕ) (end xs : List ℕ) → ended written end xs ≡ flat_map written xs ++ end
ended-all written end [] = refl
ended-all written end (x ∷ xs) =
    ap (λ (ts : List ℕ). written x ++ ts) (ended-all written end xs) ∙ sym (append_assoc (written x) (flat_map written xs) end)

-- ## How long it is

-- numbers that a program can have
pub record AreSmall (n : Numbers) : Type 0 where
  pub a : n.a < 4294967296
  pub b : n.b < 4294967296
  pub c : n.c < 4294967296
  pub d : n.d < 4294967296
  pub e : n.e < 4294967296

-- the most bytes that a byte of a text stands for
cost : ℕ → ℕ
cost byte = if nat_le 80 byte && nat_le byte 90 then 12 else 1

some_cost : (b : Bool) → 1 ≤ (if b then 12 else 1)
some_cost true = omega arith
some_cost false = omega arith

short-decimal : (n : ℕ) → n < 4294967296 → length (decimal n) ≤ 10
short-decimal n small = length-decimal-le 10 n (omega arith) (omega (arith, small)) (omega (arith, small))

short-fraction : (n : ℕ) → n < 10 → length (fraction n) ≤ 2
short-fraction n small = go (n == 0)
  where
    go : (b : Bool) → length (if b then [] else 46 ∷ decimal n) ≤ 2
    go true = omega arith
    go false = let digits : length (decimal n) ≤ 1 = length-decimal-le 1 n (omega arith) (omega (arith, small)) (omega (arith, small)) in omega (arith, digits)

short-seconds : (n : ℕ) → n < 4294967296 → length (seconds n) ≤ 12
short-seconds n small =
    let whole : length (decimal (n / 10)) ≤ 10 = short-decimal (n / 10) (omega (arith, small)) in
    let tenths : length (fraction (n % 10)) ≤ 2 = short-fraction (n % 10) (omega arith) in
    omega (arith, whole, tenths, length-append (decimal (n / 10)) (fraction (n % 10)))

-- one of two texts, each short where it is taken
pick : (b : Bool) (x y : List ℕ) (m : ℕ) → (b ≡ true → length x ≤ m) → (b ≡ false → length y ≤ m) → length (if b then x else y) ≤ m
pick true x y m one other = one refl
pick false x y m one other = other refl

-- what a letter stands for
at-letter : (byte k : ℕ) (xs : List ℕ) → cost k ≡ 12 → length xs ≤ 12 → (byte == k) ≡ true → length xs ≤ cost byte
at-letter byte k xs costs short is =
    let same : byte ≡ k = grind (arith, nat_tests, is) in
    let most : cost byte ≡ 12 = ap cost same ∙ costs in
    omega (arith, short, most)

short-part : (n : Numbers) → AreSmall n → (byte : ℕ) → length (part n byte) ≤ cost byte
unfolding cost
short-part n small byte =
    let plain : (m : ℕ) → m < 4294967296 → length (decimal m) ≤ 12 = λ m less. (let e : length (decimal m) ≤ 10 = short-decimal m less in omega (arith, e)) in
    pick (byte == 80) _ _ _ (at-letter byte 80 _ refl (plain n.a small.a)) (λ e.
    pick (byte == 81) _ _ _ (at-letter byte 81 _ refl (plain n.b small.b)) (λ e.
    pick (byte == 82) _ _ _ (at-letter byte 82 _ refl (plain n.c small.c)) (λ e.
    pick (byte == 83) _ _ _ (at-letter byte 83 _ refl (plain n.d small.d)) (λ e.
    pick (byte == 84) _ _ _ (at-letter byte 84 _ refl (plain n.e small.e)) (λ e.
    pick (byte == 85) _ _ _ (at-letter byte 85 _ refl (short-seconds n.e small.e)) (λ e.
    pick (byte == 87) _ _ _ (at-letter byte 87 _ refl (short-seconds n.a small.a)) (λ e.
    pick (byte == 88) _ _ _ (at-letter byte 88 _ refl (short-seconds n.b small.b)) (λ e.
    pick (byte == 89) _ _ _ (at-letter byte 89 _ refl (short-seconds n.c small.c)) (λ e.
    pick (byte == 90) _ _ _ (at-letter byte 90 _ refl (short-seconds n.d small.d)) (λ e.
    some_cost (nat_le 80 byte && nat_le byte 90)))))))))))

short-filled : (n : Numbers) → AreSmall n → (text : List ℕ) → length (flat_map (part n) text) ≤ sum_by cost text
short-filled n small [] = omega arith
short-filled n small (b ∷ bs) =
    let here : length (part n b) ≤ cost b = short-part n small b in
    let rest : length (flat_map (part n) bs) ≤ sum_by cost bs = short-filled n small bs in
    omega (arith, here, rest, length-append (part n b) (flat_map (part n) bs), sum_by-cons cost b bs)

-- a later pattern has a comma, a space and two digits
short-also : (plan : Plan) (f : Finding) (m : ℕ) → m < 100 → length (also plan f m) ≤ 4
short-also plan f m small =
    let digits : length (decimal m) ≤ 2 = length-decimal-le 2 m (omega arith) (omega (arith, small)) (omega (arith, small)) in
    pick (is_also_in plan f m) (44 ∷ 32 ∷ decimal m) [] 4 (λ e. omega (arith, digits)) (λ e. omega arith)

short-patterns : (plan : Plan) (f : Finding) (a k : ℕ) → a + k < 100 → length (flat_map (also plan f) (run_from a k)) ≤ 4 * k
unfolding run_from
short-patterns plan f a zero small = omega arith
short-patterns plan f a (suc k) small =
    let here : length (also plan f a) ≤ 4 = short-also plan f a (omega (arith, small)) in
    let rest : length (flat_map (also plan f) (run_from (a + 1) k)) ≤ 4 * k = short-patterns plan f (a + 1) k (omega (arith, small)) in
    omega (arith, here, rest, length-append (also plan f a) (flat_map (also plan f) (run_from (a + 1) k)))

-- the name of a value has a space, at most 28 letters, a point and ten digits
pub short-name : (o : Object) (i : ℕ) → length (decimal i) ≤ 10 → length (32 ∷ (name_of o ++ 46 ∷ decimal i)) ≤ 41
short-name o i digits =
    let letters : length (name_of o) ≤ 28 = search rules in
    omega (arith, letters, digits, length-append (name_of o) (46 ∷ decimal i))

-- and that of a split its table
pub short-table : (table : ℕ) → length (decimal table) ≤ 10 → length (codes " of split table " ++ decimal table) ≤ 26
short-table table digits = omega (arith, digits, length-append (codes " of split table ") (decimal table))

pub short-value : (id : ObjectId) → length (id_name id) ≤ 41 → length (table_name id) ≤ 26 → length (id_name id ++ table_name id) ≤ 67
short-value id name table = omega (arith, name, table, length-append (id_name id) (table_name id))

-- each text has room, and that of an advice for the name of a value, later patterns and a line feed too
template-room : (x : Advice) → sum_by cost (template x) + 132 ≤ LONGEST
unfolding cost
template-room x = search rules

wording-room : (plan : Plan) (f : Finding) → sum_by cost (wording plan f) + 132 ≤ LONGEST
unfolding cost
wording-room plan f = go (ends_walk_for_track plan f) (crosses_walk plan f)
  where
    go : (b c : Bool) → sum_by cost (if b then codes "A36 preempt P: it can end a walk of phase Q at once, as is allowed where a track has to be cleared" else
        if c then codes "A56 overlap P: if phases stand as usual, it turns right beside phase Q over its crossing, and is green with its walk" else template f.advice) + 132 ≤ LONGEST
    go true c = search rules
    go false true = search rules
    go false false = template-room f.advice

breach-room : (f : RuleFault) → sum_by cost (breach_template f) + 1 ≤ LONGEST
unfolding cost
breach-room f = search rules

-- the line of a finding
pub line-done : (n : Numbers) (plan : Plan) (f : Finding) (id : Option ObjectId) (items mid named text empty ms : List ℕ) → AreSmall n → empty ≡ [] → text ≡ wording plan f
    → id ≡ unused_value plan f → length (value_name id) ≤ 67 → ms ≡ run_from 1 16
    → Adds LONGEST empty (ended (part n) [] text) mid → Adds LONGEST mid (value_name id) named → Adds LONGEST named (ended (also plan f) (10 ∷ []) ms) items →
    items ≡ filled n (wording plan f) ++ (value_name (unused_value plan f) ++ (flat_map (also plan f) (run_from 1 16) ++ 10 ∷ []))
unfolding filled
line-done n plan f id items mid named text empty ms small none is value called all first second third =
    let front : List ℕ = flat_map (part n) (wording plan f) in
    let patterns : List ℕ = flat_map (also plan f) (run_from 1 16) in
    let starts : ended (part n) [] text ≡ front ++ [] = ap (ended (part n) []) is ∙ ended-all (part n) [] (wording plan f) in
    let ends : ended (also plan f) (10 ∷ []) ms ≡ patterns ++ 10 ∷ [] = ap (ended (also plan f) (10 ∷ [])) all ∙ ended-all (also plan f) (10 ∷ []) (run_from 1 16) in
    let name : List ℕ = value_name (unused_value plan f) in
    let rest : Adds LONGEST mid (name ++ (patterns ++ 10 ∷ [])) items = (then) (said (ap value_name value) second) (said ends third) in
    let both : Adds LONGEST empty ((front ++ []) ++ (name ++ (patterns ++ 10 ∷ []))) items = (then) (said starts first) rest in
    let same : (front ++ []) ++ (name ++ (patterns ++ 10 ∷ [])) ≡ front ++ (name ++ (patterns ++ 10 ∷ [])) = append_assoc front [] (name ++ (patterns ++ 10 ∷ [])) in
    let few : length front ≤ sum_by cost (wording plan f) = short-filled n small (wording plan f) in
    let here : length name ≤ 67 = subst (λ (o : Option ObjectId). length (value_name o) ≤ 67) value called in
    let others : length patterns ≤ 64 = short-patterns plan f 1 16 (omega arith) in
    let room : sum_by cost (wording plan f) + 132 ≤ LONGEST = wording-room plan f in
    all-of none (omega (arith, few, here, others, room, length-append front (name ++ (patterns ++ 10 ∷ [])), length-append name (patterns ++ 10 ∷ []), length-append patterns (10 ∷ []))) (said same both)

-- the line of a breach
pub breach-line-done : (n : Numbers) (f : RuleFault) (items text empty : List ℕ) → AreSmall n → empty ≡ [] → text ≡ breach_template f →
    Adds LONGEST empty (ended (part n) (10 ∷ []) text) items → items ≡ filled n (breach_template f) ++ 10 ∷ []
unfolding filled
breach-line-done n f items text empty small none is added =
    let front : List ℕ = flat_map (part n) (breach_template f) in
    let whole : ended (part n) (10 ∷ []) text ≡ front ++ 10 ∷ [] = ap (ended (part n) (10 ∷ [])) is ∙ ended-all (part n) (10 ∷ []) (breach_template f) in
    let few : length front ≤ sum_by cost (breach_template f) = short-filled n small (breach_template f) in
    let room : sum_by cost (breach_template f) + 1 ≤ LONGEST = breach-room f in
    all-of none (omega (arith, few, room, length-append front (10 ∷ []))) (said whole added)
