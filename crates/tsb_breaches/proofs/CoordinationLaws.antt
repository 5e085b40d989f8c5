-- Rule K20 is met exactly where none of the ways to break it is anywhere, where K17 is met.
use Rattle.std.proofs.Common.{◌≡◌, ◌∙◌, ℕ, zero, suc, ◌+◌, ◌<◌, ◌≤◌, ◌==◌, nat_lt, Bool, true, false, not, ◌&&◌, ◌||◌, if◌then◌else◌, Option, Some, None, refl, sym, ap, arith, inl, inr}
use Rattle.std.proofs.Math.Bool.{not-not}
use Rattle.std.specs.List.{list_all, list_any}
use Rattle.std.proofs.lemmas.Bool.{and_from, and_parts, cases_eq, cases_order, eq-eqb, eqb-true, lt-ltb, or_left, or_right}
use Rattle.std.proofs.lemmas.Bool.Decides.{same_from_decides}
use Rattle.tsb_plan.specs.declared.object.Object.{Object}
use Rattle.tsb_plan.specs.Parts.{is_used, leads_and_lags, split_of, sequence_of, is_omitted, is_coordinated}
use Rattle.tsb_plan.specs.Plan.{Plan, is_enabled, is_concurrent, side_of}
use Rattle.tsb_rules.specs.PatternRules.{agrees_with_all, all_coordinate, coordinated_agree, coordinated_count, coordinated_phases_agree, coordinates, ends_with, has_coordinated, has_one_in_each_ring, has_phases, may_coordinate, patterns_are_whole, some_and, split_end}
use Rattle.tsb_rules.proofs.RuleLemmas.{Passes, at-run_from, some-run_from, under}
use Rattle.tsb_types.proofs.RunLemmas.{all-run_from}
use Rattle.tsb_types.specs.Lists.{run_from}
use Rattle.tsb_breaches.specs.declared.fault.RuleFault.TheVariants.{K20None, K20Unused, K20Omitted, K20Sides, K20Apart, K20Ends, K20Ring}
use Rattle.tsb_breaches.specs.Laws.{of_values}
use Rattle.tsb_breaches.specs.Lists.{go_together}
use Rattle.tsb_breaches.specs.Patterns.{are_across, are_apart, are_coordinated, are_together, coordinates_none, coordinates_omitted, coordinates_unused, coordinates_used, end_apart, has_wrong_count, is_beside}
use Rattle.tsb_breaches.proofs.AllLemmas.{and-both, both-are}
use Rattle.tsb_breaches.proofs.NoneLemmas.{none_at, none_up_to, none-pattern, none-pattern_phase, none-pattern_phases, none-pattern_ring}
use Rattle.tsb_breaches.proofs.PatternLaws.{IsNamed, names-listing, names-table}
use Rattle.tsb_breaches.proofs.PreemptLaws.{apart-down, apart-up, at-16, follows, for-16, imply, other-than, refuse, refuse-unless, refused}
use Rattle.tsb_breaches.proofs.SequenceLaws.{same-run}

-- one of a run of phases is a coordinated phase of the ring
some-beside : (plan : Plan) (t r a n k : ℕ) → a ≤ k → k < a + n → is_beside plan t r k ≡ true → list_any (is_beside plan t r) (run_from a n) ≡ true
unfolding run_from
some-beside plan t r a zero k from below is = absurd (omega arith)
some-beside plan t r a (suc n) k from below is =
    elim (cases_eq a k) [
      | inl same ↦ or_left (is_beside plan t r a) _ (ap (is_beside plan t r) same ∙ is)
      | inr apart ↦ or_right (is_beside plan t r a) _ (some-beside plan t r (a + 1) n k (omega arith) (omega arith) is)
    ]

-- two conditions and what they ask for
second : (a b c : Bool) → not (a && (b && not c)) ≡ true → a ≡ true → b ≡ true → c ≡ true
second true true c bar x y = follows true c bar refl
second true false c bar x y = cc
second false b c bar x y = cc

refuse-second : (a b c : Bool) → (a ≡ true → b ≡ true → c ≡ true) → not (a && (b && not c)) ≡ true
refuse-second true true c f = refuse-unless true c (λ x. f refl refl)
refuse-second true false c f = refl
refuse-second false b c f = refl

not-both : (a b : Bool) → not (a && b) ≡ true → a ≡ true → not b ≡ true
not-both true b bar x = bar
not-both false b bar x = cc

-- the ends of two splits, where l says that they may end apart
same-end : (l a c : Bool) → not (not l && (a && not c)) ≡ true → a ≡ true → (l || c) ≡ true
same-end true a c bar is = refl
same-end false a c bar is = follows a c bar is

refuse-end : (l a c : Bool) → (a ≡ true → (l || c) ≡ true) → not (not l && (a && not c)) ≡ true
refuse-end true a c f = refl
refuse-end false a c f = refuse-unless a c f

turned : (l : Bool) (a b : ℕ) → (l || a == b) ≡ true → (l || b == a) ≡ true
turned true a b e = refl
turned false a b e = eq-eqb b a (sym (eqb-true a b e))

-- ## The ways to break it, at a split table t and a sequence s, of splits that may end apart or not

abbrev unused : Plan → ℕ → Bool
unused plan t = none_up_to 16 (coordinates_unused plan t)

abbrev omitted : Plan → ℕ → Bool
omitted plan t = none_up_to 16 (coordinates_omitted plan t)

abbrev across : Plan → ℕ → Bool
across plan t = list_all (λ p. none_up_to 16 (are_across plan t p)) (run_from 1 16)

abbrev apart : Plan → ℕ → Bool
apart plan t = list_all (λ p. none_up_to 16 (are_apart plan t p)) (run_from 1 16)

abbrev ending : Plan → Bool → ℕ → ℕ → Bool
ending plan l s t = list_all (λ p. none_up_to 16 (λ q. end_apart plan l t p q s)) (run_from 1 16)

abbrev counted : Plan → ℕ → Bool
counted plan t = none_up_to 2 (has_wrong_count plan t)

abbrev all_well : Plan → Bool → ℕ → ℕ → Bool
all_well plan l s t =
    not (coordinates_none plan t) && (unused plan t && (omitted plan t && (across plan t && (apart plan t && (ending plan l s t && counted plan t)))))

-- what is not so of a split table
record Well (plan : Plan) (l : Bool) (s t : ℕ) : Type 0 where
  pub some : has_coordinated plan t ≡ true
  pub unused : unused plan t ≡ true
  pub omitted : omitted plan t ≡ true
  pub across : across plan t ≡ true
  pub apart : apart plan t ≡ true
  pub ending : ending plan l s t ≡ true
  pub counted : counted plan t ≡ true

well : (plan : Plan) (l : Bool) (s t : ℕ) → all_well plan l s t ≡ true → Well plan l s t
well plan l s t e =
    let a = and_parts (not (coordinates_none plan t)) _ e in
    let b = and_parts (unused plan t) _ a.1 in
    let c = and_parts (omitted plan t) _ b.1 in
    let d = and_parts (across plan t) _ c.1 in
    let f = and_parts (apart plan t) _ d.1 in
    let g = and_parts (ending plan l s t) (counted plan t) f.1 in
    record { some = sym (not-not (has_coordinated plan t)) ∙ a.0; unused = b.0; omitted = c.0; across = d.0; apart = f.0; ending = g.0; counted = g.1 }

-- two coordinated phases agree
record Agree (plan : Plan) (l : Bool) (s t p q : ℕ) : Type 0 where
  pub sides : side_of plan p ≡ side_of plan q
  pub together : go_together plan p q ≡ true
  pub ends : (l || split_end plan s t p == split_end plan s t q) ≡ true

-- a coordinated phase, by its number
record IsMarked (v : Object → ℕ → ℕ) (t p : ℕ) : Type 0 where
  pub from : 1 ≤ p
  pub to : p < 17
  pub is : is_coordinated (of_values v) t p ≡ true

marked-on : (v : Object → ℕ → ℕ) (l : Bool) (s t p : ℕ) → Well (of_values v) l s t → IsMarked v t p → is_enabled (of_values v) p ≡ true
marked-on v l s t p met one =
    follows (is_coordinated (of_values v) t p) (is_enabled (of_values v) p) (at-16 (λ x. not (coordinates_unused (of_values v) t x)) met.unused p one.from one.to) one.is

agree-up : (v : Object → ℕ → ℕ) (l : Bool) (s t p q : ℕ) → Well (of_values v) l s t → IsMarked v t p → IsMarked v t q → nat_lt p q ≡ true → Agree (of_values v) l s t p q
agree-up v l s t p q met one other below =
    let plan : Plan = of_values v in
    let used : (x : ℕ) → IsMarked v t x → coordinates_used plan t x ≡ true = λ x is. and_from (is_coordinated plan t x) _ is.is (marked-on v l s t x met is) in
    let two : are_coordinated plan t p q ≡ true = and_from (nat_lt p q) _ below (and_from (coordinates_used plan t p) _ (used p one) (used q other)) in
    let sides : (side_of plan p == side_of plan q) ≡ true =
    follows (are_coordinated plan t p q) _ (at-16 (λ y. not (are_across plan t p y)) (at-16 (λ x. none_up_to 16 (are_across plan t x)) met.across p one.from one.to) q other.from other.to) two in
    let together : go_together plan p q ≡ true =
    second (are_coordinated plan t p q) (side_of plan p == side_of plan q) _
    (at-16 (λ y. not (are_apart plan t p y)) (at-16 (λ x. none_up_to 16 (are_apart plan t x)) met.apart p one.from one.to) q other.from other.to) two sides in
    let ends : (l || split_end plan s t p == split_end plan s t q) ≡ true =
    same-end l (are_together plan t p q) (split_end plan s t p == split_end plan s t q)
    (at-16 (λ y. not (end_apart plan l t p y s)) (at-16 (λ x. none_up_to 16 (λ y. end_apart plan l t x y s)) met.ending p one.from one.to) q other.from other.to)
    (and_from (are_coordinated plan t p q) _ two (and_from (side_of plan p == side_of plan q) _ sides together)) in
    record { sides = eqb-true _ _ sides; together = together; ends = ends }

ends-with : (v : Object → ℕ → ℕ) (l : Bool) (s t p q : ℕ) → Well (of_values v) l s t → IsMarked v t p → IsMarked v t q → ends_with (of_values v) l s t p q ≡ true
ends-with v l s t p q met one other =
    let plan : Plan = of_values v in
    elim (cases_order p q) [
      | inl same ↦ and_from (side_of plan p == side_of plan q) _ (eq-eqb _ _ (ap (side_of plan) same))
          (and_from (p == q || is_concurrent plan p q) _ (or_left (p == q) _ (eq-eqb p q same)) (or_right l _ (eq-eqb _ _ (ap (split_end plan s t) same))))
      | inr (inl below) ↦ (let so : Agree plan l s t p q = agree-up v l s t p q met one other (lt-ltb p q below) in
          and_from (side_of plan p == side_of plan q) _ (eq-eqb _ _ so.sides)
          (and_from (p == q || is_concurrent plan p q) _ (or_right (p == q) _ (and_parts (is_concurrent plan p q) _ so.together).0) so.ends))
      | inr (inr above) ↦ (let so : Agree plan l s t q p = agree-up v l s t q p met other one (lt-ltb q p above) in
          and_from (side_of plan p == side_of plan q) _ (eq-eqb _ _ (sym so.sides))
          (and_from (p == q || is_concurrent plan p q) _ (or_right (p == q) _ (and_parts (is_concurrent plan q p) _ so.together).1) (turned l (split_end plan s t q) (split_end plan s t p) so.ends)))
    ]

table-there : (v : Object → ℕ → ℕ) (l : Bool) (s t : ℕ) → all_well (of_values v) l s t ≡ true → coordinated_agree (of_values v) l s t ≡ true
table-there v l s t e =
    let plan : Plan = of_values v in
    let met : Well plan l s t = well plan l s t e in
    and_from (has_coordinated plan t) _ met.some
    (for-16 (λ p. not (is_coordinated plan t p) || coordinates plan l s t p) (λ p from to. imply (is_coordinated plan t p) _ (λ is.
    let one : IsMarked v t p = record { from = from; to = to; is = is } in
    and_from (may_coordinate plan t p) _
    (and_from (is_enabled plan p) _ (marked-on v l s t p met one)
    (not-both (is_coordinated plan t p) (is_omitted plan t p) (at-16 (λ x. not (coordinates_omitted plan t x)) met.omitted p from to) is))
    (and_from (agrees_with_all plan l s t p) _
    (for-16 (λ q. not (is_coordinated plan t q) || ends_with plan l s t p q) (λ q qf qt. imply (is_coordinated plan t q) _ (λ also.
    ends-with v l s t p q met one (record { from = qf; to = qt; is = also }))))
    (all-run_from (λ r. not (has_phases plan r (side_of plan p)) || coordinated_count plan t r == 1) 1 2 (λ r rf rt. imply (has_phases plan r (side_of plan p)) _ (λ has.
    follows (list_any (is_beside plan t r) (run_from 1 16)) (coordinated_count plan t r == 1) (at-run_from (λ x. not (has_wrong_count plan t x)) 1 2 r met.counted rf rt)
    (some-beside plan t r 1 16 p from to (and_from (is_coordinated plan t p) _ is has)))))))))

-- what is so of a coordinated phase
record Coordinates (plan : Plan) (l : Bool) (s t p : ℕ) : Type 0 where
  pub on : is_enabled plan p ≡ true
  pub kept : not (is_omitted plan t p) ≡ true
  pub agrees : agrees_with_all plan l s t p ≡ true
  pub one : has_one_in_each_ring plan t p ≡ true

coordinating : (v : Object → ℕ → ℕ) (l : Bool) (s t p : ℕ) → all_coordinate (of_values v) l s t ≡ true → IsMarked v t p → Coordinates (of_values v) l s t p
coordinating v l s t p all is =
    let plan : Plan = of_values v in
    let it : coordinates plan l s t p ≡ true = under (is_coordinated plan t p) _ (at-16 (λ x. not (is_coordinated plan t x) || coordinates plan l s t x) all p is.from is.to) is.is in
    let a = and_parts (may_coordinate plan t p) _ it in
    let b = and_parts (is_enabled plan p) _ a.0 in
    let c = and_parts (agrees_with_all plan l s t p) _ a.1 in
    record { on = b.0; kept = b.1; agrees = c.0; one = c.1 }

-- two coordinated phases, the lower number first
record ArePaired (v : Object → ℕ → ℕ) (t p q : ℕ) : Type 0 where
  pub below : nat_lt p q ≡ true
  pub one : IsMarked v t p
  pub other : IsMarked v t q

paired : (v : Object → ℕ → ℕ) (t p q : ℕ) → 1 ≤ p → p < 17 → 1 ≤ q → q < 17 → are_coordinated (of_values v) t p q ≡ true → ArePaired v t p q
paired v t p q pf pt qf qt e =
    let plan : Plan = of_values v in
    let a = and_parts (nat_lt p q) _ e in
    let b = and_parts (coordinates_used plan t p) _ a.1 in
    record {
      below = a.0;
      one = record { from = pf; to = pt; is = (and_parts (is_coordinated plan t p) _ b.0).0 };
      other = record { from = qf; to = qt; is = (and_parts (is_coordinated plan t q) _ b.1).0 };
    }

with : (v : Object → ℕ → ℕ) (l : Bool) (s t p q : ℕ) → all_coordinate (of_values v) l s t ≡ true → IsMarked v t p → IsMarked v t q → ends_with (of_values v) l s t p q ≡ true
with v l s t p q all one other =
    under (is_coordinated (of_values v) t q) _
    (at-16 (λ x. not (is_coordinated (of_values v) t x) || ends_with (of_values v) l s t p x) (coordinating v l s t p all one).agrees q other.from other.to) other.is

agree-back : (v : Object → ℕ → ℕ) (l : Bool) (s t p q : ℕ) → all_coordinate (of_values v) l s t ≡ true → ArePaired v t p q → Agree (of_values v) l s t p q
agree-back v l s t p q all two =
    let plan : Plan = of_values v in
    let a = and_parts (side_of plan p == side_of plan q) _ (with v l s t p q all two.one two.other) in
    let b = and_parts (p == q || is_concurrent plan p q) _ a.1 in
    let c = and_parts (side_of plan q == side_of plan p) _ (with v l s t q p all two.other two.one) in
    let d = and_parts (q == p || is_concurrent plan q p) _ c.1 in
    record {
      sides = eqb-true _ _ a.0;
      together = and_from (is_concurrent plan p q) _ (other-than (p == q) _ b.0 (apart-up p q two.below)) (other-than (q == p) _ d.0 (apart-down p q two.below));
      ends = b.1;
    }

table-back : (v : Object → ℕ → ℕ) (l : Bool) (s t : ℕ) → coordinated_agree (of_values v) l s t ≡ true → all_well (of_values v) l s t ≡ true
table-back v l s t e =
    let plan : Plan = of_values v in
    let parts = and_parts (has_coordinated plan t) (all_coordinate plan l s t) e in
    let all : all_coordinate plan l s t ≡ true = parts.1 in
    let agree : (p q : ℕ) → 1 ≤ p → p < 17 → 1 ≤ q → q < 17 → are_coordinated plan t p q ≡ true → Agree plan l s t p q = λ p q pf pt qf qt is. agree-back v l s t p q all (paired v t p q pf pt qf qt is) in
    and_from (not (coordinates_none plan t)) _ (not-not (has_coordinated plan t) ∙ parts.0)
    (and_from (unused plan t) _
    (for-16 (λ p. not (coordinates_unused plan t p)) (λ p from to. refuse-unless (is_coordinated plan t p) (is_enabled plan p) (λ is. (coordinating v l s t p all (record { from = from; to = to; is = is })).on)))
    (and_from (omitted plan t) _
    (for-16 (λ p. not (coordinates_omitted plan t p)) (λ p from to. refuse (coordinates_omitted plan t p) (λ both.
    let is = and_parts (is_coordinated plan t p) (is_omitted plan t p) both in
    refused (is_omitted plan t p) (coordinating v l s t p all (record { from = from; to = to; is = is.0 })).kept is.1)))
    (and_from (across plan t) _
    (for-16 (λ p. none_up_to 16 (are_across plan t p)) (λ p pf pt. for-16 (λ q. not (are_across plan t p q)) (λ q qf qt.
    refuse-unless (are_coordinated plan t p q) _ (λ two. eq-eqb _ _ (agree p q pf pt qf qt two).sides))))
    (and_from (apart plan t) _
    (for-16 (λ p. none_up_to 16 (are_apart plan t p)) (λ p pf pt. for-16 (λ q. not (are_apart plan t p q)) (λ q qf qt.
    refuse-second (are_coordinated plan t p q) (side_of plan p == side_of plan q) _ (λ two sides. (agree p q pf pt qf qt two).together))))
    (and_from (ending plan l s t) _
    (for-16 (λ p. none_up_to 16 (λ q. end_apart plan l t p q s)) (λ p pf pt. for-16 (λ q. not (end_apart plan l t p q s)) (λ q qf qt.
    refuse-end l (are_together plan t p q) (split_end plan s t p == split_end plan s t q)
    (λ so. (agree p q pf pt qf qt (and_parts (are_coordinated plan t p q) _ so).0).ends))))
    (all-run_from (λ r. not (has_wrong_count plan t r)) 1 2 (λ r rf rt. refuse-unless (list_any (is_beside plan t r) (run_from 1 16)) _ (λ some.
    let it : Passes (is_beside plan t r) 1 16 = some-run_from (is_beside plan t r) 1 16 some in
    let is = and_parts (is_coordinated plan t it.one) _ it.passes in
    under (has_phases plan r (side_of plan it.one)) _
    (at-run_from (λ x. not (has_phases plan x (side_of plan it.one)) || coordinated_count plan t x == 1) 1 2 r
    (coordinating v l s t it.one all (record { from = it.from; to = it.below; is = is.0 })).one rf rt) is.1))))))))

table-met : (v : Object → ℕ → ℕ) (l : Bool) (s t : ℕ) → all_well (of_values v) l s t ≡ coordinated_agree (of_values v) l s t
table-met v l s t =
    same_from_decides {P = coordinated_agree (of_values v) l s t ≡ true} (all_well (of_values v) l s t) (coordinated_agree (of_values v) l s t)
    (table-there v l s t, table-back v l s t) (λ e. e, λ e. e)

-- ## Of all patterns

-- at a pattern that is used or not, with its split table o and its sequence q
abbrev well_at : (Object → ℕ → ℕ) → Bool → Option ℕ → Option ℕ → Bool
well_at v l o q =
    not (some_and (coordinates_none (of_values v)) o) && (none_up_to 16 (λ p. some_and (λ t. coordinates_unused (of_values v) t p) o)
    && (none_up_to 16 (λ p. some_and (λ t. coordinates_omitted (of_values v) t p) o)
    && (list_all (λ p. none_up_to 16 (λ x. some_and (λ t. are_across (of_values v) t p x) o)) (run_from 1 16)
    && (list_all (λ p. none_up_to 16 (λ x. some_and (λ t. are_apart (of_values v) t p x) o)) (run_from 1 16)
    && (list_all (λ p. none_up_to 16 (λ x. some_and (λ t. some_and (end_apart (of_values v) l t p x) q) o)) (run_from 1 16)
    && none_up_to 2 (λ r. some_and (λ t. has_wrong_count (of_values v) t r) o))))))

gone : (n : ℕ) → None ≡ Some n → ⊥
gone n e = cc

pattern-met : (v : Object → ℕ → ℕ) (l u : Bool) (o q : Option ℕ) → (u ≡ true → IsNamed o) → (u ≡ true → IsNamed q) →
    well_at v l (if u then o else None) q ≡ (not u || some_and (λ s. some_and (coordinated_agree (of_values v) l s) o) q)
unfolding run_from
pattern-met v l false o q table sequence = refl
pattern-met v l true None q table sequence = let n : IsNamed None = table refl in absurd (gone n.number n.is)
pattern-met v l true (Some t) None table sequence = let n : IsNamed None = sequence refl in absurd (gone n.number n.is)
pattern-met v l true (Some t) (Some s) table sequence = table-met v l s t

pub met-20 : (v : Object → ℕ → ℕ) → patterns_are_whole (of_values v) ≡ true →
    (none_at (of_values v) K20None && (none_at (of_values v) K20Unused && (none_at (of_values v) K20Omitted
    && (none_at (of_values v) K20Sides && (none_at (of_values v) K20Apart && (none_at (of_values v) K20Ends && none_at (of_values v) K20Ring))))))
    ≡ coordinated_phases_agree (of_values v)
met-20 v met =
    let plan : Plan = of_values v in
    let table : ℕ → Option ℕ = λ n. (if is_used plan n then split_of plan n else None) in
    let a : ℕ → Bool = λ n. not (some_and (coordinates_none plan) (table n)) in
    let b : ℕ → Bool = λ n. none_up_to 16 (λ p. some_and (λ t. coordinates_unused plan t p) (table n)) in
    let c : ℕ → Bool = λ n. none_up_to 16 (λ p. some_and (λ t. coordinates_omitted plan t p) (table n)) in
    let d : ℕ → Bool = λ n. list_all (λ p. none_up_to 16 (λ x. some_and (λ t. are_across plan t p x) (table n))) (run_from 1 16) in
    let e : ℕ → Bool = λ n. list_all (λ p. none_up_to 16 (λ x. some_and (λ t. are_apart plan t p x) (table n))) (run_from 1 16) in
    let f : ℕ → Bool = λ n. list_all (λ p. none_up_to 16 (λ x. some_and (λ t. some_and (end_apart plan (leads_and_lags plan n) t p x) (sequence_of plan n)) (table n))) (run_from 1 16) in
    let g : ℕ → Bool = λ n. none_up_to 2 (λ r. some_and (λ t. has_wrong_count plan t r) (table n)) in
    let all : (ℕ → Bool) → Bool = λ test. list_all test (run_from 1 16) in
    and-both (none-pattern plan K20None) (and-both (none-pattern_phase plan K20Unused) (and-both (none-pattern_phase plan K20Omitted)
    (and-both (none-pattern_phases plan K20Sides) (and-both (none-pattern_phases plan K20Apart) (and-both (none-pattern_phases plan K20Ends) (none-pattern_ring plan K20Ring))))))
    ∙ ap (λ x. all a && (all b && (all c && (all d && (all e && x))))) (both-are f g (λ n. f n && g n) (λ n. refl) (run_from 1 16))
    ∙ ap (λ x. all a && (all b && (all c && (all d && x)))) (both-are e (λ n. f n && g n) (λ n. e n && (f n && g n)) (λ n. refl) (run_from 1 16))
    ∙ ap (λ x. all a && (all b && (all c && x))) (both-are d (λ n. e n && (f n && g n)) (λ n. d n && (e n && (f n && g n))) (λ n. refl) (run_from 1 16))
    ∙ ap (λ x. all a && (all b && x)) (both-are c (λ n. d n && (e n && (f n && g n))) (λ n. c n && (d n && (e n && (f n && g n)))) (λ n. refl) (run_from 1 16))
    ∙ ap (λ x. all a && x) (both-are b (λ n. c n && (d n && (e n && (f n && g n)))) (λ n. b n && (c n && (d n && (e n && (f n && g n))))) (λ n. refl) (run_from 1 16))
    ∙ both-are a (λ n. b n && (c n && (d n && (e n && (f n && g n))))) (λ n. well_at v (leads_and_lags plan n) (table n) (sequence_of plan n)) (λ n. refl) (run_from 1 16)
    ∙ same-run (λ n. well_at v (leads_and_lags plan n) (table n) (sequence_of plan n))
    (λ n. not (is_used plan n) || some_and (λ s. some_and (coordinated_agree plan (leads_and_lags plan n) s) (split_of plan n)) (sequence_of plan n)) 1 16
    (λ n from to. pattern-met v (leads_and_lags plan n) (is_used plan n) (split_of plan n) (sequence_of plan n) (names-table plan met n from to) (names-listing plan met n from to))
