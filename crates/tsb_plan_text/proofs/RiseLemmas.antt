-- The names of an object that was read rise.
use Rattle.std.proofs.Common.{◌≡◌, ℕ, List, Option, Some, None, option_map, option_and_then, Ordering, Less, Equal, Greater, nat_cmp, arith, ◌∙◌, ap, subst, refl}
use Rattle.std.proofs.lemmas.Cmp.{nat_list_cmp_total}
use Rattle.std.proofs.lemmas.Option.{same_Some}
use Rattle.std.specs.Bool.{⊤}
use Rattle.std.specs.Cmp.Lexicographic.{slice_cmp}
use Rattle.std.specs.Ordering.{match_ordering, ordering_reverse}
use Rattle.json.specs.Json as json
use Rattle.json.specs.Lex.{tokens}
use Rattle.serde_json.specs.Data.{Data, null, boolean, number, string, array, object, Members, no_members, member, put}
use Rattle.serde_json.specs.Find.{as_object}
use Rattle.serde_json.specs.Read.{max_depth, read, of_json, of_items, of_members, number_of}

-- the name stands before each of the members'
abbrev pub IsBefore : List ℕ → Members → Type 0
IsBefore k no_members = ⊤
IsBefore k (member l d ms) = (slice_cmp nat_cmp k l ≡ Less) × IsBefore k ms

-- names rise in byte order, so each stands once
abbrev pub Rise : Members → Type 0
Rise no_members = ⊤
Rise (member k d ms) = IsBefore k ms × Rise ms

abbrev pub RiseIn : Data → Type 0
RiseIn (object ms) = Rise ms
RiseIn d = ⊤

-- and those of the objects inside too
abbrev pub AllRise : Members → Type 0
AllRise no_members = ⊤
AllRise (member k d ms) = IsBefore k ms × RiseIn d × AllRise ms

before_more : (k l : List ℕ) (ms : Members) → slice_cmp nat_cmp k l ≡ Less → IsBefore l ms → IsBefore k ms
before_more k l no_members less h = tt
before_more k l (member m d ms) less h = (nat_list_cmp_total.trans k l m less h.0, before_more k l ms less h.1)

before_put : (l k : List ℕ) (d : Data) (ms : Members) → slice_cmp nat_cmp l k ≡ Less → IsBefore l ms → IsBefore l (put k d ms)
before_put l k d no_members less h = (less, tt)
before_put l k d (member m e ms) less h = go (before_put l k d ms less h.1) (slice_cmp nat_cmp k m)
  where
    go : IsBefore l (put k d ms) → (r : Ordering) → IsBefore l (match_ordering r (member k d (member m e ms)) (member m d ms) (member m e (put k d ms)))
    go later Less = (less, h)
    go later Equal = (h.0, h.1)
    go later Greater = (h.0, later)

turned : (k m : List ℕ) → slice_cmp nat_cmp k m ≡ Greater → slice_cmp nat_cmp m k ≡ Less
turned k m e = nat_list_cmp_total.antisymm m k ∙ ap ordering_reverse e

rise_put : (k : List ℕ) (d : Data) (ms : Members) → Rise ms → Rise (put k d ms)
rise_put k d no_members h = (tt, tt)
rise_put k d (member m e ms) h = go (rise_put k d ms h.1) (slice_cmp nat_cmp k m) refl
  where
    go : Rise (put k d ms) → (r : Ordering) → slice_cmp nat_cmp k m ≡ r → Rise (match_ordering r (member k d (member m e ms)) (member m d ms) (member m e (put k d ms)))
    go later Less is = ((is, before_more k m ms is h.0), h)
    go later Equal is = (h.0, h.1)
    go later Greater is = (before_put m k d ms (turned k m is) h.0, later)

all_put : (k : List ℕ) (d : Data) (ms : Members) → RiseIn d → AllRise ms → AllRise (put k d ms)
all_put k d no_members new h = (tt, new, tt)
all_put k d (member m e ms) new h = go (all_put k d ms new h.2) (slice_cmp nat_cmp k m) refl
  where
    go : AllRise (put k d ms) → (r : Ordering) → slice_cmp nat_cmp k m ≡ r → AllRise (match_ordering r (member k d (member m e ms)) (member m d ms) (member m e (put k d ms)))
    go later Less is = ((is, before_more k m ms is h.0), new, h)
    go later Equal is = (h.0, new, h.2)
    go later Greater is = (before_put m k d ms (turned k m is) h.0, h.1, later)

and_then_some : {A B : Type 0} (o : Option A) (f : A → Option B) (y : B) → option_and_then f o ≡ Some y → (x : A) × (o ≡ Some x) × (f x ≡ Some y)
and_then_some None f y e = absurd (grind (arith, e))
and_then_some (Some x) f y e = (x, refl, e)

map_some : {A B : Type 0} (o : Option A) (f : A → B) (y : B) → option_map f o ≡ Some y → (x : A) × (o ≡ Some x) × (f x ≡ y)
map_some None f y e = absurd (grind (arith, e))
map_some (Some x) f y e = (x, refl, grind (arith, e))

members_rise : (js : json.Members) (found ms : Members) → of_members js found ≡ Some ms → Rise found → Rise ms
members_rise json.no_members found ms e h = subst Rise (grind (arith, e)) h
members_rise (json.member k j js) found ms e h =
    let d = and_then_some (of_json j) (λ d. of_members js (put k d found)) ms e in
    members_rise js (put k d.0 found) ms d.2 (rise_put k d.0 found h)

json_rise : (j : json.Json) (d : Data) → of_json j ≡ Some d → RiseIn d
json_rise json.null d e = subst RiseIn (same_Some null d e) tt
json_rise (json.boolean b) d e = subst RiseIn (same_Some (boolean b) d e) tt
json_rise (json.number s) d e = subst RiseIn (map_some (number_of s) number d e).2 tt
json_rise (json.string s) d e = subst RiseIn (same_Some (string s) d e) tt
json_rise (json.array js) d e = subst RiseIn (map_some (of_items js) array d e).2 tt
json_rise (json.object js) d e =
    let ms = map_some (of_members js no_members) object d e in
    subst RiseIn ms.2 (members_rise js no_members ms.0 ms.1 tt)

members_all_rise : (js : json.Members) (found ms : Members) → of_members js found ≡ Some ms → AllRise found → AllRise ms
members_all_rise json.no_members found ms e h = subst AllRise (grind (arith, e)) h
members_all_rise (json.member k j js) found ms e h =
    let d = and_then_some (of_json j) (λ d. of_members js (put k d found)) ms e in
    members_all_rise js (put k d.0 found) ms d.2 (all_put k d.0 found (json_rise j d.0 d.1) h)

json_all_rise : (j : json.Json) (d : Data) → of_json j ≡ Some d → (ms : Members) → as_object d ≡ Some ms → AllRise ms
json_all_rise json.null d e ms is = absurd (grind (arith, e, is))
json_all_rise (json.boolean b) d e ms is = absurd (grind (arith, e, is))
json_all_rise (json.number s) d e ms is =
    let n = map_some (number_of s) number d e in
    absurd (grind (arith, n.2, is))
json_all_rise (json.string s) d e ms is = absurd (grind (arith, e, is))
json_all_rise (json.array js) d e ms is =
    let n = map_some (of_items js) array d e in
    absurd (grind (arith, n.2, is))
json_all_rise (json.object js) d e ms is =
    let found = map_some (of_members js no_members) object d e in
    let same : found.0 ≡ ms = grind (arith, found.2, is) in
    subst AllRise same (members_all_rise js no_members found.0 found.1 tt)

pub read_all_rise : (text : List ℕ) (d : Data) → read text ≡ Some d → (ms : Members) → as_object d ≡ Some ms → AllRise ms
read_all_rise text d e ms is =
    let j = and_then_some (option_and_then (λ p. json.if_last p.0 p.1) (json.value max_depth (tokens text))) of_json d e in
    json_all_rise j.0 d j.2 ms is
