use Rattle.std.proofs.Common.{◌≡◌, ℕ, suc, ◌+◌, max, map, true, false, Option, is_none, inr, subst, arith, rules}
use Rattle.serde_json.specs.View.{members_view}
use Rattle.result_references.specs.Call.{call_data}
use Rattle.result_references.specs.References.{has_reference, walked}
use Rattle.result_references.specs.reading.Counting.{Counts, all_stand, resolved_octets}
use Rattle.result_references.proofs.Limits.{unresolved, octets_past, octets_within, counted_past, counted_within}
use Rattle.result_references.proofs.limit.check_limit.Goals as goal

pub returns-then-not-branch : goal.returns-then-not-branch
returns-then-not-branch c =
    let calls = map call_data c.args.earlier.now in
    let ms = members_view c.args.members.now.entries in
    let has : has_reference (members_view c.args.members.now.entries) ≡ true = first_of (cc, search rules) in
    let P : Option ℕ → Type 0 = λ o. Counts o (walked (map call_data c.args.earlier.now) (members_view c.args.members.now.entries)) in
    let counts = subst P c.in-Some.is c.in_ok-walks.ensures in
    let lacks : all_stand (map call_data c.args.earlier.now) (members_view c.args.members.now.entries) ≡ false = first_of (cc, search rules) in
    inr (unresolved calls ms has (omega (arith, counts.0, counts.1)) lacks)

pub returns-then-is_none : goal.returns-then-is_none
returns-then-is_none c =
    let calls = map call_data c.args.earlier.now in
    let es = c.args.members.now.entries in
    let has : has_reference (members_view c.args.members.now.entries) ≡ true = first_of (cc, search rules) in
    let P : Option ℕ → Type 0 = λ o. Counts o (walked (map call_data c.args.earlier.now) (members_view c.args.members.now.entries)) in
    let counts = subst P c.in-Some.is c.in_ok-walks.ensures in
    let stand : all_stand (map call_data c.args.earlier.now) (members_view c.args.members.now.entries) ≡ true = first_of (cc, search rules) in
    let inner : ℕ = resolved_octets calls (members_view es) in
    let none : is_none c.in_brackets.result ≡ true = first_of (cc, search rules) in
    let past = counted_past c.in_brackets.result (c.in-Some.walks + suc (max 1 inner)) (c.in_brackets.ensures inner c.in_ok-octets.ensures.counted) none in
    inr (octets_past calls es c.in_ok-octets.ensures.sorted c.requires has stand (omega (arith, past, counts.0)))

pub returns : goal.returns
returns c =
    let calls = map call_data c.args.earlier.now in
    let es = c.args.members.now.entries in
    let has : has_reference (members_view c.args.members.now.entries) ≡ true = first_of (cc, search rules) in
    let P : Option ℕ → Type 0 = λ o. Counts o (walked (map call_data c.args.earlier.now) (members_view c.args.members.now.entries)) in
    let counts = subst P c.in-Some.is c.in_ok-walks.ensures in
    let stand : all_stand (map call_data c.args.earlier.now) (members_view c.args.members.now.entries) ≡ true = first_of (cc, search rules) in
    let inner : ℕ = resolved_octets calls (members_view es) in
    let some : is_none c.in_brackets.result ≡ false = first_of (cc, search rules) in
    let within = counted_within c.in_brackets.result (c.in-Some.walks + suc (max 1 inner)) (c.in_brackets.ensures inner c.in_ok-octets.ensures.counted) some in
    octets_within calls es c.in_ok-octets.ensures.sorted c.requires has stand (omega (arith, within, counts.0))
