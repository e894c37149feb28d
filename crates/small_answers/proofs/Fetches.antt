-- What the small store tells of messages is true, and all that is asked is told.
use Rattle.std.proofs.Common.{min, ◌≡◌, inl, inr, ℕ, ◌≤◌, max, fold, Bool, true, false, ◌||◌, List, [], ◌∷◌, Option, Some, None, map, filter, refl, arith, IfSome, IsSome, Any}
use Rattle.std.proofs.Common.{◌<◌, nat_le, ◌==◌, le-leb, eq-eqb, eqb-true, subst}
use Rattle.std.specs.List.{AllByRecursion}
use Rattle.std.proofs.lemmas.Bool.{and_from, false≢true}
use Rattle.std.proofs.lemmas.List.Elements.{All-from_recursion, recursion_from_All}
use Rattle.imap_types.specs.declared.response.Response.{Response}
use Rattle.imap_types.specs.declared.response.Response.TheVariants as response
use Rattle.imap_types.specs.declared.response.FetchItems.{FetchItems}
use Rattle.honest_store.specs.StoreMail.{StoreFolder, StoreMessage, message_numbered}
use Rattle.honest_store.specs.WellFormed.{AscendByUid, IsStoreFolder, IsStoreMessage}
use Rattle.honest_store.specs.Responses.{IsFetchOf, TellsFlags}
use Rattle.honest_store.specs.TrueResponses.{IsToldOfOne}
use Rattle.honest_store.specs.Fetching.{IsBetween, IsFromOn, TellsHeader, TellsMessages, TellsNoneNewer}
use Rattle.small_answers.specs.ToldResponses.{flags_response, change_response, header_response, body_response, with_uids, greatest_uid, is_from_on, is_between}
use Rattle.small_answers.proofs.Elements.{each_both, each_of, each_weaker, told_all, told_each}
use Rattle.small_answers.proofs.Searches.{found_is, found_passes}
use Rattle.small_answers.proofs.Truths.{each_found, IsTrueThere}

-- ---- truth

flags_true : (ms : List StoreMessage) (f : StoreFolder) (m : StoreMessage) → message_numbered f.messages m.uid ≡ Some m → IsTrueThere (Some (Some f)) (flags_response ms m)
flags_true ms f m found = (tt, (m, found, record { flags = refl; date = tt; size = tt; header = tt; body = tt }))

pub change_true : (ms : List StoreMessage) (f : StoreFolder) (m : StoreMessage) → message_numbered f.messages m.uid ≡ Some m → IsTrueThere (Some (Some f)) (change_response ms m)
change_true ms f m found = (tt, (m, found, record { flags = refl; date = tt; size = tt; header = tt; body = tt }))

header_true : (b : Bool) (ms : List StoreMessage) (f : StoreFolder) (m : StoreMessage) → message_numbered f.messages m.uid ≡ Some m
    → IsTrueThere (Some (Some f)) (header_response b ms m)
header_true b ms f m found = (tt, (m, found, record { flags = refl; date = refl; size = refl; header = refl; body = tt }))

body_true : (ms : List StoreMessage) (f : StoreFolder) (m : StoreMessage) → message_numbered f.messages m.uid ≡ Some m → IsTrueThere (Some (Some f)) (body_response ms m)
body_true ms f m found = (tt, (m, found, record { flags = tt; date = tt; size = tt; header = tt; body = refl }))

-- where a way to tell is true of each message that is found, all that it tells is true
pub all_true : (tell : StoreMessage → Response) (test : StoreMessage → Bool) (f : StoreFolder) → AscendByUid 0 f.messages
    → ((m : StoreMessage) → message_numbered f.messages m.uid ≡ Some m → IsTrueThere (Some (Some f)) (tell m))
    → AllByRecursion (IsTrueThere (Some (Some f))) (map tell (filter test f.messages))
all_true tell test f ascend is =
    told_all test tell (IsTrueThere (Some (Some f))) f.messages
    (each_weaker (λ m. message_numbered f.messages m.uid ≡ Some m) (λ m. IsTrueThere (Some (Some f)) (tell m)) is f.messages (each_found 0 f.messages ascend))

-- ---- all that is asked

-- where those that are asked pass, and what is told of one has the items, all that are asked are told of
pub all_told : (tell : StoreMessage → Response) (test : StoreMessage → Bool) (ms : List StoreMessage) (IsAsked : List StoreMessage → StoreMessage → Type 0)
    (Has : FetchItems → Type 0)
    → ((m : StoreMessage) → IsFetchOf m.uid Has (tell m)) → AllByRecursion (λ m. IsAsked ms m → test m ≡ true) ms
    → TellsMessages (Some ms) IsAsked Has (map tell (filter test ms))
all_told tell test ms IsAsked Has tells passes =
    All-from_recursion (λ m. IsAsked ms m → Any (IsFetchOf m.uid Has) (map tell (filter test ms))) ms
    (each_both (λ m. IsAsked ms m → test m ≡ true) (λ m. test m ≡ true → Any (IsFetchOf m.uid Has) (map tell (filter test ms)))
    (λ m. IsAsked ms m → Any (IsFetchOf m.uid Has) (map tell (filter test ms))) (λ m passes told asked. told (passes asked)) ms passes
    (told_each test tell (λ m r. IsFetchOf m.uid Has r) tells ms))

header_has : (b : Bool) (ms : List StoreMessage) (m : StoreMessage) → IsFetchOf m.uid TellsHeader (header_response b ms m)
header_has b ms m = (refl, record { flags = refl; date = refl; size = refl; header = refl })

-- ---- which are asked for

or_right : (x y : Bool) → y ≡ true → (x || y) ≡ true
or_right true y e = refl
or_right false y e = e

or_left : (x y : Bool) → x ≡ true → (x || y) ≡ true
or_left true y e = refl
or_left false y e = absurd (false≢true e)

-- the greatest of these UIDs and of n
abbrev greatest_from : ℕ → List StoreMessage → ℕ
greatest_from n ms = fold (λ k m. max k m.uid) n ms

greatest_from_grows : (n : ℕ) (ms : List StoreMessage) → n ≤ greatest_from n ms
greatest_from_grows n [] = omega arith
greatest_from_grows n (m ∷ ms) = omega (arith, greatest_from_grows (max n m.uid) ms)

each_within : (n : ℕ) (ms : List StoreMessage) → AllByRecursion (λ m. m.uid ≤ greatest_from n ms) ms
each_within n [] = tt
each_within n (m ∷ ms) = (omega (arith, greatest_from_grows (max n m.uid) ms), each_within (max n m.uid) ms)

greatest_from_within : (u n : ℕ) (ms : List StoreMessage) → n ≤ u → AllByRecursion (λ m. m.uid ≤ u) ms → greatest_from n ms ≤ u
greatest_from_within u n [] l h = l
greatest_from_within u n (m ∷ ms) l h = greatest_from_within u (max n m.uid) ms (omega (arith, l, h.0)) h.1

passes_from : (from : ℕ) (ms : List StoreMessage) (m : StoreMessage) → m.uid ≤ greatest_uid ms → IsFromOn from ms m → is_from_on from ms m.uid ≡ true
passes_from from ms m within (inl l) = or_left (nat_le from m.uid) (m.uid == greatest_uid ms) (le-leb from m.uid l)
passes_from from ms m within (inr last) =
    or_right (nat_le from m.uid) (m.uid == greatest_uid ms)
    (eq-eqb m.uid (greatest_uid ms) (omega (arith, within, greatest_from_within m.uid 0 ms (omega arith) (recursion_from_All (λ other. other.uid ≤ m.uid) ms last))))

-- ---- the four fetches

pub flags_told : (ms : List StoreMessage) → TellsMessages (Some ms) (λ ms m. Unit {0}) TellsFlags (map (flags_response ms) (with_uids (λ u. true) ms))
flags_told ms = all_told (flags_response ms) (λ m. true) ms (λ ms m. Unit {0}) TellsFlags (λ m. (refl, refl)) (each_of (λ m. Unit {0} → true ≡ true) (λ m asked. refl) ms)

pub slice_told : (from to : ℕ) (b : Bool) (ms : List StoreMessage)
    → TellsMessages (Some ms) (IsBetween from to) TellsHeader (map (header_response b ms) (with_uids (is_between from to) ms))
slice_told from to b ms =
    all_told (header_response b ms) (λ m. is_between from to m.uid) ms (IsBetween from to) TellsHeader (header_has b ms)
    (each_of (λ m. IsBetween from to ms m → is_between from to m.uid ≡ true)
    (λ m asked. and_from (nat_le (min from to) m.uid) (nat_le m.uid (max from to)) (le-leb (min from to) m.uid asked.0) (le-leb m.uid (max from to) asked.1)) ms)

pub new_told : (from : ℕ) (b : Bool) (ms : List StoreMessage)
    → TellsMessages (Some ms) (IsFromOn from) TellsHeader (map (header_response b ms) (with_uids (is_from_on from ms) ms))
new_told from b ms =
    all_told (header_response b ms) (λ m. is_from_on from ms m.uid) ms (IsFromOn from) TellsHeader (header_has b ms)
    (each_weaker (λ m. m.uid ≤ greatest_uid ms) (λ m. IsFromOn from ms m → is_from_on from ms m.uid ≡ true) (λ m within. passes_from from ms m within) ms (each_within 0 ms))

pub body_told : (uid : ℕ) (ms : List StoreMessage)
    → TellsMessages (Some ms) (λ ms m. m.uid ≡ uid) (λ items. IsSome items.body) (map (body_response ms) (with_uids (λ u. u == uid) ms))
body_told uid ms =
    all_told (body_response ms) (λ m. m.uid == uid) ms (λ ms m. m.uid ≡ uid) (λ items. IsSome items.body) (λ m. (refl, refl))
    (each_of (λ m. m.uid ≡ uid → (m.uid == uid) ≡ true) (λ m asked. eq-eqb m.uid uid asked) ms)

pub flags_all_true : (f : StoreFolder) → AscendByUid 0 f.messages
    → AllByRecursion (IsTrueThere (Some (Some f))) (map (flags_response f.messages) (with_uids (λ u. true) f.messages))
flags_all_true f ascend = all_true (flags_response f.messages) (λ m. true) f ascend (flags_true f.messages f)

pub header_all_true : (b : Bool) (test : ℕ → Bool) (f : StoreFolder) → AscendByUid 0 f.messages
    → AllByRecursion (IsTrueThere (Some (Some f))) (map (header_response b f.messages) (with_uids test f.messages))
header_all_true b test f ascend = all_true (header_response b f.messages) (λ m. test m.uid) f ascend (header_true b f.messages f)

pub body_all_true : (test : ℕ → Bool) (f : StoreFolder) → AscendByUid 0 f.messages
    → AllByRecursion (IsTrueThere (Some (Some f))) (map (body_response f.messages) (with_uids test f.messages))
body_all_true test f ascend = all_true (body_response f.messages) (λ m. test m.uid) f ascend (body_true f.messages f)

pub change_all_true : (test : StoreMessage → Bool) (f : StoreFolder) → AscendByUid 0 f.messages
    → AllByRecursion (IsTrueThere (Some (Some f))) (map (change_response f.messages) (filter test f.messages))
change_all_true test f ascend = all_true (change_response f.messages) test f ascend (change_true f.messages f)

-- ---- none newer

below_next : (f : StoreFolder) → IsStoreFolder f → (u : ℕ) (m : StoreMessage) → message_numbered f.messages u ≡ Some m → u < f.uid_next
below_next f is u m found =
    let same : m.uid ≡ u = eqb-true m.uid u (found_passes (λ x. x.uid == u) f.messages m found) in
    let below : m.uid < f.uid_next =
    found_is (λ x. x.uid < f.uid_next) (λ x. x.uid == u) f.messages m
    (each_weaker (IsStoreMessage f) (λ x. x.uid < f.uid_next) (λ x x_is. x_is.uid) f.messages (recursion_from_All (IsStoreMessage f) f.messages is.messages)) found in
    omega (arith, same, below)

-- a FETCH that is true of a folder is of a UID below its UIDNEXT
fetch_below : (f : StoreFolder) → IsStoreFolder f → (Has : FetchItems → Type 0) (r : Response) → IsTrueThere (Some (Some f)) r → (u : ℕ) → IsFetchOf u Has r → u < f.uid_next
fetch_below f is Has (response.Fetch seq items) true_there u of_u =
    let told : IsToldOfOne (Some (Some f)) items u = subst (λ (o : Option ℕ). IfSome o (IsToldOfOne (Some (Some f)) items)) of_u.0 true_there.1 in
    below_next f is u told.0 told.1
fetch_below f is Has _ true_there u of_u = absurd of_u

-- what is told truly as a fetch is read is of no message that comes later
pub none_newer : (o : Option StoreFolder) → ((f : StoreFolder) → o ≡ Some f → IsStoreFolder f) → (rs : List Response) → AllByRecursion (IsTrueThere (Some o)) rs
    → TellsNoneNewer (Some o) rs
none_newer None is rs are_true = tt
none_newer (Some f) is rs are_true =
    All-from_recursion (λ r. (u : ℕ) → IsFetchOf u TellsHeader r → u < f.uid_next) rs
    (each_weaker (IsTrueThere (Some (Some f))) (λ r. (u : ℕ) → IsFetchOf u TellsHeader r → u < f.uid_next) (fetch_below f (is f refl) TellsHeader) rs are_true)
