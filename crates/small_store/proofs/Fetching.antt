-- Fetches of messages in order: a message's sequence number is its place, from 1 on.
use Rattle.std.proofs.Common.{◌≡◌, ℕ, zero, suc, ◌+◌, ◌<◌, ◌≤◌, Bool, true, false, cond, List, [], ◌∷◌, ◌++◌, map, filter, length, drop, get_or, refl, sym, ap, ◌∙◌, subst, arith, nat_lt}
use Rattle.std.specs.Prelude.{count_by}
use Rattle.std.proofs.lemmas.Bool.{lt-ltb, le-ltb}
use Rattle.std.proofs.lemmas.List.{append-nil, append_assoc, at_drop_more}
use Rattle.std.proofs.lemmas.List.Sums.{sum_by-cons}
use Rattle.imap_types.specs.declared.response.Response.{Response}
use Rattle.imap_types.specs.declared.response.Response.TheVariants as response
use Rattle.honest_store.specs.StoreMail.{StoreMessage, StoreFolder}
use Rattle.honest_store.specs.WellFormed.{AscendByUid, IsStoreFolder}
use Rattle.small_answers.specs.ToldResponses.{sequence_number}
use Rattle.small_store.specs.declared.fetches.Asked.{Asked}
use Rattle.small_store.specs.declared.fetches.Which.{Which}
use Rattle.small_store.specs.reading.Fetches.{is_asked, items_of, response_of, told_at}

-- ---- places

abbrev before : ℕ → StoreMessage → Bool
before u m = nat_lt m.uid u

count_more : (u : ℕ) (m : StoreMessage) (ms : List StoreMessage) (b : Bool) → before u m ≡ b → count_by (before u) (m ∷ ms) ≡ cond b 1 0 + count_by (before u) ms
count_more u m ms b e = sum_by-cons (λ (x : StoreMessage). cond (before u x) 1 0) m ms ∙ ap (λ (c : Bool). cond c 1 0 + count_by (before u) ms) e

none_before : (u v : ℕ) (ms : List StoreMessage) → u ≤ v → AscendByUid v ms → count_by (before u) ms ≡ 0
none_before u v [] l h = refl
none_before u v (m ∷ ms) l h =
    omega (arith, count_more u m ms false (le-ltb m.uid u (omega (arith, l, h.0))), none_before u m.uid ms (omega (arith, l, h.0)) h.1)

pub above : (u : ℕ) (ms : List StoreMessage) (i : ℕ) (d : StoreMessage) → AscendByUid u ms → i < length ms → u < (get_or ms i d).uid
above u [] i d h l = absurd (omega (arith, l))
above u (m ∷ ms) zero d h l = h.0
above u (m ∷ ms) (suc i) d h l = omega (arith, h.0, above m.uid ms i d h.1 (omega (arith, l)))

count_before : (u : ℕ) (ms : List StoreMessage) (i : ℕ) (d : StoreMessage) → AscendByUid u ms → i < length ms → count_by (before (get_or ms i d).uid) ms ≡ i
count_before u [] i d h l = absurd (omega (arith, l))
count_before u (m ∷ ms) zero d h l =
    omega (arith, count_more m.uid m ms false (le-ltb m.uid m.uid (omega arith)), none_before m.uid m.uid ms (omega arith) h.1)
count_before u (m ∷ ms) (suc i) d h l =
    let within : i < length ms = omega (arith, l) in
    omega (arith, count_more (get_or ms i d).uid m ms true (lt-ltb m.uid (get_or ms i d).uid (above m.uid ms i d h.1 within)), count_before m.uid ms i d h.1 within)

pub sequence_is : (ms : List StoreMessage) (i : ℕ) (m : StoreMessage) → AscendByUid 0 ms → i < length ms → m ≡ get_or ms i m → sequence_number ms m ≡ i + 1
sequence_is ms i m h l is =
    ap (λ (n : ℕ). n + 1) (subst (λ (x : StoreMessage). count_by (before x.uid) ms ≡ i) (sym is) (count_before 0 ms i m h l))

-- UIDs ascend below 2^32, so messages can be counted
pub few : (u n : ℕ) (ms : List StoreMessage) → u < n → AscendByUid u ms → ((i : ℕ) (d : StoreMessage) → i < length ms → (get_or ms i d).uid < n) → length ms + u < n
few u n [] l h all = omega (arith, l)
few u n (m ∷ ms) l h all =
    omega (arith, h.0, few m.uid n ms (all 0 m (omega arith)) h.1 (λ i d within. all (suc i) d (omega (arith, within))))

pub few_messages : (f : StoreFolder) → IsStoreFolder f → length f.messages < 4294967296
few_messages f whole =
    omega (arith, whole.uid_next, few 0 f.uid_next f.messages (omega (arith, whole.uid_next)) whole.ascend (λ i d within. (whole.messages i d within).uid))

-- ---- a fetch, one message on

pub fetch_more : (w : Which) (a : Asked) (ms : List StoreMessage) (i : ℕ) (m : StoreMessage) (left more : List Response) → AscendByUid 0 ms → i < length ms → m ≡ get_or ms i m
    → more ≡ left ++ told_at w a (i + 1) m
    → more ++ map (response_of a ms) (filter (is_asked w) (drop (i + 1) ms)) ≡ left ++ map (response_of a ms) (filter (is_asked w) (drop i ms))
fetch_more w a ms i m left more h l is told = by (is_asked w m) refl
  where
    rest : List Response
    rest = map (response_of a ms) (filter (is_asked w) (drop (i + 1) ms))

    step : (b : Bool) → is_asked w m ≡ b → filter (is_asked w) (drop i ms) ≡ cond b (m ∷ filter (is_asked w) (drop (i + 1) ms)) (filter (is_asked w) (drop (i + 1) ms))
    step b e = at_drop_more (filter (is_asked w)) ms i m l
        ∙ (ap (λ (y : StoreMessage). cond (is_asked w y) (y ∷ filter (is_asked w) (drop (i + 1) ms)) (filter (is_asked w) (drop (i + 1) ms))) (sym is)
        ∙ ap (λ (c : Bool). cond c (m ∷ filter (is_asked w) (drop (i + 1) ms)) (filter (is_asked w) (drop (i + 1) ms))) e)

    by : (b : Bool) → is_asked w m ≡ b → more ++ rest ≡ left ++ map (response_of a ms) (filter (is_asked w) (drop i ms))
    by true e =
        ap (λ (rs : List Response). rs ++ rest) (told ∙ ap (λ (b : Bool). left ++ cond b (response.Fetch (i + 1) (items_of a m) ∷ []) []) e)
        ∙ (append_assoc left (response.Fetch (i + 1) (items_of a m) ∷ []) rest
        ∙ (ap (λ (n : ℕ). left ++ response.Fetch n (items_of a m) ∷ rest) (sym (sequence_is ms i m h l is))
        ∙ ap (λ (ys : List StoreMessage). left ++ map (response_of a ms) ys) (sym (step true e))))
    by false e =
        ap (λ (rs : List Response). rs ++ rest) (told ∙ (ap (λ (b : Bool). left ++ cond b (response.Fetch (i + 1) (items_of a m) ∷ []) []) e ∙ append-nil left))
        ∙ ap (λ (ys : List StoreMessage). left ++ map (response_of a ms) ys) (sym (step false e))
