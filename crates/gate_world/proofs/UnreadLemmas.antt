-- The octets between two places of a list, after a write past them or a step of the first place.
use Rattle.std.proofs.Common.{◌≡◌, ℕ, ◌+◌, ◌-◌, ◌<◌, ◌≤◌, List, [], ◌∷◌, ◌++◌, length, take, drop, slice_range, refl, sym, ap, ◌∙◌, arith}
use Rattle.std.proofs.lemmas.List.{append-nil, take_at, drop_at, take-append-le, drop-append-le, drop-take, drop-drop, length-take-le, length-drop, length-append}
use Rattle.gate_world.specs.declared.event.Event.TheVariants.{ClientGave, ClientEnded}
use Rattle.gate_world.specs.Read.{given}
use Rattle.std.proofs.Common.{Vec}
use Rattle.std.specs.declared.alloc.Global.{Global}
use Rattle.std.specs.Vec.{with_items}
use Rattle.std.proofs.lemmas.List.{with_items_is}
use borrow.Rule.Slice.PartMut.{put_mid, mid_of, post_of}
use lib.Seq.{take-add}

-- the part of a list that begins at a place
pub length-mid : (xs : List ℕ) (to k : ℕ) → to + k ≤ length xs → length (mid_of to k xs) ≡ k
length-mid xs to k within = length-take-le k (drop to xs) (omega (arith, length-drop to xs))

-- the octets up to a place, without those before another
pub range-drop : (xs : List ℕ) (from to : ℕ) → from ≤ to → slice_range xs from to ≡ drop from (take to xs)
range-drop xs from to ordered =
    let parts : to ≡ from + (to - from) = omega arith in
    sym (ap (λ j. drop from (take j xs)) parts ∙ drop-take from (to - from) xs)

-- lists that are the same up to a place have the same octets before it
pub same_range : (xs ys : List ℕ) (from to : ℕ) → from ≤ to → take to xs ≡ take to ys → slice_range xs from to ≡ slice_range ys from to
same_range xs ys from to ordered same = range-drop xs from to ordered ∙ ap (drop from) same ∙ sym (range-drop ys from to ordered)

-- octets were written after the last place, and it moved past the first of them
pub grown : (xs into : List ℕ) (from to k count : ℕ) → from ≤ to → to ≤ length xs → count ≤ length into
    → slice_range (put_mid to k xs into) from (to + count) ≡ slice_range xs from to ++ take count into
grown xs into from to k count ordered within fits =
    let front = length-take-le to xs within in
    let held = drop from (take to xs) in
    let len : length held ≡ to - from = omega (arith, length-drop from (take to xs)) in
    let sum : to + count - from ≡ (to - from) + count = omega arith in
    let same : held ≡ slice_range xs from to = sym (range-drop xs from to ordered) in
    let after = into ++ post_of to k xs in
    ap (take (to + count - from)) (drop-append-le from (take to xs) after (omega arith))
    ∙ ap (λ j. take j (held ++ after)) sum ∙ take-add (to - from) count (held ++ after)
    ∙ (rw (take_at held after _ len, drop_at held after _ len, take-append-le count into (post_of to k xs) fits, same) refl)

-- Room was made after the last place, octets were written there, and the last place moved past the first of them.
pub filled : (v : Vec ℕ Global) (old xs into now : List ℕ) (from to k count : ℕ) → from ≤ to → to + k ≤ length xs → length xs ≡ v.len → length into ≡ k
    → count ≤ k → take to xs ≡ take to old → slice_range old from to ≡ now
    → slice_range (with_items v (put_mid to k xs into)).items from (to + count) ≡ now ++ take count into
filled v old xs into now from to k count ordered within size all fits same is =
    let whole : length (put_mid to k xs into) ≡ v.len =
    simp (length-append, length-take-le to xs (omega arith), length-drop) (omega arith) in
    ap (λ (l : List ℕ). slice_range l from (to + count)) (with_items_is v (put_mid to k xs into) whole)
    ∙ grown xs into from to k count ordered (omega arith) (omega arith)
    ∙ ap (λ (l : List ℕ). l ++ take count into) (same_range xs old from to ordered same ∙ is)

-- none of what was written there counts
pub unfilled : (v : Vec ℕ Global) (old xs into now : List ℕ) (from to k : ℕ) → from ≤ to → to + k ≤ length xs → length xs ≡ v.len → length into ≡ k
    → take to xs ≡ take to old → slice_range old from to ≡ now → slice_range (with_items v (put_mid to k xs into)).items from to ≡ now
unfilled v old xs into now from to k ordered within size all same is =
    let none : to ≡ to + 0 = omega arith in
    ap (slice_range (with_items v (put_mid to k xs into)).items from) none
    ∙ filled v old xs into now from to k 0 ordered within size all (omega arith) same is ∙ append-nil _

-- the first place moved on
pub skipped : (xs : List ℕ) (from to count : ℕ) → from + count ≤ to → slice_range xs (from + count) to ≡ drop count (slice_range xs from to)
skipped xs from to count inside =
    let parts : to - from ≡ count + (to - (from + count)) = omega arith in
    sym (ap (λ j. drop count (take j (drop from xs))) parts ∙ drop-take count _ (drop from xs)
    ∙ ap (take (to - (from + count))) (drop-drop count from xs))

-- a client that gave some octets
pub given_some : (octets : List ℕ) → 0 < length octets → given octets ≡ ClientGave octets
given_some [] some = absurd (omega arith)
given_some (octet ∷ octets) some = refl

-- a client that gave none
pub given_none : (octets : List ℕ) (count : ℕ) → count ≡ 0 → given (take count octets) ≡ ClientEnded
given_none octets count none = ap (λ n. given (take n octets)) none
