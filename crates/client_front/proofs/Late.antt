-- Each look at a client that is late is one of few.
use Rattle.std.proofs.Common.{◌≡◌, ◌+◌, ◌<◌, ◌++◌, ℕ, zero, suc, Bool, true, false, List, [], ◌∷◌, arith, ap, refl, ◌∙◌, inl, inr, if◌then◌else◌}
use Rattle.std.specs.Prelude.{Option, None, Some, ◌==◌}
use Rattle.client_front.specs.FirstOctet.{can_begin}
use Rattle.client_front.specs.Scanning.{coming, scanned}
use Rattle.client_front.specs.Waiting.{Becomes, Held, LateBecomes, Leaves, LooksAtLate, Place, Shows, read_on}
use Rattle.client_front.specs.declared.scan.Coming.{Coming}
use Rattle.client_front.specs.declared.scan.Coming.TheVariants.{Nothing, Part, Whole, Never}
use Rattle.client_front.specs.declared.scan.Scan.{Scan}
use Rattle.client_front.specs.declared.waiting.Idle.{Idle}

-- a client may be late once before its first octets are seen, and once after it
abbrev pub looks_of : ℕ → ℕ
looks_of zero = 2
looks_of (suc seen) = 1

abbrev pub awaited : {S : Type 0} → List (Idle S) → ℕ
awaited [] = 0
awaited (client ∷ clients) = looks_of client.scan.seen + awaited clients

looks-some : (seen : ℕ) → 0 < looks_of seen
looks-some zero = omega arith
looks-some (suc seen) = omega arith

looks-once : (seen : ℕ) → 0 < seen → looks_of seen ≡ 1
looks-once zero some = absurd (omega (arith, some))
looks-once (suc seen) some = refl

-- how many octets a look has seen of the part that it shows
abbrev pub seen_of : Coming → ℕ
seen_of (Part scan) = scan.seen
seen_of it = 1

seen-either : (begins ends : Bool) (scan : Scan) → 0 < scan.seen → 0 < seen_of (if begins then (if ends then Whole else Part scan) else Never)
seen-either true true scan some = omega arith
seen-either true false scan some = some
seen-either false true scan some = omega arith
seen-either false false scan some = omega arith

-- a look that shows a part of a head has seen some of it
seen-some : (scan : Scan) (shown : Option (List ℕ)) → 0 < seen_of (coming scan shown)
seen-some scan None = omega arith
seen-some scan (Some []) = omega arith
seen-some scan (Some (octet ∷ octets)) = seen-either (can_begin octet) _ (scanned (octet ∷ octets) scan) (omega arith)

module _ {S : Type 0} where
  awaited-append : (before after : List (Idle S)) → awaited (before ++ after) ≡ awaited before + awaited after
  awaited-append [] after = omega arith
  awaited-append (client ∷ before) after = let rest = awaited-append before after in omega (arith, rest)

  scan-either : (unseen : Bool) (now : ℕ) (scan : Scan) (client : Idle S)
      → (if unseen then record client { scan = scan; due = now } else record client { scan = scan }).scan ≡ scan
  scan-either true now scan client = refl
  scan-either false now scan client = refl

  -- one that leaves is awaited no longer
  leaves-fewer : (closes : S → Type 0) (asks : Bool) (old new : Held S) (place : Place old.idle) → Leaves closes asks old place new
      → awaited new.idle < awaited old.idle
  leaves-fewer closes asks old new place leaves =
      let is : awaited new.idle ≡ awaited place.before + awaited place.after = ap (λ (h : Held S). awaited h.idle) leaves.0 ∙ awaited-append place.before place.after in
      let was : awaited old.idle ≡ awaited place.before + (looks_of place.client.scan.seen + awaited place.after) =
      ap awaited place.whole ∙ awaited-append place.before (place.client ∷ place.after) in
      let some = looks-some place.client.scan.seen in
      omega (arith, is, was, some)

  -- one of which the first octets are seen may be late once more
  noted-fewer : (closes : S → Type 0) (now : ℕ) (scan : Scan) (old new : Held S) (place : Place old.idle) → place.client.scan.seen ≡ 0 → 0 < scan.seen
      → Becomes closes now old place (Part scan) new → awaited new.idle < awaited old.idle
  noted-fewer closes now scan old new place unseen some becomes =
      let noted = read_on now scan place.client in
      let is : awaited new.idle ≡ awaited place.before + (looks_of noted.scan.seen + awaited place.after) =
      ap (λ (h : Held S). awaited h.idle) becomes ∙ awaited-append place.before (noted ∷ place.after) in
      let was : awaited old.idle ≡ awaited place.before + (looks_of place.client.scan.seen + awaited place.after) =
      ap awaited place.whole ∙ awaited-append place.before (place.client ∷ place.after) in
      let once : looks_of noted.scan.seen ≡ 1 =
      ap (λ (s : Scan). looks_of s.seen) (scan-either (place.client.scan.seen == 0) _ scan place.client) ∙ looks-once scan.seen some in
      let twice : looks_of place.client.scan.seen ≡ 2 = ap looks_of unseen in
      omega (arith, is, was, once, twice)

  module _ (shows : S → ℕ → Option (List ℕ) → Type 0) (closes : S → Type 0) where
    became-fewer : (now : ℕ) (old new : Held S) (place : Place old.idle) (it : Coming) → Shows shows place it → LateBecomes closes now old place it new
        → awaited new.idle < awaited old.idle
    became-fewer now old new place Nothing shown becomes = leaves-fewer closes false old new place becomes
    became-fewer now old new place (Part scan) shown (inl noted) =
        let is : scan.seen ≡ seen_of (coming place.client.scan shown.0) = ap seen_of shown.2 in
        let some = seen-some place.client.scan shown.0 in
        noted-fewer closes now scan old new place noted.0 (omega (arith, is, some)) noted.1
    became-fewer now old new place (Part scan) shown (inr closed) = leaves-fewer closes false old new place closed.1
    became-fewer now old new place Whole shown becomes = leaves-fewer closes true old new place becomes
    became-fewer now old new place Never shown becomes = leaves-fewer closes false old new place becomes

    -- after each look fewer are awaited
    pub fewer-awaited : (now : ℕ) (old new : Held S) → LooksAtLate shows closes now old new → awaited new.idle < awaited old.idle
    fewer-awaited now old new looked = became-fewer now old new looked.place looked.it looked.shown looked.becomes
