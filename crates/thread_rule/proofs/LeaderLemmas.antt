-- Leaders at the front of a text.
use Rattle.std.proofs.Common.{◌≡◌, ℕ, ◌<◌, false, List, [], ◌∷◌, ◌++◌, length, refl, sym, ap, ◌∙◌, subst, append_assoc, arith}
use Rattle.std.proofs.lemmas.List.{length-append}
use Rattle.text_words.specs.Cuts.{Stops}
use Rattle.text_words.specs.Octets.{is_blank}
use Rattle.thread_rule.specs.Subject.{IsWsp, IsBlob, IsReplyMark, IsMarkBehindBlobs, Mark, BehindBlob, IsLeader, Marked, BlankAtFront}
use Rattle.thread_rule.specs.BaseSubject.{Drops, DropsBlob, Lacks}
use Rattle.thread_rule.proofs.BlobLemmas.{word_letters, no_blank_letter, blob_whole, one_blob, one_mark, mark_is_no_blob}

-- a text that begins with a reply mark doesn't begin with white space
pub mark_stops : (m t : List ℕ) → IsReplyMark m → Stops is_blank (m ++ t)
mark_stops m t i =
    let l = word_letters i.word i.reply in
    let e : m ++ t ≡ l.first ∷ ((l.more ++ (i.gap ++ (i.blob ++ 58 ∷ []))) ++ t) =
    ap (λ (u : List ℕ). u ++ t) (i.whole ∙ ap (λ (u : List ℕ). u ++ (i.gap ++ (i.blob ++ 58 ∷ []))) l.whole) in
    let P : List ℕ → Type 0 = λ u. Stops is_blank u in
    subst P (sym e) (no_blank_letter l.first l.letter)

-- a text that begins with a reply mark, or with blobs and a reply mark, doesn't begin with white space
pub marked_stops : (m t : List ℕ) → IsMarkBehindBlobs m → Stops is_blank (m ++ t)
marked_stops _ t (Mark m i) = mark_stops m t i
marked_stops _ t (BehindBlob b x i k) =
    let P : List ℕ → Type 0 = λ u. Stops is_blank u in
    subst P (sym (append_assoc b x t ∙ blob_whole b (x ++ t) i)) refl

-- a blob that stands before a mark is dropped up to what follows it
pub blob_before : (s b x t : List ℕ) → s ≡ (b ++ x) ++ t → IsBlob b → IsMarkBehindBlobs x → DropsBlob s (x ++ t)
blob_before s b x t e i k = record { drops = record { piece = b; whole = e ∙ append_assoc b x t; is = i }; stops = marked_stops x t k }

-- a blob at the front changes nothing of the mark after it
pub marked_behind : (s u t : List ℕ) → DropsBlob s u → Drops IsMarkBehindBlobs u t → Drops IsMarkBehindBlobs s t
marked_behind s u t d e = record {
  piece = d.drops.piece ++ e.piece;
  whole = d.drops.whole ∙ ap (λ (x : List ℕ). d.drops.piece ++ x) e.whole ∙ sym (append_assoc d.drops.piece e.piece t);
  is = BehindBlob d.drops.piece e.piece d.drops.is e.is;
}

-- where a blob is dropped, a reply mark after blobs can still be dropped, and leaves the same text
pub marked_past : (s u t : List ℕ) → DropsBlob s u → Drops IsMarkBehindBlobs s t → Drops IsMarkBehindBlobs u t
marked_past s u t d e = by e.piece e.is e.whole
  where
    by : (p : List ℕ) → IsMarkBehindBlobs p → s ≡ p ++ t → Drops IsMarkBehindBlobs u t
    by _ (Mark p m) w = absurd (mark_is_no_blob s t u (record { piece = p; whole = w; is = m }) d)
    by _ (BehindBlob b x i k) w = record { piece = x; whole = one_blob s u (x ++ t) d (blob_before s b x t w i k); is = k }

-- a reply mark at the front is one with no blob before it
pub mark_alone : (s t : List ℕ) → Drops IsReplyMark s t → Drops IsMarkBehindBlobs s t
mark_alone s t d = record { piece = d.piece; whole = d.whole; is = Mark d.piece d.is }

-- where no blob stands at the front, the mark does
pub marked_alone : (s t : List ℕ) → Lacks DropsBlob s → Drops IsMarkBehindBlobs s t → Drops IsReplyMark s t
marked_alone s t l d = by d.piece d.is d.whole
  where
    by : (p : List ℕ) → IsMarkBehindBlobs p → s ≡ p ++ t → Drops IsReplyMark s t
    by _ (Mark p m) w = record { piece = p; whole = w; is = m }
    by _ (BehindBlob b x i k) w = absurd (l (x ++ t) (blob_before s b x t w i k))

-- dropping a reply mark with the blobs before it leaves one text
pub one_marked : (p : List ℕ) → IsMarkBehindBlobs p → (s t u : List ℕ) → s ≡ p ++ t → Drops IsMarkBehindBlobs s u → t ≡ u
one_marked _ (Mark p m) s t u w e =
    let d : Drops IsReplyMark s t = record { piece = p; whole = w; is = m } in
    one_mark s t u d (marked_alone s u (λ x b. mark_is_no_blob s t x d b) e)
one_marked _ (BehindBlob b x i k) s t u w e =
    one_marked x k (x ++ t) t u refl (marked_past s (x ++ t) u (blob_before s b x t w i k) e)

-- no text begins with white space and a mark
pub blank_is_no_mark : (s t u : List ℕ) → Drops IsWsp s t → Drops IsMarkBehindBlobs s u → ⊥
blank_is_no_mark s t u d e =
    let w = d.is in
    let P : List ℕ → Type 0 = λ x. Stops is_blank x in
    let k : is_blank w.octet ≡ false = subst P (sym e.whole ∙ d.whole ∙ ap (λ (x : List ℕ). x ++ t) w.whole) (marked_stops e.piece u e.is) in
    let y = w.blank in
    absurd cc

-- dropping one octet of white space at the front leaves one text
pub one_wsp : (s t u : List ℕ) → Drops IsWsp s t → Drops IsWsp s u → t ≡ u
one_wsp s t u d e =
    let p = d.whole ∙ ap (λ (x : List ℕ). x ++ t) d.is.whole in
    let q = e.whole ∙ ap (λ (x : List ℕ). x ++ u) e.is.whole in
    cc

-- an octet of white space at the front is a leader
pub leader_of_wsp : (s t : List ℕ) → Drops IsWsp s t → Drops IsLeader s t
leader_of_wsp s t d = record { piece = d.piece; whole = d.whole; is = BlankAtFront d.is }

-- a reply mark at the front, with the blobs before it, is a leader
pub leader_of_mark : (s t : List ℕ) → Drops IsMarkBehindBlobs s t → Drops IsLeader s t
leader_of_mark s t d = record { piece = d.piece; whole = d.whole; is = Marked d.is }

-- no leader stands where neither white space nor a mark does
pub no_leader : (s : List ℕ) → Lacks (Drops IsWsp) s → Lacks (Drops IsMarkBehindBlobs) s → Lacks (Drops IsLeader) s
no_leader s a b t d = by d.is
  where
    by : IsLeader d.piece → ⊥
    by (Marked m) = b t (record { piece = d.piece; whole = d.whole; is = m })
    by (BlankAtFront w) = a t (record { piece = d.piece; whole = d.whole; is = w })

-- a text has one leader at most
pub one_leader : (s t u : List ℕ) → Drops IsLeader s t → Drops IsLeader s u → t ≡ u
one_leader s t u d e = by d.is e.is
  where
    by : IsLeader d.piece → IsLeader e.piece → t ≡ u
    by (Marked m) (Marked k) = one_marked d.piece m s t u d.whole (record { piece = e.piece; whole = e.whole; is = k })
    by (Marked m) (BlankAtFront w) = absurd (blank_is_no_mark s u t (record { piece = e.piece; whole = e.whole; is = w }) (record { piece = d.piece; whole = d.whole; is = m }))
    by (BlankAtFront w) (Marked k) = absurd (blank_is_no_mark s t u (record { piece = d.piece; whole = d.whole; is = w }) (record { piece = e.piece; whole = e.whole; is = k }))
    by (BlankAtFront w) (BlankAtFront v) = one_wsp s t u (record { piece = d.piece; whole = d.whole; is = w }) (record { piece = e.piece; whole = e.whole; is = v })

-- a leader isn't empty
pub mark_some : (m : List ℕ) → IsReplyMark m → 0 < length m
mark_some m i =
    let l = word_letters i.word i.reply in
    omega (arith, ap length i.whole, length-append i.word (i.gap ++ (i.blob ++ 58 ∷ [])), ap length l.whole)

-- a reply mark with the blobs before it isn't empty
pub marked_some : (m : List ℕ) → IsMarkBehindBlobs m → 0 < length m
marked_some _ (Mark m i) = mark_some m i
marked_some _ (BehindBlob b x i k) = omega (arith, length-append b x, marked_some x k)

-- no leader is empty, be it a mark or white space
pub leader_some : (m : List ℕ) → IsLeader m → 0 < length m
leader_some m (Marked i) = marked_some m i
leader_some m (BlankAtFront w) = omega (arith, ap length w.whole)

-- what is left when a leader is dropped is shorter than the text
pub leader_shorter : (s t : List ℕ) → Drops IsLeader s t → length t < length s
leader_shorter s t d = omega (arith, ap length d.whole, length-append d.piece t, leader_some d.piece d.is)

-- a text without leader has none after a blob
pub lacks_leader_behind : (s t : List ℕ) → DropsBlob s t → Lacks (Drops IsLeader) s → Lacks (Drops IsLeader) t
lacks_leader_behind s t d l u e = by e.is
  where
    by : IsLeader e.piece → ⊥
    by (Marked m) = l u (leader_of_mark s u (marked_behind s t u d (record { piece = e.piece; whole = e.whole; is = m })))
    by (BlankAtFront w) =
        let P : List ℕ → Type 0 = λ x. Stops is_blank x in
        let k : is_blank w.octet ≡ false = subst P (e.whole ∙ ap (λ (x : List ℕ). x ++ u) w.whole) d.stops in
        let y = w.blank in
        absurd cc
