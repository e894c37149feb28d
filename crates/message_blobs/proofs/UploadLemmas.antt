-- The id of an upload is lower-case hexadecimal digits behind its letter.
use Rattle.std.proofs.Common.{arith, ◌≡◌, ℕ, zero, suc, ◌/◌, ◌%◌, ◌<◌, Bool, true, List, [], ◌∷◌, ◌++◌, length, get_or, refl, sym}
use Rattle.std.specs.Prelude.{slice_index}
use Rattle.std.specs.Int.{w32, byte_at, bytes_high_first, to_be_bytes}
use Rattle.std.proofs.lemmas.List.{append-nil}
use Rattle.hex.specs.Hex.{encode_with, encode_lower, lower_digits}
use Rattle.hex.proofs.HexLemmas.{length-encode_with}
use Rattle.sha2.specs.Sha256.{sha256, digest_bytes}
use Rattle.sha2.proofs.Facts256.{length-sha256}
use Rattle.text_words.specs.Cuts.{Each}
use Rattle.text_words.proofs.CutLemmas.{list_all_each}
use Rattle.blob_store.specs.Uploads.{blob_id}
use Rattle.message_blobs.specs.BlobIds.{OfUpload, is_lower_hex, IsUploadId, IsBlobId}

-- ---- the octets of a digest

abbrev AreBytes : List ℕ → Type 0
AreBytes [] = Unit {0}
AreBytes (b ∷ bs) = (b < 256) × AreBytes bs

byte_below : (i n : ℕ) → byte_at i n < 256
byte_below zero n = omega arith
byte_below (suc i) n = omega arith

word_bytes : (k n : ℕ) → AreBytes (bytes_high_first k n)
word_bytes zero n = tt
word_bytes (suc k) n = (byte_below k n, word_bytes k n)

both_bytes : (xs ys : List ℕ) → AreBytes xs → AreBytes ys → AreBytes (xs ++ ys)
both_bytes [] ys g h = h
both_bytes (x ∷ xs) ys g h = (g.0, both_bytes xs ys g.1 h)

digest_is_bytes : (hash : List ℕ) (n : ℕ) → AreBytes (digest_bytes hash n)
unfolding digest_bytes
digest_is_bytes hash zero = tt
digest_is_bytes hash (suc n) = both_bytes (digest_bytes hash n) (to_be_bytes w32 (slice_index hash n)) (digest_is_bytes hash n) (word_bytes 4 (slice_index hash n))

sha_is_bytes : (octets : List ℕ) → AreBytes (sha256 octets)
unfolding sha256
sha_is_bytes octets = digest_is_bytes _ 8

-- ---- their digits

each_at : (p : ℕ → Bool) (xs : List ℕ) (i : ℕ) → Each p xs → i < length xs → p (get_or xs i 0) ≡ true
each_at p [] i e lt = absurd (omega arith)
each_at p (x ∷ xs) zero e lt = e.0
each_at p (x ∷ xs) (suc i) e lt = each_at p xs i e.1 (omega arith)

digit_is_hex : (d : ℕ) → d < 16 → is_lower_hex (slice_index lower_digits d) ≡ true
digit_is_hex d lt = each_at is_lower_hex lower_digits d (list_all_each is_lower_hex lower_digits refl) lt

digits_are_hex : (bs : List ℕ) → AreBytes bs → Each is_lower_hex (encode_with lower_digits bs)
unfolding encode_with
digits_are_hex [] h = tt
digits_are_hex (b ∷ bs) h = let high : b / 16 < 16 = omega (arith, h.0) in (digit_is_hex (b / 16) high, (digit_is_hex (b % 16) (omega arith), digits_are_hex bs h.1))

upload_id : (octets : List ℕ) → IsUploadId (blob_id octets)
unfolding blob_id
upload_id octets = record {
  digits = encode_lower (sha256 octets);
  whole = refl;
  counted = omega (arith, length-encode_with lower_digits (sha256 octets), length-sha256 octets);
  are_lower_hex = digits_are_hex (sha256 octets) (sha_is_bytes octets);
}

-- the id of an upload is a blob id
pub upload_blob_id : (octets : List ℕ) → IsBlobId (OfUpload (blob_id octets)) [] (blob_id octets)
upload_blob_id octets = record { spelled = sym (append-nil (blob_id octets)); is_root = upload_id octets; are_numbers = tt; few = omega arith }
