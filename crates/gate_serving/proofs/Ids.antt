-- Ids of uploads are texts.
use Rattle.std.proofs.Common.{◌≡◌, [], ◌∷◌, ℕ, List, arith, codes}
use Rattle.std.specs.Str.Lossy.{utf8_lossy}
use Rattle.std.proofs.lemmas.Str.{utf8_lossy-IsUtf8, IsUtf8-from_ascii}
use Rattle.std.proofs.lemmas.Str.Ascii.{IsAscii-cons, IsAscii-nil}
use Rattle.std.specs.Str.{IsAscii}
use Rattle.blob_store.specs.Uploads.{blob_id}
use Rattle.hex.specs.Hex.{encode_lower, lower_digits}
use Rattle.hex.proofs.HexLemmas.{IsAscii-encode_with}
use Rattle.sha2.specs.Sha256.{sha256}

digits_are_ascii : IsAscii lower_digits
digits_are_ascii =
    IsAscii-cons 48 (codes "123456789abcdef") (omega arith) (IsAscii-cons 49 (codes "23456789abcdef") (omega arith)
    (IsAscii-cons 50 (codes "3456789abcdef") (omega arith) (IsAscii-cons 51 (codes "456789abcdef") (omega arith)
    (IsAscii-cons 52 (codes "56789abcdef") (omega arith) (IsAscii-cons 53 (codes "6789abcdef") (omega arith)
    (IsAscii-cons 54 (codes "789abcdef") (omega arith) (IsAscii-cons 55 (codes "89abcdef") (omega arith)
    (IsAscii-cons 56 (codes "9abcdef") (omega arith) (IsAscii-cons 57 (codes "abcdef") (omega arith)
    (IsAscii-cons 97 (codes "bcdef") (omega arith) (IsAscii-cons 98 (codes "cdef") (omega arith)
    (IsAscii-cons 99 (codes "def") (omega arith) (IsAscii-cons 100 (codes "ef") (omega arith)
    (IsAscii-cons 101 (codes "f") (omega arith) (IsAscii-cons 102 [] (omega arith) IsAscii-nil)))))))))))))))

-- the id of an upload is a text of UTF-8 as it stands
pub id_is_text : (octets : List ℕ) → utf8_lossy (blob_id octets) ≡ blob_id octets
unfolding blob_id
id_is_text octets = utf8_lossy-IsUtf8 (117 ∷ encode_lower (sha256 octets)) (IsUtf8-from_ascii (117 ∷ encode_lower (sha256 octets))
    (IsAscii-cons 117 (encode_lower (sha256 octets)) (omega arith) (IsAscii-encode_with lower_digits (sha256 octets) digits_are_ascii)))
