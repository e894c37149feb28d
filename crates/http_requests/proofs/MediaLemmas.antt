-- Types as they may stand in a head, by a test and by a definition.
use Rattle.std.proofs.Common.{◌≡◌, ℕ, Bool, true, false, if◌then◌else◌, Option, Some, None, List, [], ◌∷◌, length, nat_lt, ◌&&◌, refl, sym, ap, ◌∙◌, arith}
use Rattle.std.specs.List.{list_all}
use Rattle.std.proofs.lemmas.Bool.{and_parts, lt-ltb}
use Rattle.text_words.proofs.CutLemmas.{each_list_all, list_all_each}
use Rattle.http_service.specs.Responses.{IsMediaText, is_media_octet}
use Rattle.http_requests.specs.Asking.{octet_stream}
use Rattle.http_requests.specs.Responses.{is_media, download_media}

-- what passes the test is a type
pub media_text : (t : List ℕ) → is_media t ≡ true → IsMediaText t
media_text [] is = absurd cc
media_text (c ∷ t) is = (list_all_each is_media_octet (c ∷ t) (and_parts (nat_lt 0 (length (c ∷ t))) (list_all is_media_octet (c ∷ t)) is).1, λ e. cc)

-- and the other way round
pub is_media_text : (t : List ℕ) → IsMediaText t → is_media t ≡ true
is_media_text [] text = absurd (text.1 refl)
is_media_text (c ∷ t) text =
    let some : nat_lt 0 (length (c ∷ t)) ≡ true = lt-ltb 0 (length (c ∷ t)) (omega arith) in
    ap (λ (b : Bool). b && list_all is_media_octet (c ∷ t)) some ∙ each_list_all is_media_octet (c ∷ t) text.0

-- what is answered with is a type
pub download_is_text : (media : Option (List ℕ)) → IsMediaText (download_media media)
download_is_text None = media_text octet_stream refl
download_is_text (Some text) = by (is_media text) refl
  where
    by : (q : Bool) → is_media text ≡ q → IsMediaText (if q then text else octet_stream)
    by true is = media_text text is
    by false is = media_text octet_stream refl

-- a type that is asked for is answered with, and no other text is
pub download_named : (text : List ℕ) → IsMediaText text → text ≡ download_media (Some text)
download_named text is = ap (λ (q : Bool). if q then text else octet_stream) (sym (is_media_text text is))

-- where a text is asked for that is no type, what is answered with is application/octet-stream
pub download_other : (text : List ℕ) → (IsMediaText text → ⊥) → octet_stream ≡ download_media (Some text)
download_other text not = by (is_media text) refl
  where
    by : (q : Bool) → is_media text ≡ q → octet_stream ≡ (if q then text else octet_stream)
    by true is = absurd (not (media_text text is))
    by false is = refl
