-- Fields are one header of a part.
use Rattle.std.proofs.Common.{◌≡◌, ℕ, true, false, List, [], ◌∷◌, ◌++◌, refl, sym, ap, ◌∙◌, subst, Option, Some, None}
use Rattle.std.specs.Prelude.{codes}
use Rattle.std.specs.Option.{option_and_then}
use Rattle.std.proofs.lemmas.List.{append_cancel_right}
use Rattle.header_words.specs.OneLine.{one_line}
use Rattle.header_words.proofs.WordLemmas.{one_text}
use Rattle.header_tokens.specs.declared.token.Alphabet.TheVariants as alphabet
use Rattle.mail_header.specs.Fields.{NameAndRaw, last_named}
use Rattle.mail_header.specs.WhiteEnd.{some_text}
use Rattle.mail_header.specs.RawForms.{raw_form}
use Rattle.header_tokens.specs.Tokens.{Spelled}
use Rattle.header_tokens.proofs.LeadingLemmas.{one_leading_lexemes}
use Rattle.mime_fields.specs.declared.header.PartHeader.{PartHeader}
use Rattle.mime_fields.proofs.IdLemmas.{one_kept}
use Rattle.mime_fields.proofs.EnclosedLemmas.{one_enclosed}
use Rattle.mime_fields.specs.ContentIds.{IsWithoutGaps, IsWithoutAngles, InAngles, Bare, IsContentId, Enclosed, Loose}
use Rattle.mime_fields.proofs.ParameterLemmas.{one_has, one_unfolded, one_media, one_kind}
use Rattle.mime_fields.specs.ContentTypes.{charset_text}
use Rattle.mime_fields.specs.Dispositions.{IsWrittenName, IsFileName, Extended, OfFile, OfType}
use Rattle.mime_fields.specs.ExtendedValues.{extended_name}
use Rattle.mime_fields.specs.Parameters.{trimmed}
use Rattle.mime_fields.specs.PartHeaders.{field_octets, HasLexemes, IsTrimmedTextOf, IsIdOf, mechanism, IsPartHeader}

one_lexemes : (f : List NameAndRaw) (name : List ℕ) (x y : List Spelled) → HasLexemes f name x → HasLexemes f name y → x ≡ y
one_lexemes f name x y g h = one_leading_lexemes alphabet.Mime x y (field_octets f name) g h

one_written : (written x y : Option (List ℕ)) → IsWrittenName written x → IsWrittenName written y → x ≡ y
one_written None x y g h = g ∙ sym h
one_written (Some w) x y g h = g.2 ∙ ap some_text (one_text false (one_line (raw_form w)) g.0 h.0 g.1 h.1) ∙ sym h.2

one_name : (extended file type_name x y : Option (List ℕ)) → IsFileName extended file type_name x → IsFileName extended file type_name y → x ≡ y
one_name _ _ _ _ _ (Extended n f t) (Extended m _ _) = refl
one_name _ _ _ _ _ (OfFile n f t g) (OfFile m _ _ h) = one_written f (Some n) (Some m) g h
one_name _ _ _ _ _ (OfFile n f t g) (OfType _ _ y h k) = let e = one_written f (Some n) None g h in absurd cc
one_name _ _ _ _ _ (OfType f t x g i) (OfFile m _ _ h) = let e = one_written f None (Some m) g h in absurd cc
one_name _ _ _ _ _ (OfType f t x g i) (OfType _ _ y h k) = one_written t x y i k

one_trimmed : (raw x y : Option (List ℕ)) → IsTrimmedTextOf raw x → IsTrimmedTextOf raw y → x ≡ y
one_trimmed None x y g h = g ∙ sym h
one_trimmed (Some r) x y g h = g.2 ∙ ap (λ (u : List ℕ). Some (trimmed u)) (one_text false _ g.0 h.0 g.1 h.1) ∙ sym h.2

one_inner : (x y t u : List ℕ) → t ≡ u → IsWithoutAngles x t → IsWithoutAngles y u → x ≡ y
one_inner _ _ _ _ e (InAngles x) (InAngles y) = let p : x ++ 62 ∷ [] ≡ y ++ 62 ∷ [] = cc in append_cancel_right x y (62 ∷ []) p
one_inner _ _ _ _ e (InAngles x) (Bare u n) = absurd (n x (sym e))
one_inner _ _ _ _ e (Bare t n) (InAngles y) = absurd (n y e)
one_inner _ _ _ _ e (Bare t n) (Bare u m) = e

one_content_id : (raw : List ℕ) (x y : Option (List ℕ)) → IsContentId raw x → IsContentId raw y → x ≡ y
one_content_id raw _ _ (Enclosed i x g a) (Enclosed j y h b) =
    let P : List ℕ → Type 0 = λ u. IsWithoutGaps false x u in
    ap some_text (one_kept false x y j (subst P (one_enclosed i j (raw_form raw) g h) a) b)
one_content_id raw _ _ (Enclosed i x g a) (Loose l y m b v) = absurd (m i g)
one_content_id raw _ _ (Loose k x n a u) (Enclosed j y h b) = absurd (n j h)
one_content_id raw _ _ (Loose k x n a u) (Loose l y m b v) = ap some_text (one_inner x y k l (one_kept true k l (raw_form raw) a b) u v)

one_id : (raw x y : Option (List ℕ)) → IsIdOf raw x → IsIdOf raw y → x ≡ y
one_id None x y g h = g ∙ sym h
one_id (Some r) x y g h = one_content_id r x y g h

record_same : (m b c d n i l p e m' b' c' d' n' i' l' p' e' : Option (List ℕ))
    → m ≡ m' → b ≡ b' → c ≡ c' → d ≡ d' → n ≡ n' → i ≡ i' → l ≡ l' → p ≡ p' → e ≡ e'
    → ◌≡◌ {A = PartHeader} (record { media = m; boundary = b; charset = c; disposition = d; name = n; cid = i; language = l; location = p; encoding = e })
    (record { media = m'; boundary = b'; charset = c'; disposition = d'; name = n'; cid = i'; language = l'; location = p'; encoding = e' })
record_same m b c d n i l p e m' b' c' d' n' i' l' p' e' q1 q2 q3 q4 q5 q6 q7 q8 q9 = cc

-- two headers of a part that the same fields give are the same
pub one_part_header : (f : List NameAndRaw) (g h : PartHeader) → IsPartHeader f g → IsPartHeader f h → g ≡ h
one_part_header f g h i j =
    let t = field_octets f (codes "content-type") in
    let d = field_octets f (codes "content-disposition") in
    let e = one_lexemes f (codes "content-transfer-encoding") i.transfer_encoding j.transfer_encoding i.has_transfer_encoding j.has_transfer_encoding in
    let x = one_has (codes "filename*") d i.extended_octets j.extended_octets i.has_extended j.has_extended in
    let y = one_has (codes "filename") d i.file j.file i.has_file j.has_file in
    let z = one_has (codes "name") t i.type_name j.type_name i.has_type_name j.has_type_name in
    let n = subst (λ (u : Option (List ℕ)). IsFileName (option_and_then extended_name u) i.file i.type_name g.name) x i.name in
    let m = subst (λ (u : Option (List ℕ)). IsFileName (option_and_then extended_name j.extended_octets) u i.type_name g.name) y n in
    let o = subst (λ (u : Option (List ℕ)). IsFileName (option_and_then extended_name j.extended_octets) j.file u g.name) z m in
    record_same _ _ _ _ _ _ _ _ _ _ _ _ _ _ _ _ _ _
    (one_media t g.media h.media i.media j.media)
    (one_unfolded (codes "boundary") t g.boundary h.boundary i.boundary j.boundary)
    (i.charset ∙ ap (option_and_then charset_text) (one_unfolded (codes "charset") t i.charset_octets j.charset_octets i.has_charset j.has_charset) ∙ sym j.charset)
    (one_kind d g.disposition h.disposition i.disposition j.disposition)
    (one_name _ _ _ g.name h.name o j.name)
    (one_id _ g.cid h.cid i.cid j.cid)
    (i.language ∙ sym j.language)
    (one_trimmed _ g.location h.location i.location j.location)
    (i.encoding ∙ ap (mechanism (last_named (codes "content-transfer-encoding") f)) e ∙ sym j.encoding)
