-- Two messages by hand, of which the definitions give the octets: a plain one (RFC 5322), and one with an alternative and what is attached (RFC 2046, 2183).
use Rattle.std.proofs.Common.{◌≡◌, true, List, [], ◌∷◌, codes, refl, Some, None}
use Rattle.base64.specs.Rfc4648.{encode_symbols}
use Rattle.mail_drafts.specs.declared.attachment.Attachment.{Attachment}
use Rattle.message_lines.specs.Bodies.{base64_lines, in_lines, lines_of_76, with_crlf}
use Rattle.percent_encoding.specs.AsciiSet.{should_percent_encode}
use Rattle.percent_encoding.specs.Percent.{percent_encode, percent_encode_byte}
use Rattle.std.specs.Str.{chars, is_utf8}
use Rattle.text_words.specs.Cuts.{back, front}
use Rattle.message_lines.specs.Folding.{Field, field, laid}
use Rattle.message_texts.specs.Messages.{with_fields}
use Rattle.message_texts.specs.Parts.{alternative, attachment_leaf, disposition_field, entity_text, mixed, shown_part, text_leaf, whole_part}

abbrev fields : List Field
fields =
    field (codes "Date") (codes "Tue, 02 Jan 2024 09:00:00 +0000" ∷ []) ∷ field (codes "From") (codes "alice@example.org" ∷ [])
    ∷ field (codes "Subject") (codes "Hi" ∷ []) ∷ field (codes "Message-ID") (codes "<d1@example.org>" ∷ []) ∷ []

-- the value is "Yo" and LF
plain : entity_text (with_fields fields (whole_part (shown_part (Some (codes "Yo\n")) None) []))
    ≡ codes "Date: Tue, 02 Jan 2024 09:00:00 +0000\r\nFrom: alice@example.org\r\nSubject: Hi\r\nMessage-ID: <d1@example.org>\r\nMIME-Version: 1.0\r\nContent-Type: text/plain; charset=utf-8\r\nContent-Transfer-Encoding: base64\r\n\r\nWW8NCg==\r\n"
unfolding laid base64_lines in_lines lines_of_76 with_crlf encode_symbols text_leaf
plain = refl

abbrev picture : Attachment
unfolding front back is_utf8 chars lib.Utf8.encode
picture = record {
  bytes = 1 ∷ 2 ∷ [];
  media = codes "image/png";
  charset = None;
  name = Some (codes "a.b");
  cid = Some (codes "c@d");
  inline = true;
  media_is = refl;
  charset_is = refl;
  name_is = refl;
  cid_is = refl;
}

whole : entity_text (with_fields (field (codes "Subject") (codes "Hi" ∷ []) ∷ []) (whole_part (shown_part (Some (codes "Yo\n")) (Some (codes "<b>"))) (picture ∷ [])))
    ≡ codes "Subject: Hi\r\nMIME-Version: 1.0\r\nContent-Type: multipart/mixed; boundary=_a\r\n\r\n--_a\r\nContent-Type: multipart/alternative; boundary=_b\r\n\r\n--_b\r\nContent-Type: text/plain; charset=utf-8\r\nContent-Transfer-Encoding: base64\r\n\r\nWW8NCg==\r\n--_b\r\nContent-Type: text/html; charset=utf-8\r\nContent-Transfer-Encoding: base64\r\n\r\nPGI+\r\n--_b--\r\n--_a\r\nContent-Type: image/png\r\nContent-Transfer-Encoding: base64\r\nContent-Disposition: inline; filename*=utf-8''a%2Eb\r\nContent-ID: <c@d>\r\n\r\nAQI=\r\n--_a--\r\n"
unfolding front back is_utf8 chars lib.Utf8.encode laid base64_lines in_lines lines_of_76 with_crlf encode_symbols text_leaf alternative mixed attachment_leaf disposition_field percent_encode percent_encode_byte should_percent_encode
whole = refl
