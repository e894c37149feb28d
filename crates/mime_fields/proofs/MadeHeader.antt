-- What was read of the fields is the header of a part.
use Rattle.std.proofs.Common.{◌≡◌, ℕ, List, Option, subst}
use Rattle.std.specs.Prelude.{codes}
use Rattle.std.specs.Option.{option_map}
use Rattle.header_tokens.specs.declared.token.Alphabet.TheVariants as alphabet
use Rattle.mail_header.specs.Fields.{NameAndRaw, last_named}
use Rattle.mail_header.specs.RawForms.{raw_form}
use Rattle.header_tokens.proofs.LexemeLemmas.{lexemes_are}
use Rattle.mime_fields.specs.declared.content_type.ContentType.{ContentType}
use Rattle.mime_fields.specs.declared.disposition.Disposition.{Disposition}
use Rattle.mime_fields.specs.ContentTypes.{IsContentType}
use Rattle.mime_fields.specs.Dispositions.{IsDisposition, IsFileName}
use Rattle.mime_fields.specs.PartHeaders.{field_octets, IsTrimmedTextOf, IsIdOf, mechanism, IsPartHeader}
use Rattle.mime_fields.specs.reading.MimeLexemes.{mime_lexemes}

-- what was read of the fields of a part, value by value, is the part's header
pub made : (f : List NameAndRaw) (ct cd : List ℕ) (content : ContentType) (d : Disposition) (name cid language location encoding : Option (List ℕ))
    → ct ≡ field_octets f (codes "content-type") → cd ≡ field_octets f (codes "content-disposition")
    → IsContentType ct content → IsDisposition cd d → IsFileName d.extended d.file content.name name
    → IsIdOf (last_named (codes "content-id") f) cid → language ≡ option_map raw_form (last_named (codes "content-language") f)
    → IsTrimmedTextOf (last_named (codes "content-location") f) location
    → encoding ≡ mechanism (last_named (codes "content-transfer-encoding") f) (mime_lexemes (field_octets f (codes "content-transfer-encoding")))
    → IsPartHeader f (record {
      media = content.media;
      boundary = content.boundary;
      charset = content.charset;
      disposition = d.kind;
      name = name;
      cid = cid;
      language = language;
      location = location;
      encoding = encoding;
    })
made f ct cd content d name cid language location encoding et ed c i n id l p e =
    let C : List ℕ → Type 0 = λ t. IsContentType t content in
    let D : List ℕ → Type 0 = λ t. IsDisposition t d in
    let k = subst C et c in
    let j = subst D ed i in
    let E : Option (List ℕ) → Type 0 = λ x. IsFileName x d.file content.name name in
    record {
      media = k.media;
      boundary = k.boundary;
      charset_octets = k.charset_octets;
      has_charset = k.has_charset;
      charset = k.charset;
      disposition = j.kind;
      extended_octets = j.extended_octets;
      has_extended = j.has_extended;
      file = d.file;
      has_file = j.file;
      type_name = content.name;
      has_type_name = k.name;
      name = subst E j.extended n;
      cid = id;
      language = l;
      location = p;
      transfer_encoding = mime_lexemes (field_octets f (codes "content-transfer-encoding"));
      has_transfer_encoding = lexemes_are alphabet.Mime (field_octets f (codes "content-transfer-encoding"));
      encoding = e;
    }
