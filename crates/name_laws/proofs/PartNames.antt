-- No name of a part has a control character.
use Rattle.std.proofs.Common.{ℕ, false, List, sym, subst, Option, Some, None}
use Rattle.std.specs.Option.{option_and_then}
use Rattle.header_words.specs.OneLine.{one_line}
use Rattle.header_words.specs.declared.encoded_word.Edges.TheVariants as edges
use Rattle.mail_header.specs.Fields.{NameAndRaw}
use Rattle.mail_header.specs.RawForms.{raw_form}
use Rattle.mail_header.specs.WhiteEnd.{some_text}
use Rattle.mime_fields.specs.declared.header.PartHeader.{PartHeader}
use Rattle.mime_fields.specs.Dispositions.{IsWrittenName, IsFileName, Extended, OfFile, OfType}
use Rattle.mime_fields.specs.ExtendedValues.{extended_text, extended_name}
use Rattle.mime_fields.specs.PartHeaders.{IsPartHeader}
use Rattle.name_laws.specs.CleanNames.{IsCleanName}
use Rattle.name_laws.proofs.AddressNames.{clean_some}
use Rattle.name_laws.proofs.CleanTexts.{clean_line, clean_text}

clean_extended : (octets : Option (List ℕ)) → IsCleanName (option_and_then extended_name octets)
clean_extended None = tt
clean_extended (Some octets) = by (extended_text octets)
  where
    by : (text : Option (List ℕ)) → IsCleanName (option_and_then (λ (t : List ℕ). some_text (one_line t)) text)
    by None = tt
    by (Some t) = clean_some (one_line t) (clean_line t)

clean_written : (written name : Option (List ℕ)) → IsWrittenName written name → IsCleanName name
clean_written None name g = subst (λ (u : Option (List ℕ)). IsCleanName u) (sym g) tt
clean_written (Some w) name g =
    subst (λ (u : Option (List ℕ)). IsCleanName u) (sym g.2)
    (clean_some g.0 (clean_text edges.White false (one_line (raw_form w)) g.0 g.1 (clean_line (raw_form w))))

clean_name : (extended file type_name name : Option (List ℕ)) → IsFileName extended file type_name name → IsCleanName extended → IsCleanName name
clean_name _ _ _ _ (Extended name file type_name) h = h
clean_name _ _ _ _ (OfFile name file type_name g) h = clean_written file (Some name) g
clean_name _ _ _ _ (OfType file type_name name g i) h = clean_written type_name name i

-- a part's name has no control character
pub clean_header : (f : List NameAndRaw) (h : PartHeader) → IsPartHeader f h → IsCleanName h.name
clean_header f h i = clean_name (option_and_then extended_name i.extended_octets) i.file i.type_name h.name i.name (clean_extended i.extended_octets)
