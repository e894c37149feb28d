use Rattle.mail_header.specs.Fields.{names_and_raws}
use Rattle.mime_fields.proofs.MadeHeader.{made}
use Rattle.mime_fields.proofs.header.part_header.Goals as goal

pub returns : goal.returns
returns c =
    made (names_and_raws c.args.fields.now) c.octets_of.result.now c.octets_of-2.result.now c.in_ok-content.content c.in_ok-disposition.disposition _ _ _ _ _
    c.octets_of.ensures c.octets_of-2.ensures c.in_ok-content.ensures c.in_ok-disposition.ensures c.in_ok-name.ensures
    c.in_ok-id_of.ensures c.in_ok-raw_of.ensures c.in_ok-trimmed_text_of.ensures c.in_ok-transfer_encoding.ensures
