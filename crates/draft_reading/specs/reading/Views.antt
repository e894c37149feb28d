-- What the code's names, parts and attachments say.
use Rattle.std.specs.Prelude.{ℕ, List, Option, option_map}
use Rattle.std.specs.Borrow.{Bor}
use Rattle.draft_reading.specs.declared.named.Named.{Named as NamedValue}
use Rattle.draft_reading.specs.declared.part.Part.{Part as PartValue}
use Rattle.draft_reading.specs.declared.attached.Attached.{Attached as AttachedValue}
use Rattle.draft_reading.specs.Mailboxes.{Named}
use Rattle.draft_reading.specs.Parts.{Part, Attached}

abbrev pub text_view : Option (Bor (List ℕ)) → Option (List ℕ)
text_view o = option_map (λ (t : Bor (List ℕ)). t.now) o

abbrev pub named_view : NamedValue → Named
named_view n = record { name = text_view n.name; email = n.email.now }

abbrev pub part_view : PartValue → Part
part_view p = record {
  part = text_view p.part;
  blob = text_view p.blob;
  media = text_view p.media;
  charset = text_view p.charset;
  name = text_view p.name;
  cid = text_view p.cid;
  disposition = text_view p.disposition;
}

abbrev pub attached_view : AttachedValue → Attached
attached_view a = record {
  blob = a.blob.now;
  media = a.media.now;
  charset = text_view a.charset;
  name = text_view a.name;
  cid = text_view a.cid;
  inline = a.inline;
}
