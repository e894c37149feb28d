-- The mailboxes of a draft are found in its message, by the names of their fields.
use Rattle.std.proofs.Common.{◌≡◌, ◌≢◌, ℕ, ℤ, true, List, [], ◌∷◌, ◌++◌, map, codes, Option, Some, None, refl, sym, ap, ◌∙◌}
use Rattle.text_words.specs.Octets.{is_same_text}
use Rattle.mail_drafts.specs.declared.draft.Draft.{Draft}
use Rattle.mail_drafts.specs.declared.mailbox.Mailbox.{Mailbox}
use Rattle.mail_drafts.specs.Drafts.{are_filled}
use Rattle.message_lines.specs.Folding.{Field, begun, laid}
use Rattle.message_texts.specs.AddressTexts.{AreAddressTexts}
use Rattle.message_texts.specs.Fields.{AreAddressFields, AreDraftFields}
use Rattle.message_texts.specs.Messages.{IsMessageText}
use Rattle.message_laws.specs.Headers.{HasItsHeader, read_field, message_fields}
use Rattle.message_laws.specs.ReadBack.{ReadsWhere}
use Rattle.message_laws.proofs.HeaderLines.{header_read}
use Rattle.message_laws.proofs.LastFields.{last, found}
use Rattle.address_laws.specs.MailboxReading.{AreMailboxesOf, ReadsMailboxes}
use Rattle.address_laws.proofs.DraftRows.{joined, AllOther, part_fields, among, part_other, AreRows, are_rows, rows_behind, IsNoneBehind}
use Rattle.address_laws.proofs.ListReading.{addresses_are_read}

module _ (d : Draft) (now : ℤ) (word : ℕ) (fs : List Field) (a : AreDraftFields d now word fs) where
  r : AreRows d now word fs a
  r = are_rows d now word fs a

  other_behind : (n : List ℕ) → IsNoneBehind n → AllOther n (rows_behind a)
  other_behind n o = (r.subject n o.0, (r.message_id n o.1, (r.in_reply_to n o.2, (r.references n o.3, (part_other n o.4 d.text d.html d.attachments, tt)))))

  whole : (n : List ℕ) → last n (message_fields fs d) ≡ last n (joined a.date (a.from ∷ a.sender ∷ a.reply_to ∷ a.to ∷ a.cc ∷ a.bcc ∷ rows_behind a))
  whole n = ap (λ (gs : List Field). last n (gs ++ part_fields d)) a.whole

  only_from : last (codes "From") (message_fields fs d) ≡ last (codes "From") a.from
  only_from =
      let n = codes "From" in
      whole n ∙ among n a.date [] a.from (a.sender ∷ a.reply_to ∷ a.to ∷ a.cc ∷ a.bcc ∷ rows_behind a) (r.date n refl) tt
      (r.sender n refl, (r.reply_to n refl, (r.to n refl, (r.cc n refl, (r.bcc n refl, other_behind n (refl, refl, refl, refl, (refl, refl, refl)))))))

  only_sender : last (codes "Sender") (message_fields fs d) ≡ last (codes "Sender") a.sender
  only_sender =
      let n = codes "Sender" in
      whole n ∙ among n a.date (a.from ∷ []) a.sender (a.reply_to ∷ a.to ∷ a.cc ∷ a.bcc ∷ rows_behind a) (r.date n refl) (r.from n refl, tt)
      (r.reply_to n refl, (r.to n refl, (r.cc n refl, (r.bcc n refl, other_behind n (refl, refl, refl, refl, (refl, refl, refl))))))

  only_reply_to : last (codes "Reply-To") (message_fields fs d) ≡ last (codes "Reply-To") a.reply_to
  only_reply_to =
      let n = codes "Reply-To" in
      whole n ∙ among n a.date (a.from ∷ a.sender ∷ []) a.reply_to (a.to ∷ a.cc ∷ a.bcc ∷ rows_behind a) (r.date n refl) (r.from n refl, (r.sender n refl, tt))
      (r.to n refl, (r.cc n refl, (r.bcc n refl, other_behind n (refl, refl, refl, refl, (refl, refl, refl)))))

  only_to : last (codes "To") (message_fields fs d) ≡ last (codes "To") a.to
  only_to =
      let n = codes "To" in
      whole n ∙ among n a.date (a.from ∷ a.sender ∷ a.reply_to ∷ []) a.to (a.cc ∷ a.bcc ∷ rows_behind a) (r.date n refl) (r.from n refl, (r.sender n refl, (r.reply_to n refl, tt)))
      (r.cc n refl, (r.bcc n refl, other_behind n (refl, refl, refl, refl, (refl, refl, refl))))

  only_cc : last (codes "Cc") (message_fields fs d) ≡ last (codes "Cc") a.cc
  only_cc =
      let n = codes "Cc" in
      whole n ∙ among n a.date (a.from ∷ a.sender ∷ a.reply_to ∷ a.to ∷ []) a.cc (a.bcc ∷ rows_behind a) (r.date n refl)
      (r.from n refl, (r.sender n refl, (r.reply_to n refl, (r.to n refl, tt)))) (r.bcc n refl, other_behind n (refl, refl, refl, refl, (refl, refl, refl)))

  only_bcc : last (codes "Bcc") (message_fields fs d) ≡ last (codes "Bcc") a.bcc
  only_bcc =
      let n = codes "Bcc" in
      whole n ∙ among n a.date (a.from ∷ a.sender ∷ a.reply_to ∷ a.to ∷ a.cc ∷ []) a.bcc (rows_behind a) (r.date n refl)
      (r.from n refl, (r.sender n refl, (r.reply_to n refl, (r.to n refl, (r.cc n refl, tt))))) (other_behind n (refl, refl, refl, refl, (refl, refl, refl)))

-- ---- the fields are read

filled_some : (list : List Mailbox) → are_filled (Some list) ≡ true → list ≢ []
filled_some [] e = absurd cc
filled_some (m ∷ list) e = λ n. absurd cc

address_field : (d : Draft) (now : ℤ) (word : ℕ) (t : List ℕ) (h : HasItsHeader d now word t) (name : List ℕ) (fs : List Field) (list : Option (List Mailbox)) → is_same_text name name ≡ true
    → last name (message_fields h.fields d) ≡ last name fs → are_filled list ≡ true → AreAddressFields name list fs → ReadsWhere name AreMailboxesOf list t
address_field d now word t h name fs None same e filled is =
    record { fields = map read_field (message_fields h.fields d); end = h.end; is = h.header; raw_is = sym (e ∙ ap (last name) is) }
address_field d now word t h name fs (Some list) same e filled is =
    let f = found (AreAddressTexts (begun name) list) name same fs is in
    record {
      raw = laid (begun name) f.pieces;
      last = record { fields = map read_field (message_fields h.fields d); end = h.end; is = h.header; raw_is = sym (e ∙ f.last_is) };
      means = addresses_are_read (begun name) list f.pieces (filled_some list filled) f.are;
    }

pub mailboxes_are_read : (d : Draft) (now : ℤ) (word : ℕ) (t : List ℕ) → IsMessageText d now word t → ReadsMailboxes d t
mailboxes_are_read d now word t is =
    let h = header_read d now word t is in
    let a = h.are in
    record {
      from = address_field d now word t h (codes "From") a.from d.from refl (only_from d now word h.fields a) d.from_is a.is_from;
      sender = address_field d now word t h (codes "Sender") a.sender d.sender refl (only_sender d now word h.fields a) d.sender_is a.is_sender;
      reply_to = address_field d now word t h (codes "Reply-To") a.reply_to d.reply_to refl (only_reply_to d now word h.fields a) d.reply_to_is a.is_reply_to;
      to = address_field d now word t h (codes "To") a.to d.to refl (only_to d now word h.fields a) d.to_is a.is_to;
      cc = address_field d now word t h (codes "Cc") a.cc d.cc refl (only_cc d now word h.fields a) d.cc_is a.is_cc;
      bcc = address_field d now word t h (codes "Bcc") a.bcc d.bcc refl (only_bcc d now word h.fields a) d.bcc_is a.is_bcc;
    }
