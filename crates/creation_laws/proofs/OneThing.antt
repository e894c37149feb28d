-- One thing is sent for a creation.
use Rattle.std.proofs.Common.{◌≡◌, ℕ, ℤ, ◌+◌, ◌<◌, ◌≤◌, List, length, map, refl, sym, ap, ◌∙◌, arith, Result, Ok, Err, unwrap_or}
use Rattle.serde_json.specs.Data.{Members}
use Rattle.told_folder.specs.declared.message.Folder.{Folder}
use Rattle.mail_drafts.specs.declared.draft.Draft.{Draft}
use Rattle.draft_reading.specs.Readings.{IsDraftOf, attached_in}
use Rattle.message_texts.specs.Messages.{IsMessageText}
use Rattle.set_jobs.specs.declared.done.SetError.{SetError}
use Rattle.set_jobs.specs.declared.job.Job.{Job}
use Rattle.set_given.specs.Given.{Given}
use Rattle.email_creation.specs.Appends.{append_of, append_job, DrawsCreation, Written, TooLong}
use Rattle.email_creation.specs.Asked.{mailbox_asked, flags_asked, date_asked}
use Rattle.email_creation.specs.Creations.{creation_of, ChecksCreation, Passes}
use Rattle.email_creation.specs.declared.ready.ReadyCreation.{ReadyCreation}
use Rattle.creation_laws.proofs.SameDrafts.{SayTheSame, leaves_same, message_same}

abbrev pub OneMessage : Type 0
OneMessage = (d : Draft) (now : ℤ) (word : ℕ) (s t : List ℕ) → IsMessageText d now word s → IsMessageText d now word t → s ≡ t

drafts_same : (uploads : List (List ℕ)) (ms : Members) (d e : Draft) → IsDraftOf uploads ms d → IsDraftOf uploads ms e → SayTheSame d e
drafts_same uploads ms d e a b = record {
  date = a.date ∙ sym b.date;
  from = a.from ∙ sym b.from;
  sender = a.sender ∙ sym b.sender;
  reply_to = a.reply_to ∙ sym b.reply_to;
  to = a.to ∙ sym b.to;
  cc = a.cc ∙ sym b.cc;
  bcc = a.bcc ∙ sym b.bcc;
  subject = a.subject ∙ sym b.subject;
  message_id = a.message_id ∙ sym b.message_id;
  in_reply_to = a.in_reply_to ∙ sym b.in_reply_to;
  references = a.references ∙ sym b.references;
  text = a.text ∙ sym b.text;
  html = a.html ∙ sym b.html;
  attached = leaves_same uploads (attached_in ms) d.attachments e.attachments a.attachments b.attachments;
}

-- the message of either is that of the other
record SameMessages (d e : Draft) (now : ℤ) (word : ℕ) : Type 0 where
  same : (s t : List ℕ) → IsMessageText d now word s → IsMessageText e now word t → s ≡ t

messages_same : OneMessage → (uploads : List (List ℕ)) (ms : Members) (d e : Draft) (now : ℤ) (word : ℕ) → IsDraftOf uploads ms d → IsDraftOf uploads ms e → SameMessages d e now word
messages_same one uploads ms d e now word a b = record { same = λ s t is also. one e now word s t (message_same d e now word s (drafts_same uploads ms d e a b) is) also }

folder_same : (f g : Folder) (r : Result Folder SetError) → r ≡ Ok f → r ≡ Ok g → f ≡ g
folder_same f g r e h = let k : Ok f ≡ Ok g = sym e ∙ h in cc

job_same : (ms : Members) (f g : Folder) (d e : Draft) (now : ℤ) (s t : List ℕ) → f ≡ g → s ≡ t → append_job (creation_of ms f d) now s ≡ append_job (creation_of ms g e) now t
job_same ms f g d e now s t h k =
    ap (λ (x : Folder). append_of x.name (flags_asked ms) (unwrap_or (date_asked ms) now) s) h ∙ ap (λ (u : List ℕ). append_of g.name (flags_asked ms) (unwrap_or (date_asked ms) now) u) k

draws_same : (ms : Members) (f g : Folder) (d e : Draft) (now : ℤ) (word : ℕ) (one other : Result Job SetError) → f ≡ g → SameMessages d e now word
    → DrawsCreation (creation_of ms f d) now word one → DrawsCreation (creation_of ms g e) now word other → one ≡ other
draws_same ms f g d e now word _ _ h m (Written s a l) (Written t b k) = ap (λ (j : Job). Ok j) (job_same ms f g d e now s t h (m.same s t a b))
draws_same ms f g d e now word _ _ h m (Written s a l) (TooLong t b k) = absurd (omega (arith, l, k, ap length (m.same s t a b)))
draws_same ms f g d e now word _ _ h m (TooLong s a l) (Written t b k) = absurd (omega (arith, l, k, ap length (m.same s t a b)))
draws_same ms f g d e now word _ _ h m (TooLong s a l) (TooLong t b k) = refl

pub one_thing : OneMessage → (g : Given) (uploads : List (List ℕ)) (ms : Members) (c d : ReadyCreation) (now : ℤ) (word : ℕ) (one other : Result Job SetError) → ChecksCreation g uploads ms (Ok c)
    → ChecksCreation g uploads ms (Ok d) → DrawsCreation c now word one → DrawsCreation d now word other → one ≡ other
one_thing one_message g uploads ms _ _ now word one other (Passes f d m r k) (Passes h e n s l) x y =
    draws_same ms f h d e now word one other (folder_same f h (mailbox_asked g ms) m n) (messages_same one_message uploads ms d e now word r s) x y
