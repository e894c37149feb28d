-- A creation comes to one result.
use Rattle.std.proofs.Common.{◌≡◌, ◌==◌, ◌<◌, ◌≤◌, ℕ, ℤ, Bool, true, false, cond, Option, Some, None, List, [], ◌∷◌, length, unwrap_or, Result, Ok, Err, IfOk, Ordering, Less, Equal, Greater, nat_cmp, refl, sym, ap, ◌∙◌, subst, arith}
use Rattle.std.specs.Cmp.Lexicographic.{slice_cmp, pointwise}
use Rattle.std.specs.List.{AllZip}
use Rattle.std.specs.Ordering.{ordering_reverse}
use Rattle.std.proofs.lemmas.Cmp.{nat_list_cmp_total}
use Rattle.std.proofs.lemmas.Map.Lookups.{exact_bytes}
use Rattle.serde_json.specs.Data.{Members}
use Rattle.told_folder.specs.declared.message.Folder.{Folder}
use Rattle.text_words.specs.Cuts.{Each}
use Rattle.blob_store.specs.Uploads.{blob_id, upload_with}
use Rattle.mail_drafts.specs.declared.attachment.Attachment.{Attachment}
use Rattle.mail_drafts.specs.declared.draft.Draft.{Draft}
use Rattle.message_laws.specs.SafeTexts.{HaveOctets, IsLines, is_octet}
use Rattle.message_texts.specs.Messages.{IsMessageText}
use Rattle.message_texts.specs.declared.message.TheConstants.{MAX_MESSAGE_OCTETS}
use Rattle.draft_reading.specs.Parts.{Attached}
use Rattle.draft_reading.specs.Properties.{NoneRefused}
use Rattle.draft_reading.specs.Readings.{IsUpload, IsDraftOf, IsWithout, attached_in}
use Rattle.set_jobs.specs.declared.done.SetError.{SetError}
use Rattle.set_jobs.specs.declared.done.SetError.TheVariants as why
use Rattle.set_jobs.specs.declared.job.Job.{Job}
use Rattle.set_items.specs.Commands.{IsFit, MakesNothing, appends_of}
use Rattle.set_given.specs.Given.{Given}
use Rattle.email_checks.specs.Emails.{no_folder}
use Rattle.email_checks.specs.Steps.{can_be_moved_into}
use Rattle.email_creation.specs.Asked.{mailbox_asked}
use Rattle.email_creation.specs.Creations.{IsWrong, OfTheDraft, OfMailboxes, IsFirstWrong, ChecksCreation, WrongProperty, SeveralMailboxes, NoUploads, MayNot, Passes}
use Rattle.email_creation.specs.Appends.{append_job, DrawsCreation, Written, TooLong, AreOctets, AppendsLines}
use Rattle.email_creation.specs.declared.ready.ReadyCreation.{ReadyCreation}
use Rattle.email_creation.proofs.CheckLemmas.{one_and_none, several_and_none, one_and_several}

-- ---- checks

one_wrong : (g : Given) (ms : Members) (one other : List ℕ) → IsFirstWrong g ms one → IsFirstWrong g ms other → one ≡ other
one_wrong g ms one other a b = by (slice_cmp nat_cmp one other) refl
  where
    by : (o : Ordering) → slice_cmp nat_cmp one other ≡ o → one ≡ other
    by Less is = absurd (b.first one a.wrong (nat_list_cmp_total.antisymm other one ∙ ap ordering_reverse is))
    by Equal is = exact_bytes one other is
    by Greater is = absurd (a.first other b.wrong is)

-- something is wrong, and nothing is
never : (g : Given) (ms : Members) (key : List ℕ) → IsWrong g ms key → NoneRefused ms → (mailbox_asked g ms ≡ Err no_folder → ⊥) → ⊥
never g ms key (OfTheDraft w) none fine = w.not_allowed (none key w.value w.there)
never g ms key (OfMailboxes same h) none fine = fine h

-- an upload isn't kept, and all are
abbrev pub NotBoth : Type 0
NotBoth = (uploads : List (List ℕ)) (ms : Members) (ids : List (List ℕ)) (d : Draft) → IsWithout uploads ms ids → IsDraftOf uploads ms d → ⊥

abbrev pub AreSame : Result ReadyCreation SetError → Result ReadyCreation SetError → Type 0
AreSame (Ok c) (Ok d) = Unit {0}
AreSame (Ok c) (Err e) = ⊥
AreSame (Err e) (Ok c) = ⊥
AreSame (Err e) (Err f) = e ≡ f

same_folder : (g : Given) (ms : Members) (f h : Folder) → mailbox_asked g ms ≡ Ok f → mailbox_asked g ms ≡ Ok h → can_be_moved_into f ≡ false → can_be_moved_into h ≡ true → ⊥
same_folder g ms f h a b fails holds =
    let same : f ≡ h = cc in
    let e : false ≡ true = sym fails ∙ ap can_be_moved_into same ∙ holds in
    cc

pub same : NotBoth → (g : Given) (uploads : List (List ℕ)) (ms : Members) {r s : Result ReadyCreation SetError} → ChecksCreation g uploads ms r → ChecksCreation g uploads ms s → AreSame r s
same law g u ms (WrongProperty k a) (WrongProperty l b) = ap (λ (key : List ℕ). why.InvalidProperties (key ∷ [])) (one_wrong g ms k l a b)
same law g u ms (WrongProperty k a) (SeveralMailboxes none is) = absurd (never g ms k a.wrong none (several_and_none (mailbox_asked g ms) is))
same law g u ms (WrongProperty k a) (NoUploads f ids is w) = absurd (never g ms k a.wrong w.allowed (one_and_none (mailbox_asked g ms) f is))
same law g u ms (WrongProperty k a) (MayNot f d is drafted fails) = absurd (never g ms k a.wrong drafted.allowed (one_and_none (mailbox_asked g ms) f is))
same law g u ms (WrongProperty k a) (Passes f d is drafted holds) = never g ms k a.wrong drafted.allowed (one_and_none (mailbox_asked g ms) f is)
same law g u ms (SeveralMailboxes none is) (WrongProperty k a) = absurd (never g ms k a.wrong none (several_and_none (mailbox_asked g ms) is))
same law g u ms (SeveralMailboxes none is) (SeveralMailboxes none' is') = refl
same law g u ms (SeveralMailboxes none is) (NoUploads f ids is' w) = absurd (one_and_several (mailbox_asked g ms) f is' is)
same law g u ms (SeveralMailboxes none is) (MayNot f d is' drafted fails) = absurd (one_and_several (mailbox_asked g ms) f is' is)
same law g u ms (SeveralMailboxes none is) (Passes f d is' drafted holds) = one_and_several (mailbox_asked g ms) f is' is
same law g u ms (NoUploads f ids is w) (WrongProperty k a) = absurd (never g ms k a.wrong w.allowed (one_and_none (mailbox_asked g ms) f is))
same law g u ms (NoUploads f ids is w) (SeveralMailboxes none is') = absurd (one_and_several (mailbox_asked g ms) f is is')
same law g u ms (NoUploads f ids is w) (NoUploads f' ids' is' w') = ap (λ (list : List (List ℕ)). why.BlobNotFound list) (w.ids_are ∙ sym w'.ids_are)
same law g u ms (NoUploads f ids is w) (MayNot f' d is' drafted fails) = absurd (law u ms ids d w drafted)
same law g u ms (NoUploads f ids is w) (Passes f' d is' drafted holds) = law u ms ids d w drafted
same law g u ms (MayNot f d is drafted fails) (WrongProperty k a) = absurd (never g ms k a.wrong drafted.allowed (one_and_none (mailbox_asked g ms) f is))
same law g u ms (MayNot f d is drafted fails) (SeveralMailboxes none is') = absurd (one_and_several (mailbox_asked g ms) f is is')
same law g u ms (MayNot f d is drafted fails) (NoUploads f' ids is' w) = absurd (law u ms ids d w drafted)
same law g u ms (MayNot f d is drafted fails) (MayNot f' d' is' drafted' fails') = refl
same law g u ms (MayNot f d is drafted fails) (Passes f' d' is' drafted' holds) = same_folder g ms f f' is is' fails holds
same law g u ms (Passes f d is drafted holds) (WrongProperty k a) = never g ms k a.wrong drafted.allowed (one_and_none (mailbox_asked g ms) f is)
same law g u ms (Passes f d is drafted holds) (SeveralMailboxes none is') = one_and_several (mailbox_asked g ms) f is is'
same law g u ms (Passes f d is drafted holds) (NoUploads f' ids is' w) = law u ms ids d w drafted
same law g u ms (Passes f d is drafted holds) (MayNot f' d' is' drafted' fails) = same_folder g ms f' f is' is fails holds
same law g u ms (Passes f d is drafted holds) (Passes f' d' is' drafted' holds') = tt

-- ---- jobs

abbrev pub OneMessage : Type 0
OneMessage = (d : Draft) (now : ℤ) (word : ℕ) (s t : List ℕ) → IsMessageText d now word s → IsMessageText d now word t → s ≡ t

too_long : (s t : List ℕ) → s ≡ t → length s ≤ MAX_MESSAGE_OCTETS → MAX_MESSAGE_OCTETS < length t → ⊥
too_long s t is fits over = let h : MAX_MESSAGE_OCTETS < length s = subst (λ (x : List ℕ). MAX_MESSAGE_OCTETS < length x) (sym is) over in omega arith

pub one_job : OneMessage → (c : ReadyCreation) (now : ℤ) (word : ℕ) {r s : Result Job SetError} → DrawsCreation c now word r → DrawsCreation c now word s → r ≡ s
one_job law c now word (Written s is fits) (Written t is' fits') = ap (λ (text : List ℕ). Ok (append_job c now text)) (law c.draft now word s t is is')
one_job law c now word (Written s is fits) (TooLong t is' over) = absurd (too_long s t (law c.draft now word s t is is') fits over)
one_job law c now word (TooLong s is over) (Written t is' fits) = absurd (too_long t s (law c.draft now word t s is' is) fits over)
one_job law c now word (TooLong s is over) (TooLong t is' over') = refl

pub appends_once : (c : ReadyCreation) (now : ℤ) (word : ℕ) {r : Result Job SetError} → DrawsCreation c now word r → IfOk r (λ job. appends_of job.steps ≡ 1)
appends_once c now word (Written t is fits) = refl
appends_once c now word (TooLong t is over) = tt

pub is_fit : (c : ReadyCreation) (now : ℤ) (word : ℕ) {r : Result Job SetError} → DrawsCreation c now word r → IfOk r IsFit
is_fit c now word (Written t is fits) = (tt, tt)
is_fit c now word (TooLong t is over) = tt

pub makes_nothing : (c : ReadyCreation) (now : ℤ) (word : ℕ) {r : Result Job SetError} → DrawsCreation c now word r → IfOk r MakesNothing
makes_nothing c now word (Written t is fits) = tt
makes_nothing c now word (TooLong t is over) = tt

-- ---- lines

none_some : (octets : List ℕ) → None ≡ Some octets → ⊥
none_some octets is = cc

same_octets : (one other : List ℕ) → Some one ≡ Some other → one ≡ other
same_octets one other is = cc

uploaded : (id : List ℕ) (uploads : List (List ℕ)) (bytes : List ℕ) → AreOctets uploads → upload_with id uploads ≡ Some bytes → Each is_octet bytes
uploaded id [] bytes are is = absurd (none_some bytes is)
uploaded id (octets ∷ uploads) bytes are is = by (uploaded id uploads bytes are.1) (pointwise ◌==◌ id (blob_id octets)) is
  where
    by : (upload_with id uploads ≡ Some bytes → Each is_octet bytes) → (b : Bool) → cond b (Some octets) (upload_with id uploads) ≡ Some bytes → Each is_octet bytes
    by later true here = subst (λ (x : List ℕ). Each is_octet x) (same_octets octets bytes here) are.0
    by later false there = later there

attached : (uploads : List (List ℕ)) (asked : List Attached) (found : List Attachment) → AreOctets uploads → AllZip (IsUpload uploads) asked found → HaveOctets found
attached uploads [] [] are z = tt
attached uploads [] (a ∷ found) are z = absurd z
attached uploads (x ∷ asked) [] are z = absurd z
attached uploads (x ∷ asked) (a ∷ found) are z = (uploaded x.blob uploads a.bytes are z.0.bytes, attached uploads asked found are z.1)

have_octets : (g : Given) (uploads : List (List ℕ)) (ms : Members) {r : Result ReadyCreation SetError} → AreOctets uploads → ChecksCreation g uploads ms r
    → IfOk r (λ (c : ReadyCreation). HaveOctets c.draft.attachments)
have_octets g uploads ms are (WrongProperty k a) = tt
have_octets g uploads ms are (SeveralMailboxes none is) = tt
have_octets g uploads ms are (NoUploads f ids is w) = tt
have_octets g uploads ms are (MayNot f d is drafted fails) = tt
have_octets g uploads ms are (Passes f d is drafted holds) = attached uploads (attached_in ms) d.attachments are drafted.attachments

abbrev pub LinesAlone : Type 0
LinesAlone = (d : Draft) (now : ℤ) (word : ℕ) (t : List ℕ) → HaveOctets d.attachments → IsMessageText d now word t → IsLines t

written_lines : LinesAlone → (c : ReadyCreation) (now : ℤ) (word : ℕ) {r : Result Job SetError} → HaveOctets c.draft.attachments → DrawsCreation c now word r → IfOk r AppendsLines
written_lines law c now word octets (Written t is fits) =
    record { name = c.name; flags = c.flags; date = unwrap_or c.date now; message = t; steps_are = refl; lines = law c.draft now word t octets is }
written_lines law c now word octets (TooLong t is over) = tt

pub appends_lines : LinesAlone → (g : Given) (uploads : List (List ℕ)) (ms : Members) (c : ReadyCreation) (now : ℤ) (word : ℕ) (job : Job) → AreOctets uploads
    → ChecksCreation g uploads ms (Ok c) → DrawsCreation c now word (Ok job) → AppendsLines job
appends_lines law g uploads ms c now word job are checks draws = written_lines law c now word (have_octets g uploads ms are checks) draws
