-- What calls leave of the history that is served, and that the folders of its Emails are told.
use Rattle.std.proofs.Common.{◌≡◌, ◌≢◌, ℕ, All, Contains, IsSome, List, [], Option, Some, None, Result, Err, refl, sym, ◌∙◌, ap, subst, inl, inr}
use Rattle.std.specs.Option.{option_map}
use Rattle.std.proofs.lemmas.List.Elements.{All-contains, All-weaker}
use Rattle.gate_world.specs.declared.event.Event.{Event}
use Rattle.told_folder.specs.Folders.{messages_of, uid_of}
use Rattle.told_folder.specs.Keyed.{with_key}
use Rattle.told_folder.specs.declared.message.NumberedFolder.{NumberedFolder}
use Rattle.told_folder.specs.declared.message.Message.{Message}
use Rattle.told_mail.specs.Mail.{Mail, SameMail, folder_in, held_in}
use Rattle.mail_maps.specs.declared.row.EmailRow.{EmailRow}
use Rattle.mail_state.specs.History.{MailHistory}
use Rattle.mail_state.specs.Telling.{HasItsMessage, IsTold}
use Rattle.imap_exchange.specs.declared.link_end.LinkEnd.{LinkEnd}
use Rattle.imap_exchange.specs.declared.link_end.LinkEnd.TheVariants as end
use Rattle.imap_client.specs.declared.plan.Due.TheVariants as due
use Rattle.imap_client.specs.declared.plan.Refusal.{Refusal}
use Rattle.imap_client.specs.Bodies.{FetchesBody, body_from, body_start}
use Rattle.imap_client.specs.LinkLife.{LinkLife, ClientState}
use Rattle.email_bodies.specs.Asking.{BodyAsk}
use Rattle.email_bodies.specs.declared.source.MessagePlace.{MessagePlace}
use Rattle.gate_machine.specs.Beginning.{Settles, Same, Moves, Spends, Lacks, AsksThen, PreparesMail}
use Rattle.gate_machine.specs.Fetching.{AsksStore, AsksBody, IsKept, Ends, HasEnded, AsksBodies, NoBodies, MoreBodies, LacksBody, CallsAsk, AllAsked, RunsShort}
use Rattle.gate_machine.specs.Fetching as fetching
use Rattle.gate_machine.specs.History.{KnownMail, served_anew}
use Rattle.gate_machine.specs.Machine.{MachineState}
use Rattle.gate_machine.specs.Progress.{Progress}
use Rattle.gate_machine.specs.ServedFolders.{Serves, HasFoldersTold, TellsServedFolders}
use Rattle.gate_machine.specs.Sources.{KnowsExchanges}
use Rattle.gate_machine.specs.declared.mail_status.MailStatus.TheVariants.{OutOfMemory, Stands}
use Rattle.gate_machine.proofs.Reading.{ReadingTells}
use Rattle.gate_machine.proofs.Sources.{knows_on_way, knows_settled}

one_known : (j k : KnownMail) → Some j ≡ Some k → j ≡ k
one_known j k is = cc

none_known : (k : KnownMail) → Some k ≡ None → ⊥
none_known k is = cc

-- ---- the history that is served

serves_this : (m : MachineState) (j : KnownMail) (h : MailHistory) → m.known ≡ Some j → j.history ≡ h → Serves m h
serves_this m j h is same = (j, is, same)

-- what is known is what is served
known_serves : (m : MachineState) (j : KnownMail) (h : MailHistory) → m.known ≡ Some j → Serves m h → j.history ≡ h
known_serves m j h is (k, there, same) = ap (λ (l : KnownMail). l.history) (one_known j k (sym is ∙ there)) ∙ same

leaves_body : (h : MailHistory) {message : MessagePlace} {before after : Progress} {body : Option (List ℕ)} {events : List Event}
    → AsksBody message before body events after → Serves before.machine h → Serves after.machine h
leaves_body h {before = before} {after = after} (IsKept octets kept body_is none is) serves =
    serves_this after.machine _ h (ap (λ (p : Progress). p.machine.known) is) (known_serves before.machine kept.known h kept.ready serves)
leaves_body h {before = before} {after = after} (fetching.IsTold octets asks body_is is) serves =
    serves_this after.machine _ h (ap (λ (p : Progress). p.machine.known) is) (known_serves before.machine asks.kept.known h asks.kept.ready serves)
leaves_body h {before = before} {after = after} (Ends e asks other body_is is) serves =
    serves_this after.machine _ h (ap (λ (p : Progress). p.machine.known) is) (known_serves before.machine asks.kept.known h asks.kept.ready serves)
leaves_body h {before = before} {after = after} (HasEnded kept ended body_is none is) serves =
    subst (λ (m : MachineState). Serves m h) (sym (ap (λ (p : Progress). p.machine) is)) serves

leaves_bodies : (h : MailHistory) {before after : Progress} {asks : List BodyAsk} {events : List Event} → AsksBodies before asks events after → Serves before.machine h
    → Serves after.machine h
leaves_bodies h NoBodies serves = serves
leaves_bodies h (MoreBodies next bodies) serves = leaves_body h next.asks (leaves_bodies h bodies serves)

lacking_is : {message : MessagePlace} {before after : Progress} {events : List Event} → LacksBody message before events after → after.standing ≡ OutOfMemory
lacking_is (fetching.Unasked none is) = ap (λ (p : Progress). p.standing) is
lacking_is (fetching.Asked asks is) = ap (λ (p : Progress). p.standing) is
lacking_is (fetching.NotKept octets asks is) = ap (λ (p : Progress). p.standing) is

-- what the calls of a request ask leaves it, unless memory ran out
pub calls_leave : (before : Progress) (asks : List BodyAsk) (events : List Event) (after : Progress) (h : MailHistory) → CallsAsk before asks events after
    → after.standing ≢ OutOfMemory → Serves before.machine h → Serves after.machine h
calls_leave before asks events after h (AllAsked bodies) other serves = leaves_bodies h bodies serves
calls_leave before asks events after h (RunsShort short) other serves = absurd (other (lacking_is short.lacks))

-- ---- the folders of its Emails

-- what is proved of told Emails, and of fetches of bodies
abbrev pub HaveMessages : Type 0
HaveMessages = (h : MailHistory) → IsTold h → All (HasItsMessage h.mail.folders) h.numbered.rows

abbrev pub FoldersStay : Type 0
FoldersStay = (folder uid : ℕ) (before after : Mail) (life left : LinkLife) (client : ClientState) (result : Result (List ℕ) LinkEnd) (events : List Event)
    → FetchesBody folder uid before after life left client result events → result ≢ Err end.Memory → (n : ℕ)
    → IsSome (folder_in before.folders n) → IsSome (folder_in after.folders n)

abbrev pub FetchesBegin : Type 0
FetchesBegin = (selected : Option (List ℕ)) (folder uid : ℕ) (m : Mail) (why : Refusal) → IsSome (folder_in m.folders folder)
    → body_from folder uid (body_start selected m folder) [] ≢ due.Fails why

tells_this : (m : MachineState) (j : KnownMail) → m.known ≡ Some j → HasFoldersTold j → TellsServedFolders m
tells_this m j is has = λ k there. subst (λ (l : KnownMail). HasFoldersTold l) (one_known j k (sym is ∙ there)) has

tells_nothing : (m : MachineState) → m.known ≡ None → TellsServedFolders m
tells_nothing m none = λ k there. absurd (none_known k (sym there ∙ none))

-- what is told of an Email's message has its folder
message_has_folder : (found : Option NumberedFolder) (u : ℕ) (x : Message) → with_key uid_of u (messages_of found) ≡ Some x → IsSome (option_map (λ h. h.folder) found)
message_has_folder None u x is = absurd (cc is)
message_has_folder (Some h) u x is = refl

row_told : (hs gs : List NumberedFolder) → hs ≡ gs → (e : ℕ × EmailRow) → HasItsMessage hs e → IsSome (folder_in gs e.1.folder)
row_told hs gs same e has =
    subst (λ (l : List NumberedFolder). IsSome (folder_in l e.1.folder)) same (message_has_folder (held_in hs e.1.folder) e.1.uid has.message has.there)

-- the mail that is served is the one that was told
settled_same : {before after : Progress} {events : List Event} → Settles before events after → after.standing ≡ Stands → (k : KnownMail) → after.machine.known ≡ Some k
    → SameMail k.history.mail k.told.mail
settled_same (Same j stands known same none is) standing k there =
    subst (λ (l : KnownMail). SameMail l.history.mail l.told.mail) (one_known j k (sym known ∙ sym (ap (λ (p : Progress). p.machine.known) is) ∙ there)) same
settled_same (Moves new next goes room none is) standing k there =
    subst (λ (l : KnownMail). SameMail l.history.mail l.told.mail)
    (one_known (served_anew new.known next) k (sym (ap (λ (p : Progress). p.machine.known) is) ∙ there))
    (ap (λ (h : MailHistory). h.mail.folders) goes.advances.after_is)
settled_same (Spends new spent none is) standing k there = absurd (cc (sym (ap (λ (p : Progress). p.standing) is) ∙ standing))
settled_same (Lacks stands none is) standing k there = absurd (cc (sym (ap (λ (p : Progress). p.standing) is) ∙ standing))

asked_same : {before after : Progress} {events : List Event} → AsksThen before events after → after.standing ≡ Stands → (k : KnownMail) → after.machine.known ≡ Some k
    → SameMail k.history.mail k.told.mail
asked_same {before} {after} a standing k there = elim a.settles [
  | inl skips ↦ absurd (skips.0 (ap (λ (p : Progress). p.standing) (sym skips.2) ∙ standing))
  | inr settles ↦ settled_same settles standing k there
]

-- what is served is what was told
same_tells : HaveMessages → (m : MachineState) → KnowsExchanges m → ((k : KnownMail) → m.known ≡ Some k → SameMail k.history.mail k.told.mail) → TellsServedFolders m
same_tells law m knows same k there =
    let of = knows k there in
    All-weaker (HasItsMessage k.history.mail.folders) (λ (e : ℕ × EmailRow). IsSome (folder_in k.told.mail.folders e.1.folder))
    (row_told k.history.mail.folders k.told.mail.folders (same k there)) k.history.numbered.rows (law k.history of.history)

-- once a round stands
pub prepared_tells : HaveMessages → ReadingTells → (user password : List ℕ) (before : MachineState) (events : List Event) (after : Progress)
    → PreparesMail user password before events after → KnowsExchanges before → after.standing ≡ Stands → TellsServedFolders after.machine
prepared_tells law reading user password before events after p knows standing =
    same_tells law after.machine (knows_on_way reading user password before events after p knows) (asked_same p.asks standing)

-- once what was told is served
pub settled_tells : HaveMessages → {before after : Progress} {events : List Event} → Settles before events after → KnowsExchanges before.machine → after.standing ≡ Stands
    → TellsServedFolders after.machine
settled_tells law {before} {after} settles knows standing = same_tells law after.machine (knows_settled settles knows) (settled_same settles standing)

-- after the fetch of a body
fetched_tells : FoldersStay → {message : MessagePlace} {before : Progress} {result : Result (List ℕ) LinkEnd} {events : List Event}
    (asks : AsksStore message before result events) → result ≢ Err end.Memory → TellsServedFolders before.machine
    → HasFoldersTold (record asks.kept.known { told = asks.told })
fetched_tells law {message} {before} {result} {events} asks well tells =
    All-weaker (λ (e : ℕ × EmailRow). IsSome (folder_in asks.kept.known.told.mail.folders e.1.folder)) (λ (e : ℕ × EmailRow). IsSome (folder_in asks.told.mail.folders e.1.folder))
    (λ e there. law message.folder message.uid asks.kept.known.told.mail asks.told.mail asks.life asks.left asks.client result events asks.fetches well e.1.folder there)
    asks.kept.known.history.numbered.rows (tells asks.kept.known asks.kept.ready)

body_tells : FoldersStay → {message : MessagePlace} {before after : Progress} {body : Option (List ℕ)} {events : List Event} → AsksBody message before body events after
    → TellsServedFolders before.machine → TellsServedFolders after.machine
body_tells law {after = after} (IsKept octets kept body_is none is) tells =
    tells_this after.machine _ (ap (λ (p : Progress). p.machine.known) is) (tells kept.known kept.ready)
body_tells law {after = after} (fetching.IsTold octets asks body_is is) tells =
    tells_this after.machine _ (ap (λ (p : Progress). p.machine.known) is) (fetched_tells law asks (λ no. cc) tells)
body_tells law {after = after} (Ends e asks other body_is is) tells =
    tells_this after.machine _ (ap (λ (p : Progress). p.machine.known) is) (fetched_tells law asks (λ same. other (let e_is : e ≡ end.Memory = cc in e_is)) tells)
body_tells law {after = after} (HasEnded kept ended body_is none is) tells =
    subst (λ (m : MachineState). TellsServedFolders m) (sym (ap (λ (p : Progress). p.machine) is)) tells

bodies_tell : FoldersStay → {before after : Progress} {asks : List BodyAsk} {events : List Event} → AsksBodies before asks events after → TellsServedFolders before.machine
    → TellsServedFolders after.machine
bodies_tell law NoBodies tells = tells
bodies_tell law (MoreBodies next bodies) tells = body_tells law next.asks (bodies_tell law bodies tells)

lacking_tells : {message : MessagePlace} {before after : Progress} {events : List Event} → LacksBody message before events after → TellsServedFolders after.machine
lacking_tells {after = after} (fetching.Unasked none is) = tells_nothing after.machine (ap (λ (p : Progress). p.machine.known) is)
lacking_tells {after = after} (fetching.Asked asks is) = tells_nothing after.machine (ap (λ (p : Progress). p.machine.known) is)
lacking_tells {after = after} (fetching.NotKept octets asks is) = tells_nothing after.machine (ap (λ (p : Progress). p.machine.known) is)

-- after what the calls of a request ask
pub calls_tell : FoldersStay → (before : Progress) (asks : List BodyAsk) (events : List Event) (after : Progress) → CallsAsk before asks events after
    → TellsServedFolders before.machine → TellsServedFolders after.machine
calls_tell law before asks events after (AllAsked bodies) tells = bodies_tell law bodies tells
calls_tell law before asks events after (RunsShort short) tells = lacking_tells short.lacks

-- the fetch of an Email's body doesn't begin by failing
pub emails_begin : FetchesBegin → (k : KnownMail) (e : ℕ × EmailRow) (selected : Option (List ℕ)) (why : Refusal) → HasFoldersTold k
    → Contains k.history.numbered.rows e → body_from e.1.folder e.1.uid (body_start selected k.told.mail e.1.folder) [] ≢ due.Fails why
emails_begin law k e selected why has there =
    law selected e.1.folder e.1.uid k.told.mail why
    (All-contains (λ (f : ℕ × EmailRow). IsSome (folder_in k.told.mail.folders f.1.folder)) k.history.numbered.rows e has there)
