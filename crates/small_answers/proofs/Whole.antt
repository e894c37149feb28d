-- What the small store answers is what an honest store may answer, and its mail stays the small store's.
use Rattle.std.proofs.Common.{◌≡◌, ℕ, Bool, true, ◌==◌, List, Option, Some, None, All}
use Rattle.std.proofs.lemmas.List.Elements.{All-weaker}
use Rattle.imap_types.specs.declared.command.Command.{Command}
use Rattle.imap_types.specs.declared.command.Command.TheVariants as command
use Rattle.imap_types.specs.declared.response.Response.{Response}
use Rattle.honest_store.specs.StoreMail.{StoreMessage, StoreFolder, folder_called}
use Rattle.honest_store.specs.Others.{NoStep}
use Rattle.honest_store.specs.Sessions.{StoreSession, StoreAnswer}
use Rattle.honest_store.specs.Honest.{Honest}
use Rattle.small_answers.specs.Changes.{selected_folder}
use Rattle.small_answers.specs.Causes.{RefusalCause}
use Rattle.small_answers.specs.ToldResponses.{body_response, flags_response, header_response, is_from_on, is_between}
use Rattle.small_answers.specs.Answers.{AnswersCommand, Refused, Accepted, fetch_reply, reply_in, select_reply}
use Rattle.small_answers.specs.SmallMail.{HasStorableParts, IsSmallFolder, IsSmallMail}
use Rattle.small_answers.proofs.Refusals.{refusals_are_honest}
use Rattle.small_answers.proofs.Reading.{body_honest, capability_honest, enable_honest, flags_honest, list_honest, login_honest, new_honest, slice_honest, unselect_honest}
use Rattle.small_answers.proofs.Selecting.{select_honest}
use Rattle.small_answers.proofs.Replies.{IsOkGood}
use Rattle.small_answers.proofs.Storing.{store_good}
use Rattle.small_answers.proofs.Moving.{move_good}
use Rattle.small_answers.proofs.Expunging.{expunge_good}
use Rattle.small_answers.proofs.Appending.{append_good}
use Rattle.small_answers.proofs.Creating.{create_good}
use Rattle.small_answers.proofs.Deleting.{delete_good}
use Rattle.small_answers.proofs.Renaming.{rename_good}
use Rattle.small_answers.proofs.Subscribing.{subscribe_good}

-- ---- commands that leave the mail

fetch_leaves : (s : StoreSession) (q : Option StoreFolder) (test : List StoreMessage → ℕ → Bool) (tell : List StoreMessage → StoreMessage → Response) → IsSmallMail s.mail
    → IsSmallMail (reply_in s q (λ f. fetch_reply s f.messages (test f.messages) tell)).session.mail
fetch_leaves s None test tell small = small
fetch_leaves s (Some f) test tell small = small

select_leaves : (s : StoreSession) (known : Option (ℕ × ℕ)) (q : Option StoreFolder) → IsSmallMail s.mail → IsSmallMail (select_reply s known q).session.mail
select_leaves s known None small = small
select_leaves s known (Some f) small = small

all_modseqs : (s : StoreSession) → IsSmallMail s.mail → All (λ f. f.has_modseqs ≡ true) s.mail.folders
all_modseqs s small = All-weaker IsSmallFolder (λ f. f.has_modseqs ≡ true) (λ f is. is.modseqs) s.mail.folders small.folders

-- ---- OK to each command

good : (s : StoreSession) (c : Command) → IsSmallMail s.mail → HasStorableParts c → (RefusalCause s c → ⊥) → IsOkGood s c
good s command.Capability small ask free = record { honest = capability_honest s small.well_formed; small = small }
good s (command.Login user password) small ask free = record { honest = login_honest s user password small.well_formed; small = small }
good s command.Enable small ask free = record { honest = enable_honest s small.well_formed; small = small }
good s (command.List special_use) small ask free = record { honest = list_honest special_use s small.well_formed small.all_selectable; small = small }
good s (command.Select name known) small ask free = record {
  honest = select_honest s name known small.well_formed (all_modseqs s small) free;
  small = select_leaves s known (folder_called s.mail.folders name) small;
}
good s command.Unselect small ask free = record { honest = unselect_honest s.mail small.well_formed s.selected free; small = small }
good s command.FetchFlags small ask free = record {
  honest = flags_honest s.mail small.well_formed s.selected free;
  small = fetch_leaves s (selected_folder s) (λ ms u. true) flags_response small;
}
good s (command.FetchSlice from to modseq) small ask free = record {
  honest = slice_honest s.mail small.well_formed from to modseq s.selected free;
  small = fetch_leaves s (selected_folder s) (λ ms. is_between from to) (header_response modseq) small;
}
good s (command.FetchNew from modseq) small ask free = record {
  honest = new_honest s.mail small.well_formed from modseq s.selected free;
  small = fetch_leaves s (selected_folder s) (is_from_on from) (header_response modseq) small;
}
good s (command.FetchBody uid) small ask free = record {
  honest = body_honest s.mail small.well_formed uid s.selected free;
  small = fetch_leaves s (selected_folder s) (λ ms u. u == uid) body_response small;
}
good s (command.Store uid add flags) small ask free = store_good s.mail s.selected uid add flags small free
good s (command.Move uid name) small ask free = move_good s.mail s.selected uid name small free
good s (command.Expunge uid) small ask free = expunge_good s.mail s.selected uid small free
good s (command.Append name flags date message) small ask free = append_good s name flags date message small ask free
good s (command.Create name) small ask free = create_good s name small ask free
good s (command.Delete name) small ask free = delete_good s name small free
good s (command.Rename from to) small ask free = rename_good s from to small ask free
good s (command.Subscribe name on) small ask free = subscribe_good s name on small

-- ---- the answer

answered : {s t : StoreSession} {c : Command} {a : StoreAnswer} → IsSmallMail s.mail → HasStorableParts c → AnswersCommand s c a t → Honest NoStep s c a t × IsSmallMail t.mail
answered {s} {t} {c} small ask (Refused cause) = (refusals_are_honest s c small.well_formed cause, small)
answered {s} {t} {c} small ask (Accepted free) = let is : IsOkGood s c = good s c small ask free in (is.honest, is.small)

pub answers_are_honest : (s t : StoreSession) (c : Command) (a : StoreAnswer) → IsSmallMail s.mail → HasStorableParts c → AnswersCommand s c a t
    → Honest NoStep s c a t × IsSmallMail t.mail
answers_are_honest s t c a small ask answer = answered small ask answer
