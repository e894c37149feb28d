-- What OK gives to a command, from what was found and done.
use Rattle.std.proofs.Common.{◌≡◌, ◌∙◌, ℕ, ℤ, List, [], Option, Some, None, Result, refl, sym, ap, subst}
use Rattle.std.specs.Prelude.{IfOk}
use Rattle.std.specs.declared.alloc.AllocError.{AllocError}
use Rattle.std.proofs.lemmas.Result.{IfOk-weaker}
use Rattle.imap_types.specs.declared.code.Code.TheVariants as code
use Rattle.imap_types.specs.declared.command.Command.{Command}
use Rattle.imap_types.specs.declared.command.Command.TheVariants as command
use Rattle.imap_types.specs.declared.response.Response.{Response}
use Rattle.imap_types.specs.declared.response.Status.TheVariants as status
use Rattle.honest_store.specs.StoreMail.{StoreFolder, StoreMail, folder_called}
use Rattle.honest_store.specs.Sessions.{StoreSession, StoreAnswer}
use Rattle.honest_store.specs.MessageCommands.{sent_message}
use Rattle.small_answers.specs.Answers.{Reply, append_reply, ok_answer, ok_reply, over_mail, reply_in, select_reply}
use Rattle.small_answers.specs.Changes.{mail_deleted, selected_folder}
use Rattle.small_answers.specs.ToldResponses.{select_responses}
use Rattle.small_answers.proofs.FoldersFound.{name_found}
use Rattle.small_store.specs.reading.Steps.{Gives, session_of}

abbrev pub done : StoreAnswer
done = record { responses = []; status = status.Ok; code = code.Absent }

-- a command that was told apart
pub answered_as : (s after : StoreSession) (asked given : Command) (result : Result StoreAnswer AllocError) → asked ≡ given
    → IfOk result (λ (a : StoreAnswer). Gives (ok_reply s given) a after) → IfOk result (λ (a : StoreAnswer). Gives (ok_reply s asked) a after)
answered_as s after asked given result same = subst (λ (c : Command). IfOk result (λ (a : StoreAnswer). Gives (ok_reply s c) a after)) (sym same)

pub gives_asked : (s after : StoreSession) (asked given : Command) (a : StoreAnswer) → asked ≡ given → Gives (ok_reply s given) a after → Gives (ok_reply s asked) a after
gives_asked s after asked given a same = subst (λ (c : Command). Gives (ok_reply s c) a after) (sym same)

-- ---- SELECT and DELETE

module _ (s : StoreSession) (name : List ℕ) where
  pub select_gives : (known : Option (ℕ × ℕ)) (f : StoreFolder) (rs : List Response) (n : ℕ) (a : StoreAnswer) → folder_called s.mail.folders name ≡ Some f
      → rs ≡ select_responses s.selected f known → n ≡ f.number → a ≡ record { responses = rs; status = status.Ok; code = code.Other }
      → Gives (ok_reply s (command.Select name known)) a (session_of s.mail (Some n))
  select_gives known f rs n a there told number is = record {
    answer = is ∙ (ap (λ (xs : List Response). record { responses = xs; status = status.Ok; code = code.Other }) told
        ∙ sym (ap (λ (o : Option StoreFolder). ok_answer (select_reply s known o)) there));
    session = ap (λ (m : ℕ). session_of s.mail (Some m)) number ∙ sym (ap (λ (o : Option StoreFolder). (select_reply s known o).session) there);
  }

  pub select_none : (known : Option (ℕ × ℕ)) (a : StoreAnswer) → folder_called s.mail.folders name ≡ None → a ≡ done → Gives (ok_reply s (command.Select name known)) a s
  select_none known a none is = subst (λ (o : Option StoreFolder). Gives (select_reply s known o) a s) (sym none) (record { answer = is; session = refl })

  pub delete_gives : (f : StoreFolder) (after : StoreMail) (a : StoreAnswer) → folder_called s.mail.folders name ≡ Some f → after ≡ mail_deleted s.mail f.name → a ≡ done
      → Gives (ok_reply s (command.Delete name)) a (session_of after s.selected)
  delete_gives f after a there is told = record {
    answer = told;
    session = ap (over_mail s) (is ∙ ap (mail_deleted s.mail) (name_found s.mail.folders name f there));
  }

-- ---- in the folder that is selected

module _ (s : StoreSession) (f : StoreFolder) (there : selected_folder s ≡ Some f) where
  pub gives_in : (reply : StoreFolder → Reply) (after : StoreSession) (a : StoreAnswer) → Gives (reply f) a after → Gives (reply_in s (selected_folder s) reply) a after
  gives_in reply after a = subst (λ (o : Option StoreFolder). Gives (reply_in s o reply) a after) (sym there)

-- ---- APPEND

pub append_gives : (s after : StoreSession) (name : List ℕ) (flags : List (List ℕ)) (date : ℤ) (message : List ℕ) (f : StoreFolder) (a : StoreAnswer)
    → folder_called s.mail.folders name ≡ Some f → Gives (append_reply s (sent_message flags date message 0 0) (Some f)) a after
    → Gives (ok_reply s (command.Append name flags date message)) a after
append_gives s after name flags date message f a called =
    subst (λ (o : Option StoreFolder). Gives (append_reply s (sent_message flags date message 0 0) o) a after) (sym called)

-- ---- what changes nothing

pub told_gives : (s : StoreSession) (asked given : Command) (result : Result StoreAnswer AllocError) → asked ≡ given → s ≡ (ok_reply s given).session
    → IfOk result (λ (a : StoreAnswer). (t : StoreSession) → a ≡ ok_answer (ok_reply t given)) → IfOk result (λ (a : StoreAnswer). Gives (ok_reply s asked) a s)
told_gives s asked given result same kept told =
    answered_as s s asked given result same
    (IfOk-weaker result (λ (a : StoreAnswer). (t : StoreSession) → a ≡ ok_answer (ok_reply t given)) (λ (a : StoreAnswer). Gives (ok_reply s given) a s)
    (λ a is. record { answer = is s; session = kept }) told)
