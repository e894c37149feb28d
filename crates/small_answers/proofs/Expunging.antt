-- Answers to EXPUNGE are honest, and leave the small store's mail.
use Rattle.std.proofs.Common.{inl, inr, ◌≡◌, ℕ, Bool, true, false, List, [], ◌∷◌, Option, Some, None, refl, sym, subst, if◌then◌else◌}
use Rattle.std.specs.List.{AllByRecursion}
use Rattle.imap_types.specs.declared.code.Code.TheVariants as code
use Rattle.imap_types.specs.declared.command.Command.TheVariants as command
use Rattle.imap_types.specs.declared.response.Response.{Response}
use Rattle.imap_types.specs.declared.response.Response.TheVariants as response
use Rattle.honest_store.specs.StoreMail.{StoreMessage, StoreFolder, StoreMail, folder_numbered, message_numbered}
use Rattle.honest_store.specs.MessageChanges.{folder_without}
use Rattle.honest_store.specs.Responses.{IsVanishedOf}
use Rattle.honest_store.specs.TrueResponses.{messages_of_folder}
use Rattle.honest_store.specs.MessageCommands.{is_deleted, Expunges}
use Rattle.small_answers.specs.Changes.{next_modseq, mail_without}
use Rattle.small_answers.specs.Limits.{is_last_change}
use Rattle.small_answers.specs.Causes.{RefusalCause, NothingSelected, NumberSpent, IsAtEnd, ends_message}
use Rattle.small_answers.specs.ToldResponses.{set_of}
use Rattle.small_answers.specs.Answers.{expunge_reply, expunged_reply, reply_with}
use Rattle.small_answers.specs.SmallMail.{IsSmallMail}
use Rattle.small_answers.proofs.Elements.{any_head}
use Rattle.small_answers.proofs.Truths.{IsTrueThere}
use Rattle.small_answers.proofs.Reading.{late_answer}
use Rattle.small_answers.proofs.Selecting.{set_holds, vanished_true}
use Rattle.small_answers.proofs.FoldersKept.{vanished_without}
use Rattle.small_answers.proofs.Changed.{ends, put_found, without_small}
use Rattle.small_answers.proofs.Replies.{IsGoodReply, IsOkGood, on, seen_message, sees, good_by_message}

module _ (mail : StoreMail) (n uid : ℕ) (small : IsSmallMail mail) where
  -- nothing is told, and nothing is done
  nothing_done : Expunges mail n (record { early = []; late = []; code = code.Absent }) mail (seen_message mail n uid)
      → IsGoodReply (on mail n) (command.Expunge uid) (reply_with (on mail n) [])
  nothing_done none = record {
    honest = late_answer (on mail n) (on mail n) (command.Expunge uid) [] code.Absent small.well_formed tt tt
        (refl, (n, messages_of_folder (folder_numbered mail.folders n), refl, refl, none));
    small = small;
  }

  not_there : seen_message mail n uid ≡ None → IsGoodReply (on mail n) (command.Expunge uid) (reply_with (on mail n) [])
  not_there none = nothing_done (subst (Expunges mail n (record { early = []; late = []; code = code.Absent }) mail) (sym none) refl)

  module _ (f : StoreFolder) (m : StoreMessage) (there : folder_numbered mail.folders n ≡ Some f) (held : message_numbered f.messages uid ≡ Some m) where
    abbrev told : List Response
    told = response.Vanished false (set_of m.uid) ∷ []

    -- it has the flag
    ended : is_deleted m ≡ true → (is_last_change f ≡ true → ⊥)
        → IsGoodReply (on mail n) (command.Expunge uid) (expunged_reply (on mail n) f m.uid)
    ended deleted room =
        let left : StoreMail = mail_without mail (Some f) m.uid in
        let left_small : IsSmallMail left = without_small mail n uid f m small there held room in
        record {
          honest = late_answer (on mail n) (on left n) (command.Expunge uid) told (code.HighestModSeq (next_modseq f)) left_small.well_formed
              (subst (λ (o : Option StoreFolder). AllByRecursion (IsTrueThere (Some o)) told)
              (sym (put_found mail n f (folder_without f m.uid (next_modseq f)) small there refl))
              (vanished_true false (folder_without f m.uid (next_modseq f)) m.uid (vanished_without f m.uid (next_modseq f)), tt)) (tt, tt) (
                refl,
                (
                  n,
                  messages_of_folder (folder_numbered mail.folders n),
                  refl,
                  refl,
                  subst (Expunges mail n (record { early = []; late = told; code = code.HighestModSeq (next_modseq f) }) left) (sym (sees mail n uid f (Some m) there held))
                      (inl (
                        deleted,
                        ends mail n uid f m small there held,
                        any_head (IsVanishedOf false m.uid) (response.Vanished false (set_of m.uid)) []
                            (refl, set_holds m.uid),
                      )),
                ),
              );
          small = left_small;
        }

    by_flag : (b : Bool) → is_deleted m ≡ b → (is_deleted m ≡ true → is_last_change f ≡ true → ⊥)
        → IsGoodReply (on mail n) (command.Expunge uid) (if b then expunged_reply (on mail n) f m.uid else reply_with (on mail n) [])
    by_flag true e room = ended e (room e)
    by_flag false e room = nothing_done (subst (Expunges mail n (record { early = []; late = []; code = code.Absent }) mail) (sym (sees mail n uid f (Some m) there held))
        (inr (e, refl)))

    good_with : (RefusalCause (on mail n) (command.Expunge uid) → ⊥) → IsGoodReply (on mail n) (command.Expunge uid) (expunge_reply (on mail n) f (Some m))
    good_with free = by_flag (is_deleted m) refl
        (λ deleted last. free (NumberSpent (
          subst (IsAtEnd is_last_change) (sym there) last,
          subst (λ (o : Option StoreMessage). ends_message o ≡ true) (sym (sees mail n uid f (Some m) there held)) deleted,
        )))

pub expunge_good : (mail : StoreMail) (o : Option ℕ) (uid : ℕ) → IsSmallMail mail → (RefusalCause (record { mail = mail; selected = o }) (command.Expunge uid) → ⊥)
    → IsOkGood (record { mail = mail; selected = o }) (command.Expunge uid)
expunge_good mail None uid small free = absurd (free (NothingSelected tt refl))
expunge_good mail (Some n) uid small free =
    good_by_message mail n uid (command.Expunge uid) (expunge_reply (on mail n)) (not_there mail n uid small) (λ f none. not_there mail n uid small none)
    (λ f m there held. good_with mail n uid small f m there held free)
