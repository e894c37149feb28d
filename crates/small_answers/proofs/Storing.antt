-- Answers to STORE are honest, and leave the small store's mail.
use Rattle.std.proofs.Common.{inl, inr, ◌≡◌, ℕ, Bool, true, false, not, List, [], Option, Some, None, filter, refl, sym, ap, ◌∙◌, subst, eq-eqb, ◌==◌, Any, if◌then◌else◌}
use Rattle.std.specs.List.{AllByRecursion}
use Rattle.imap_types.specs.declared.code.Code.TheVariants as code
use Rattle.imap_types.specs.declared.command.Command.TheVariants as command
use Rattle.honest_store.specs.StoreMail.{StoreMessage, StoreFolder, StoreMail, folder_numbered, message_numbered}
use Rattle.honest_store.specs.MessageChanges.{folder_flagged, flagged_messages, with_flags_at}
use Rattle.honest_store.specs.Responses.{IsFetchOf, MayAnswer}
use Rattle.honest_store.specs.TrueResponses.{messages_of_folder}
use Rattle.honest_store.specs.MessageCommands.{flags_after, SaysFlags, StoresFlags}
use Rattle.small_answers.specs.Changes.{next_modseq, mail_flagged}
use Rattle.small_answers.specs.Limits.{is_last_change}
use Rattle.small_answers.specs.Causes.{RefusalCause, NothingSelected, NumberSpent, IsAtEnd, are_same_names, changes_flags}
use Rattle.small_answers.specs.ToldResponses.{change_response}
use Rattle.small_answers.specs.Answers.{flags_reply, reply_with, store_reply, told_change}
use Rattle.small_answers.specs.SmallMail.{IsSmallMail}
use Rattle.small_answers.proofs.Elements.{each_told, told_each}
use Rattle.small_answers.proofs.Searches.{found_is}
use Rattle.small_answers.proofs.Truths.{IsTrueThere}
use Rattle.small_answers.proofs.Fetches.{change_all_true}
use Rattle.small_answers.proofs.Reading.{late_answer}
use Rattle.small_answers.proofs.Attributes.{flags_after_kept}
use Rattle.small_answers.proofs.FoldersKept.{ascend_flagged, found_flagged}
use Rattle.small_answers.proofs.Changed.{by_uid, flagged_small, flags_it, folder_is, message_is, put_found}
use Rattle.small_answers.proofs.Replies.{IsGoodReply, IsOkGood, on, seen_message, sees, good_by_message}

-- the message that is found is told of, with its flags
change_told : (ms : List StoreMessage) (u : ℕ) (m : StoreMessage) → message_numbered ms u ≡ Some m → m.uid ≡ u → Any (IsFetchOf u (SaysFlags m.flags)) (told_change ms u)
change_told ms u m found same =
    subst (λ (v : ℕ). Any (IsFetchOf v (SaysFlags m.flags)) (told_change ms u)) same
    (found_is (λ x. (x.uid == u) ≡ true → Any (IsFetchOf x.uid (SaysFlags x.flags)) (told_change ms u)) (λ x. x.uid == u) ms m
    (told_each (λ x. x.uid == u) (change_response ms) (λ x r. IsFetchOf x.uid (SaysFlags x.flags) r) (λ x. (refl, refl)) ms) found (eq-eqb m.uid u same))

module _ (mail : StoreMail) (n uid : ℕ) (add : Bool) (asked : List (List ℕ)) (small : IsSmallMail mail) where
  change_answers : (ms : List StoreMessage) (u : ℕ) → AllByRecursion (MayAnswer (command.Store uid add asked)) (told_change ms u)
  change_answers ms u =
      each_told (change_response ms) (MayAnswer (command.Store uid add asked)) (λ m. tt) (filter (λ x. x.uid == u) ms)

  not_there : seen_message mail n uid ≡ None → IsGoodReply (on mail n) (command.Store uid add asked) (reply_with (on mail n) [])
  not_there none = record {
    honest = late_answer (on mail n) (on mail n) (command.Store uid add asked) [] code.Absent small.well_formed tt tt (
      refl,
      (
        n,
        messages_of_folder (folder_numbered mail.folders n),
        refl,
        refl,
        subst
            (StoresFlags mail n add asked (record { early = []; late = []; code = code.Absent }) mail) (sym none) refl,
      ),
    );
    small = small;
  }

  module _ (f : StoreFolder) (m : StoreMessage) (there : folder_numbered mail.folders n ≡ Some f) (held : message_numbered f.messages uid ≡ Some m) where
    -- the flags are told, and stay
    unchanged : IsGoodReply (on mail n) (command.Store uid add asked) (reply_with (on mail n) (told_change f.messages m.uid))
    unchanged = record {
      honest = late_answer (on mail n) (on mail n) (command.Store uid add asked) (told_change f.messages m.uid) code.Absent small.well_formed
          (subst (λ (o : Option StoreFolder). AllByRecursion (IsTrueThere (Some o)) (told_change f.messages m.uid)) (sym there)
          (change_all_true (λ x. x.uid == m.uid) f (folder_is mail n f small there).ascend)) (change_answers f.messages m.uid) (
            refl,
            (
              n,
              messages_of_folder (folder_numbered mail.folders n),
              refl,
              refl,
              subst (StoresFlags mail n add asked (record { early = []; late = told_change f.messages m.uid; code = code.Absent }) mail)
                  (sym (sees mail n uid f (Some m) there held))
                  (m.flags, inr (refl, refl), inr (change_told f.messages m.uid m (by_uid mail n uid f m small there held) refl)),
            ),
          );
      small = small;
    }

    -- the message takes the flags
    changed : (is_last_change f ≡ true → ⊥) → IsGoodReply (on mail n) (command.Store uid add asked) (flags_reply (on mail n) f m.uid (flags_after add asked m.flags))
    changed room =
        let flags : List (List ℕ) = flags_after add asked m.flags in
        let after : StoreMail = mail_flagged mail (Some f) m.uid flags in
        let ms : List StoreMessage = flagged_messages f.messages m.uid flags (next_modseq f) in
        let after_small : IsSmallMail after =
        flagged_small mail n uid f m small there held flags room (flags_after_kept add asked m.flags (message_is mail n uid f m small there held).flags) in
        record {
          honest = late_answer (on mail n) (on after n) (command.Store uid add asked) (told_change ms m.uid) code.Absent after_small.well_formed
              (subst (λ (o : Option StoreFolder). AllByRecursion (IsTrueThere (Some o)) (told_change ms m.uid))
              (sym (put_found mail n f (folder_flagged f m.uid flags (next_modseq f)) small there refl))
              (change_all_true (λ x. x.uid == m.uid) (folder_flagged f m.uid flags (next_modseq f))
              (ascend_flagged m.uid flags (next_modseq f) 0 f.messages (folder_is mail n f small there).ascend))) (change_answers ms m.uid) (
                refl,
                (
                  n,
                  messages_of_folder (folder_numbered mail.folders n),
                  refl,
                  refl,
                  subst (StoresFlags mail n add asked (record { early = []; late = told_change ms m.uid; code = code.Absent }) after)
                      (sym (sees mail n uid f (Some m) there held)) (
                        flags,
                        inl (flags_it mail n uid f m small there held flags),
                        inr (change_told ms m.uid (with_flags_at m flags (next_modseq f))
                            (found_flagged m.uid flags (next_modseq f) f.messages m (by_uid mail n uid f m small there held)) refl),
                      ),
                ),
              );
          small = after_small;
        }

    by_change : (b : Bool) → are_same_names (flags_after add asked m.flags) m.flags ≡ b
        → (are_same_names (flags_after add asked m.flags) m.flags ≡ false → is_last_change f ≡ true → ⊥)
        → IsGoodReply (on mail n) (command.Store uid add asked)
        (if b then reply_with (on mail n) (told_change f.messages m.uid) else flags_reply (on mail n) f m.uid (flags_after add asked m.flags))
    by_change true e room = unchanged
    by_change false e room = changed (room e)

    good_with : (RefusalCause (on mail n) (command.Store uid add asked) → ⊥)
        → IsGoodReply (on mail n) (command.Store uid add asked) (store_reply (on mail n) f add asked (Some m))
    good_with free = by_change (are_same_names (flags_after add asked m.flags) m.flags) refl
        (λ other last. free (NumberSpent (
          subst (IsAtEnd is_last_change) (sym there) last,
          ap (changes_flags add asked) (sees mail n uid f (Some m) there held) ∙ ap not other,
        )))

pub store_good : (mail : StoreMail) (o : Option ℕ) (uid : ℕ) (add : Bool) (asked : List (List ℕ)) → IsSmallMail mail
    → (RefusalCause (record { mail = mail; selected = o }) (command.Store uid add asked) → ⊥)
    → IsOkGood (record { mail = mail; selected = o }) (command.Store uid add asked)
store_good mail None uid add asked small free = absurd (free (NothingSelected tt refl))
store_good mail (Some n) uid add asked small free =
    good_by_message mail n uid (command.Store uid add asked) (λ f. store_reply (on mail n) f add asked) (not_there mail n uid add asked small)
    (λ f none. not_there mail n uid add asked small none)
    (λ f m there held. good_with mail n uid add asked small f m there held free)
