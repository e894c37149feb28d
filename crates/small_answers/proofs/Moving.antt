-- Answers to MOVE are honest, and leave the small store's mail.
use Rattle.std.proofs.Common.{inl, inr, ◌≡◌, ℕ, false, true, List, [], ◌∷◌, Option, Some, None, refl, sym, ap, subst, eqb-true, ◌==◌}
use Rattle.std.specs.List.{AllByRecursion}
use Rattle.std.proofs.lemmas.List.Elements.{All-from_recursion}
use Rattle.imap_types.specs.declared.code.Code.{Code}
use Rattle.imap_types.specs.declared.code.Code.TheVariants as code
use Rattle.imap_types.specs.declared.command.Command.TheVariants as command
use Rattle.imap_types.specs.declared.response.Response.{Response}
use Rattle.imap_types.specs.declared.response.Response.TheVariants as response
use Rattle.imap_types.specs.UidSets.{Holds, HoldsOnly}
use Rattle.honest_store.specs.StoreMail.{StoreMessage, StoreFolder, NameUse, StoreMail, folder_called, folder_numbered, message_numbered}
use Rattle.honest_store.specs.Responses.{IsVanishedOf}
use Rattle.honest_store.specs.TrueResponses.{messages_of_folder}
use Rattle.honest_store.specs.MessageCommands.{IsCopyUid, IsCopyUidOf, MovesOut}
use Rattle.small_answers.specs.Changes.{mail_with, mail_without}
use Rattle.small_answers.specs.Limits.{is_last_change, is_last_message}
use Rattle.small_answers.specs.Causes.{RefusalCause, NotThere, NothingSelected, NoMessage, NumberSpent, IsAtEnd}
use Rattle.small_answers.specs.ToldResponses.{set_of, ok_response}
use Rattle.small_answers.specs.Answers.{move_reply, move_reply_to}
use Rattle.small_answers.specs.SmallMail.{IsSmallMail}
use Rattle.small_answers.proofs.Elements.{any_head, any_tail}
use Rattle.small_answers.proofs.Searches.{found_passes}
use Rattle.small_answers.proofs.Truths.{IsTrueThere}
use Rattle.small_answers.proofs.Reading.{late_answer}
use Rattle.small_answers.proofs.Selecting.{set_holds, set_holds_one, vanished_true}
use Rattle.small_answers.proofs.MailKept.{put}
use Rattle.small_answers.proofs.Moved.{found_left, gone, target, target_use, moved_small, moves, vanished, seen_after, come}
use Rattle.small_answers.proofs.Replies.{IsGoodReply, IsOkGood, on, sees, good_by_message}

set_holds_only : (w : ℕ) → HoldsOnly (set_of w).ranges w
unfolding HoldsOnly
set_holds_only w other = (set_holds_one w other, λ e. subst (λ (v : ℕ). Holds (set_of w).ranges v) (sym e) (set_holds w))

module _ (mail : StoreMail) (n uid : ℕ) (name : List ℕ) (small : IsSmallMail mail) (free : RefusalCause (on mail n) (command.Move uid name) → ⊥)
    (f : StoreFolder) (m : StoreMessage) (there : folder_numbered mail.folders n ≡ Some f) (held : message_numbered f.messages uid ≡ Some m) where
  same_uid : m.uid ≡ uid
  same_uid = eqb-true m.uid uid (found_passes (λ x. x.uid == uid) f.messages m held)

  room : is_last_change f ≡ true → ⊥
  room last = free (NumberSpent (inl (subst (IsAtEnd is_last_change) (sym there) last)))

  module _ (t : StoreFolder) (called : folder_called mail.folders name ≡ Some t) where
    abbrev aim : StoreFolder
    aim = target mail n uid f m small there held room name t called

    abbrev after : StoreMail
    after = mail_with (mail_without mail (Some f) m.uid) (Some aim) m

    abbrev copied : Code
    copied = code.CopyUid aim.validity (set_of m.uid) (set_of aim.uid_next)

    abbrev told : List Response
    told = ok_response copied ∷ response.Vanished false (set_of m.uid) ∷ []

    space : is_last_message aim ≡ true → ⊥
    space last = free (NumberSpent (inr (subst (λ (q : Option StoreFolder). IsAtEnd is_last_message (folder_called (mail_without mail q uid).folders name)) (sym there)
        (subst (λ (v : ℕ). IsAtEnd is_last_message (folder_called (mail_without mail (Some f) v).folders name)) same_uid
        (subst (IsAtEnd is_last_message) (sym (found_left mail n uid f m small there held room name t called)) last)))))

    abbrev Coded : Code → Type 0
    Coded c = IsCopyUidOf t.validity m.uid aim.uid_next c

    coded : Coded copied
    coded = (ap (λ (v : NameUse). v.validity) (target_use mail n uid f m small there held room name t called), set_holds_only m.uid, set_holds_only aim.uid_next)

    good_to : IsGoodReply (on mail n) (command.Move uid name) (move_reply_to (on mail n) (mail_without mail (Some f) m.uid) m (Some aim))
    good_to =
        let after_small : IsSmallMail after = moved_small mail n uid f m small there held room name t called space in
        record {
          honest = late_answer (on mail n) (on after n) (command.Move uid name) told code.Absent after_small.well_formed
              (subst (λ (o : Option StoreFolder). AllByRecursion (IsTrueThere (Some o)) told)
              (sym (seen_after mail n uid f m small there held room name t called)) (
                (tt, tt),
                (
                  vanished_true false (put (come mail n uid f m small there held room name t called) (gone mail n uid f m small there held room name t called)) m.uid
                      (vanished mail n uid f m small there held room name t called),
                  tt,
                ),
              )) (tt, (tt, tt)) (
                refl,
                (
                  n,
                  messages_of_folder (folder_numbered mail.folders n),
                  refl,
                  refl,
                  subst (MovesOut mail n name (record { early = []; late = told; code = code.Absent }) after) (sym (sees mail n uid f (Some m) there held)) (
                    t,
                    called,
                    record {
                      uid = aim.uid_next;
                      moves = moves mail n uid f m small there held room name t called;
                      coded = any_head Coded copied (code.Absent ∷ code.Absent ∷ []) coded;
                      no_other = All-from_recursion (λ c. IsCopyUid c → Coded c) (copied ∷ code.Absent ∷ code.Absent ∷ []) ((λ is. coded), (absurd, (absurd, tt)));
                      vanished = any_tail (IsVanishedOf false m.uid) (ok_response copied) (response.Vanished false (set_of m.uid) ∷ [])
                          (any_head (IsVanishedOf false m.uid) (response.Vanished false (set_of m.uid)) [] (refl, set_holds m.uid));
                    },
                  ),
                ),
              );
          small = after_small;
        }

    good_found : IsGoodReply (on mail n) (command.Move uid name) (move_reply (on mail n) f name (Some m))
    good_found =
        subst (λ (q : Option StoreFolder). IsGoodReply (on mail n) (command.Move uid name) (move_reply_to (on mail n) (mail_without mail (Some f) m.uid) m q))
        (sym (found_left mail n uid f m small there held room name t called)) good_to

  by_target : (q : Option StoreFolder) → folder_called mail.folders name ≡ q → IsGoodReply (on mail n) (command.Move uid name) (move_reply (on mail n) f name (Some m))
  by_target None e = absurd (free (NotThere (any_head (λ k. folder_called mail.folders k ≡ None) name [] e)))
  by_target (Some t) e = good_found t e

pub move_good : (mail : StoreMail) (o : Option ℕ) (uid : ℕ) (name : List ℕ) → IsSmallMail mail
    → (RefusalCause (record { mail = mail; selected = o }) (command.Move uid name) → ⊥)
    → IsOkGood (record { mail = mail; selected = o }) (command.Move uid name)
move_good mail None uid name small free = absurd (free (NothingSelected tt refl))
move_good mail (Some n) uid name small free =
    good_by_message mail n uid (command.Move uid name) (λ f. move_reply (on mail n) f name) (λ none. absurd (free (NoMessage none))) (λ f none. absurd (free (NoMessage none)))
    (λ f m there held. by_target mail n uid name small free f m there held (folder_called mail.folders name) refl)
