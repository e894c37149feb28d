-- Answers to APPEND are honest, and leave the small store's mail.
use Rattle.std.proofs.Common.{◌≡◌, ◌⊎◌, inl, inr, ℕ, ◌-◌, ◌^◌, ◌<◌, ◌≤◌, ℤ, pos, negsuc, ◌-ℤ◌, List, [], Option, Some, None, length, refl, sym, ap, ◌∙◌, subst}
use Rattle.std.proofs.Common.{arith}
use Rattle.std.proofs.lemmas.Bool.{cases_lt}
use Rattle.std.proofs.lemmas.Int.{ints}
use Rattle.imap_types.specs.declared.code.Code.TheVariants as code
use Rattle.imap_types.specs.declared.command.Command.TheVariants as command
use Rattle.imap_types.specs.Dates.{seconds_from}
use Rattle.imap_types.proofs.KeptLemmas.{kept_again}
use Rattle.honest_store.specs.StoreMail.{StoreMessage, StoreFolder, StoreMail, folder_called, folder_numbered}
use Rattle.honest_store.specs.WellFormed.{nearest_date}
use Rattle.honest_store.specs.Sessions.{StoreSession}
use Rattle.honest_store.specs.MessageCommands.{sent_message}
use Rattle.small_answers.specs.Changes.{next_modseq, mail_with}
use Rattle.small_answers.specs.Limits.{is_last_message}
use Rattle.small_answers.specs.Causes.{RefusalCause, NotThere, NumberSpent, IsAtEnd}
use Rattle.small_answers.specs.Answers.{append_reply}
use Rattle.small_answers.specs.SmallMail.{IsSmallMail}
use Rattle.small_answers.proofs.Elements.{any_head}
use Rattle.small_answers.proofs.Reading.{late_answer}
use Rattle.small_answers.proofs.FoldersFound.{called_numbered}
use Rattle.small_answers.proofs.Changed.{adds, with_small}
use Rattle.small_answers.proofs.Replies.{IsGoodReply, IsOkGood}

-- ---- dates

within_years : (date : ℤ) → seconds_from date ≤ 315569519999
within_years (pos n) = omega arith
within_years (negsuc n) = omega arith

years_again : (n : ℕ) → n ≤ 315569519999 → (n < 62167219200) ⊎ (62167219200 ≤ n) → seconds_from (pos n -ℤ pos 62167219200) ≡ n
years_again n within (inl below) =
    let before : pos n -ℤ pos 62167219200 ≡ negsuc (62167219200 - n - 1) = omega (arith, ints, below) in
    ap seconds_from before ∙ omega (arith, below)
years_again n within (inr above) =
    let behind : pos n -ℤ pos 62167219200 ≡ pos (n - 62167219200) = omega (arith, ints, above) in
    ap seconds_from behind ∙ omega (arith, above, within)

pub nearest_again : (date : ℤ) → nearest_date (nearest_date date) ≡ nearest_date date
nearest_again date =
    ap (λ (n : ℕ). pos n -ℤ pos 62167219200) (years_again (seconds_from date) (within_years date) (cases_lt (seconds_from date) 62167219200))

-- ---- the answer

module _ (s : StoreSession) (name : List ℕ) (flags : List (List ℕ)) (date : ℤ) (message : List ℕ) (small : IsSmallMail s.mail) (fits : length message < 2 ^ 63)
    (free : RefusalCause s (command.Append name flags date message) → ⊥) where
  by_target : (q : Option StoreFolder) → folder_called s.mail.folders name ≡ q
      → IsGoodReply s (command.Append name flags date message) (append_reply s (sent_message flags date message 0 0) q)
  by_target None e = absurd (free (NotThere (any_head (λ k. folder_called s.mail.folders k ≡ None) name [] e)))
  by_target (Some t) e =
      let there : folder_numbered s.mail.folders t.number ≡ Some t = called_numbered s.mail name t small.well_formed e in
      let sent : StoreMessage = sent_message flags date message 0 0 in
      let after : StoreMail = mail_with s.mail (Some t) sent in
      let after_small : IsSmallMail after =
      with_small s.mail t.number t small there sent (λ last. free (NumberSpent (subst (IsAtEnd is_last_message) (sym e) last))) (kept_again flags)
      (nearest_again date) fits in
      record {
        honest = late_answer s (record s { mail = after }) (command.Append name flags date message) [] (code.AppendUid t.validity t.uid_next) after_small.well_formed tt tt (
          refl,
          record { target = t; named = e; uid = t.uid_next; modseq = next_modseq t; adds = adds s.mail t.number t small there sent; coded = refl },
        );
        small = after_small;
      }

  pub append_good : IsOkGood s (command.Append name flags date message)
  append_good = by_target (folder_called s.mail.folders name) refl
