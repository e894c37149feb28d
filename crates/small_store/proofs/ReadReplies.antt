-- What is due to a command that reads messages of the folder that is selected.
use Rattle.std.proofs.Common.{◌≡◌, ℕ, Bool, true, ◌==◌, Option, Some, sym, ap, ◌∙◌}
use Rattle.imap_types.specs.declared.command.Command.TheVariants as command
use Rattle.honest_store.specs.StoreMail.{StoreFolder}
use Rattle.honest_store.specs.Sessions.{StoreSession, StoreAnswer}
use Rattle.small_answers.specs.Changes.{selected_folder}
use Rattle.small_answers.specs.ToldResponses.{body_response, flags_response, greatest_uid, header_response, is_between, is_from_on}
use Rattle.small_answers.specs.Answers.{fetch_reply, ok_answer, ok_reply, reply_in}
use Rattle.small_store.specs.reading.Fetches.{answer_of}
use Rattle.small_store.specs.declared.fetches.Asked.TheVariants as asked
use Rattle.small_store.specs.declared.fetches.Which.TheVariants as which

module _ (s : StoreSession) (f : StoreFolder) (a : StoreAnswer) (there : selected_folder s ≡ Some f) where
  pub flags_read : a ≡ answer_of which.All asked.Flags f.messages → a ≡ ok_answer (ok_reply s command.FetchFlags)
  flags_read is = is ∙ sym (ap (λ (o : Option StoreFolder). ok_answer (reply_in s o (λ (g : StoreFolder). fetch_reply s g.messages (λ u. true) flags_response))) there)

  pub slice_read : (from to : ℕ) (modseq : Bool) → a ≡ answer_of (which.Range from to) (asked.Header modseq) f.messages
      → a ≡ ok_answer (ok_reply s (command.FetchSlice from to modseq))
  slice_read from to modseq is =
      is ∙ sym (ap (λ (o : Option StoreFolder). ok_answer (reply_in s o (λ (g : StoreFolder). fetch_reply s g.messages (is_between from to) (header_response modseq)))) there)

  pub new_read : (from last : ℕ) (modseq : Bool) → last ≡ greatest_uid f.messages → a ≡ answer_of (which.FromOn from last) (asked.Header modseq) f.messages
      → a ≡ ok_answer (ok_reply s (command.FetchNew from modseq))
  new_read from last modseq last_is is =
      is ∙ (ap (λ (n : ℕ). answer_of (which.FromOn from n) (asked.Header modseq) f.messages) last_is
      ∙ sym (ap (λ (o : Option StoreFolder). ok_answer (reply_in s o (λ (g : StoreFolder). fetch_reply s g.messages (is_from_on from g.messages) (header_response modseq)))) there))

  pub body_read : (uid : ℕ) → a ≡ answer_of (which.One uid) asked.Body f.messages → a ≡ ok_answer (ok_reply s (command.FetchBody uid))
  body_read uid is =
      is ∙ sym (ap (λ (o : Option StoreFolder). ok_answer (reply_in s o (λ (g : StoreFolder). fetch_reply s g.messages (λ u. u == uid) body_response))) there)
