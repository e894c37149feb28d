use Rattle.std.proofs.Common.{◌≡◌, ◌∙◌, [], ℕ, ℤ, List, Some, ap, rules, w64}
use Rattle.std.proofs.lemmas.Int.{to_z-of_z}
use mir.Val.{SFits, of_z, to_z}
use Rattle.std.proofs.lemmas.List.{append-nil}
use Rattle.imap_types.specs.declared.code.Code.TheVariants as code
use Rattle.imap_types.specs.declared.response.Response.{Response}
use Rattle.imap_types.specs.declared.response.Status.TheVariants as status
use Rattle.imap_types.specs.Items.{kept}
use Rattle.honest_store.specs.StoreMail.{StoreFolder, StoreMail}
use Rattle.honest_store.specs.WellFormed.{nearest_date}
use Rattle.small_answers.specs.Changes.{mail_with, message_of}
use Rattle.small_store.specs.reading.Steps.{session_of}
use Rattle.small_store.proofs.Reading.{read_is}
use Rattle.small_store.proofs.messages.append.Goals as goal

pub returns-clause-ok : goal.returns-clause-ok
returns-clause-ok c = λ f selected at_f.
    let mail = c.args.mail.now in
    let put = c.in_ok-uid.ensures.ok f at_f in
    let read = read_is c.folders.result.now mail.folders c.folders.ensures c.args.place c.index-folders-place.result f c.index-folders-place.is at_f in
    let validity : c.validity-validity.result ≡ f.validity = c.validity-validity.ensures.validity ∙ ap (λ (g : StoreFolder). g.validity) read in
    let flags_are : c.in_ok-flags.flags ≡ kept c.args.flags.now = c.in_ok-flags.ensures ∙ ap kept (append-nil c.as_slice.result.now ∙ c.as_slice.ensures) in
    let fits : SFits w64 c.date_kept.result = search rules in
    let dated : to_z w64 (of_z w64 c.date_kept.result) ≡ nearest_date c.args.date =
    to_z-of_z w64 c.date_kept.result fits ∙ (c.date_kept.ensures ∙ ap nearest_date (to_z-of_z w64 c.args.date c.ranges.date)) in
    let due : c.put_message.new.self ≡ mail_with mail (Some f) (message_of (kept c.args.flags.now) (nearest_date c.args.date) c.args.message.now) =
    put.1 ∙ (ap (λ (fs : List (List ℕ)). mail_with mail (Some f) (message_of fs (to_z w64 (of_z w64 c.date_kept.result)) c.in_ok-octets.octets)) flags_are
    ∙ (ap (λ (d : ℤ). mail_with mail (Some f) (message_of (kept c.args.flags.now) d c.in_ok-octets.octets)) dated
    ∙ ap (λ (t : List ℕ). mail_with mail (Some f) (message_of (kept c.args.flags.now) (nearest_date c.args.date) t)) c.in_ok-octets.ensures)) in
    record {
      answer = c.coded.ensures ∙ (ap (λ (rs : List Response). record { responses = rs; status = status.Ok; code = code.AppendUid c.validity-validity.result c.in_ok-uid.uid }) c.new.ensures.items
          ∙ (ap (λ (v : ℕ). record { responses = []; status = status.Ok; code = code.AppendUid v c.in_ok-uid.uid }) validity
          ∙ ap (λ (u : ℕ). record { responses = []; status = status.Ok; code = code.AppendUid f.validity u }) put.0));
      session = ap (λ (m : StoreMail). session_of m selected) due;
    }
