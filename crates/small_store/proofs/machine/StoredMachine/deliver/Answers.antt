use Rattle.std.proofs.Common.{◌≡◌, ◌∙◌, ◌<◌, [], ℕ, ℤ, List, Some, ap, arith, false, length, rules, subst, sym, true, w64}
use Rattle.std.proofs.lemmas.Int.{to_z-of_z}
use Rattle.std.proofs.lemmas.Option.{slice_get_within}
use mir.Val.{of_z, to_z}
use Rattle.honest_store.specs.Sessions.{StoreSession}
use Rattle.honest_store.specs.StoreMail.{StoreMail}
use Rattle.small_answers.specs.Changes.{mail_with, message_of}
use Rattle.small_answers.specs.Limits.{is_last_message}
use Rattle.small_answers.specs.OwnersCalls.{CallGives, delivered}
use Rattle.small_store.proofs.Calls.{deliver_done, deliver_full, deliver_nowhere}
use Rattle.small_store.proofs.OwnerSteps.{are_octets}
use Rattle.small_store.proofs.Reading.{read_is}
use Rattle.small_store.proofs.Telling.{tellable_delivered}
use Rattle.small_store.proofs.machine.StoredMachine.deliver.Goals as goal

pub returns-in_default-clause-ok : goal.returns-in_default-clause-ok
returns-in_default-clause-ok c =
    subst (λ (n : StoreMail). CallGives n (delivered n c.args.folder.now c.args.message.now c.args.date) false n) (ap (λ (s : StoreSession). s.mail) c.self.view_is)
    (deliver_nowhere c.self.inside.mail c.args.folder.now c.args.message.now c.args.date c.in_default.ensures)

pub offset_bounds-folders-place : goal.offset_bounds-folders-place
offset_bounds-folders-place c =
    let f = c.in-Some.ensures in
    let within : c.in-Some.place < length c.folders.result.now =
    omega (arith, slice_get_within c.self.inside.mail.folders c.in-Some.place f.0 f.1, ap length c.folders.ensures) in
    search rules

pub bounds-folders-place : goal.bounds-folders-place
bounds-folders-place c =
    let f = c.in-Some.ensures in
    omega (arith, slice_get_within c.self.inside.mail.folders c.in-Some.place f.0 f.1, ap length c.folders.ensures)

pub returns-then-is_last_message-clause-ok : goal.returns-then-is_last_message-clause-ok
returns-then-is_last_message-clause-ok c =
    let mail = c.self.inside.mail in
    let f = c.in-Some.ensures in
    let read = read_is c.folders.result.now mail.folders c.folders.ensures c.in-Some.place c.index-folders-place.result f.0 c.index-folders-place.is f.1 in
    subst (λ (n : StoreMail). CallGives n (delivered n c.args.folder.now c.args.message.now c.args.date) false n) (ap (λ (s : StoreSession). s.mail) c.self.view_is)
    (deliver_full mail c.args.folder.now c.args.message.now c.args.date f.0 f.2 (ap is_last_message (sym read) ∙ (sym c.is_last_message.ensures ∙ c.if-is_last_message.true)))

pub put_message-requires-clause-folder : goal.put_message-requires-clause-folder
put_message-requires-clause-folder c =
    let f = c.in-Some.ensures in
    slice_get_within c.self.inside.mail.folders c.in-Some.place f.0 f.1

pub put_message-requires-clause-room : goal.put_message-requires-clause-room
put_message-requires-clause-room c = λ f at_f.
    let read = read_is c.folders.result.now c.self.inside.mail.folders c.folders.ensures c.in-Some.place c.index-folders-place.result f c.index-folders-place.is at_f in
    ap is_last_message (sym read) ∙ (sym c.is_last_message.ensures ∙ c.if-is_last_message.false)

pub returns-clause-ok : goal.returns-clause-ok
returns-clause-ok c =
    let mail = c.self.inside.mail in
    let f = c.in-Some.ensures in
    let read = read_is c.folders.result.now mail.folders c.folders.ensures c.in-Some.place c.index-folders-place.result f.0 c.index-folders-place.is f.1 in
    let put = c.in_ok-_uid.ensures.ok f.0 f.1 in
    let due : c.put_message.new.self ≡ mail_with mail (Some f.0) (message_of [] c.args.date c.args.message.now) =
    put.1 ∙ (ap (λ (fs : List (List ℕ)). mail_with mail (Some f.0) (message_of fs (to_z w64 (of_z w64 c.args.date)) c.in_ok-octets.octets)) c.new-flags.ensures
    ∙ (ap (λ (d : ℤ). mail_with mail (Some f.0) (message_of [] d c.in_ok-octets.octets)) (to_z-of_z w64 c.args.date c.ranges.date)
    ∙ ap (λ (t : List ℕ). mail_with mail (Some f.0) (message_of [] c.args.date t)) c.in_ok-octets.ensures)) in
    subst (λ (n : StoreMail). CallGives n (delivered n c.args.folder.now c.args.message.now c.args.date) true c.put_message.new.self)
    (ap (λ (s : StoreSession). s.mail) c.self.view_is)
    (deliver_done mail c.args.folder.now c.args.message.now c.args.date f.0 c.put_message.new.self f.2
    (ap is_last_message (sym read) ∙ (sym c.is_last_message.ensures ∙ c.if-is_last_message.false)) due)

pub returns-clause-tellable : goal.returns-clause-tellable
returns-clause-tellable c =
    tellable_delivered c.args.self.now.mail c.put_message.new.self c.requires.tellable c.args.folder.now c.args.message.now c.args.date c.requires.date c.requires.fits
    (are_octets c.args.message.now (λ k. let fits = c.type_inv.message k in omega arith)) (returns-clause-ok c)
