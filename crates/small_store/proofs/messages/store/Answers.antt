use Rattle.std.proofs.Common.{◌≡◌, ◌∙◌, ◌+◌, ◌<◌, ℕ, List, None, ap, arith, length, subst}
use Rattle.std.proofs.lemmas.Option.{slice_get_within}
use Rattle.std.proofs.lemmas.Result.{IfOk-weaker}
use Rattle.honest_store.specs.StoreMail.{StoreFolder}
use Rattle.honest_store.specs.Sessions.{StoreAnswer}
use Rattle.honest_store.specs.MessageCommands.{flags_after}
use Rattle.small_answers.specs.Causes.{are_same_names}
use Rattle.small_mail.proofs.Mails.{folder_at}
use Rattle.small_store.proofs.Fetching.{few_messages}
use Rattle.small_store.proofs.Reading.{read_at, read_is}
use Rattle.small_store.proofs.Storing.{flags_answer, flags_room, gives_flags, gives_same, held_there}
use Rattle.small_store.proofs.messages.store.Goals as goal

pub tell_flags-requires : goal.tell_flags-requires
tell_flags-requires c =
    let mail = c.args.mail.now in
    let x = c.index-folders-place.result in
    let there = read_at c.folders.result.now mail.folders c.folders.ensures c.args.place x c.requires.folder c.index-folders-place.is in
    omega (arith, few_messages x (folder_at mail c.args.place x c.requires.whole there), slice_get_within x.messages c.in-Some.at c.in-Some.ensures.0 c.in-Some.ensures.1)

pub tell_flags-requires-2 : goal.tell_flags-requires-2
tell_flags-requires-2 c =
    let mail = c.args.mail.now in
    let x = c.index-folders-place.result in
    let there = read_at c.folders.result.now mail.folders c.folders.ensures c.args.place x c.requires.folder c.index-folders-place.is in
    omega (arith, few_messages x (folder_at mail c.args.place x c.requires.whole there), slice_get_within x.messages c.in-Some.at c.in-Some.ensures.0 c.in-Some.ensures.1)

pub set_flags-requires-clause-message : goal.set_flags-requires-clause-message
set_flags-requires-clause-message c = λ f at_f.
    let read = read_is c.folders.result.now c.args.mail.now.folders c.folders.ensures c.args.place c.index-folders-place.result f c.index-folders-place.is at_f in
    subst (λ (g : StoreFolder). c.in-Some.at < length g.messages) read
    (slice_get_within c.index-folders-place.result.messages c.in-Some.at c.in-Some.ensures.0 c.in-Some.ensures.1)

pub returns-then-eq-clause-ok : goal.returns-then-eq-clause-ok
returns-then-eq-clause-ok c =
    let mail = c.args.mail.now in
    let x = c.index-folders-place.result in
    let y = c.index-messages-at.result in
    let flags_is : c.in_ok-flags.flags ≡ flags_after c.args.add c.args.flags.now y.flags =
    c.in_ok-flags.ensures ∙ (ap (λ (fs : List (List ℕ)). flags_after c.args.add fs c.as_slice-2.result.now) c.as_slice.ensures
    ∙ ap (flags_after c.args.add c.args.flags.now) (c.as_slice-2.ensures ∙ c.flags.ensures)) in
    let test : c.eq.result ≡ are_same_names c.in_ok-flags.flags y.flags = c.eq.ensures ∙ ap (are_same_names c.in_ok-flags.flags) c.flags-3.ensures in
    IfOk-weaker c.tell_flags.result (λ (a : StoreAnswer). a ≡ flags_answer (c.in-Some.at + 1) c.args.uid c.in_ok-share.field-0 c.modseq.result) _
    (λ a a_is f selected at_f.
    gives_same mail c.args.place c.in-Some.at c.args.uid c.folders.result.now c.messages.result.now x f y c.folders.ensures c.index-folders-place.is c.in-Some.ensures
    c.messages.ensures c.index-messages-at.is at_f c.requires.whole selected c.args.add c.args.flags.now c.in_ok-flags.flags a c.eq.result flags_is test
    c.in_ok-share.field-0 c.modseq.result c.if-eq.true (c.in_ok-share.ensures ∙ c.flags-then-eq.ensures) c.modseq.ensures a_is)
    c.tell_flags.ensures

pub set_flags-requires-clause-room : goal.set_flags-requires-clause-room
set_flags-requires-clause-room c = λ f at_f.
    let mail = c.args.mail.now in
    let x = c.index-folders-place.result in
    let y = c.index-messages-at.result in
    let flags_is : c.in_ok-flags.flags ≡ flags_after c.args.add c.args.flags.now y.flags =
    c.in_ok-flags.ensures ∙ (ap (λ (fs : List (List ℕ)). flags_after c.args.add fs c.as_slice-2.result.now) c.as_slice.ensures
    ∙ ap (flags_after c.args.add c.args.flags.now) (c.as_slice-2.ensures ∙ c.flags.ensures)) in
    let test : c.eq.result ≡ are_same_names c.in_ok-flags.flags y.flags = c.eq.ensures ∙ ap (are_same_names c.in_ok-flags.flags) c.flags-3.ensures in
    flags_room mail c.args.place c.in-Some.at c.args.uid c.folders.result.now c.messages.result.now x f y c.folders.ensures c.index-folders-place.is c.in-Some.ensures
    c.messages.ensures c.index-messages-at.is at_f c.requires.whole None c.args.add c.args.flags.now c.in_ok-flags.flags c.in_ok-answer.answer c.eq.result flags_is test
    c.if-eq.false (λ m held end. c.requires.room f m at_f held end)

pub returns-clause-ok : goal.returns-clause-ok
returns-clause-ok c = λ f selected at_f.
    let mail = c.args.mail.now in
    let x = c.index-folders-place.result in
    let y = c.index-messages-at.result in
    let flags_is : c.in_ok-flags.flags ≡ flags_after c.args.add c.args.flags.now y.flags =
    c.in_ok-flags.ensures ∙ (ap (λ (fs : List (List ℕ)). flags_after c.args.add fs c.as_slice-2.result.now) c.as_slice.ensures
    ∙ ap (flags_after c.args.add c.args.flags.now) (c.as_slice-2.ensures ∙ c.flags.ensures)) in
    let test : c.eq.result ≡ are_same_names c.in_ok-flags.flags y.flags = c.eq.ensures ∙ ap (are_same_names c.in_ok-flags.flags) c.flags-3.ensures in
    let held = held_there mail c.args.place c.in-Some.at c.args.uid c.folders.result.now c.messages.result.now x f y c.folders.ensures c.index-folders-place.is c.in-Some.ensures
    c.messages.ensures c.index-messages-at.is at_f in
    gives_flags mail c.args.place c.in-Some.at c.args.uid c.folders.result.now c.messages.result.now x f y c.folders.ensures c.index-folders-place.is c.in-Some.ensures
    c.messages.ensures c.index-messages-at.is at_f c.requires.whole selected c.args.add c.args.flags.now c.in_ok-flags.flags c.in_ok-answer.answer c.eq.result flags_is test
    c.in_ok-share-2.field-0 c.highest.result c.set_flags.new.self c.if-eq.false c.in_ok-share-2.ensures c.highest.ensures c.in_ok-answer.ensures
    (c.set_flags.ensures f held.0 at_f held.1)
