use Rattle.std.proofs.Common.{◌≡◌, ◌∙◌, ◌<◌, ℕ, List, Some, None, ap, length, refl, subst, sym}
use Rattle.std.specs.Prelude.{IfOk}
use Rattle.std.proofs.lemmas.Option.{same_Some, slice_get_within}
use Rattle.imap_types.specs.declared.command.Command.TheVariants as command
use Rattle.honest_store.specs.StoreMail.{StoreFolder, message_numbered}
use Rattle.honest_store.specs.Sessions.{StoreAnswer, StoreSession}
use Rattle.small_answers.specs.Answers.{ok_reply}
use Rattle.small_answers.specs.Causes.{RefusalCause}
use Rattle.small_answers.specs.Changes.{selected_folder}
use Rattle.small_answers.specs.SmallMail.{IsSmallMail}
use Rattle.small_mail.specs.Places.{IsFolderAt, IsMessageAt}
use Rattle.small_store.specs.reading.Steps.{Gives, session_of}
use Rattle.small_store.proofs.Accepting.{move_held, move_room, move_there}
use Rattle.small_store.proofs.MachineMoves.{landing_room, move_gives}
use Rattle.small_store.proofs.Reading.{read_is}
use Rattle.small_store.proofs.machine.StoredMachine.move_from.Goals as goal

-- the folder that is selected, at its place
abbrev Selected : ℕ → StoreSession → Type 0
Selected place s = (f : StoreFolder) × IsFolderAt s.mail place f × (selected_folder s ≡ Some f)

abbrev Free : ℕ → List ℕ → StoreSession → Type 0
Free uid name s = RefusalCause s (command.Move uid name) → ⊥

pub returns-in_default-clause-ok : goal.returns-in_default-clause-ok
returns-in_default-clause-ok c =
    let s = session_of c.self.inside.mail c.self.inside.selected in
    let folder = subst (Selected c.args.source) (sym c.self.view_is) c.requires.folder in
    let free = subst (Free c.args.uid c.args.name.now) (sym c.self.view_is) c.requires.no_cause in
    let read = read_is c.folders.result.now c.self.inside.mail.folders c.folders.ensures c.args.source c.index-folders-source.result folder.0 c.index-folders-source.is folder.1 in
    absurd (move_held s c.args.uid folder.0 folder.2 c.args.name.now free (subst (λ (f : StoreFolder). message_numbered f.messages c.args.uid ≡ None) read c.in_default.ensures))

pub returns-in_default-place_named-clause-ok : goal.returns-in_default-place_named-clause-ok
returns-in_default-place_named-clause-ok c =
    let s = session_of c.self.inside.mail c.self.inside.selected in
    let folder = subst (Selected c.args.source) (sym c.self.view_is) c.requires.folder in
    let free = subst (Free c.args.uid c.args.name.now) (sym c.self.view_is) c.requires.no_cause in
    absurd (move_there s c.args.uid folder.0 folder.2 c.args.name.now free c.in_default-place_named.ensures)

pub move_out-requires-clause-source : goal.move_out-requires-clause-source
move_out-requires-clause-source c =
    let folder = subst (Selected c.args.source) (sym c.self.view_is) c.requires.folder in
    slice_get_within c.self.inside.mail.folders c.args.source folder.0 folder.1

pub move_out-requires-clause-target : goal.move_out-requires-clause-target
move_out-requires-clause-target c = slice_get_within c.self.inside.mail.folders c.in-Some-place_named.target c.in-Some-place_named.ensures.0 c.in-Some-place_named.ensures.1

pub move_out-requires-clause-message : goal.move_out-requires-clause-message
move_out-requires-clause-message c = λ f at_f.
    let read = read_is c.folders.result.now c.self.inside.mail.folders c.folders.ensures c.args.source c.index-folders-source.result f c.index-folders-source.is at_f in
    subst (λ (g : StoreFolder). c.in-Some.at < length g.messages) read
    (slice_get_within c.index-folders-source.result.messages c.in-Some.at c.in-Some.ensures.0 c.in-Some.ensures.1)

pub move_out-requires-clause-room : goal.move_out-requires-clause-room
move_out-requires-clause-room c = λ f at_f.
    let s = session_of c.self.inside.mail c.self.inside.selected in
    let folder = subst (Selected c.args.source) (sym c.self.view_is) c.requires.folder in
    let free = subst (Free c.args.uid c.args.name.now) (sym c.self.view_is) c.requires.no_cause in
    move_room s c.args.uid f (folder.2 ∙ (sym folder.1 ∙ at_f)) c.args.name.now free

pub move_out-requires-clause-room_there : goal.move_out-requires-clause-room_there
move_out-requires-clause-room_there c = λ f t m at_f at_m at_t.
    let s = session_of c.self.inside.mail c.self.inside.selected in
    let small = subst (λ (u : StoreSession). IsSmallMail u.mail) (sym c.self.view_is) c.requires.small in
    let folder = subst (Selected c.args.source) (sym c.self.view_is) c.requires.folder in
    let free = subst (Free c.args.uid c.args.name.now) (sym c.self.view_is) c.requires.no_cause in
    let read = read_is c.folders.result.now c.self.inside.mail.folders c.folders.ensures c.args.source c.index-folders-source.result f c.index-folders-source.is at_f in
    let same = same_Some c.in-Some.ensures.0 m (sym (subst (λ (g : StoreFolder). IsMessageAt g c.in-Some.at c.in-Some.ensures.0) read c.in-Some.ensures.1) ∙ at_m) in
    let held = subst (λ (g : StoreFolder). message_numbered g.messages c.args.uid ≡ Some c.in-Some.ensures.0) read c.in-Some.ensures.2 ∙ ap Some same in
    landing_room s small c.args.uid c.args.name.now free c.args.source f at_f (folder.2 ∙ (sym folder.1 ∙ at_f)) c.in-Some.at m at_m held
    c.in-Some-place_named.target c.in-Some-place_named.ensures.0 c.in-Some-place_named.ensures.1 c.in-Some-place_named.ensures.2 t at_t

pub returns-clause-ok : goal.returns-clause-ok
returns-clause-ok c =
    let s = session_of c.self.inside.mail c.self.inside.selected in
    let after = session_of c.move_out.new.mail c.self.inside.selected in
    let small = subst (λ (u : StoreSession). IsSmallMail u.mail) (sym c.self.view_is) c.requires.small in
    let folder = subst (Selected c.args.source) (sym c.self.view_is) c.requires.folder in
    let free = subst (Free c.args.uid c.args.name.now) (sym c.self.view_is) c.requires.no_cause in
    let read = read_is c.folders.result.now c.self.inside.mail.folders c.folders.ensures c.args.source c.index-folders-source.result folder.0 c.index-folders-source.is folder.1 in
    let at_m = subst (λ (g : StoreFolder). IsMessageAt g c.in-Some.at c.in-Some.ensures.0) read c.in-Some.ensures.1 in
    let held = subst (λ (g : StoreFolder). message_numbered g.messages c.args.uid ≡ Some c.in-Some.ensures.0) read c.in-Some.ensures.2 in
    subst (λ (u : StoreSession). IfOk c.move_out.result (λ (a : StoreAnswer). Gives (ok_reply u (command.Move c.args.uid c.args.name.now)) a after)) c.self.view_is
    (move_gives s small c.args.uid c.args.name.now free c.args.source folder.0 folder.1 folder.2 c.in-Some.at c.in-Some.ensures.0 at_m held
    c.in-Some-place_named.target c.in-Some-place_named.ensures.0 c.in-Some-place_named.ensures.1 c.in-Some-place_named.ensures.2 after c.move_out.result c.move_out.ensures.ok refl)
