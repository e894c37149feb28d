use Rattle.std.proofs.Common.{◌≡◌, ◌≢◌, ◌∙◌, None, Some, ap, false, subst, sym}
use Rattle.std.specs.Prelude.{MatchBool}
use Rattle.std.specs.List.{slice_get}
use Rattle.imap_types.specs.declared.command.Command.TheVariants as command
use Rattle.honest_store.specs.StoreMail.{StoreFolder, message_numbered}
use Rattle.honest_store.specs.Sessions.{StoreSession}
use Rattle.small_answers.specs.Changes.{selected_folder}
use Rattle.small_answers.specs.Limits.{is_last_change}
use Rattle.small_answers.specs.Causes.{RefusalCause}
use Rattle.small_answers.specs.SmallMail.{IsSmallMail}
use Rattle.small_store.proofs.Reading.{read_is}
use Rattle.small_store.proofs.Refusing.{move_full}
use Rattle.small_store.proofs.machine.StoredMachine.refuses_move.Goals as goal

pub returns : goal.returns
returns c =
    let uid = c.args.uid in
    let name = c.args.name.now in
    let source = c.in-Some.source in
    let at = c.in-Some-place_of._at in
    let b = c.is_full_for_move.result in
    let x = c.index-folders-source.result in
    let f = c.in-Some.ensures.0 in
    let t = c.in-Some-place_named.ensures.0 in
    let m = c.in-Some-place_of.ensures.0 in
    let inside : StoreSession = record { mail = c.self.inside.mail; selected = c.self.inside.selected } in
    let at_f : slice_get inside.mail.folders source ≡ Some f = ap (λ (s : StoreSession). slice_get s.mail.folders source) c.self.view_is ∙ c.in-Some.ensures.1 in
    let there : selected_folder inside ≡ Some f = ap selected_folder c.self.view_is ∙ c.in-Some.ensures.2 in
    let read : x ≡ f = read_is c.folders.result.now inside.mail.folders c.folders.ensures source x f c.index-folders-source.is at_f in
    let at_m : slice_get f.messages at ≡ Some m = subst (λ (g : StoreFolder). slice_get g.messages at ≡ Some m) read c.in-Some-place_of.ensures.1 in
    let held : message_numbered f.messages uid ≡ Some m = subst (λ (g : StoreFolder). message_numbered g.messages uid ≡ Some m) read c.in-Some-place_of.ensures.2 in
    let room : is_last_change f ≡ false = ap is_last_change (sym read) ∙ (sym c.is_last_change.ensures ∙ c.if-is_last_change.false) in
    let small : IsSmallMail inside.mail = subst (λ (s : StoreSession). IsSmallMail s.mail) (sym c.self.view_is) c.requires.small in
    let selected : inside.selected ≢ None = subst (λ (s : StoreSession). s.selected ≢ None) (sym c.self.view_is) c.requires.selected in
    subst (λ (s : StoreSession). MatchBool b (RefusalCause s (command.Move uid name)) (RefusalCause s (command.Move uid name) → ⊥)) c.self.view_is
    (move_full inside uid name small source c.in-Some-place_named.target at f t m b selected at_f there c.in-Some-place_named.ensures.1 c.in-Some-place_named.ensures.2 at_m held
    room c.is_full_for_move.ensures)
