use Rattle.std.proofs.Common.{◌≡◌, ◌∙◌, ◌<◌, ℕ, List, None, Some, ap, arith, false, length, rules, subst, sym, true}
use Rattle.std.specs.List.{slice_get}
use Rattle.std.proofs.lemmas.Option.{same_Some, slice_get_within}
use Rattle.honest_store.specs.Sessions.{StoreSession}
use Rattle.honest_store.specs.StoreMail.{StoreFolder, StoreMail, folder_called}
use Rattle.small_answers.specs.Limits.{is_last_change}
use Rattle.small_answers.specs.OwnersCalls.{CallGives, message_at_place, other_folder, shifted}
use Rattle.small_answers.specs.SmallMail.{IsSmallMail}
use Rattle.small_store.proofs.Calls.{shift_last, shift_nothing}
use Rattle.small_store.proofs.OwnerSteps.{landed, landed_at, shift_lands, shift_no_room, shift_no_target}
use Rattle.small_store.proofs.Reading.{read_is}
use Rattle.small_store.proofs.Telling.{tellable_shifted}
use Rattle.small_store.proofs.machine.StoredMachine.shift.Goals as goal
use Rattle.small_store.proofs.machine.StoredMachine.shift.Goals.{then-is_last_change-via-then-is_last_change, then-is_last_change-via-else-is_last_change+then-is_full_for_move}

pub returns-in_default-clause-ok : goal.returns-in_default-clause-ok
returns-in_default-clause-ok c =
    let mail = c.self.inside.mail in
    let same : mail ≡ c.args.self.now.mail = ap (λ (s : StoreSession). s.mail) c.self.view_is in
    subst (λ (n : StoreMail). CallGives n (shifted n (message_at_place n c.args.at)) false n) same
    (shift_nothing mail (message_at_place mail c.args.at) c.in_default.ensures)

pub offset_bounds-folders-source : goal.offset_bounds-folders-source
offset_bounds-folders-source c =
    let mail = c.self.inside.mail in
    let e = c.in-Some.ensures in
    let at_f = subst (λ (n : ℕ). slice_get mail.folders n ≡ Some e.0) (sym c.in-Some.source-is) e.2 in
    let within : c.in-Some.source < length c.folders.result.now = omega (arith, slice_get_within mail.folders c.in-Some.source e.0 at_f, ap length c.folders.ensures) in
    search rules

pub bounds-folders-source : goal.bounds-folders-source
bounds-folders-source c =
    let mail = c.self.inside.mail in
    let e = c.in-Some.ensures in
    let at_f = subst (λ (n : ℕ). slice_get mail.folders n ≡ Some e.0) (sym c.in-Some.source-is) e.2 in
    omega (arith, slice_get_within mail.folders c.in-Some.source e.0 at_f, ap length c.folders.ensures)

pub returns-in_default-place_named-clause-ok : goal.returns-in_default-place_named-clause-ok
returns-in_default-place_named-clause-ok c =
    let mail = c.self.inside.mail in
    let same : mail ≡ c.args.self.now.mail = ap (λ (s : StoreSession). s.mail) c.self.view_is in
    let e = c.in-Some.ensures in
    let at_f = subst (λ (n : ℕ). slice_get mail.folders n ≡ Some e.0) (sym c.in-Some.source-is) e.2 in
    let at_m = subst (λ (n : ℕ). slice_get e.0.messages n ≡ Some e.1) (sym c.in-Some.at-is) e.3 in
    let read = read_is c.folders.result.now mail.folders c.folders.ensures c.in-Some.source c.index-folders-source.result e.0 c.index-folders-source.is at_f in
    let other : c.other_folder-other.result.now ≡ other_folder e.0.name =
    c.other_folder-other.ensures ∙ ap other_folder (c.as_slice.ensures ∙ (c.name.ensures.name ∙ ap (λ (g : StoreFolder). g.name) read)) in
    let small = subst (λ (n : StoreMail). IsSmallMail n) (sym same) c.requires.tellable.small in
    subst (λ (n : StoreMail). CallGives n (shifted n (message_at_place n c.args.at)) false n) same
    (shift_no_target mail small c.in-Some.source c.in-Some.at e.0 e.1 (message_at_place mail c.args.at) at_f at_m e.4
    (subst (λ (name : List ℕ). folder_called mail.folders name ≡ None) other c.in_default-place_named.ensures))

pub is_full_for_move-requires-clause-folder : goal.is_full_for_move-requires-clause-folder
is_full_for_move-requires-clause-folder c =
    let t = c.in-Some-place_named.ensures in
    slice_get_within c.self.inside.mail.folders c.in-Some-place_named.target t.0 t.1

pub returns-then-is_last_change-clause-ok : goal.returns-then-is_last_change-clause-ok
returns-then-is_last_change-clause-ok c =
    let mail = c.self.inside.mail in
    let same : mail ≡ c.args.self.now.mail = ap (λ (s : StoreSession). s.mail) c.self.view_is in
    let e = c.in-Some.ensures in
    let at_f = subst (λ (n : ℕ). slice_get mail.folders n ≡ Some e.0) (sym c.in-Some.source-is) e.2 in
    let at_m = subst (λ (n : ℕ). slice_get e.0.messages n ≡ Some e.1) (sym c.in-Some.at-is) e.3 in
    let read = read_is c.folders.result.now mail.folders c.folders.ensures c.in-Some.source c.index-folders-source.result e.0 c.index-folders-source.is at_f in
    let other : c.other_folder-other.result.now ≡ other_folder e.0.name =
    c.other_folder-other.ensures ∙ ap other_folder (c.as_slice.ensures ∙ (c.name.ensures.name ∙ ap (λ (g : StoreFolder). g.name) read)) in
    let small = subst (λ (n : StoreMail). IsSmallMail n) (sym same) c.requires.tellable.small in
    let t = c.in-Some-place_named.ensures in
    let called : folder_called mail.folders (other_folder e.0.name) ≡ Some t.0 = subst (λ (name : List ℕ). folder_called mail.folders name ≡ Some t.0) other t.2 in
    subst (λ (n : StoreMail). CallGives n (shifted n (message_at_place n c.args.at)) false n) same
    (elim c.then-is_last_change.branch [
      | then-is_last_change-via-then-is_last_change w ↦
          shift_last mail (message_at_place mail c.args.at) e.0 e.1 e.4 (ap is_last_change (sym read) ∙ (sym c.is_last_change.ensures ∙ w.if-is_last_change.true))
      | then-is_last_change-via-else-is_last_change+then-is_full_for_move w ↦
          let room : is_last_change e.0 ≡ false = ap is_last_change (sym read) ∙ (sym c.is_last_change.ensures ∙ w.if-is_last_change.false) in
          let there = landed_at mail small c.in-Some.source c.in-Some.at e.0 e.1 (message_at_place mail c.args.at) at_f at_m e.4 room c.in-Some-place_named.target t.0 called t.1 in
          shift_no_room mail small c.in-Some.source c.in-Some.at e.0 e.1 (message_at_place mail c.args.at) at_f at_m e.4 room c.in-Some-place_named.target t.0 called t.1
          (sym (w.is_full_for_move.ensures e.0
          (landed mail small c.in-Some.source c.in-Some.at e.0 e.1 (message_at_place mail c.args.at) at_f at_m e.4 room c.in-Some-place_named.target t.0 called t.1)
          e.1.uid at_f room there)
          ∙ w.if-is_full_for_move.true)
    ])

pub move_message-requires-clause-source : goal.move_message-requires-clause-source
move_message-requires-clause-source c =
    let mail = c.self.inside.mail in
    let e = c.in-Some.ensures in
    let at_f = subst (λ (n : ℕ). slice_get mail.folders n ≡ Some e.0) (sym c.in-Some.source-is) e.2 in
    slice_get_within mail.folders c.in-Some.source e.0 at_f

pub move_message-requires-clause-target : goal.move_message-requires-clause-target
move_message-requires-clause-target c =
    let t = c.in-Some-place_named.ensures in
    slice_get_within c.self.inside.mail.folders c.in-Some-place_named.target t.0 t.1

pub move_message-requires-clause-message : goal.move_message-requires-clause-message
move_message-requires-clause-message c = λ f at_g.
    let mail = c.self.inside.mail in
    let e = c.in-Some.ensures in
    let at_f = subst (λ (n : ℕ). slice_get mail.folders n ≡ Some e.0) (sym c.in-Some.source-is) e.2 in
    let at_m = subst (λ (n : ℕ). slice_get e.0.messages n ≡ Some e.1) (sym c.in-Some.at-is) e.3 in
    let held : e.0 ≡ f = same_Some e.0 f (sym at_f ∙ at_g) in
    subst (λ (g : StoreFolder). c.in-Some.at < length g.messages) held (slice_get_within e.0.messages c.in-Some.at e.1 at_m)

pub move_message-requires-clause-room : goal.move_message-requires-clause-room
move_message-requires-clause-room c = λ f at_g.
    let mail = c.self.inside.mail in
    let read = read_is c.folders.result.now mail.folders c.folders.ensures c.in-Some.source c.index-folders-source.result f c.index-folders-source.is at_g in
    ap is_last_change (sym read) ∙ (sym c.is_last_change.ensures ∙ c.if-is_last_change.false)

pub move_message-requires-clause-room_there : goal.move_message-requires-clause-room_there
move_message-requires-clause-room_there c = λ f t m at_g at_n at_t.
    let mail = c.self.inside.mail in
    let read = read_is c.folders.result.now mail.folders c.folders.ensures c.in-Some.source c.index-folders-source.result f c.index-folders-source.is at_g in
    sym (c.is_full_for_move.ensures f t m.uid at_g
    (ap is_last_change (sym read) ∙ (sym c.is_last_change.ensures ∙ c.if-is_last_change.false)) at_t) ∙ c.if-is_full_for_move.false

pub returns-clause-ok : goal.returns-clause-ok
returns-clause-ok c =
    let mail = c.self.inside.mail in
    let same : mail ≡ c.args.self.now.mail = ap (λ (s : StoreSession). s.mail) c.self.view_is in
    let e = c.in-Some.ensures in
    let at_f = subst (λ (n : ℕ). slice_get mail.folders n ≡ Some e.0) (sym c.in-Some.source-is) e.2 in
    let at_m = subst (λ (n : ℕ). slice_get e.0.messages n ≡ Some e.1) (sym c.in-Some.at-is) e.3 in
    let read = read_is c.folders.result.now mail.folders c.folders.ensures c.in-Some.source c.index-folders-source.result e.0 c.index-folders-source.is at_f in
    let other : c.other_folder-other.result.now ≡ other_folder e.0.name =
    c.other_folder-other.ensures ∙ ap other_folder (c.as_slice.ensures ∙ (c.name.ensures.name ∙ ap (λ (g : StoreFolder). g.name) read)) in
    let small = subst (λ (n : StoreMail). IsSmallMail n) (sym same) c.requires.tellable.small in
    let t = c.in-Some-place_named.ensures in
    let called : folder_called mail.folders (other_folder e.0.name) ≡ Some t.0 = subst (λ (name : List ℕ). folder_called mail.folders name ≡ Some t.0) other t.2 in
    let room : is_last_change e.0 ≡ false = ap is_last_change (sym read) ∙ (sym c.is_last_change.ensures ∙ c.if-is_last_change.false) in
    let there = landed_at mail small c.in-Some.source c.in-Some.at e.0 e.1 (message_at_place mail c.args.at) at_f at_m e.4 room c.in-Some-place_named.target t.0 called t.1 in
    let aim = landed mail small c.in-Some.source c.in-Some.at e.0 e.1 (message_at_place mail c.args.at) at_f at_m e.4 room c.in-Some-place_named.target t.0 called t.1 in
    subst (λ (n : StoreMail). CallGives n (shifted n (message_at_place n c.args.at)) true c.move_message.new.self) same
    (shift_lands mail small c.in-Some.source c.in-Some.at e.0 e.1 (message_at_place mail c.args.at) at_f at_m e.4
    room c.in-Some-place_named.target t.0 called t.1 c.move_message.new.self
    (sym (c.is_full_for_move.ensures e.0 aim e.1.uid at_f room there) ∙ c.if-is_full_for_move.false)
    (c.in_ok-move_message.ensures.ok e.0 aim e.1 at_f at_m there))

pub returns-clause-tellable : goal.returns-clause-tellable
returns-clause-tellable c =
    tellable_shifted c.args.self.now.mail c.move_message.new.self c.requires.tellable c.args.at (returns-clause-ok c)
