use Rattle.std.proofs.Common.{◌≡◌, ◌∙◌, ◌<◌, ◌∷◌, [], ℕ, Bool, List, Some, ap, arith, bytes_eq, false, length, not, rules, subst, sym, true}
use Rattle.std.proofs.lemmas.Option.{same_Some, slice_get_within}
use Rattle.std.specs.List.{slice_get, list_any}
use Rattle.honest_store.specs.Sessions.{StoreSession}
use Rattle.honest_store.specs.MessageCommands.{flags_after}
use Rattle.honest_store.specs.StoreMail.{StoreFolder, StoreMail, StoreMessage, has_flag}
use Rattle.small_answers.specs.Changes.{mail_flagged}
use Rattle.small_answers.specs.Limits.{is_last_change}
use Rattle.small_answers.specs.OwnersCalls.{CallGives, message_at_place, seen_flag, seen_toggled}
use Rattle.small_store.proofs.Calls.{toggle_done, toggle_full, toggle_nothing}
use Rattle.small_store.proofs.Reading.{read_is}
use Rattle.small_store.proofs.Telling.{tellable_toggled}
use Rattle.small_store.proofs.machine.StoredMachine.toggle_seen.Goals as goal

pub returns-in_default-clause-ok : goal.returns-in_default-clause-ok
returns-in_default-clause-ok c =
    subst (λ (n : StoreMail). CallGives n (seen_toggled n (message_at_place n c.args.at)) false n) (ap (λ (s : StoreSession). s.mail) c.self.view_is)
    (toggle_nothing c.self.inside.mail (message_at_place c.self.inside.mail c.args.at) c.in_default.ensures)

pub offset_bounds-folders-place : goal.offset_bounds-folders-place
offset_bounds-folders-place c =
    let e = c.in-Some.ensures in
    let at_f = subst (λ (n : ℕ). slice_get c.self.inside.mail.folders n ≡ Some e.0) (sym c.in-Some.place-is) e.2 in
    let within : c.in-Some.place < length c.folders.result.now =
    omega (arith, slice_get_within c.self.inside.mail.folders c.in-Some.place e.0 at_f, ap length c.folders.ensures) in
    search rules

pub bounds-folders-place : goal.bounds-folders-place
bounds-folders-place c =
    let e = c.in-Some.ensures in
    let at_f = subst (λ (n : ℕ). slice_get c.self.inside.mail.folders n ≡ Some e.0) (sym c.in-Some.place-is) e.2 in
    omega (arith, slice_get_within c.self.inside.mail.folders c.in-Some.place e.0 at_f, ap length c.folders.ensures)

pub returns-then-is_last_change-clause-ok : goal.returns-then-is_last_change-clause-ok
returns-then-is_last_change-clause-ok c =
    let mail = c.self.inside.mail in
    let e = c.in-Some.ensures in
    let at_f = subst (λ (n : ℕ). slice_get mail.folders n ≡ Some e.0) (sym c.in-Some.place-is) e.2 in
    let read = read_is c.folders.result.now mail.folders c.folders.ensures c.in-Some.place c.index-folders-place.result e.0 c.index-folders-place.is at_f in
    subst (λ (n : StoreMail). CallGives n (seen_toggled n (message_at_place n c.args.at)) false n) (ap (λ (s : StoreSession). s.mail) c.self.view_is)
    (toggle_full mail (message_at_place mail c.args.at) e.0 e.1 e.4 (ap is_last_change (sym read) ∙ (sym c.is_last_change.ensures ∙ c.if-is_last_change.true)))

pub offset_bounds-messages-at : goal.offset_bounds-messages-at
offset_bounds-messages-at c =
    let e = c.in-Some.ensures in
    let at_f = subst (λ (n : ℕ). slice_get c.self.inside.mail.folders n ≡ Some e.0) (sym c.in-Some.place-is) e.2 in
    let at_m = subst (λ (n : ℕ). slice_get e.0.messages n ≡ Some e.1) (sym c.in-Some.at-is) e.3 in
    let read = read_is c.folders.result.now c.self.inside.mail.folders c.folders.ensures c.in-Some.place c.index-folders-place.result e.0 c.index-folders-place.is at_f in
    let within : c.in-Some.at < length c.messages.result.now =
    omega (arith, slice_get_within e.0.messages c.in-Some.at e.1 at_m, ap length c.messages.ensures, ap (λ (g : StoreFolder). length g.messages) read) in
    search rules

pub bounds-messages-at : goal.bounds-messages-at
bounds-messages-at c =
    let e = c.in-Some.ensures in
    let at_f = subst (λ (n : ℕ). slice_get c.self.inside.mail.folders n ≡ Some e.0) (sym c.in-Some.place-is) e.2 in
    let at_m = subst (λ (n : ℕ). slice_get e.0.messages n ≡ Some e.1) (sym c.in-Some.at-is) e.3 in
    let read = read_is c.folders.result.now c.self.inside.mail.folders c.folders.ensures c.in-Some.place c.index-folders-place.result e.0 c.index-folders-place.is at_f in
    omega (arith, slice_get_within e.0.messages c.in-Some.at e.1 at_m, ap length c.messages.ensures, ap (λ (g : StoreFolder). length g.messages) read)

pub set_flags-requires-clause-folder : goal.set_flags-requires-clause-folder
set_flags-requires-clause-folder c =
    let e = c.in-Some.ensures in
    slice_get_within c.self.inside.mail.folders c.in-Some.place e.0 (subst (λ (n : ℕ). slice_get c.self.inside.mail.folders n ≡ Some e.0) (sym c.in-Some.place-is) e.2)

pub set_flags-requires-clause-message : goal.set_flags-requires-clause-message
set_flags-requires-clause-message c = λ f at_f.
    let mail = c.self.inside.mail in
    let e = c.in-Some.ensures in
    let same : e.0 ≡ f = same_Some e.0 f (sym (subst (λ (n : ℕ). slice_get mail.folders n ≡ Some e.0) (sym c.in-Some.place-is) e.2) ∙ at_f) in
    let at_m = subst (λ (n : ℕ). slice_get e.0.messages n ≡ Some e.1) (sym c.in-Some.at-is) e.3 in
    subst (λ (g : StoreFolder). c.in-Some.at < length g.messages) same (slice_get_within e.0.messages c.in-Some.at e.1 at_m)

pub set_flags-requires-clause-room : goal.set_flags-requires-clause-room
set_flags-requires-clause-room c = λ f at_f.
    let read = read_is c.folders.result.now c.self.inside.mail.folders c.folders.ensures c.in-Some.place c.index-folders-place.result f c.index-folders-place.is at_f in
    ap is_last_change (sym read) ∙ (sym c.is_last_change.ensures ∙ c.if-is_last_change.false)

pub returns-clause-ok : goal.returns-clause-ok
returns-clause-ok c =
    let mail = c.self.inside.mail in
    let e = c.in-Some.ensures in
    let m = e.1 in
    let at_f = subst (λ (n : ℕ). slice_get mail.folders n ≡ Some e.0) (sym c.in-Some.place-is) e.2 in
    let at_m = subst (λ (n : ℕ). slice_get e.0.messages n ≡ Some m) (sym c.in-Some.at-is) e.3 in
    let read = read_is c.folders.result.now mail.folders c.folders.ensures c.in-Some.place c.index-folders-place.result e.0 c.index-folders-place.is at_f in
    let message = read_is c.messages.result.now e.0.messages (c.messages.ensures ∙ ap (λ (g : StoreFolder). g.messages) read) c.in-Some.at c.index-messages-at.result m
    c.index-messages-at.is at_m in
    let was_is : c.flags-was.result.now ≡ m.flags = c.flags-was.ensures ∙ ap (λ (x : StoreMessage). x.flags) message in
    let has : c.has_name-add.result ≡ has_flag m seen_flag =
    c.has_name-add.ensures ∙ ap (λ (fs : List (List ℕ)). list_any (λ f. bytes_eq f seen_flag) fs) (c.as_slice.ensures ∙ was_is) in
    let flags_is : c.in_ok-flags.flags ≡ flags_after (not (has_flag m seen_flag)) (seen_flag ∷ []) m.flags =
    c.in_ok-flags.ensures ∙ (ap (λ (b : Bool). flags_after (not b) c.as_slice-2.result.now c.as_slice-3.result.now) has
    ∙ (ap (λ (fs : List (List ℕ)). flags_after (not (has_flag m seen_flag)) fs c.as_slice-3.result.now) (c.as_slice-2.ensures ∙ c.in_ok-seen.ensures)
    ∙ ap (flags_after (not (has_flag m seen_flag)) (seen_flag ∷ [])) (c.as_slice-3.ensures ∙ was_is))) in
    subst (λ (n : StoreMail). CallGives n (seen_toggled n (message_at_place n c.args.at)) true c.set_flags.new.self)
    (ap (λ (s : StoreSession). s.mail) c.self.view_is)
    (toggle_done mail (message_at_place mail c.args.at) e.0 m e.4 c.set_flags.new.self
    (ap is_last_change (sym read) ∙ (sym c.is_last_change.ensures ∙ c.if-is_last_change.false))
    (c.set_flags.ensures e.0 m at_f at_m ∙ ap (λ (fs : List (List ℕ)). mail_flagged mail (Some e.0) m.uid fs) flags_is))

pub returns-clause-tellable : goal.returns-clause-tellable
returns-clause-tellable c = tellable_toggled c.args.self.now.mail c.set_flags.new.self c.requires.tellable c.args.at (returns-clause-ok c)
