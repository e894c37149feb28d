use Rattle.std.proofs.Common.{◌≡◌, ◌∙◌, ◌<◌, ℕ, Some, ap, arith, false, length, rules, subst, sym, true}
use Rattle.std.proofs.lemmas.Option.{same_Some, slice_get_within}
use Rattle.std.specs.List.{slice_get}
use Rattle.honest_store.specs.Sessions.{StoreSession}
use Rattle.honest_store.specs.StoreMail.{StoreFolder, StoreMail}
use Rattle.small_answers.specs.Limits.{is_last_change}
use Rattle.small_answers.specs.OwnersCalls.{CallGives, message_at_place, message_expunged}
use Rattle.small_store.proofs.Calls.{expunge_done, expunge_full, expunge_nothing}
use Rattle.small_store.proofs.Reading.{read_is}
use Rattle.small_store.proofs.Telling.{tellable_expunged}
use Rattle.small_store.proofs.machine.StoredMachine.expunge.Goals as goal

pub returns-in_default-clause-ok : goal.returns-in_default-clause-ok
returns-in_default-clause-ok c =
    subst (λ (n : StoreMail). CallGives n (message_expunged n (message_at_place n c.args.at)) false n) (ap (λ (s : StoreSession). s.mail) c.self.view_is)
    (expunge_nothing c.self.inside.mail (message_at_place c.self.inside.mail c.args.at) c.in_default.ensures)

pub offset_bounds-folders-place : goal.offset_bounds-folders-place
offset_bounds-folders-place c =
    let e = c.in-Some.ensures in
    let at_f = subst (λ (n : ℕ). slice_get c.self.inside.mail.folders n ≡ Some e.0) (sym c.in-Some.place-is) e.2 in
    let within : c.in-Some.place < length c.folders.result.now =
    omega (arith, slice_get_within c.self.inside.mail.folders c.in-Some.place e.0 at_f, ap length c.folders.ensures) in
    search rules

pub bounds-folders-place : goal.bounds-folders-place
bounds-folders-place c =
    let e = c.in-Some.ensures in
    let at_f = subst (λ (n : ℕ). slice_get c.self.inside.mail.folders n ≡ Some e.0) (sym c.in-Some.place-is) e.2 in
    omega (arith, slice_get_within c.self.inside.mail.folders c.in-Some.place e.0 at_f, ap length c.folders.ensures)

pub returns-then-is_last_change-clause-ok : goal.returns-then-is_last_change-clause-ok
returns-then-is_last_change-clause-ok c =
    let mail = c.self.inside.mail in
    let e = c.in-Some.ensures in
    let at_f = subst (λ (n : ℕ). slice_get mail.folders n ≡ Some e.0) (sym c.in-Some.place-is) e.2 in
    let read = read_is c.folders.result.now mail.folders c.folders.ensures c.in-Some.place c.index-folders-place.result e.0 c.index-folders-place.is at_f in
    subst (λ (n : StoreMail). CallGives n (message_expunged n (message_at_place n c.args.at)) false n) (ap (λ (s : StoreSession). s.mail) c.self.view_is)
    (expunge_full mail (message_at_place mail c.args.at) e.0 e.1 e.4 (ap is_last_change (sym read) ∙ (sym c.is_last_change.ensures ∙ c.if-is_last_change.true)))

pub end_message-requires-clause-folder : goal.end_message-requires-clause-folder
end_message-requires-clause-folder c =
    let e = c.in-Some.ensures in
    slice_get_within c.self.inside.mail.folders c.in-Some.place e.0 (subst (λ (n : ℕ). slice_get c.self.inside.mail.folders n ≡ Some e.0) (sym c.in-Some.place-is) e.2)

pub end_message-requires-clause-message : goal.end_message-requires-clause-message
end_message-requires-clause-message c = λ f at_f.
    let mail = c.self.inside.mail in
    let e = c.in-Some.ensures in
    let same : e.0 ≡ f = same_Some e.0 f (sym (subst (λ (n : ℕ). slice_get mail.folders n ≡ Some e.0) (sym c.in-Some.place-is) e.2) ∙ at_f) in
    let at_m = subst (λ (n : ℕ). slice_get e.0.messages n ≡ Some e.1) (sym c.in-Some.at-is) e.3 in
    subst (λ (g : StoreFolder). c.in-Some.at < length g.messages) same (slice_get_within e.0.messages c.in-Some.at e.1 at_m)

pub end_message-requires-clause-room : goal.end_message-requires-clause-room
end_message-requires-clause-room c = λ f at_f.
    let read = read_is c.folders.result.now c.self.inside.mail.folders c.folders.ensures c.in-Some.place c.index-folders-place.result f c.index-folders-place.is at_f in
    ap is_last_change (sym read) ∙ (sym c.is_last_change.ensures ∙ c.if-is_last_change.false)

pub returns-clause-ok : goal.returns-clause-ok
returns-clause-ok c =
    let mail = c.self.inside.mail in
    let e = c.in-Some.ensures in
    let at_f = subst (λ (n : ℕ). slice_get mail.folders n ≡ Some e.0) (sym c.in-Some.place-is) e.2 in
    let at_m = subst (λ (n : ℕ). slice_get e.0.messages n ≡ Some e.1) (sym c.in-Some.at-is) e.3 in
    let read = read_is c.folders.result.now mail.folders c.folders.ensures c.in-Some.place c.index-folders-place.result e.0 c.index-folders-place.is at_f in
    subst (λ (n : StoreMail). CallGives n (message_expunged n (message_at_place n c.args.at)) true c.end_message.new.self)
    (ap (λ (s : StoreSession). s.mail) c.self.view_is)
    (expunge_done mail (message_at_place mail c.args.at) e.0 e.1 e.4 c.end_message.new.self
    (ap is_last_change (sym read) ∙ (sym c.is_last_change.ensures ∙ c.if-is_last_change.false)) (c.in_ok-end_message.ensures.ok e.0 e.1 at_f at_m))

pub returns-clause-tellable : goal.returns-clause-tellable
returns-clause-tellable c = tellable_expunged c.args.self.now.mail c.end_message.new.self c.requires.tellable c.args.at (returns-clause-ok c)
