use Rattle.std.proofs.Common.{◌≡◌, ◌∙◌, ◌+◌, ◌++◌, ◌∷◌, [], ℕ, List, None, true, false, ap, sym, bytes_eq, codes, rules}
use Rattle.std.specs.List.{list_any}
use Rattle.imap_types.specs.declared.code.Code.TheVariants as code
use Rattle.imap_types.specs.declared.response.Response.{Response}
use Rattle.imap_types.specs.declared.response.Response.TheVariants as response
use Rattle.imap_types.specs.declared.response.Status.TheVariants as status
use Rattle.honest_store.specs.MessageCommands.{is_deleted}
use Rattle.small_answers.specs.ToldResponses.{set_of}
use Rattle.small_store.proofs.Storing.{end_room, gives_end, held_there}
use Rattle.small_store.proofs.messages.expunge.Goals as goal

pub end_message-requires-clause-room : goal.end_message-requires-clause-room
end_message-requires-clause-room c = λ f at_f.
    let x = c.index-folders-place.result in
    let y = c.index-messages-at.result in
    let has : c.has_name.result ≡ true = search (rules, c.if-not-has_name.false) in
    let deleted : is_deleted y ≡ true =
    ap (λ (fs : List (List ℕ)). list_any (λ f. bytes_eq f (codes "\\deleted")) fs) (sym (c.as_slice.ensures ∙ c.flags.ensures)) ∙ (sym c.has_name.ensures ∙ has) in
    end_room c.args.mail.now c.args.place c.in-Some.at c.args.uid c.folders.result.now c.messages.result.now x f y c.folders.ensures c.index-folders-place.is c.in-Some.ensures
    c.messages.ensures c.index-messages-at.is at_f None (record { responses = []; status = status.Ok; code = code.Absent }) deleted
    (λ m held end. c.requires.room f m at_f held end)

pub returns-clause-ok : goal.returns-clause-ok
returns-clause-ok c = λ f selected at_f.
    let x = c.index-folders-place.result in
    let y = c.index-messages-at.result in
    let has : c.has_name.result ≡ true = search (rules, c.if-not-has_name.false) in
    let deleted : is_deleted y ≡ true =
    ap (λ (fs : List (List ℕ)). list_any (λ f. bytes_eq f (codes "\\deleted")) fs) (sym (c.as_slice.ensures ∙ c.flags.ensures)) ∙ (sym c.has_name.ensures ∙ has) in
    let told : c.push.new.self.items ≡ response.Vanished false (set_of c.args.uid) ∷ [] =
    c.in_ok-push.ensures.items ∙ (ap (λ (rs : List Response). rs ++ c.in_ok-vanished.field-0 ∷ []) c.in_ok-responses.ensures.items
    ∙ ap (λ (r : Response). r ∷ []) c.in_ok-vanished.ensures) in
    let held = held_there c.args.mail.now c.args.place c.in-Some.at c.args.uid c.folders.result.now c.messages.result.now x f y c.folders.ensures c.index-folders-place.is
    c.in-Some.ensures c.messages.ensures c.index-messages-at.is at_f in
    gives_end c.args.mail.now c.args.place c.in-Some.at c.args.uid c.folders.result.now c.messages.result.now x f y c.folders.ensures c.index-folders-place.is c.in-Some.ensures
    c.messages.ensures c.index-messages-at.is at_f selected c.coded.result deleted c.highest-highest.result c.end_message.new.self c.highest-highest.ensures
    (c.coded.ensures ∙ ap (λ (rs : List Response). record { responses = rs; status = status.Ok; code = code.HighestModSeq (c.highest-highest.result + 1) }) told)
    (c.in_ok-end_message.ensures.ok f held.0 at_f held.1)
