use Rattle.std.proofs.Common.{◌≡◌, ◌∙◌, ◌+◌, ◌<◌, ℕ, List, Some, ap, arith, length}
use Rattle.std.specs.List.{slice_get}
use Rattle.honest_store.specs.StoreMail.{StoreMessage, StoreFolder, StoreMail}
use Rattle.small_mail.proofs.Mails.{mail_of, read_at, read_is}
use Rattle.small_mail.proofs.Moves.{moved_back, same_read}
use Rattle.small_mail.proofs.Ways.{element, target_room, still_there, moved_mail}
use Rattle.small_mail.proofs.mail.StoredMail.move_message.Goals as goal

pub copy_for-requires-clause-room : goal.copy_for-requires-clause-room
copy_for-requires-clause-room c = λ t there.
    (target_room c.args.self.now c.args.source c.args.at c.args.target c.requires.whole c.requires.source c.requires.target c.requires.message c.requires.room_there t there).0

pub put_message-requires : goal.put_message-requires
put_message-requires c =
    let mail = c.args.self.now in
    let x = c.index_mut.result.now in
    let at_x = read_at c.self.inside.folders.items c.self.inside.uses.items mail c.self.view_is c.args.target x c.requires.target c.index_mut.ensures.value in
    let room = target_room mail c.args.source c.args.at c.args.target c.requires.whole c.requires.source c.requires.target c.requires.message c.requires.room_there x at_x in
    let f = element mail.folders c.args.source c.requires.source in
    let m = element f.0.messages c.args.at (c.requires.message f.0 f.1) in
    omega (arith, room.1, ap (λ (n : StoreMessage). n.uid) (c.in_ok-copy.ensures f.0 x m.0 f.1 at_x m.1))

pub end_message-requires : goal.end_message-requires
end_message-requires c =
    let mail = c.args.self.now in
    let f = element mail.folders c.args.source c.requires.source in
    let from : slice_get c.self.inside.folders.items c.args.source ≡ Some f.0 = ap (λ (m : StoreMail). slice_get m.folders c.args.source) c.self.view_is ∙ f.1 in
    still_there c.self.inside.folders.items c.args.source c.args.target c.args.at f.0 c.index_mut.result.now c.put_message.new.self c.index_mut-2.result.now c.in_ok-copy.copy
    from (c.requires.message f.0 f.1) c.index_mut.ensures.value c.in_ok-put_message.ensures.ok c.index_mut-2.ensures.value

pub returns-in-Ok-clause-ok : goal.returns-in-Ok-clause-ok
returns-in-Ok-clause-ok c = λ f t m from there to.
    let fs = c.self.inside.folders.items in
    let us = c.self.inside.uses.items in
    let mail = c.args.self.now in
    let x = c.index_mut.result.now in
    let at_x = read_at fs us mail c.self.view_is c.args.target x c.requires.target c.index_mut.ensures.value in
    let f_read = read_is fs us mail c.self.view_is c.args.source c.index.result.now f from c.index.ensures in
    moved_mail fs us mail c.args.source c.args.at c.args.target f t x c.put_message.new.self c.index_mut-2.result.now c.end_message.new.self m c.in_ok-copy.copy
    (c.highest-modseq.result + 1) c.self.view_is c.requires.whole from there to at_x c.in_ok-put_message.ensures.ok (c.in_ok-copy.ensures f x m from at_x there)
    c.index_mut-2.ensures.value (ap (λ (n : ℕ). n + 1) (c.highest-modseq.ensures ∙ ap (λ (g : StoreFolder). g.highest) f_read)) c.in-Ok.ensures.ok

pub returns-in-Err-clause-err : goal.returns-in-Err-clause-err
returns-in-Err-clause-err c =
    let fs = c.self.inside.folders.items in
    let x = c.index_mut.result.now in
    let within : c.args.target < length fs = omega (arith, c.requires.target, ap (λ (m : StoreMail). length m.folders) c.self.view_is) in
    let uid_next : c.uid_next-uid_next.result ≡ x.uid_next =
    c.uid_next-uid_next.ensures ∙ ap (λ (g : StoreFolder). g.uid_next) (same_read fs c.args.target c.index-2.result.now x within c.index-2.ensures c.index_mut.ensures.value) in
    let highest : c.highest-highest.result ≡ x.highest =
    c.highest-highest.ensures ∙ ap (λ (g : StoreFolder). g.highest) (same_read fs c.args.target c.index-3.result.now x within c.index-3.ensures c.index_mut.ensures.value) in
    ap (λ (gs : List StoreFolder). mail_of gs c.self.inside.uses.items)
    (moved_back fs c.args.source c.args.target x c.put_message.new.self c.index_mut-2.result.now c.end_message.new.self c.index_mut-in-Err.result.now c.take_back.new.self
    c.in_ok-copy.copy c.uid_next-uid_next.result c.highest-highest.result within c.index_mut.ensures.value c.in_ok-put_message.ensures.ok c.index_mut-2.ensures.value
    c.in-Err.ensures.err c.index_mut-in-Err.ensures.value c.take_back.ensures uid_next highest)
    ∙ c.self.view_is
