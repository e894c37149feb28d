use Rattle.std.proofs.Common.{◌≡◌, ◌∙◌, ◌-◌, ◌+◌, List, ap, arith, length, get_or, drop}
use Rattle.std.specs.List.{slice_get}
use Rattle.honest_store.specs.StoreMail.{StoreFolder, StoreMessage}
use Rattle.small_answers.specs.OwnersCalls.{message_at_place, messages_in_order}
use Rattle.small_store.proofs.Places.{placed_behind, placed_here}
use Rattle.small_store.proofs.owner.place_among_all.Goals as goal

pub returns-then-left-len : goal.returns-then-left-len
returns-then-left-len c =
    let fs = c.args.mail.now.folders in
    let f = c.folder-item.result in
    let shown : c.folders-folder-items.result.now ≡ fs = c.folders-folder-items.ensures in
    placed_here fs c.loop-place.place c.loop-place.left f (message_at_place c.args.mail.now c.args.at) (omega (arith, c.loop-place-test.true, ap length shown))
    (c.folder-item.is ∙ ap (λ (gs : List StoreFolder). get_or gs c.loop-place.place f) shown)
    (omega (arith, c.if-left-len.true, ap length c.messages-len.ensures)) c.loop-place.invariant

pub loop-place-preserved : goal.loop-place-preserved
loop-place-preserved c =
    let fs = c.args.mail.now.folders in
    let place = c.loop-place.place in
    let f = c.folder-item.result in
    let shown : c.folders-folder-items.result.now ≡ fs = c.folders-folder-items.ensures in
    ap (λ (ms : List StoreMessage). slice_get (messages_in_order (drop (place + 1) fs)) (c.loop-place.left - length ms)) c.messages-len.ensures
    ∙ placed_behind fs place c.loop-place.left f (message_at_place c.args.mail.now c.args.at) (omega (arith, c.loop-place-test.true, ap length shown))
    (c.folder-item.is ∙ ap (λ (gs : List StoreFolder). get_or gs place f) shown)
    (omega (arith, c.if-left-len.false, ap length c.messages-len.ensures)) c.loop-place.invariant
