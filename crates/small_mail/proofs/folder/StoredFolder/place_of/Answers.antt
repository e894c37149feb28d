use Rattle.std.proofs.Common.{◌≡◌, ◌∙◌, ◌==◌, List, ap, arith, eq-eqb, get_or, length, sym}
use Rattle.honest_store.specs.StoreMail.{StoreFolder, StoreMessage}
use Rattle.small_mail.proofs.Found.{found_here}
use Rattle.small_mail.proofs.folder.StoredFolder.place_of.Goals as goal

pub returns-then-uid : goal.returns-then-uid
returns-then-uid c =
    let ms = c.args.self.now.messages in
    let at = c.loop-at.at in
    let m = c.message-item.result in
    let shown : c.deref-message-items.result.now ≡ ms = c.deref-message-items.ensures.value ∙ ap (λ (f : StoreFolder). f.messages) c.self.view_is in
    let here = found_here (λ (x : StoreMessage). x.uid == c.args.uid) ms at m (omega (arith, c.loop-at-test.true, ap length shown))
    (c.message-item.is ∙ ap (λ (xs : List StoreMessage). get_or xs at m) shown) c.loop-at.invariant
    (eq-eqb m.uid c.args.uid (sym c.uid.ensures ∙ c.if-uid.true)) in
    (m, here.0, here.1)
