use Rattle.std.proofs.Common.{◌≡◌, ◌∙◌, ◌==◌, List, ap, arith, eq-eqb, get_or, length, sym}
use Rattle.honest_store.specs.StoreMail.{StoreFolder, StoreMail}
use Rattle.small_mail.proofs.Found.{found_here}
use Rattle.small_mail.proofs.mail.StoredMail.place_numbered.Goals as goal

pub returns-then-validity-number : goal.returns-then-validity-number
returns-then-validity-number c =
    let fs = c.args.self.now.folders in
    let place = c.loop-place.place in
    let f = c.folder-item.result in
    let shown : c.deref-folder-items.result.now ≡ fs = c.deref-folder-items.ensures.value ∙ ap (λ (m : StoreMail). m.folders) c.self.view_is in
    let here = found_here (λ (x : StoreFolder). x.number == c.args.number) fs place f (omega (arith, c.loop-place-test.true, ap length shown))
    (c.folder-item.is ∙ ap (λ (xs : List StoreFolder). get_or xs place f) shown) c.loop-place.invariant
    (eq-eqb f.number c.args.number (sym c.validity.ensures.number ∙ c.if-validity-number.true)) in
    (f, here.0, here.1)
