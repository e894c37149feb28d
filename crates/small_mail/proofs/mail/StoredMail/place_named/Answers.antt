use Rattle.std.proofs.Common.{◌≡◌, ◌∙◌, ℕ, List, Some, None, ap, arith, bytes_eq, find, get_or, length, subst, sym}
use Rattle.honest_store.specs.StoreMail.{StoreFolder, StoreMail}
use Rattle.small_mail.proofs.Found.{found_here, found_later, found_none}
use Rattle.small_mail.proofs.mail.StoredMail.place_named.Goals as goal

pub returns-then-eq : goal.returns-then-eq
returns-then-eq c =
    let fs = c.args.self.now.folders in
    let place = c.loop-place.place in
    let f = c.folder-item.result in
    let name = c.told_name-name.result.now in
    let shown : c.deref-folder-items.result.now ≡ fs = c.deref-folder-items.ensures.value ∙ ap (λ (m : StoreMail). m.folders) c.self.view_is in
    let test : c.eq.result ≡ bytes_eq f.name name = c.eq.ensures ∙ ap (λ (t : List ℕ). bytes_eq t name) (c.as_slice.ensures ∙ c.name.ensures.name) in
    let here = found_here (λ (x : StoreFolder). bytes_eq x.name name) fs place f (omega (arith, c.loop-place-test.true, ap length shown))
    (c.folder-item.is ∙ ap (λ (xs : List StoreFolder). get_or xs place f) shown) c.loop-place.invariant (sym test ∙ c.if-eq.true) in
    (f, here.0, subst (λ (t : List ℕ). find (λ (x : StoreFolder). bytes_eq x.name t) fs ≡ Some f) c.told_name-name.ensures here.1)

pub loop-place-preserved : goal.loop-place-preserved
loop-place-preserved c =
    let fs = c.args.self.now.folders in
    let place = c.loop-place.place in
    let f = c.folder-item.result in
    let name = c.told_name-name.result.now in
    let shown : c.deref-folder-items.result.now ≡ fs = c.deref-folder-items.ensures.value ∙ ap (λ (m : StoreMail). m.folders) c.self.view_is in
    let test : c.eq.result ≡ bytes_eq f.name name = c.eq.ensures ∙ ap (λ (t : List ℕ). bytes_eq t name) (c.as_slice.ensures ∙ c.name.ensures.name) in
    found_later (λ (x : StoreFolder). bytes_eq x.name name) fs place f (omega (arith, c.loop-place-test.true, ap length shown))
    (c.folder-item.is ∙ ap (λ (xs : List StoreFolder). get_or xs place f) shown) c.loop-place.invariant (sym test ∙ c.if-eq.false)

pub returns : goal.returns
returns c =
    let fs = c.args.self.now.folders in
    let name = c.told_name-name.result.now in
    let shown : c.deref-folder-items.result.now ≡ fs = c.deref-folder-items.ensures.value ∙ ap (λ (m : StoreMail). m.folders) c.self.view_is in
    subst (λ (t : List ℕ). find (λ (x : StoreFolder). bytes_eq x.name t) fs ≡ None) c.told_name-name.ensures
    (found_none (λ (x : StoreFolder). bytes_eq x.name name) fs c.loop-place.place (omega (arith, c.loop-place-test.false, ap length shown)) c.loop-place.invariant)
