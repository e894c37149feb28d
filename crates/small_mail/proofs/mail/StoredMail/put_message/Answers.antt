use Rattle.std.proofs.Common.{◌≡◌, ◌∙◌, ◌+◌, ℕ, ℤ, length, ap, refl, arith, w64}
use Rattle.std.proofs.lemmas.Int.{to_z-of_z}
use Rattle.honest_store.specs.StoreMail.{StoreMessage, StoreFolder}
use Rattle.honest_store.specs.MessageChanges.{folder_with}
use Rattle.small_mail.proofs.Mails.{read_at, read_is, changed_is}
use Rattle.small_mail.proofs.Ways.{message_room}
use Rattle.small_mail.proofs.mail.StoredMail.put_message.Goals as goal

pub put_message-requires : goal.put_message-requires
put_message-requires c =
    let fs = c.self.inside.folders.items in
    let us = c.self.inside.uses.items in
    let x = c.index_mut-folder.result.now in
    let there = read_at fs us c.args.self.now c.self.view_is c.args.place x c.requires.folder c.index_mut-folder.ensures.value in
    let room = message_room x (c.requires.room x there) in
    omega (arith, room.1, c.uid_next-uid.ensures, ap (λ (m : StoreMessage). m.uid) c.new-message.ensures)

pub returns-clause-ok : goal.returns-clause-ok
returns-clause-ok c = λ f at_f.
    let fs = c.self.inside.folders.items in
    let us = c.self.inside.uses.items in
    let mail = c.args.self.now in
    let octets = c.args.octets in
    let x_f = read_is fs us mail c.self.view_is c.args.place c.index_mut-folder.result.now f at_f c.index_mut-folder.ensures.value in
    let dated : ℕ → ℕ → ℤ → StoreMessage = λ (u q : ℕ) (d : ℤ). record { uid = u; flags = c.args.flags; modseq = q + 1; date = d; size = length octets; octets = octets } in
    let message : ℕ → ℕ → StoreMessage = λ (u q : ℕ). dated u q c.args.date in
    let uid : c.uid_next-uid.result ≡ f.uid_next = c.uid_next-uid.ensures ∙ ap (λ (g : StoreFolder). g.uid_next) x_f in
    let highest : c.highest.result ≡ f.highest = c.highest.ensures ∙ ap (λ (g : StoreFolder). g.highest) x_f in
    let message_is : c.new-message.result ≡ message f.uid_next f.highest =
    c.new-message.ensures ∙ (ap (λ (d : ℤ). dated c.uid_next-uid.result c.highest.result d) (to_z-of_z w64 c.args.date c.ranges.date)
    ∙ ap (λ (u : ℕ). message u c.highest.result) uid ∙ ap (λ (q : ℕ). message f.uid_next q) highest) in (
      uid,
      changed_is fs us mail c.self.view_is c.args.place f (folder_with f (message f.uid_next f.highest) (f.uid_next + 1)) c.put_message.new.self c.requires.whole at_f refl
          (c.in_ok-put_message.ensures.ok ∙ (ap (λ (g : StoreFolder). folder_with g c.new-message.result (c.new-message.result.uid + 1)) x_f
          ∙ ap (λ (n : StoreMessage). folder_with f n (n.uid + 1)) message_is)),
    )
