use Rattle.std.proofs.Common.{◌≡◌, ◌∙◌, ℕ, List, ap, arith, length, map, set, sym}
use Rattle.std.proofs.lemmas.Option.{slice_get_within}
use Rattle.imap_types.specs.Folders.{folder_name}
use Rattle.honest_store.specs.StoreMail.{StoreFolder, StoreMail}
use Rattle.honest_store.specs.Attributes.{subscribed}
use Rattle.honest_store.specs.FolderChanges.{with_subscription}
use Rattle.small_mail.proofs.Folders.{subscribed_is, subscribed_none}
use Rattle.small_mail.proofs.Mails.{mail_of, read_is}
use Rattle.small_mail.proofs.mail.StoredMail.subscribe.Goals as goal

pub returns-in_default-clause-ok : goal.returns-in_default-clause-ok
returns-in_default-clause-ok c =
    let mail = c.args.self.now in
    sym (ap (λ (gs : List StoreFolder). record mail { folders = gs }) (subscribed_none mail.folders (folder_name c.args.name.now) c.args.on c.in_default.ensures))

pub index_mut-folder-requires : goal.index_mut-folder-requires
index_mut-folder-requires c =
    let f = c.in-Some.ensures in
    omega (arith, slice_get_within c.args.self.now.folders c.in-Some.place f.0 f.1, ap (λ (m : StoreMail). length m.folders) c.self.view_is)

pub returns-clause-ok : goal.returns-clause-ok
returns-clause-ok c =
    let fs = c.self.inside.folders.items in
    let us = c.self.inside.uses.items in
    let mail = c.args.self.now in
    let place = c.in-Some.place in
    let f = c.in-Some.ensures in
    let x = c.index_mut-folder.result.now in
    let name = folder_name c.args.name.now in
    let x_f = read_is fs us mail c.self.view_is place x f.0 f.1 c.index_mut-folder.ensures.value in
    let changed : StoreFolder → StoreFolder = λ (g : StoreFolder). record g { attributes = subscribed c.args.on g.attributes } in
    let changed_is : c.set_attributes.new.self ≡ changed f.0 =
    c.set_attributes.ensures ∙ (ap (λ (names : List (List ℕ)). record x { attributes = names })
    (c.in_ok-attributes.ensures ∙ ap (λ (names : List (List ℕ)). subscribed c.args.on names) (c.as_slice.ensures ∙ c.attributes.ensures)) ∙ ap changed x_f) in
    ap (λ (g : StoreFolder). mail_of (set fs place g) us) changed_is
    ∙ (ap (λ (m : StoreMail). mail_of (set m.folders place (changed f.0)) us) c.self.view_is
    ∙ (ap (λ (gs : List StoreFolder). mail_of gs us) (subscribed_is mail.folders place f.0 f.1 name c.args.on c.requires.names f.2)
    ∙ ap (λ (m : StoreMail). record m { folders = map (with_subscription name c.args.on) mail.folders }) c.self.view_is))
