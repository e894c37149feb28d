use Rattle.std.proofs.Common.{◌≡◌, ◌∙◌, ℕ, List, ap, sym, subst}
use Rattle.told_folder.specs.declared.message.NumberedFolder.{NumberedFolder}
use Rattle.told_folder.proofs.OpenLemmas.{on_ok_map}
use Rattle.told_mail.specs.Lists.{listed, new_names, with_new_folders}
use Rattle.told_mail.specs.Mail.{Mail}
use Rattle.told_mail.specs.Told.{Told}
use Rattle.told_mail.specs.reading.Names.{names_in, place_in, AllFree}
use Rattle.told_mail.proofs.LineLemmas.{names_whole}
use Rattle.told_mail.proofs.NameLemmas.{free_new, new_names_are}
use Rattle.told_mail.proofs.NumberLemmas.{numbers_on}
use Rattle.told_mail.proofs.mirror.Mirror.tell_list.Goals as goal

pub add_folders-requires-clause-free : goal.add_folders-requires-clause-free
add_folders-requires-clause-free c =
    let hs : List NumberedFolder = c.self.inside.folders.items in
    let rs = c.args.responses.now in
    let names : c.in_ok-names.names.items ≡ new_names hs rs = new_names_are (place_in c.self.inside.numbers) hs rs (names_in c.in_ok-lines.lines) c.in_ok-names.names.items
    c.self.invariant.names c.self.invariant.index.numbers (c.in_ok-lines.ensures.names ∙ names_whole rs) c.in_ok-names.ensures.names in
    let folders : c.list_folders.new.self.mail.folders ≡ listed rs hs = ap (λ (k : Mail). k.folders) (rw (← c.self.view_is) at c.in_ok-list_folders.ensures.ok) in
    rw c.as_slice.ensures.value (subst (λ (qs : List (List ℕ)). AllFree c.list_folders.new.self.mail.folders qs) (sym names)
    (subst (λ (ks : List NumberedFolder). AllFree ks (new_names hs rs)) (sym folders) (free_new rs hs)))

pub returns-clause-ok : goal.returns-clause-ok
returns-clause-ok c =
    let hs : List NumberedFolder = c.self.inside.folders.items in
    let rs = c.args.responses.now in
    let names : c.in_ok-names.names.items ≡ new_names hs rs = new_names_are (place_in c.self.inside.numbers) hs rs (names_in c.in_ok-lines.lines) c.in_ok-names.names.items
    c.self.invariant.names c.self.invariant.index.numbers (c.in_ok-lines.ensures.names ∙ names_whole rs) c.in_ok-names.ensures.names in
    let folders : c.list_folders.new.self.mail ≡ record c.args.self.now.mail { folders = listed rs c.args.self.now.mail.folders } = c.in_ok-list_folders.ensures.ok in
    let names_now : c.as_slice.result.now ≡ new_names c.args.self.now.mail.folders rs = c.as_slice.ensures.value ∙ names
    ∙ ap (λ (t : Told). new_names t.mail.folders rs) c.self.view_is in
    on_ok_map c.add_folders.result (λ e. e ∙ ap (λ (qs : List (List ℕ)). with_new_folders rs c.list_folders.new.self.mail qs) names_now
    ∙ ap (λ (k : Mail). with_new_folders rs k (new_names c.args.self.now.mail.folders rs)) folders) c.add_folders.ensures.ok

pub returns-clause-known : goal.returns-clause-known
returns-clause-known c = λ k.
    let hs : List NumberedFolder = c.self.inside.folders.items in
    let rs = c.args.responses.now in
    let names : c.in_ok-names.names.items ≡ new_names hs rs = new_names_are (place_in c.self.inside.numbers) hs rs (names_in c.in_ok-lines.lines) c.in_ok-names.names.items
    c.self.invariant.names c.self.invariant.index.numbers (c.in_ok-lines.ensures.names ∙ names_whole rs) c.in_ok-names.ensures.names in
    let none = c.as_slice.ensures.value ∙ names ∙ ap (λ (t : Told). new_names t.mail.folders rs) c.self.view_is ∙ k.names in
    on_ok_map c.add_folders.result (λ f. f ∙ c.in_ok-list_folders.ensures.known k.folders) (c.add_folders.ensures.known none)

pub returns-clause-numbers : goal.returns-clause-numbers
returns-clause-numbers c = numbers_on _ _ _ c.in_ok-list_folders.ensures.numbers c.add_folders.ensures.numbers
