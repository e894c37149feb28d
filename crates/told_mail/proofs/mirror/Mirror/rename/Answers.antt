use Rattle.std.proofs.Common.{◌≡◌, ◌∙◌, ℕ, Bool, false, List, Option, Vec, Global, map, ap, refl, subst, sym, if◌then◌else◌}
use Rattle.told_folder.specs.Index.{IsIndexed}
use Rattle.told_folder.specs.declared.message.NumberedFolder.{NumberedFolder}
use Rattle.told_mail.specs.Lists.{is_inbox}
use Rattle.told_mail.specs.Mail.{Mail, IsMail}
use Rattle.told_mail.specs.Renames.{renamed_folders, with_renamed}
use Rattle.told_mail.specs.Told.{Told}
use Rattle.told_mail.specs.reading.Index.{AreNumbers}
use Rattle.told_mail.specs.reading.Renaming.{name_of, named_by}
use Rattle.told_mail.proofs.RenameLemmas.{mirror_renamed}
use Rattle.told_mail.proofs.ToldLemmas.{mail_same}
use Rattle.told_mail.proofs.mirror.Mirror.rename.Goals as goal

pub invariant_of-self : goal.invariant_of-self
invariant_of-self c =
    let from : List ℕ = c.args.from.now in
    let to : List ℕ = c.args.to.now in
    let hs : List NumberedFolder = c.self.inside.folders.items in
    let name : NumberedFolder → Option (List ℕ) = name_of from to hs in
    let all : c.in_ok-renamed.renamed.names.items ≡ map name hs =
    subst (λ (zs : List NumberedFolder). c.in_ok-renamed.renamed.names.items ≡ map (name_of from to zs) zs) c.as_slice-2.ensures.value c.in_ok-renamed.ensures.names in
    let same : c.replace-folders.result.items ≡ hs = ap (λ (v : Vec NumberedFolder Global). v.items) c.replace-folders.ensures.value in
    let each : c.in_ok-renamed.renamed.names.items ≡ map name c.replace-folders.result.items = all ∙ ap (map name) (sym same) in
    let taken : c.take_names.result.items ≡ named_by name hs = c.take_names.ensures.names name each ∙ ap (named_by name) same in
    mirror_renamed hs c.take_names.result.items from to c.self.inside.marks c.take_names.new.marks c.self.inside.numbers c.in_ok-renamed.renamed.numbers
    c.self.inside.next_mark c.self.inside.next_folder taken
    (λ i. subst (λ (zs : List NumberedFolder). IsIndexed (named_by name zs) c.take_names.new.marks c.self.inside.next_mark) same
    (c.take_names.ensures.marks name each c.self.inside.next_mark (subst (λ (zs : List NumberedFolder). IsIndexed zs c.self.inside.marks c.self.inside.next_mark) (sym same) i)))
    (subst (λ (zs : List NumberedFolder). IsMail (record { folders = zs; next_mark = c.self.inside.next_mark; next_folder = c.self.inside.next_folder })
    → AreNumbers (renamed_folders from to zs) c.in_ok-renamed.renamed.numbers) c.as_slice-2.ensures.value
    (c.in_ok-renamed.ensures.numbers c.self.inside.next_mark c.self.inside.next_folder))
    c.self.invariant

pub returns-clause-ok : goal.returns-clause-ok
returns-clause-ok c =
    let from : List ℕ = c.args.from.now in
    let to : List ℕ = c.args.to.now in
    let hs : List NumberedFolder = c.self.inside.folders.items in
    let m : Mail = record { folders = hs; next_mark = c.self.inside.next_mark; next_folder = c.self.inside.next_folder } in
    let name : NumberedFolder → Option (List ℕ) = name_of from to hs in
    let all : c.in_ok-renamed.renamed.names.items ≡ map name hs =
    subst (λ (zs : List NumberedFolder). c.in_ok-renamed.renamed.names.items ≡ map (name_of from to zs) zs) c.as_slice-2.ensures.value c.in_ok-renamed.ensures.names in
    let same : c.replace-folders.result.items ≡ hs = ap (λ (v : Vec NumberedFolder Global). v.items) c.replace-folders.ensures.value in
    let taken : c.take_names.result.items ≡ named_by name hs = c.take_names.ensures.names name (all ∙ ap (map name) (sym same)) ∙ ap (named_by name) same in
    let other : is_inbox from ≡ false = sym c.is_inbox.ensures ∙ c.if-is_inbox.false in
    mail_same _ _ _ _ _ _ taken refl refl
    ∙ (sym (ap (λ (b : Bool). if b then m else record m { folders = renamed_folders from to m.folders }) other)
    ∙ ap (λ (t : Told). with_renamed t.mail from to) c.self.view_is)
