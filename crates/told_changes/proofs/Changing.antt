-- What changing commands tell leads to mail that can follow.
use Rattle.std.proofs.Common.{◌≡◌, ℕ, ℤ, ◌<◌, Bool, true, false, List, Option, Some, None, refl, sym, ap, ◌∙◌, subst, arith, inl, inr, if◌then◌else◌}
use Rattle.std.specs.List.{list_any}
use Rattle.std.specs.Option.{option_map}
use Rattle.imap_types.specs.declared.code.Code.TheVariants as code
use Rattle.imap_types.specs.declared.command.Command.{Command}
use Rattle.imap_types.specs.declared.command.Command.TheVariants as command
use Rattle.imap_types.specs.declared.response.Response.{Response}
use Rattle.imap_types.specs.declared.response.Status.{Status}
use Rattle.imap_types.specs.declared.response.Status.TheVariants as status
use Rattle.kept_names.specs.Changes.{flags_after, subscribed}
use Rattle.told_folder.specs.Folders.{folder_number, uid_of, messages_in, message_in, mark_in}
use Rattle.told_folder.specs.Keyed.{with_key, cut_keyed}
use Rattle.told_folder.specs.declared.exchange.Exchange.{Exchange}
use Rattle.told_folder.specs.declared.message.NumberedFolder.{NumberedFolder}
use Rattle.told_folder.specs.declared.message.Message.{Message}
use Rattle.told_folder.proofs.IndexLemmas.{mark_of, eqb_same}
use Rattle.told_folder.proofs.KeyedLemmas.{some_is_not_none, found_cut}
use Rattle.told_mail.specs.Exchanges.{tell_ok}
use Rattle.told_mail.specs.Mail.{Mail, named, IsMail, IsNextMail, with_message, without_message, with_flags_of}
use Rattle.told_mail.proofs.FieldLemmas.{with_flags_next, with_attributes_next}
use Rattle.told_mail.proofs.NextLemmas.{told_next, with_message_next, without_message_next, without_folder_next}
use Rattle.told_mail.proofs.NumberLemmas.{numbers_stay, next_by, next_mail_joins}
use Rattle.told_mail.proofs.OnceLemmas.{mark_at, mark_cut, marks_from}
use Rattle.told_mail.proofs.RenameLemmas.{renamed_next}
use Rattle.told_changes.specs.declared.landing.Landing.{Landing}
use Rattle.told_changes.specs.Landings.{landing, is_contradicted, target_of}
use Rattle.told_changes.specs.Changes.{landed, with_moved, with_moved_from, named_by, appended_message, with_stored, with_stored_in, tells_flags, changed_by, without_named, with_subscribed}
use Rattle.told_changes.specs.Told.{told, told_as, told_landed, told_then}

pub stays : (m : Mail) → IsMail m → IsNextMail m m
stays m i = next_by m m i (numbers_stay m)

-- ---- the responses

pub ok_next : (m : Mail) (c : Command) (rs : List Response) (selected : Option (List ℕ)) → IsMail m → IsNextMail m (tell_ok m c rs selected)
ok_next m c rs selected i = told_next m (record { command = c; selected = selected; responses = rs; status = status.Ok; code = code.Absent }) i

-- ---- a message that moves

none_cut : (xs : List Message) (uid k : ℕ) → mark_at (cut_keyed uid_of uid xs) uid ≡ Some k → ⊥
none_cut xs uid k e =
    let gone : with_key uid_of uid (cut_keyed uid_of uid xs) ≡ None = found_cut uid_of uid uid xs ∙ ap (λ b. if b then None else with_key uid_of uid xs) (eqb_same uid) in
    some_is_not_none k (sym e ∙ ap (option_map mark_of) gone)

-- once a message is taken out its mark stands nowhere
pub mark_free : (m : Mail) (from uid : ℕ) (x : Message) → IsMail m → message_in m.folders from uid ≡ Some x → (p : ℕ × ℕ)
    → mark_in (without_message m (from, uid)).folders p ≡ Some x.mark → ⊥
mark_free m from uid x i found p e =
    let hs : List NumberedFolder = m.folders in
    let xs : List Message = messages_in hs from in
    let at : mark_in hs (from, uid) ≡ Some x.mark = ap (option_map mark_of) found in
    elim (marks_from hs from (cut_keyed uid_of uid xs) p x.mark e) [
      | inl a ↦ (let same : (from, p.1) ≡ (from, uid) = i.marks (from, p.1) (from, uid) x.mark (mark_cut uid xs p.1 x.mark a.1) at in
          none_cut xs uid x.mark (subst (λ u. mark_at (cut_keyed uid_of uid xs) u ≡ Some x.mark) (ap (λ (q : ℕ × ℕ). q.1) same) a.1))
      | inr b ↦ (let same : p ≡ (from, uid) = i.marks p (from, uid) x.mark b.1 at in b.0 (ap (λ (q : ℕ × ℕ). q.0) same))
    ]

pub moved_next : (m : Mail) (from uid : ℕ) (l : Landing) (o : Option Message) → message_in m.folders from uid ≡ o → IsMail m → IsNextMail m (with_moved m from uid l o)
moved_next m from uid l None found i = stays m i
moved_next m from uid l (Some x) found i =
    let out : Mail = without_message m (from, uid) in
    let first : IsNextMail m out = without_message_next m (from, uid) i in
    let y : Message = record x { uid = l.uid } in
    next_mail_joins m out (with_message out l.folder y) first (with_message_next out l.folder y first.is_mail (λ p e. mark_free m from uid x i found p e))

moved_from_next : (m : Mail) (o : Option NumberedFolder) (uid : ℕ) (l : Landing) → IsMail m → IsNextMail m (with_moved_from m o uid l)
moved_from_next m None uid l i = stays m i
moved_from_next m (Some h) uid l i = moved_next m (folder_number h) uid l (message_in m.folders (folder_number h) uid) refl i

-- mail with a message under the next mark can follow
pub appended_next : (m : Mail) (l : Landing) (flags : List (List ℕ)) (date : ℤ) (message : List ℕ) → IsMail m
    → IsNextMail m (with_message m l.folder (appended_message m.next_mark l.uid flags date message))
appended_next m l flags date message i =
    with_message_next m l.folder (appended_message m.next_mark l.uid flags date message) i
    (λ p e. let less : m.next_mark < m.next_mark = i.marks_below p m.next_mark e in absurd (omega (arith, less)))

pub landed_next : (m : Mail) (c : Command) (selected : Option (List ℕ)) (l : Landing) → IsMail m → IsNextMail m (landed m c selected l)
landed_next m (command.Move uid name) selected l i = moved_from_next m (named_by m selected) uid l i
landed_next m (command.Append name flags date message) selected l i = appended_next m l flags date message i
landed_next m _ selected l i = stays m i

-- ---- flags and folders

stored_next : (m : Mail) (n uid : ℕ) (add : Bool) (flags : List (List ℕ)) (o : Option Message) → message_in m.folders n uid ≡ o → IsMail m
    → IsNextMail m (with_stored m n add flags o)
stored_next m n uid add flags None found i = stays m i
stored_next m n uid add flags (Some x) found i =
    let stored : List (List ℕ) = flags_after add flags x.flags in
    subst (λ (o : Option Message). IsNextMail m (with_flags_of m n stored o)) found (with_flags_next m i n uid stored)

pub stored_in_next : (m : Mail) (o : Option NumberedFolder) (uid : ℕ) (add : Bool) (flags : List (List ℕ)) → IsMail m → IsNextMail m (with_stored_in m o uid add flags)
stored_in_next m None uid add flags i = stays m i
stored_in_next m (Some h) uid add flags i = stored_next m (folder_number h) uid add flags (message_in m.folders (folder_number h) uid) refl i

pub cut_next : (m : Mail) (o : Option NumberedFolder) → IsMail m → IsNextMail m (without_named m o)
cut_next m None i = stays m i
cut_next m (Some h) i = without_folder_next m (folder_number h) i

pub subscribed_next : (m : Mail) (on : Bool) (o : Option NumberedFolder) → IsMail m → IsNextMail m (with_subscribed m on o)
subscribed_next m on None i = stays m i
subscribed_next m on (Some h) i = with_attributes_next m i (folder_number h) (subscribed on h.folder.attributes)

-- ---- the whole

changed_next : (m : Mail) (c : Command) (rs : List Response) (selected : Option (List ℕ)) → IsMail m → IsNextMail m (changed_by m c rs selected)
changed_next m (command.Store uid add flags) rs selected i =
    elim (list_any (tells_flags uid) rs) as (λ b. IsNextMail m (if b then m else with_stored_in m (named_by m selected) uid add flags)) [
      | true ↦ stays m i
      | false ↦ stored_in_next m (named_by m selected) uid add flags i
    ]
changed_next m (command.Rename from to) rs selected i = renamed_next m from to i
changed_next m (command.Delete name) rs selected i = cut_next m (named m.folders name) i
changed_next m (command.Subscribe name on) rs selected i = subscribed_next m on (named m.folders name) i
changed_next m _ rs selected i = stays m i

then_next : (m : Mail) (x : Exchange) → IsMail m → IsNextMail m (told_then m x)
then_next m x i =
    let mid : Mail = tell_ok m x.command x.responses x.selected in
    let first : IsNextMail m mid = ok_next m x.command x.responses x.selected i in
    next_mail_joins m mid (told_then m x) first (changed_next mid x.command x.responses x.selected first.is_mail)

landing_next : (m : Mail) (x : Exchange) (o : Option Landing) → IsMail m → IsNextMail m (told_landed m x o)
landing_next m x None i = then_next m x i
landing_next m x (Some l) i =
    let mid : Mail = landed m x.command x.selected l in
    let first : IsNextMail m mid = landed_next m x.command x.selected l i in
    elim (is_contradicted m (target_of m x.command) l) as (λ b. IsNextMail m (if b then m else told_then mid x)) [
      | true ↦ stays m i
      | false ↦ next_mail_joins m mid (told_then mid x) first (then_next mid x first.is_mail)
    ]

pub changing_next : (m : Mail) (x : Exchange) → IsMail m → IsNextMail m (told m x)
changing_next m x i = by x.status
  where
    by : (s : Status) → IsNextMail m (told_as s m x)
    by status.Ok = landing_next m x (landing m x) i
    by _ = stays m i
