-- A command that changes mail leaves of each folder the UID before which all is known.
use Rattle.std.proofs.Common.{◌≡◌, ℕ, Bool, true, false, List, [], ◌∷◌, Option, Some, None, refl, sym, ap, ◌∙◌, eqb, eqb-true, if◌then◌else◌}
use Rattle.std.specs.List.{list_any}
use Rattle.std.specs.Option.{option_map}
use Rattle.imap_types.specs.declared.command.Command.{Command}
use Rattle.imap_types.specs.declared.command.Command.TheVariants as command
use Rattle.imap_types.specs.declared.response.Response.{Response}
use Rattle.imap_types.specs.declared.response.Status.{Status}
use Rattle.imap_types.specs.declared.response.Status.TheVariants as status
use Rattle.kept_names.specs.Changes.{flags_after, subscribed}
use Rattle.told_folder.specs.Folders.{folder_number, uid_of, held_in, folder_in, messages_in, message_in, with_messages}
use Rattle.told_folder.specs.Keyed.{cut_keyed, put_keyed}
use Rattle.told_folder.specs.ToldBy.{told_by}
use Rattle.told_folder.specs.declared.exchange.Exchange.{Exchange}
use Rattle.told_folder.specs.declared.message.Folder.{Folder}
use Rattle.told_folder.specs.declared.message.NumberedFolder.{NumberedFolder}
use Rattle.told_folder.specs.declared.message.Message.{Message}
use Rattle.told_folder.proofs.KeyedLemmas.{some_is_not_none, some_same, found_cut, found_put}
use Rattle.told_mail.specs.Exchanges.{with_held, tell_held, tell_named, tell_ok}
use Rattle.told_mail.specs.Lists.{is_inbox}
use Rattle.told_mail.specs.Mail.{Mail, named, IsMail, with_message, without_message, with_flags_of, with_attributes_of}
use Rattle.told_mail.specs.Renames.{renamed_folders, with_renamed}
use Rattle.told_mail.specs.reading.Renaming.{name_of}
use Rattle.told_mail.proofs.NameLemmas.{named_held}
use Rattle.told_mail.proofs.OnceLemmas.{messages_from}
use Rattle.told_mail.proofs.RenameLemmas.{was_named}
use Rattle.told_changes.specs.declared.landing.Landing.{Landing}
use Rattle.told_changes.specs.Landings.{landing, is_contradicted, target_of}
use Rattle.told_changes.specs.Changes.{landed, with_moved, with_moved_from, named_by, appended_message, with_stored, with_stored_in, tells_flags, changed_by, without_named, with_subscribed}
use Rattle.told_changes.specs.Told.{told, told_as, told_landed, told_then, is_changing}
use Rattle.told_changes.proofs.Changing.{landed_next, ok_next}

-- each folder that is there was there with this UID
abbrev KeepsNext : Mail → Mail → Type 0
KeepsNext old new = (n : ℕ) (h : NumberedFolder) → held_in new.folders n ≡ Some h → (w : NumberedFolder) × (held_in old.folders n ≡ Some w) × (h.folder.next ≡ w.folder.next)

same_next : (m : Mail) → KeepsNext m m
same_next m = λ n h e. (h, e, refl)

joined_next : (a b c : Mail) → KeepsNext a b → KeepsNext b c → KeepsNext a c
joined_next a b c f g = λ n h e.
    let x = g n h e in
    let y = f n x.0 x.1 in
    (y.0, y.1, x.2 ∙ y.2)

messages_keep : (m new : Mail) (n : ℕ) (xs : List Message) → new.folders ≡ with_messages m.folders n xs → KeepsNext m new
messages_keep m new n xs is = λ j h e.
    let w = messages_from m.folders n xs j h (ap (λ ks. held_in ks j) (sym is) ∙ e) in
    (w.0, w.1, ap (λ (f : Folder). f.next) w.2)

moved_keeps : (m : Mail) (from uid : ℕ) (l : Landing) (o : Option Message) → KeepsNext m (with_moved m from uid l o)
moved_keeps m from uid l None = same_next m
moved_keeps m from uid l (Some x) =
    let out : Mail = without_message m (from, uid) in
    let y : Message = record x { uid = l.uid } in
    joined_next m out (with_message out l.folder y)
    (messages_keep m out from (cut_keyed uid_of uid (messages_in m.folders from)) refl)
    (messages_keep out (with_message out l.folder y) l.folder (put_keyed uid_of y (messages_in out.folders l.folder)) refl)

moved_from_keeps : (m : Mail) (o : Option NumberedFolder) (uid : ℕ) (l : Landing) → KeepsNext m (with_moved_from m o uid l)
moved_from_keeps m None uid l = same_next m
moved_from_keeps m (Some h) uid l = moved_keeps m (folder_number h) uid l (message_in m.folders (folder_number h) uid)

landed_keeps : (m : Mail) (c : Command) (selected : Option (List ℕ)) (l : Landing) → KeepsNext m (landed m c selected l)
landed_keeps m (command.Move uid name) selected l = moved_from_keeps m (named_by m selected) uid l
landed_keeps m (command.Append name flags date message) selected l =
    let x : Message = appended_message m.next_mark l.uid flags date message in
    messages_keep m (with_message m l.folder x) l.folder (put_keyed uid_of x (messages_in m.folders l.folder)) refl
landed_keeps m _ selected l = same_next m

-- ---- the responses

held_keeps : (hs : List NumberedFolder) (h k : NumberedFolder) (n : ℕ) (x : NumberedFolder) → folder_number k ≡ folder_number h → k.folder.next ≡ h.folder.next → held_in hs (folder_number h) ≡ Some h
    → held_in (with_held hs k) n ≡ Some x → (w : NumberedFolder) × (held_in hs n ≡ Some w) × (x.folder.next ≡ w.folder.next)
held_keeps [] h k n x number next found e = absurd (some_is_not_none x (sym e))
held_keeps (y ∷ hs) h k n x number next found e =
    elim (eqb (folder_number y) (folder_number k)) as (λ b. eqb (folder_number y) (folder_number k) ≡ b → held_in (if b then k ∷ hs else y ∷ with_held hs k) n ≡ Some x
    → (w : NumberedFolder) × (held_in (y ∷ hs) n ≡ Some w) × (x.folder.next ≡ w.folder.next)) [
      | true ↦ λ t f.
          let yk : folder_number y ≡ folder_number k = eqb-true _ _ t in
          let yt : eqb (folder_number y) (folder_number h) ≡ true = sym (ap (λ i. eqb (folder_number y) i) number) ∙ t in
          let yh : y ≡ h = some_same y h (sym (ap (λ b. if b then Some y else held_in hs (folder_number h)) yt) ∙ found) in
          elim (eqb (folder_number k) n) as (λ b. eqb (folder_number k) n ≡ b → (if b then Some k else held_in hs n) ≡ Some x
          → (w : NumberedFolder) × (held_in (y ∷ hs) n ≡ Some w) × (x.folder.next ≡ w.folder.next)) [
            | true ↦ λ u g. (
              y,
              ap (λ i. if eqb i n then Some y else held_in hs n) yk ∙ ap (λ b. if b then Some y else held_in hs n) u,
              ap (λ (z : NumberedFolder). z.folder.next) (sym (some_same _ _ g)) ∙ (next ∙ ap (λ (z : NumberedFolder). z.folder.next) (sym yh)),
            )
            | false ↦ λ u g. (x, ap (λ i. if eqb i n then Some y else held_in hs n) yk ∙ (ap (λ b. if b then Some y else held_in hs n) u ∙ g), refl)
          ] refl f
      | false ↦ λ t f.
          let rest : held_in hs (folder_number h) ≡ Some h =
          sym (ap (λ b. if b then Some y else held_in hs (folder_number h)) (sym (ap (λ i. eqb (folder_number y) i) number) ∙ t)) ∙ found in
          elim (eqb (folder_number y) n) as (λ b. (if b then Some y else held_in (with_held hs k) n) ≡ Some x
          → (w : NumberedFolder) × ((if b then Some y else held_in hs n) ≡ Some w) × (x.folder.next ≡ w.folder.next)) [
            | true ↦ λ g. (y, refl, ap (λ (z : NumberedFolder). z.folder.next) (sym (some_same _ _ g)))
            | false ↦ λ g. held_keeps hs h k n x number next rest g
          ] f
    ] refl e

-- a command that changes mail tells a folder no UID before which all is known
told_by_next : (c : Command) (rs : List Response) (nm : ℕ) (h : NumberedFolder) → is_changing c ≡ true → ((told_by c rs nm h).folder.next ≡ h.folder.next)
    × (folder_number (told_by c rs nm h) ≡ folder_number h)
told_by_next (command.Store uid add flags) rs nm h is = (refl, refl)
told_by_next (command.Move uid name) rs nm h is = (refl, refl)
told_by_next (command.Expunge uid) rs nm h is = (refl, refl)
told_by_next (command.Append name flags date message) rs nm h is = (refl, refl)
told_by_next (command.Create name) rs nm h is = (refl, refl)
told_by_next (command.Delete name) rs nm h is = (refl, refl)
told_by_next (command.Rename from to) rs nm h is = (refl, refl)
told_by_next (command.Subscribe name on) rs nm h is = (refl, refl)
told_by_next _ rs nm h is = absurd (cc)

tell_held_keeps : (m : Mail) (c : Command) (rs : List Response) (name : List ℕ) (o : Option NumberedFolder) → named m.folders name ≡ o → IsMail m → is_changing c ≡ true
    → KeepsNext m (tell_held m c rs o)
tell_held_keeps m c rs name None e i is = same_next m
tell_held_keeps m c rs name (Some h) e i is = λ n x held.
    let both = told_by_next c rs m.next_mark h is in
    held_keeps m.folders h (told_by c rs m.next_mark h) n x both.1 both.0 (named_held m.folders name h i.numbers e) held

tell_named_keeps : (m : Mail) (c : Command) (rs : List Response) (o : Option (List ℕ)) → IsMail m → is_changing c ≡ true → KeepsNext m (tell_named m c rs o)
tell_named_keeps m c rs None i is = same_next m
tell_named_keeps m c rs (Some name) i is = tell_held_keeps m c rs name (named m.folders name) refl i is

ok_keeps : (m : Mail) (c : Command) (rs : List Response) (selected : Option (List ℕ)) → IsMail m → is_changing c ≡ true → KeepsNext m (tell_ok m c rs selected)
ok_keeps m (command.Store uid add flags) rs selected i is = tell_named_keeps m (command.Store uid add flags) rs selected i is
ok_keeps m (command.Move uid name) rs selected i is = tell_named_keeps m (command.Move uid name) rs selected i is
ok_keeps m (command.Expunge uid) rs selected i is = tell_named_keeps m (command.Expunge uid) rs selected i is
ok_keeps m (command.Append name flags date message) rs selected i is = tell_named_keeps m (command.Append name flags date message) rs selected i is
ok_keeps m (command.Create name) rs selected i is = tell_named_keeps m (command.Create name) rs selected i is
ok_keeps m (command.Delete name) rs selected i is = tell_named_keeps m (command.Delete name) rs selected i is
ok_keeps m (command.Rename from to) rs selected i is = tell_named_keeps m (command.Rename from to) rs selected i is
ok_keeps m (command.Subscribe name on) rs selected i is = tell_named_keeps m (command.Subscribe name on) rs selected i is
ok_keeps m _ rs selected i is = absurd (cc)

-- ---- after them

flags_keep : (m : Mail) (n : ℕ) (flags : List (List ℕ)) (o : Option Message) → KeepsNext m (with_flags_of m n flags o)
flags_keep m n flags None = same_next m
flags_keep m n flags (Some x) =
    messages_keep m (with_flags_of m n flags (Some x)) n (put_keyed uid_of (record x { flags = flags }) (messages_in m.folders n)) refl

stored_keeps : (m : Mail) (n : ℕ) (add : Bool) (flags : List (List ℕ)) (o : Option Message) → KeepsNext m (with_stored m n add flags o)
stored_keeps m n add flags None = same_next m
stored_keeps m n add flags (Some x) = flags_keep m n (flags_after add flags x.flags) (Some x)

stored_in_keeps : (m : Mail) (o : Option NumberedFolder) (uid : ℕ) (add : Bool) (flags : List (List ℕ)) → KeepsNext m (with_stored_in m o uid add flags)
stored_in_keeps m None uid add flags = same_next m
stored_in_keeps m (Some h) uid add flags = stored_keeps m (folder_number h) add flags (message_in m.folders (folder_number h) uid)

cut_keeps : (m : Mail) (o : Option NumberedFolder) → KeepsNext m (without_named m o)
cut_keeps m None = same_next m
cut_keeps m (Some h) = λ n x e.
    elim (eqb (folder_number h) n) as (λ b. (if b then None else held_in m.folders n) ≡ Some x → (w : NumberedFolder) × (held_in m.folders n ≡ Some w) × (x.folder.next ≡ w.folder.next)) [
      | true ↦ λ f. absurd (some_is_not_none x (sym f))
      | false ↦ λ f. (x, f, refl)
    ] (sym (found_cut folder_number n (folder_number h) m.folders) ∙ e)

held_of : (o : Option NumberedFolder) (g : Folder) → option_map (λ (h : NumberedFolder). h.folder) o ≡ Some g → (h : NumberedFolder) × (o ≡ Some h) × (h.folder ≡ g)
held_of None g e = absurd (some_is_not_none g (sym e))
held_of (Some h) g e = (h, refl, some_same _ _ e)

-- the folder that is found by a number has it
number_of : (hs : List NumberedFolder) (n : ℕ) (h : NumberedFolder) → held_in hs n ≡ Some h → folder_number h ≡ n
number_of [] n h e = absurd (some_is_not_none h (sym e))
number_of (x ∷ hs) n h e =
    elim (eqb (folder_number x) n) as (λ b. eqb (folder_number x) n ≡ b → (if b then Some x else held_in hs n) ≡ Some h → folder_number h ≡ n) [
      | true ↦ λ t f. ap folder_number (sym (some_same x h f)) ∙ eqb-true _ _ t
      | false ↦ λ t f. number_of hs n h f
    ] refl e

attributes_keep : (m : Mail) (n : ℕ) (attributes : List (List ℕ)) (o : Option Folder) → folder_in m.folders n ≡ o → IsMail m → KeepsNext m (with_attributes_of m attributes o)
attributes_keep m n attributes None found i = same_next m
attributes_keep m n attributes (Some f) found i = λ j k e.
    let h = held_of (held_in m.folders n) f found in
    let put : NumberedFolder = record { folder = record f { attributes = attributes }; messages = messages_in m.folders f.number } in
    elim (eqb f.number j) as (λ b. eqb f.number j ≡ b → (if b then Some put else held_in m.folders j) ≡ Some k
    → (w : NumberedFolder) × (held_in m.folders j ≡ Some w) × (k.folder.next ≡ w.folder.next)) [
      | true ↦ λ t g. (
        h.0,
        ap (held_in m.folders) (sym (eqb-true f.number j t) ∙ (ap (λ (z : Folder). z.number) (sym h.2) ∙ number_of m.folders n h.0 h.1)) ∙ h.1,
        ap (λ (z : NumberedFolder). z.folder.next) (sym (some_same _ _ g)) ∙ ap (λ (z : Folder). z.next) (sym h.2),
      )
      | false ↦ λ t g. (k, g, refl)
    ] refl (sym (found_put folder_number j put m.folders i.numbers) ∙ e)

with_subscribed_keeps : (m : Mail) (on : Bool) (o : Option NumberedFolder) → IsMail m → KeepsNext m (with_subscribed m on o)
with_subscribed_keeps m on None i = same_next m
with_subscribed_keeps m on (Some h) i =
    attributes_keep m (folder_number h) (subscribed on h.folder.attributes) (folder_in m.folders (folder_number h)) refl i

renamed_keeps : (m : Mail) (from to : List ℕ) → IsMail m → KeepsNext m (with_renamed m from to)
renamed_keeps m from to i =
    elim (is_inbox from) as (λ b. KeepsNext m (if b then m else record m { folders = renamed_folders from to m.folders })) [
      | true ↦ same_next m
      | false ↦ λ n k e.
          let w = was_named (name_of from to m.folders) m.folders n k i.numbers e in
          (w.was, w.held, ap (λ (z : NumberedFolder). z.folder.next) w.same)
    ]

changed_keeps : (m : Mail) (c : Command) (rs : List Response) (selected : Option (List ℕ)) → IsMail m → KeepsNext m (changed_by m c rs selected)
changed_keeps m (command.Store uid add flags) rs selected i =
    elim (list_any (tells_flags uid) rs) as (λ b. KeepsNext m (if b then m else with_stored_in m (named_by m selected) uid add flags)) [
      | true ↦ same_next m
      | false ↦ stored_in_keeps m (named_by m selected) uid add flags
    ]
changed_keeps m (command.Rename from to) rs selected i = renamed_keeps m from to i
changed_keeps m (command.Delete name) rs selected i = cut_keeps m (named m.folders name)
changed_keeps m (command.Subscribe name on) rs selected i = with_subscribed_keeps m on (named m.folders name) i
changed_keeps m _ rs selected i = same_next m

-- ---- the whole

then_keeps : (m : Mail) (x : Exchange) → IsMail m → is_changing x.command ≡ true → KeepsNext m (told_then m x)
then_keeps m x i is =
    let mid : Mail = tell_ok m x.command x.responses x.selected in
    joined_next m mid (told_then m x) (ok_keeps m x.command x.responses x.selected i is)
    (changed_keeps mid x.command x.responses x.selected (ok_next m x.command x.responses x.selected i).is_mail)

landing_keeps : (m : Mail) (x : Exchange) (o : Option Landing) → IsMail m → is_changing x.command ≡ true → KeepsNext m (told_landed m x o)
landing_keeps m x None i is = then_keeps m x i is
landing_keeps m x (Some l) i is =
    let mid : Mail = landed m x.command x.selected l in
    elim (is_contradicted m (target_of m x.command) l) as (λ b. KeepsNext m (if b then m else told_then mid x)) [
      | true ↦ same_next m
      | false ↦ joined_next m mid (told_then mid x) (landed_keeps m x.command x.selected l) (then_keeps mid x (landed_next m x.command x.selected l i).is_mail is)
    ]

told_keeps : (m : Mail) (x : Exchange) → IsMail m → is_changing x.command ≡ true → KeepsNext m (told m x)
told_keeps m x i is = by x.status
  where
    by : (s : Status) → KeepsNext m (told_as s m x)
    by status.Ok = landing_keeps m x (landing m x) i is
    by _ = same_next m

pub not_passed : (m : Mail) (x : Exchange) (n : ℕ) (g : Folder) → IsMail m → is_changing x.command ≡ true → folder_in (told m x).folders n ≡ Some g
    → (f : Folder) × (folder_in m.folders n ≡ Some f) × (g.next ≡ f.next)
not_passed m x n g i is e =
    let h = held_of (held_in (told m x).folders n) g e in
    let w = told_keeps m x i is n h.0 h.1 in
    (w.0.folder, ap (option_map (λ (z : NumberedFolder). z.folder)) w.1, ap (λ (f : Folder). f.next) (sym h.2) ∙ w.2)
