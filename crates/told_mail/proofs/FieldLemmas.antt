-- What holds as a message gets other flags, and a folder other attributes.
use Rattle.std.proofs.Common.{◌≡◌, ℕ, ◌+◌, ◌<◌, true, false, List, [], ◌∷◌, Option, Some, None, refl, sym, ap, ◌∙◌, subst, arith, inl, inr, max, length, get_or, set}
use Rattle.std.proofs.Common.{eqb, eqb-true, if◌then◌else◌, Vec, Global}
use Rattle.std.specs.BTreeMap.{BTreeMap}
use Rattle.std.specs.Option.{option_map}
use Rattle.told_folder.specs.Folders.{folder_number, uid_of, held_in, folder_in, messages_of, messages_in, message_in, mark_in, with_messages}
use Rattle.told_folder.specs.Index.{AllAscend, IsIndexed}
use Rattle.told_folder.specs.Keyed.{Ascends, with_key, put_keyed}
use Rattle.told_folder.specs.Places.{IsFreeAt, IsHeldAt}
use Rattle.told_folder.specs.declared.message.Folder.{Folder}
use Rattle.told_folder.specs.declared.message.NumberedFolder.{NumberedFolder}
use Rattle.told_folder.specs.declared.message.Message.{Message}
use Rattle.told_folder.proofs.FolderLemmas.{ascend_in, ascends_in, messages_same, numbers_with, uids_with, set_here}
use Rattle.told_folder.proofs.IndexLemmas.{IsHere, messages_here, mark_of, mark_same, mark_was, mark_off, same_place_or_not, eqb_apart, inverts_same}
use Rattle.told_folder.proofs.KeyedLemmas.{some_is_not_none, some_same, ascends_put, found_put, held_found, put_held, set_stays, free_found}
use Rattle.told_folder.proofs.PartLemmas.{put_found}
use Rattle.told_folder.proofs.VanishLemmas.{eqb_is}
use Rattle.told_mail.specs.Mail.{Mail, AllBelow, IsMail, IsNextMail, with_flags, with_flags_of, with_attributes, with_attributes_of, with_folder}
use Rattle.told_mail.specs.reading.Index.{IsMirror}
use Rattle.told_mail.proofs.NameLemmas.{name_set, numbers_same}
use Rattle.told_mail.proofs.NextLemmas.{with_messages_next, with_folder_next}
use Rattle.told_mail.proofs.NumberLemmas.{numbers_stay, next_by}
use Rattle.told_mail.proofs.OnceLemmas.{once_less}
use Rattle.told_mail.proofs.ToldLemmas.{mail_same, below_get, below_set}

-- ---- a message

with_own : (hs : List NumberedFolder) (n : ℕ) → with_messages hs n (messages_in hs n) ≡ hs
with_own [] n = refl
with_own (h ∷ hs) n =
    elim (eqb (folder_number h) n) as (λ b. (if b then record h { messages = messages_of (if b then Some h else held_in hs n) } ∷ hs
    else h ∷ with_messages hs n (messages_of (if b then Some h else held_in hs n))) ≡ h ∷ hs) [
      | true ↦ refl
      | false ↦ ap (λ (zs : List NumberedFolder). h ∷ zs) (with_own hs n)
    ]

-- a message that is found by a UID has it
pub found_uid : (u : ℕ) (xs : List Message) (x : Message) → with_key uid_of u xs ≡ Some x → x.uid ≡ u
found_uid u [] x e = absurd (cc)
found_uid u (y ∷ ys) x e =
    elim (eqb y.uid u) as (λ b. eqb y.uid u ≡ b → (if b then Some y else with_key uid_of u ys) ≡ Some x → x.uid ≡ u) [
      | true ↦ λ t f. ap uid_of (sym (some_same y x f)) ∙ eqb-true _ _ t
      | false ↦ λ t f. found_uid u ys x f
    ] refl e

-- where a message is held, its folder is
pub held_around : (hs : List NumberedFolder) (n uid : ℕ) (x : Message) → message_in hs n uid ≡ Some x → (h : NumberedFolder) × (held_in hs n ≡ Some h)
held_around hs n uid x found =
    elim (held_in hs n) as (λ o. held_in hs n ≡ o → with_key uid_of uid (messages_of o) ≡ Some x → (h : NumberedFolder) × (held_in hs n ≡ Some h)) [
      | None ↦ λ e f. absurd (some_is_not_none x (sym f))
      | Some h ↦ λ e f. (h, e)
    ] refl found

module _ (m : Mail) (n uid : ℕ) (flags : List (List ℕ)) (x : Message) (found : message_in m.folders n uid ≡ Some x) (up : Ascends uid_of (messages_in m.folders n)) where
  -- the mail where the message is held
  pub flagged_is : with_flags m n uid flags ≡ record m { folders = with_messages m.folders n (put_keyed uid_of (record x { flags = flags }) (messages_in m.folders n)) }
  flagged_is = ap (with_flags_of m n flags) found

  -- with the flags that it has the mail stays
  pub flags_stay : x.flags ≡ flags → with_flags m n uid flags ≡ m
  flags_stay same =
      let xs : List Message = messages_in m.folders n in
      let put : with_messages m.folders n (put_keyed uid_of (record x { flags = flags }) xs) ≡ m.folders =
      ap (λ (fs : List (List ℕ)). with_messages m.folders n (put_keyed uid_of (record x { flags = fs }) xs)) (sym same)
      ∙ (ap (with_messages m.folders n) (put_found uid x xs up found) ∙ with_own m.folders n) in
      flagged_is ∙ ap (λ (hs : List NumberedFolder). record m { folders = hs }) put

  -- where the mail stays, it has these flags
  pub flags_were : with_flags m n uid flags ≡ m → x.flags ≡ flags
  flags_were e =
      let xs : List Message = messages_in m.folders n in
      let y : Message = record x { flags = flags } in
      let ys : List Message = put_keyed uid_of y xs in
      let h = held_around m.folders n uid x found in
      let uid_is : y.uid ≡ uid = found_uid uid xs x found in
      let there : with_key uid_of uid ys ≡ Some y = found_put uid_of uid y xs up ∙ ap (λ b. if b then Some y else with_key uid_of uid xs) (eqb_is uid_is) in
      let new : message_in (with_flags m n uid flags).folders n uid ≡ Some y =
      ap (λ (k : Mail). message_in k.folders n uid) flagged_is ∙ (ap (with_key uid_of uid) (messages_same m.folders n ys h.0 h.1) ∙ there) in
      let same : x ≡ y = some_same _ _ (sym found ∙ (sym (ap (λ (k : Mail). message_in k.folders n uid) e) ∙ new)) in
      ap (λ (z : Message). z.flags) same

-- where the flags change the mail, the message is held
pub flags_held : (m : Mail) (n uid : ℕ) (flags : List (List ℕ)) → (with_flags m n uid flags ≡ m → ⊥) → (x : Message) × (message_in m.folders n uid ≡ Some x)
flags_held m n uid flags other =
    elim (message_in m.folders n uid) as (λ o. message_in m.folders n uid ≡ o → (x : Message) × (message_in m.folders n uid ≡ Some x)) [
      | None ↦ λ e. absurd (other (ap (with_flags_of m n flags) e))
      | Some x ↦ λ e. (x, e)
    ] refl

module _ (hs : List NumberedFolder) (n uid : ℕ) (h : NumberedFolder) (x : Message) (flags : List (List ℕ)) (held : held_in hs n ≡ Some h) (up : Ascends uid_of h.messages)
    (found : with_key uid_of uid h.messages ≡ Some x) where
  -- no mark goes to another place
  marks_flagged : (p : ℕ × ℕ) → mark_in (with_messages hs n (put_keyed uid_of (record x { flags = flags }) h.messages)) p ≡ mark_in hs p
  marks_flagged p =
      let y : Message = record x { flags = flags } in
      let ys : List Message = put_keyed uid_of y h.messages in
      let uid_is : y.uid ≡ uid = found_uid uid h.messages x found in
      elim (same_place_or_not p (n, uid)) [
        | inl same ↦
            let there : with_key uid_of uid ys ≡ Some y = found_put uid_of uid y h.messages up ∙ ap (λ b. if b then Some y else with_key uid_of uid h.messages) (eqb_is uid_is) in
            ap (mark_in (with_messages hs n ys)) same
            ∙ (mark_same hs n uid ys h held ∙ (ap (option_map mark_of) there ∙ (sym (ap (option_map mark_of) found) ∙ (sym (mark_was hs n uid h held) ∙ ap (mark_in hs) (sym same)))))
        | inr off ↦ mark_off hs n uid ys h held
            (λ u apart. found_put uid_of u y h.messages up
            ∙ ap (λ b. if b then Some y else with_key uid_of u h.messages) (eqb_apart y.uid u (λ e. apart (e ∙ uid_is)))) p off
      ]

  -- a mirror is one still
  pub mirror_flagged : (at : ℕ) (marks : BTreeMap ℕ (ℕ × ℕ)) (numbers : BTreeMap (Vec ℕ Global) ℕ) (nm nf : ℕ) → IsHere hs n at h → at < length hs → h ≡ get_or hs at h
      → IsMirror hs marks numbers nm nf → IsMirror (set hs at (record h { messages = put_keyed uid_of (record x { flags = flags }) h.messages })) marks numbers nm nf
  mirror_flagged at marks numbers nm nf here within is m =
      let y : Message = record x { flags = flags } in
      let ys : List Message = put_keyed uid_of y h.messages in
      record {
        index = subst (λ (zs : List NumberedFolder). IsIndexed zs marks nm) (here.placed ys) (record {
          numbers = numbers_with hs n ys m.index.numbers;
          uids = uids_with hs n ys (ascends_put uid_of y h.messages up) m.index.uids;
          inverse = inverts_same _ _ _ _ m.index.inverse (λ j. refl) marks_flagged;
          below = λ p q e. m.index.below p q (sym (marks_flagged p) ∙ e);
        });
        folders = below_set hs nf at (record h { messages = ys }) (below_get hs nf at h m.folders within is) m.folders;
        names = numbers_same _ _ hs _ m.names (λ q. refl) (name_set hs at h (record h { messages = ys }) within is refl refl);
      }

-- ---- a folder

-- a folder that is set at its place
pub folder_set : (hs : List NumberedFolder) (at : ℕ) (h : NumberedFolder) (g : Folder) (nm nf : ℕ) → Ascends folder_number hs → IsHeldAt folder_number g.number hs at → h ≡ get_or hs at h
    → folder_number h < nf
    → ◌≡◌ {A = Mail} (record { folders = set hs at (record { folder = g; messages = h.messages }); next_mark = nm; next_folder = nf })
    (with_folder (record { folders = hs; next_mark = nm; next_folder = nf }) g)
folder_set hs at h g nm nf up held is below =
    let n : ℕ = g.number in
    let k : NumberedFolder = record { folder = g; messages = h.messages } in
    let messages : messages_of (held_in hs n) ≡ h.messages = ap messages_of (sym (held_found folder_number n hs up at held h is)) in
    let put : put_keyed folder_number k hs ≡ set hs at k = put_held folder_number n k hs at held refl in
    let number : folder_number h ≡ n = ap folder_number is ∙ held.same h in
    let next : nf ≡ max nf (n + 1) = omega (arith, below, number) in
    mail_same _ _ _ _ _ _ (sym put ∙ ap (λ (xs : List Message). put_keyed folder_number (record { folder = g; messages = xs }) hs) (sym messages)) refl next

module _ (hs : List NumberedFolder) (at : ℕ) (h : NumberedFolder) (attributes : List (List ℕ)) (nm nf : ℕ) (up : Ascends folder_number hs) (held : IsHeldAt folder_number (folder_number h) hs at)
    (is : h ≡ get_or hs at h) (below : folder_number h < nf) where
  abbrev mail : Mail
  mail = record { folders = hs; next_mark = nm; next_folder = nf }

  abbrev changed : NumberedFolder
  changed = record { folder = record h.folder { attributes = attributes }; messages = h.messages }

  -- the folder at its place has these attributes
  pub attributes_set : ◌≡◌ {A = Mail} (record { folders = set hs at changed; next_mark = nm; next_folder = nf }) (with_attributes mail (folder_number h) attributes)
  attributes_set =
      let found : folder_in hs (folder_number h) ≡ Some h.folder =
      ap (option_map (λ (z : NumberedFolder). z.folder)) (sym (held_found folder_number (folder_number h) hs up at held h is)) in
      folder_set hs at h (record h.folder { attributes = attributes }) nm nf up held is below ∙ sym (ap (with_attributes_of mail attributes) found)

  -- with those that it has the mail stays
  pub attributes_stay : h.folder.attributes ≡ attributes → with_attributes mail (folder_number h) attributes ≡ mail
  attributes_stay same =
      sym attributes_set
      ∙ mail_same _ _ _ _ _ _ (ap (λ (a : List (List ℕ)). set hs at (record { folder = record h.folder { attributes = a }; messages = h.messages })) (sym same)
      ∙ set_here hs at h held.within is) refl refl

  -- where the mail stays, it has these
  pub attributes_were : with_attributes mail (folder_number h) attributes ≡ mail → h.folder.attributes ≡ attributes
  attributes_were e =
      let stays : set hs at changed ≡ hs = ap (λ (k : Mail). k.folders) (attributes_set ∙ e) in
      sym (ap (λ (z : NumberedFolder). z.folder.attributes) (set_stays hs at h changed held.within is stays))

module _ (hs : List NumberedFolder) (at n : ℕ) (h : NumberedFolder) (attributes : List (List ℕ)) (nm nf : ℕ) (up : Ascends folder_number hs) (held : IsHeldAt folder_number n hs at)
    (is : h ≡ get_or hs at h) (all : AllBelow nf hs) where
  number_here : folder_number h ≡ n
  number_here = ap folder_number is ∙ held.same h

  held_here : IsHeldAt folder_number (folder_number h) hs at
  held_here = subst (λ (j : ℕ). IsHeldAt folder_number j hs at) (sym number_here) held

  below_here : folder_number h < nf
  below_here = below_get hs nf at h all held.within is

  -- the folder of the number has these attributes
  pub attributes_put : ◌≡◌ {A = Mail} (record { folders = set hs at (record { folder = record h.folder { attributes = attributes }; messages = h.messages }); next_mark = nm; next_folder = nf })
      (with_attributes (record { folders = hs; next_mark = nm; next_folder = nf }) n attributes)
  attributes_put =
      attributes_set hs at h attributes nm nf up held_here is below_here
      ∙ ap (λ (j : ℕ). with_attributes (record { folders = hs; next_mark = nm; next_folder = nf }) j attributes) number_here

  -- with those that it has the mail stays
  pub attributes_kept : h.folder.attributes ≡ attributes
      → with_attributes (record { folders = hs; next_mark = nm; next_folder = nf }) n attributes ≡ record { folders = hs; next_mark = nm; next_folder = nf }
  attributes_kept same =
      ap (λ (j : ℕ). with_attributes (record { folders = hs; next_mark = nm; next_folder = nf }) j attributes) (sym number_here)
      ∙ attributes_stay hs at h attributes nm nf up held_here is below_here same

  -- where the mail stays, it has these
  pub attributes_found : with_attributes (record { folders = hs; next_mark = nm; next_folder = nf }) n attributes ≡ record { folders = hs; next_mark = nm; next_folder = nf }
      → h.folder.attributes ≡ attributes
  attributes_found e =
      attributes_were hs at h attributes nm nf up held_here is below_here
      (ap (λ (j : ℕ). with_attributes (record { folders = hs; next_mark = nm; next_folder = nf }) j attributes) number_here ∙ e)

-- of a number that no folder has, nothing changes
pub none_attributed : (m : Mail) (n at : ℕ) (attributes : List (List ℕ)) → Ascends folder_number m.folders → IsFreeAt folder_number n m.folders at → with_attributes m n attributes ≡ m
none_attributed m n at attributes up free =
    ap (λ (o : Option NumberedFolder). with_attributes_of m attributes (option_map (λ (z : NumberedFolder). z.folder) o)) (sym (free_found folder_number n m.folders up at free))

-- nor a message's flags
pub none_flagged : (m : Mail) (n uid at : ℕ) (flags : List (List ℕ)) → Ascends folder_number m.folders → IsFreeAt folder_number n m.folders at → with_flags m n uid flags ≡ m
none_flagged m n uid at flags up free =
    ap (λ (o : Option NumberedFolder). with_flags_of m n flags (with_key uid_of uid (messages_of o))) (sym (free_found folder_number n m.folders up at free))

-- the folder at its place, whose message has these flags
pub flags_put : (hs : List NumberedFolder) (n uid at : ℕ) (h k : NumberedFolder) (x : Message) (flags : List (List ℕ)) (nm nf : ℕ) → IsHere hs n at h → AllAscend hs
    → message_in hs n uid ≡ Some x → k ≡ record h { messages = put_keyed uid_of (record x { flags = flags }) h.messages }
    → ◌≡◌ {A = Mail} (record { folders = set hs at k; next_mark = nm; next_folder = nf }) (with_flags (record { folders = hs; next_mark = nm; next_folder = nf }) n uid flags)
flags_put hs n uid at h k x flags nm nf here up found is =
    let y : Message = record x { flags = flags } in
    let ys : List Message = put_keyed uid_of y h.messages in
    mail_same _ _ _ _ _ _
    (ap (λ (z : NumberedFolder). set hs at z) is ∙ (sym (here.placed ys)
    ∙ ap (λ (xs : List Message). with_messages hs n (put_keyed uid_of y xs)) (sym (messages_here hs n h here.found)))) refl refl
    ∙ sym (flagged_is (record { folders = hs; next_mark = nm; next_folder = nf }) n uid flags x found (ascends_in hs n up))

-- ---- mail that can follow

module _ (m : Mail) (i : IsMail m) where
  flagged_next : (n uid : ℕ) (flags : List (List ℕ)) (o : Option Message) → message_in m.folders n uid ≡ o → IsNextMail m (with_flags_of m n flags o)
  flagged_next n uid flags None found = next_by m m i (numbers_stay m)
  flagged_next n uid flags (Some x) found =
      let hs : List NumberedFolder = m.folders in
      let xs : List Message = messages_in hs n in
      let h = held_around hs n uid x found in
      let y : Message = record x { flags = flags } in
      let same : messages_in hs n ≡ h.0.messages = ap messages_of h.1 in
      let up : Ascends uid_of h.0.messages = ascend_in hs n h.0 i.uids (sym h.1) in
      let here : with_key uid_of uid h.0.messages ≡ Some x = ap (with_key uid_of uid) (sym same) ∙ found in
      let was : (p : ℕ × ℕ) (k : ℕ) → mark_in (with_messages hs n (put_keyed uid_of y xs)) p ≡ Some k → mark_in hs p ≡ Some k =
      λ p k e. sym (marks_flagged hs n uid h.0 x flags h.1 up here p)
      ∙ (sym (ap (λ (zs : List Message). mark_in (with_messages hs n (put_keyed uid_of y zs)) p) same) ∙ e) in
      with_messages_next m n (put_keyed uid_of y xs) m.next_mark (ascends_put uid_of y xs (ascends_in hs n i.uids))
      (once_less (mark_in hs) (mark_in (with_messages hs n (put_keyed uid_of y xs))) i.marks was) (λ p k e. i.marks_below p k (was p k e)) i

  -- mail with other flags of a message can follow
  pub with_flags_next : (n uid : ℕ) (flags : List (List ℕ)) → IsNextMail m (with_flags m n uid flags)
  with_flags_next n uid flags = flagged_next n uid flags (message_in m.folders n uid) refl

  held_folder : (n : ℕ) (f : Folder) → folder_in m.folders n ≡ Some f → (h : NumberedFolder) × (held_in m.folders n ≡ Some h) × (h.folder ≡ f)
  held_folder n f e = by (held_in m.folders n) refl e
    where
      by : (o : Option NumberedFolder) → held_in m.folders n ≡ o → option_map (λ (z : NumberedFolder). z.folder) o ≡ Some f → (h : NumberedFolder) × (held_in m.folders n ≡ Some h) × (h.folder ≡ f)
      by None t g = absurd (some_is_not_none f (sym g))
      by (Some h) t g = (h, t, some_same _ _ g)

  attributed_next : (n : ℕ) (attributes : List (List ℕ)) (o : Option Folder) → folder_in m.folders n ≡ o → IsNextMail m (with_attributes_of m attributes o)
  attributed_next n attributes None found = next_by m m i (numbers_stay m)
  attributed_next n attributes (Some f) found =
      let h = held_folder n f found in
      let number : folder_number h.0 ≡ n = held_number m.folders n h.0 h.1 in
      let same : f.number ≡ n = ap (λ (g : Folder). g.number) (sym h.2) ∙ number in
      let there : held_in m.folders f.number ≡ Some h.0 = ap (held_in m.folders) same ∙ h.1 in
      with_folder_next m (record f { attributes = attributes }) i
      (λ j k e named. i.names j f.number k h.0 e there (named ∙ ap (λ (g : Folder). g.name) (sym h.2)))
      (λ none. absurd (some_is_not_none h.0 (sym there ∙ none)))
    where
      held_number : (hs : List NumberedFolder) (j : ℕ) (k : NumberedFolder) → held_in hs j ≡ Some k → folder_number k ≡ j
      held_number [] j k e = absurd (some_is_not_none k (sym e))
      held_number (z ∷ hs) j k e =
          elim (eqb (folder_number z) j) as (λ b. eqb (folder_number z) j ≡ b → (if b then Some z else held_in hs j) ≡ Some k → folder_number k ≡ j) [
            | true ↦ λ t g. ap folder_number (sym (some_same z k g)) ∙ eqb-true _ _ t
            | false ↦ λ t g. held_number hs j k g
          ] refl e

  -- mail with other attributes of a folder can follow
  pub with_attributes_next : (n : ℕ) (attributes : List (List ℕ)) → IsNextMail m (with_attributes m n attributes)
  with_attributes_next n attributes = attributed_next n attributes (folder_in m.folders n) refl
