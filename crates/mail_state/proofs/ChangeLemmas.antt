-- Each message that exchanges leave is one of before, or its mark is new; as long as no MOVE is told it stood at its place, too.
use Rattle.std.proofs.Common.{◌≡◌, ◌⊎◌, ℕ, ◌≤◌, Bool, true, false, List, [], ◌∷◌, Option, Some, None, refl, sym, ap, ◌∙◌, subst, arith, inl, inr}
use Rattle.std.proofs.Common.{eqb, eqb-true, if◌then◌else◌, fold}
use Rattle.std.specs.List.{list_any}
use Rattle.std.specs.Option.{option_map}
use Rattle.std.proofs.lemmas.List.Elements.{All-head, All-tail}
use Rattle.imap_types.specs.declared.command.Command.{Command}
use Rattle.imap_types.specs.declared.command.Command.TheVariants as command
use Rattle.imap_types.specs.declared.response.Response.{Response}
use Rattle.imap_types.specs.declared.response.Status.{Status}
use Rattle.imap_types.specs.declared.response.Status.TheVariants as status
use Rattle.told_folder.specs.Folders.{folder_number, uid_of, held_in, folder_in, messages_of, messages_in, message_in, with_messages}
use Rattle.told_folder.specs.Keyed.{with_key, put_keyed, cut_keyed}
use Rattle.told_folder.specs.Tell.{Telling}
use Rattle.told_folder.specs.declared.exchange.Exchange.{Exchange}
use Rattle.told_folder.specs.declared.message.Folder.{Folder}
use Rattle.told_folder.specs.declared.message.NumberedFolder.{NumberedFolder}
use Rattle.told_folder.specs.declared.message.Message.{Message}
use Rattle.told_folder.proofs.FolderLemmas.{ascends_in, messages_same, messages_other}
use Rattle.told_folder.proofs.IndexLemmas.{same_or_not}
use Rattle.told_folder.proofs.KeyedLemmas.{some_is_not_none, some_same, found_put, found_cut}
use Rattle.told_mail.specs.Exchanges.{tell_ok}
use Rattle.told_mail.specs.Lists.{is_inbox}
use Rattle.told_mail.specs.Mail.{Mail, named, IsMail, IsNextMail, with_message, without_message, with_flags_of, with_attributes_of}
use Rattle.told_mail.specs.Renames.{renamed_folders, with_renamed}
use Rattle.told_mail.specs.reading.Renaming.{name_of}
use Rattle.told_mail.proofs.NextLemmas.{without_message_next}
use Rattle.told_mail.proofs.NumberLemmas.{numbers_stay, next_by, next_mail_joins}
use Rattle.told_mail.proofs.OnceLemmas.{messages_from}
use Rattle.told_mail.proofs.RenameLemmas.{was_named}
use Rattle.told_changes.specs.declared.landing.Landing.{Landing}
use Rattle.told_changes.specs.Landings.{landing, is_contradicted, target_of}
use Rattle.told_changes.specs.Changes.{landed, with_moved, with_moved_from, named_by, appended_message, with_stored, with_stored_in, tells_flags, changed_by, without_named, with_subscribed}
use Rattle.told_changes.specs.Told.{told, told_as, told_landed, told_then}
use Rattle.told_changes.proofs.Changing.{changing_next, landed_next, ok_next}
use Rattle.mail_state.specs.Telling.{IsMove, IsSameMessage, NoneMoves, StaysOrIsNew}
use Rattle.mail_state.proofs.StayLemmas.{self_same, same_joins, Fate, Keeps, keeps_put, keeps_flags, TellsOn, as_it_was, tells_join, lists_tell, ok_tells}

-- ---- places

-- a message is of a folder that is held
pub record IsHeldAt (hs : List NumberedFolder) (n u : ℕ) (x : Message) : Type 0 where
  pub held : NumberedFolder
  pub is_held : held_in hs n ≡ Some held
  pub there : with_key uid_of u held.messages ≡ Some x

pub held_at : (hs : List NumberedFolder) (n u : ℕ) (x : Message) → message_in hs n u ≡ Some x → IsHeldAt hs n u x
held_at hs n u x e = by (held_in hs n) refl e
  where
    by : (o : Option NumberedFolder) → held_in hs n ≡ o → with_key uid_of u (messages_of o) ≡ Some x → IsHeldAt hs n u x
    by None is f = absurd (some_is_not_none x (sym f))
    by (Some h) is f = record { held = h; is_held = is; there = f }

pub at_place : (hs : List NumberedFolder) (n u : ℕ) (h : NumberedFolder) (x : Message) → held_in hs n ≡ Some h → with_key uid_of u h.messages ≡ Some x
    → message_in hs n u ≡ Some x
at_place hs n u h x held there = ap (λ (o : Option NumberedFolder). with_key uid_of u (messages_of o)) held ∙ there

-- ---- a folder that has other messages

-- where one folder has other messages, this one is it, or is as it was
record HasOther (hs : List NumberedFolder) (n : ℕ) (xs : List Message) (j : ℕ) (k : NumberedFolder) : Type 0 where
  pub held : NumberedFolder
  pub is_held : held_in hs j ≡ Some held
  pub folder : k.folder ≡ held.folder
  pub messages : ((j ≡ n) × (k.messages ≡ xs)) ⊎ (k.messages ≡ held.messages)

other_found : (hs : List NumberedFolder) (n : ℕ) (xs : List Message) (j : ℕ) (k : NumberedFolder) → held_in (with_messages hs n xs) j ≡ Some k → HasOther hs n xs j k
other_found hs n xs j k e =
    let w = messages_from hs n xs j k e in
    let here : k.messages ≡ messages_in (with_messages hs n xs) j = sym (ap messages_of e) in
    record {
      held = w.0;
      is_held = w.1;
      folder = w.2;
      messages =
          elim (same_or_not j n) [
            | inl same ↦ inl (same, here ∙ (ap (messages_in (with_messages hs n xs)) same ∙ messages_same hs n xs w.0 (ap (held_in hs) (sym same) ∙ w.1)))
            | inr apart ↦ inr (here ∙ (messages_other hs n xs j apart ∙ ap messages_of w.1))
          ];
    }

-- mail in which each message of one folder was there, or has a new mark
messages_tell : (m new : Mail) (n : ℕ) (xs : List Message) → new.folders ≡ with_messages m.folders n xs → m.next_mark ≤ new.next_mark
    → ((u : ℕ) (x : Message) → with_key uid_of u xs ≡ Some x → Fate (messages_in m.folders n) m.next_mark u x) → TellsOn m new
messages_tell m new n xs is rises fate = record {
  stays = λ place k x held there.
      let o : HasOther m.folders n xs place.0 k = other_found m.folders n xs place.0 k (ap (λ hs. held_in hs place.0) (sym is) ∙ held) in
      let valid : k.folder.validity ≡ o.held.folder.validity = ap (λ (f : Folder). f.validity) o.folder in
      elim o.messages [
        | inl a ↦ elim (fate place.1 x (ap (with_key uid_of place.1) (sym a.1) ∙ there)) [
          | inl w ↦ (let found : held_in m.folders n ≡ Some o.held = ap (held_in m.folders) (sym a.0) ∙ o.is_held in
              inl (record {
                held = o.held;
                is_held = o.is_held;
                valid = valid;
                was = w.was;
                there = ap (λ (q : Option NumberedFolder). with_key uid_of place.1 (messages_of q)) (sym found) ∙ w.there;
                same = w.same;
              }))
          | inr later ↦ inr later
        ]
        | inr b ↦ inl (record {
          held = o.held;
          is_held = o.is_held;
          valid = valid;
          was = x;
          there = ap (with_key uid_of place.1) (sym b) ∙ there;
          same = self_same x;
        })
      ];
  rises = rises;
}

-- the messages of a folder before anything is told
abbrev before : Mail → ℕ → Telling
before m n = record { messages = messages_in m.folders n; next_mark = m.next_mark }

keeps_first : (m : Mail) (n : ℕ) → IsMail m → Keeps (messages_in m.folders n) m.next_mark (before m n)
keeps_first m n i = record { up = ascends_in m.folders n i.uids; rises = omega arith; each = λ u x e. inl (record { was = x; there = e; same = self_same x }) }

-- ---- what changing commands do

-- a message that comes has a new mark
put_tells : (m : Mail) (n : ℕ) (y : Message) → IsMail m → m.next_mark ≤ y.mark → TellsOn m (with_message m n y)
put_tells m n y i new =
    let base : List Message = messages_in m.folders n in
    let put : Keeps base m.next_mark (record { messages = put_keyed uid_of y base; next_mark = m.next_mark }) =
    keeps_put base m.next_mark (before m n) y m.next_mark (omega arith) (inr new) (keeps_first m n i) in
    messages_tell m (with_message m n y) n (put_keyed uid_of y base) refl (omega arith) put.each

-- one that goes leaves the others
cut_tells : (m : Mail) (n uid : ℕ) → TellsOn m (without_message m (n, uid))
cut_tells m n uid =
    let base : List Message = messages_in m.folders n in
    messages_tell m (without_message m (n, uid)) n (cut_keyed uid_of uid base) refl (omega arith)
    (λ u x e. elim (eqb uid u) as (λ b. (if b then None else with_key uid_of u base) ≡ Some x → Fate base m.next_mark u x) [
      | true ↦ λ f. absurd (some_is_not_none x (sym f))
      | false ↦ λ f. inl (record { was = x; there = f; same = self_same x })
    ] (sym (found_cut uid_of u uid base) ∙ e))

flags_tell : (m : Mail) (n uid : ℕ) (flags : List (List ℕ)) (o : Option Message) → message_in m.folders n uid ≡ o → IsMail m → TellsOn m (with_flags_of m n flags o)
flags_tell m n uid flags None found i = as_it_was m
flags_tell m n uid flags (Some x) found i =
    let base : List Message = messages_in m.folders n in
    let put = keeps_flags base m.next_mark (before m n) uid x (Some flags) found (keeps_first m n i) in
    messages_tell m (with_flags_of m n flags (Some x)) n (put_keyed uid_of (record x { flags = flags }) base) refl (omega arith) put.each

stored_tells : (m : Mail) (n uid : ℕ) (add : Bool) (flags : List (List ℕ)) (o : Option Message) → message_in m.folders n uid ≡ o → IsMail m
    → TellsOn m (with_stored m n add flags o)
stored_tells m n uid add flags None found i = as_it_was m
stored_tells m n uid add flags (Some x) found i = flags_tell m n uid _ (Some x) found i

stored_in_tells : (m : Mail) (o : Option NumberedFolder) (uid : ℕ) (add : Bool) (flags : List (List ℕ)) → IsMail m → TellsOn m (with_stored_in m o uid add flags)
stored_in_tells m None uid add flags i = as_it_was m
stored_in_tells m (Some h) uid add flags i = stored_tells m (folder_number h) uid add flags (message_in m.folders (folder_number h) uid) refl i

-- a folder that goes leaves the others
gone_tells : (m : Mail) (o : Option NumberedFolder) → TellsOn m (without_named m o)
gone_tells m None = as_it_was m
gone_tells m (Some h) =
    lists_tell m (without_named m (Some h)) (record {
      folders = λ n k u x held there. elim (eqb (folder_number h) n) as (λ b. (if b then None else held_in m.folders n) ≡ Some k
          → (w : NumberedFolder) × (held_in m.folders n ≡ Some w) × (with_key uid_of u w.messages ≡ Some x) × (k.folder.validity ≡ w.folder.validity)) [
            | true ↦ λ f. absurd (some_is_not_none k (sym f))
            | false ↦ λ f. (k, f, there, refl)
          ] (sym (found_cut folder_number n (folder_number h) m.folders) ∙ held);
      next_mark = refl;
    })

-- a folder keeps its messages and its validity under another name
renamed_tells : (m : Mail) (from to : List ℕ) → IsMail m → TellsOn m (with_renamed m from to)
renamed_tells m from to i =
    elim (is_inbox from) as (λ b. TellsOn m (if b then m else record m { folders = renamed_folders from to m.folders })) [
      | true ↦ as_it_was m
      | false ↦ lists_tell m (record m { folders = renamed_folders from to m.folders }) (record {
        folders = λ n k u x held there.
            let w = was_named (name_of from to m.folders) m.folders n k i.numbers held in (
              w.was,
              w.held,
              ap (λ (z : NumberedFolder). with_key uid_of u z.messages) (sym w.same) ∙ there,
              ap (λ (z : NumberedFolder). z.folder.validity) w.same,
            );
        next_mark = refl;
      })
    ]

held_of : (o : Option NumberedFolder) (g : Folder) → option_map (λ (h : NumberedFolder). h.folder) o ≡ Some g → (h : NumberedFolder) × (o ≡ Some h) × (h.folder ≡ g)
held_of None g e = absurd (some_is_not_none g (sym e))
held_of (Some h) g e = (h, refl, some_same _ _ e)

-- the folder that is found by a number has it
number_of : (hs : List NumberedFolder) (n : ℕ) (h : NumberedFolder) → held_in hs n ≡ Some h → folder_number h ≡ n
number_of [] n h e = absurd (some_is_not_none h (sym e))
number_of (x ∷ hs) n h e =
    elim (eqb (folder_number x) n) as (λ b. eqb (folder_number x) n ≡ b → (if b then Some x else held_in hs n) ≡ Some h → folder_number h ≡ n) [
      | true ↦ λ t f. ap folder_number (sym (some_same x h f)) ∙ eqb-true _ _ t
      | false ↦ λ t f. number_of hs n h f
    ] refl e

-- and with other attributes
attributes_tell : (m : Mail) (n : ℕ) (attributes : List (List ℕ)) (o : Option Folder) → folder_in m.folders n ≡ o → IsMail m → TellsOn m (with_attributes_of m attributes o)
attributes_tell m n attributes None found i = as_it_was m
attributes_tell m n attributes (Some f) found i =
    let h = held_of (held_in m.folders n) f found in
    let put : NumberedFolder = record { folder = record f { attributes = attributes }; messages = messages_in m.folders f.number } in
    let at : held_in m.folders f.number ≡ Some h.0 = ap (held_in m.folders) (ap (λ (z : Folder). z.number) (sym h.2) ∙ number_of m.folders n h.0 h.1) ∙ h.1 in
    lists_tell m (with_attributes_of m attributes (Some f)) (record {
      folders = λ j k u x held there. elim (eqb f.number j) as (λ b. eqb f.number j ≡ b → (if b then Some put else held_in m.folders j) ≡ Some k
          → (w : NumberedFolder) × (held_in m.folders j ≡ Some w) × (with_key uid_of u w.messages ≡ Some x) × (k.folder.validity ≡ w.folder.validity)) [
            | true ↦ λ t g. (
              h.0,
              ap (held_in m.folders) (sym (eqb-true f.number j t)) ∙ at,
              ap (λ (q : Option NumberedFolder). with_key uid_of u (messages_of q)) (sym at) ∙ (ap (λ (z : NumberedFolder). with_key uid_of u z.messages) (some_same _ _ g) ∙ there),
              ap (λ (z : NumberedFolder). z.folder.validity) (sym (some_same _ _ g)) ∙ ap (λ (z : Folder). z.validity) (sym h.2),
            )
            | false ↦ λ t g. (k, g, there, refl)
          ] refl (sym (found_put folder_number j put m.folders i.numbers) ∙ held);
      next_mark = refl;
    })

subscribed_tells : (m : Mail) (on : Bool) (o : Option NumberedFolder) → IsMail m → TellsOn m (with_subscribed m on o)
subscribed_tells m on None i = as_it_was m
subscribed_tells m on (Some h) i = attributes_tell m (folder_number h) _ (folder_in m.folders (folder_number h)) refl i

-- what the OK of a command changes besides
changed_tells : (m : Mail) (c : Command) (rs : List Response) (selected : Option (List ℕ)) → IsMail m → TellsOn m (changed_by m c rs selected)
changed_tells m (command.Store uid add flags) rs selected i =
    elim (list_any (tells_flags uid) rs) as (λ b. TellsOn m (if b then m else with_stored_in m (named_by m selected) uid add flags)) [
      | true ↦ as_it_was m
      | false ↦ stored_in_tells m (named_by m selected) uid add flags i
    ]
changed_tells m (command.Rename from to) rs selected i = renamed_tells m from to i
changed_tells m (command.Delete name) rs selected i = gone_tells m (named m.folders name)
changed_tells m (command.Subscribe name on) rs selected i = subscribed_tells m on (named m.folders name) i
changed_tells m _ rs selected i = as_it_was m

-- the responses, and what follows them
then_tells : (m : Mail) (x : Exchange) → IsMail m → TellsOn m (told_then m x)
then_tells m x i =
    let mid : Mail = tell_ok m x.command x.responses x.selected in
    tells_join m mid (told_then m x) (ok_tells m x.command x.responses x.selected i)
    (changed_tells mid x.command x.responses x.selected (ok_next m x.command x.responses x.selected i).is_mail)

-- ---- where no message is moved

landed_tells : (m : Mail) (c : Command) (selected : Option (List ℕ)) (l : Landing) → IsMail m → (IsMove c → ⊥) → TellsOn m (landed m c selected l)
landed_tells m (command.Move uid name) selected l i none = absurd (none tt)
landed_tells m (command.Append name flags date message) selected l i none =
    put_tells m l.folder (appended_message m.next_mark l.uid flags date message) i (omega arith)
landed_tells m _ selected l i none = as_it_was m

landing_tells : (m : Mail) (x : Exchange) (o : Option Landing) → IsMail m → (IsMove x.command → ⊥) → TellsOn m (told_landed m x o)
landing_tells m x None i none = then_tells m x i
landing_tells m x (Some l) i none =
    let mid : Mail = landed m x.command x.selected l in
    elim (is_contradicted m (target_of m x.command) l) as (λ b. TellsOn m (if b then m else told_then mid x)) [
      | true ↦ as_it_was m
      | false ↦ tells_join m mid (told_then mid x) (landed_tells m x.command x.selected l i none) (then_tells mid x (landed_next m x.command x.selected l i).is_mail)
    ]

exchange_tells : (m : Mail) (x : Exchange) → IsMail m → (IsMove x.command → ⊥) → TellsOn m (told m x)
exchange_tells m x i none = by x.status
  where
    by : (s : Status) → TellsOn m (told_as s m x)
    by status.Ok = landing_tells m x (landing m x) i none
    by _ = as_it_was m

all_tell : (m : Mail) (xs : List Exchange) → IsMail m → NoneMoves xs → TellsOn m (fold told m xs)
all_tell m [] i none = as_it_was m
all_tell m (x ∷ xs) i none =
    let P : Exchange → Type 0 = λ (y : Exchange). IsMove y.command → ⊥ in
    tells_join m (told m x) (fold told (told m x) xs) (exchange_tells m x i (All-head P x xs none))
    (all_tell (told m x) xs (changing_next m x i).is_mail (All-tail P x xs none))

-- each message that exchanges leave stood at its place before, or its mark is new, as long as no MOVE is told
pub all_stay : (m : Mail) (xs : List Exchange) → IsMail m → NoneMoves xs → StaysOrIsNew m (fold told m xs)
all_stay m xs i none = (all_tell m xs i none).stays

-- ---- wherever messages go

-- the message is one of before, at whatever place that was
pub record WasAnywhere (m : Mail) (x : Message) : Type 0 where
  pub place : ℕ × ℕ
  pub was : Message
  pub there : message_in m.folders place.0 place.1 ≡ Some was
  pub same : IsSameMessage was x

-- each message of the later mail is one of before, or has a new mark, and the counter didn't fall
pub record KeepsMarks (m after : Mail) : Type 0 where
  pub each : (place : ℕ × ℕ) (x : Message) → message_in after.folders place.0 place.1 ≡ Some x → WasAnywhere m x ⊎ (m.next_mark ≤ x.mark)
  pub rises : m.next_mark ≤ after.next_mark

keeps_told : (m after : Mail) → TellsOn m after → KeepsMarks m after
keeps_told m after t = record {
  each = λ place x e.
      let k : IsHeldAt after.folders place.0 place.1 x = held_at after.folders place.0 place.1 x e in
      elim (t.stays place k.held x k.is_held k.there) [
        | inl s ↦ inl (record { place = place; was = s.was; there = at_place m.folders place.0 place.1 s.held s.was s.is_held s.there; same = s.same })
        | inr new ↦ inr new
      ];
  rises = t.rises;
}

marks_join : (a b c : Mail) → KeepsMarks a b → KeepsMarks b c → KeepsMarks a c
marks_join a b c s t = record {
  each = λ place x e. elim (t.each place x e) [
    | inl w ↦ elim (s.each w.place w.was w.there) [
      | inl v ↦ inl (record { place = v.place; was = v.was; there = v.there; same = same_joins v.was w.was x v.same w.same })
      | inr new ↦ inr (let k : x.mark ≡ w.was.mark = w.same.mark in omega (arith, new, k))
    ]
    | inr new ↦ inr (let r : a.next_mark ≤ b.next_mark = s.rises in omega (arith, new, r))
  ];
  rises = (let r : a.next_mark ≤ b.next_mark = s.rises in let q : b.next_mark ≤ c.next_mark = t.rises in omega (arith, r, q));
}

-- one of before is put at another place
put_keeps : (m out : Mail) (n : ℕ) (y : Message) → IsMail out → WasAnywhere m y → KeepsMarks m out → KeepsMarks m (with_message out n y)
put_keeps m out n y i was keeps = record {
  each = λ place x e.
      let base : List Message = messages_in out.folders n in
      let k : IsHeldAt (with_message out n y).folders place.0 place.1 x = held_at (with_message out n y).folders place.0 place.1 x e in
      let o : HasOther out.folders n (put_keyed uid_of y base) place.0 k.held = other_found out.folders n (put_keyed uid_of y base) place.0 k.held k.is_held in
      elim o.messages [
        | inl a ↦ elim (eqb y.uid place.1) as (λ b. (if b then Some y else with_key uid_of place.1 base) ≡ Some x → WasAnywhere m x ⊎ (m.next_mark ≤ x.mark)) [
          | true ↦ λ f. inl (subst (λ (z : Message). WasAnywhere m z) (some_same y x f) was)
          | false ↦ λ f. keeps.each (n, place.1) x f
        ] (sym (found_put uid_of place.1 y base (ascends_in out.folders n i.uids)) ∙ (ap (with_key uid_of place.1) (sym a.1) ∙ k.there))
        | inr b ↦ keeps.each place x (at_place out.folders place.0 place.1 o.held x o.is_held (ap (with_key uid_of place.1) (sym b) ∙ k.there))
      ];
  rises = (let r : m.next_mark ≤ out.next_mark = keeps.rises in omega (arith, r));
}

moved_keeps : (m : Mail) (from uid : ℕ) (l : Landing) (o : Option Message) → message_in m.folders from uid ≡ o → IsMail m → KeepsMarks m (with_moved m from uid l o)
moved_keeps m from uid l None found i = keeps_told m m (as_it_was m)
moved_keeps m from uid l (Some x) found i =
    let out : Mail = without_message m (from, uid) in
    put_keeps m out l.folder (record x { uid = l.uid }) (without_message_next m (from, uid) i).is_mail (record {
      place = (from, uid);
      was = x;
      there = found;
      same = record { mark = refl; header = refl; date = refl; size = refl };
    }) (keeps_told m out (cut_tells m from uid))

moved_from_keeps : (m : Mail) (o : Option NumberedFolder) (uid : ℕ) (l : Landing) → IsMail m → KeepsMarks m (with_moved_from m o uid l)
moved_from_keeps m None uid l i = keeps_told m m (as_it_was m)
moved_from_keeps m (Some h) uid l i = moved_keeps m (folder_number h) uid l (message_in m.folders (folder_number h) uid) refl i

landed_keeps : (m : Mail) (c : Command) (selected : Option (List ℕ)) (l : Landing) → IsMail m → KeepsMarks m (landed m c selected l)
landed_keeps m (command.Move uid name) selected l i = moved_from_keeps m (named_by m selected) uid l i
landed_keeps m (command.Append name flags date message) selected l i =
    keeps_told m _ (put_tells m l.folder (appended_message m.next_mark l.uid flags date message) i (omega arith))
landed_keeps m _ selected l i = keeps_told m m (as_it_was m)

landing_keeps : (m : Mail) (x : Exchange) (o : Option Landing) → IsMail m → KeepsMarks m (told_landed m x o)
landing_keeps m x None i = keeps_told m (told_then m x) (then_tells m x i)
landing_keeps m x (Some l) i =
    let mid : Mail = landed m x.command x.selected l in
    elim (is_contradicted m (target_of m x.command) l) as (λ b. KeepsMarks m (if b then m else told_then mid x)) [
      | true ↦ keeps_told m m (as_it_was m)
      | false ↦ marks_join m mid (told_then mid x) (landed_keeps m x.command x.selected l i)
          (keeps_told mid (told_then mid x) (then_tells mid x (landed_next m x.command x.selected l i).is_mail))
    ]

exchange_keeps : (m : Mail) (x : Exchange) → IsMail m → KeepsMarks m (told m x)
exchange_keeps m x i = by x.status
  where
    by : (s : Status) → KeepsMarks m (told_as s m x)
    by status.Ok = landing_keeps m x (landing m x) i
    by _ = keeps_told m m (as_it_was m)

-- each message that exchanges leave is one of before, or its mark is new
pub all_keep : (m : Mail) (xs : List Exchange) → IsMail m → KeepsMarks m (fold told m xs)
all_keep m [] i = keeps_told m m (as_it_was m)
all_keep m (x ∷ xs) i =
    marks_join m (told m x) (fold told (told m x) xs) (exchange_keeps m x i) (all_keep (told m x) xs (changing_next m x i).is_mail)

-- the mail after exchanges can follow
pub all_next : (m : Mail) (xs : List Exchange) → IsMail m → IsNextMail m (fold told m xs)
all_next m [] i = next_by m m i (numbers_stay m)
all_next m (x ∷ xs) i =
    let one : IsNextMail m (told m x) = changing_next m x i in
    next_mail_joins m (told m x) (fold told (told m x) xs) one (all_next (told m x) xs one.is_mail)
