-- What telling keeps of well-formed mail.
use Rattle.std.proofs.Common.{◌≡◌, ◌≢◌, ℕ, ℤ, ◌+◌, ◌≤◌, ◌<◌, ◌^◌, Bool, true, false, not, List, [], ◌∷◌, ◌++◌, Option, Some, None, refl, ◌∙◌, subst, arith, filter}
use Rattle.std.proofs.Common.{leb, leb-true, ltb, eqb, is_some, unwrap_or, if◌then◌else◌}
use Rattle.std.specs.List.{AllByRecursion, filter_map, cons_option, list_any}
use Rattle.std.specs.Option.{option_map}
use Rattle.imap_types.specs.declared.command.Command.{Command}
use Rattle.imap_types.specs.declared.command.Command.TheVariants as command
use Rattle.imap_types.specs.declared.response.FetchItems.{FetchItems}
use Rattle.imap_types.specs.declared.response.Response.{Response}
use Rattle.imap_types.specs.declared.response.Response.TheVariants as response
use Rattle.imap_types.specs.Items.{kept}
use Rattle.told_folder.specs.Folders.{folder_number, uid_of, held_in, messages_of, messages_in, message_in, with_messages}
use Rattle.told_folder.specs.Keyed.{with_key, put_keyed, cut_keyed, last_of}
use Rattle.told_folder.specs.Select.{after_closed, is_closed, modseq_told, last_told, validity_in, under, with_modseq}
use Rattle.told_folder.specs.Tell.{Telling, tell_uid, tell_fetch, tell_response, tell_responses, with_flags, with_new, new_message, kept_header, covers}
use Rattle.told_folder.specs.ToldBy.{adds, selected_first, next_after, kept_after, past, past_told, telling_in, telling_by, told_by, uid_told, is_told}
use Rattle.told_folder.specs.declared.message.Folder.{Folder}
use Rattle.told_folder.specs.declared.message.NumberedFolder.{NumberedFolder}
use Rattle.told_folder.specs.declared.message.Message.{Message}
use Rattle.told_folder.specs.declared.telling.TheConstants.{MAX_MARK}
use Rattle.told_mail.specs.declared.mirror.listing.TheConstants.{MAX_FOLDER_NUMBER}
use Rattle.told_folder.proofs.KeyedLemmas.{some_same}
use Rattle.imap_types.specs.declared.response.Status.{Status}
use Rattle.imap_types.specs.declared.response.Status.TheVariants as status
use Rattle.told_folder.specs.declared.exchange.Exchange.{Exchange}
use Rattle.told_mail.specs.Exchanges.{with_held, tell_held, tell_named, tell_ok, tell_as, tell, responses_of, target}
use Rattle.told_mail.specs.Spelled.{FitsSlice, AllSpelled, IsSpelled}
use Rattle.told_mail.specs.Lists as lists
use Rattle.told_mail.specs.Lists.{is_name, line_of, line_for, put_listed, listed, new_folder, new_names, with_new_folder, with_new_folders, tell_list}
use Rattle.told_mail.specs.Mail.{Mail, named, is_same, IsWellFormedFolder, IsWellFormedMessage, IsWellFormedHeld, IsWellFormed, with_folder, with_message, without_folder}
use Rattle.told_mail.specs.Mail.{without_message}
use Rattle.told_mail.specs.Mail.{IsKept, with_flags_of, with_attributes_of, folder_in}
use Rattle.told_mail.specs.Renames.{with_name, with_renamed, renamed_folders}
use Rattle.told_mail.specs.Lists.{is_inbox}
use Rattle.told_mail.specs.reading.Renaming.{name_of, named_by}
use Rattle.told_mail.proofs.SpelledLemmas.{AreFine, fetch_fine, list_fine}

-- ---- lists of which each element has a property

all_put : {X : Type 0} (key : X → ℕ) (P : X → Type 0) (x : X) (xs : List X) → P x → AllByRecursion P xs → AllByRecursion P (put_keyed key x xs)
all_put key P x [] p a = (p, tt)
all_put key P x (y ∷ ys) p a =
    elim (ltb (key x) (key y)) as (λ b. AllByRecursion P (if b then x ∷ (y ∷ ys) else (if eqb (key x) (key y) then x ∷ ys else y ∷ put_keyed key x ys))) [
      | true ↦ (p, a)
      | false ↦ elim (eqb (key x) (key y)) as (λ b. AllByRecursion P (if b then x ∷ ys else y ∷ put_keyed key x ys)) [
        | true ↦ (p, a.1)
        | false ↦ (a.0, all_put key P x ys p a.1)
      ]
    ]

all_filter : {X : Type 0} (P : X → Type 0) (p : X → Bool) (xs : List X) → AllByRecursion P xs → AllByRecursion P (filter p xs)
all_filter P p [] a = tt
all_filter P p (x ∷ xs) a =
    elim (p x) as (λ b. AllByRecursion P (if b then x ∷ filter p xs else filter p xs)) [ true ↦ (a.0, all_filter P p xs a.1) | false ↦ all_filter P p xs a.1 ]

-- what holds of all messages holds of one that is found
pub all_found : (P : Message → Type 0) (u : ℕ) (xs : List Message) (x : Message) → AllByRecursion P xs → with_key uid_of u xs ≡ Some x → P x
all_found P u [] x a e = absurd (cc)
all_found P u (y ∷ ys) x a e =
    elim (eqb y.uid u) as (λ b. (if b then Some y else with_key uid_of u ys) ≡ Some x → P x) [
      | true ↦ λ f. subst P (some_same y x f) a.0
      | false ↦ λ f. all_found P u ys x a.1 f
    ] e

all_append : (P : NumberedFolder → Type 0) (hs : List NumberedFolder) (h : NumberedFolder) → AllByRecursion P hs → P h → AllByRecursion P (hs ++ h ∷ [])
all_append P [] h a p = (p, tt)
all_append P (x ∷ xs) h a p = (a.0, all_append P xs h a.1 p)

all_named : (P : NumberedFolder → Type 0) (hs : List NumberedFolder) (name : List ℕ) (h : NumberedFolder) → AllByRecursion P hs → named hs name ≡ Some h → P h
all_named P [] name h a e = absurd (cc)
all_named P (x ∷ xs) name h a e =
    elim (is_same x.folder.name name) as (λ b. (if b then Some x else named xs name) ≡ Some h → P h) [
      | true ↦ λ f. subst P (some_same x h f) a.0
      | false ↦ λ f. all_named P xs name h a.1 f
    ] e

all_with : (P : NumberedFolder → Type 0) (hs : List NumberedFolder) (k : NumberedFolder) → AllByRecursion P hs → P k → AllByRecursion P (with_held hs k)
all_with P [] k a p = tt
all_with P (h ∷ hs) k a p =
    elim (eqb (folder_number h) (folder_number k)) as (λ b. AllByRecursion P (if b then k ∷ hs else h ∷ with_held hs k)) [ true ↦ (p, a.1) | false ↦ (a.0, all_with P hs k a.1 p) ]

all_last : {X : Type 0} (P : X → Type 0) (xs : List X) (x : X) → AllByRecursion P xs → last_of xs ≡ Some x → P x
all_last P [] x a e = absurd (cc)
all_last P (y ∷ ys) x a e =
    elim (last_of ys) as (λ o. last_of ys ≡ o → Some (unwrap_or o y) ≡ Some x → P x) [
      | None ↦ λ f g. subst P (some_same y x g) a.0
      | Some z ↦ λ f g. all_last P ys x a.1 (f ∙ g)
    ] refl e

-- ---- messages

-- messages and a next mark as they may be
abbrev IsWellTold : Telling → Type 0
IsWellTold t = AllByRecursion IsWellFormedMessage t.messages × (0 < t.next_mark) × (t.next_mark ≤ MAX_MARK + 1)

well_flags : (x : Message) (fl : Option (List (List ℕ))) → ((fs : List (List ℕ)) → fl ≡ Some fs → kept fs ≡ fs) → IsWellFormedMessage x → IsWellFormedMessage (with_flags x fl)
well_flags x None f m = m
well_flags x (Some fs) f m = record { marked = m.marked; mark = m.mark; flags = f fs refl }

well_new : (t : Telling) (uid : ℕ) (fl : Option (List (List ℕ))) (date : Option ℤ) (size : Option ℕ) (header : Option (List ℕ))
    → ((fs : List (List ℕ)) → fl ≡ Some fs → kept fs ≡ fs) → IsWellTold t → IsWellTold (with_new t (new_message t.next_mark uid fl date size header))
well_new t uid None date size header f s = s
well_new t uid (Some fl) None size header f s = s
well_new t uid (Some fl) (Some d) None header f s = s
well_new t uid (Some fl) (Some d) (Some z) None f s = s
well_new t uid (Some fl) (Some d) (Some z) (Some h) f s =
    let x : Message = record { uid = uid; mark = t.next_mark; flags = fl; date = d; size = z; header = kept_header h } in
    elim (leb t.next_mark MAX_MARK) as (λ b. leb t.next_mark MAX_MARK ≡ b → IsWellTold (with_new t (if b then Some x else None))) [
      | true ↦ λ e.
          let less : t.next_mark ≤ MAX_MARK = leb-true _ _ e in
          (all_put uid_of IsWellFormedMessage x t.messages (record { marked = s.1; mark = less; flags = f fl refl }) s.0, omega arith, omega (arith, less))
      | false ↦ λ e. s
    ] refl

well_uid : (a : Bool) (t : Telling) (uid : ℕ) (items : FetchItems) (o : Option Message) → AreFine items → IsWellTold t → with_key uid_of uid t.messages ≡ o
    → IsWellTold (tell_uid a t uid items o)
well_uid true t uid items (Some x) f s e = (
  all_put uid_of IsWellFormedMessage (with_flags x items.flags) t.messages (well_flags x items.flags f.flags (all_found IsWellFormedMessage uid t.messages x s.0 e)) s.0,
  s.1,
  s.2,
)
well_uid false t uid items (Some x) f s e = (
  all_put uid_of IsWellFormedMessage (with_flags x items.flags) t.messages (well_flags x items.flags f.flags (all_found IsWellFormedMessage uid t.messages x s.0 e)) s.0,
  s.1,
  s.2,
)
well_uid true t uid items None f s e = well_new t uid items.flags items.date items.size items.header f.flags s
well_uid false t uid items None f s e = s

well_fetch : (a : Bool) (t : Telling) (uid : Option ℕ) (items : FetchItems) → AreFine items → IsWellTold t → IsWellTold (tell_fetch a t uid items)
well_fetch a t None items f s = s
well_fetch a t (Some uid) items f s = well_uid a t uid items (with_key uid_of uid t.messages) f s refl

well_response : (a : Bool) (t : Telling) (r : Response) → IsSpelled r → IsWellTold t → IsWellTold (tell_response a t r)
well_response a t (response.Fetch seq items) sp s = well_fetch a t items.uid items (fetch_fine seq items sp.0 sp.1) s
well_response a t (response.Vanished earlier uids) sp s = (all_filter IsWellFormedMessage (λ (x : Message). not (covers uids.ranges x.uid)) t.messages s.0, s.1, s.2)
well_response a t _ sp s = s

well_responses : (a : Bool) (t : Telling) (rs : List Response) → AllSpelled rs → IsWellTold t → IsWellTold (tell_responses a t rs)
well_responses a t [] sp s = s
well_responses a t (r ∷ rs) sp s = well_responses a (tell_response a t r) rs sp.1 (well_response a t r sp.0 s)

-- ---- the UID before which all is known

past_uid : (xs : List Message) (o : Option ℕ) → ((u : ℕ) → o ≡ Some u → u ≤ 4294967295) → past xs o ≤ 4294967296
past_uid xs None f = omega arith
past_uid xs (Some u) f =
    let fits : u ≤ 4294967295 = f u refl in
    elim (is_some (with_key uid_of u xs)) as (λ b. (if b then u + 1 else 0) ≤ 4294967296) [ true ↦ omega (arith, fits) | false ↦ omega arith ]

past_fits : (xs : List Message) (r : Response) → IsSpelled r → past xs (uid_told r) ≤ 4294967296
past_fits xs (response.Fetch seq items) sp = past_uid xs items.uid (fetch_fine seq items sp.0 sp.1).uid
past_fits xs _ sp = omega arith

told_fits : (xs : List Message) (rs : List Response) → AllSpelled rs → past_told xs rs ≤ 4294967296
told_fits xs [] sp = omega arith
told_fits xs (r ∷ rs) sp = omega (arith, past_fits xs r sp.0, told_fits xs rs sp.1)

well_next : (c : Command) (rs : List Response) (xs : List Message) (next : ℕ) → FitsSlice c → AllSpelled rs → 0 < next → next ≤ 2 ^ 32
    → (0 < next_after c rs xs next) × (next_after c rs xs next ≤ 2 ^ 32)
well_next (command.FetchNew from modseq) rs xs next fits sp l m = let most = told_fits xs rs sp in (omega arith, omega (arith, most))
well_next (command.FetchSlice from to modseq) rs xs next fits sp l m = (omega arith, omega (arith, fits))
well_next _ rs xs next fits sp l m = (l, m)

-- ---- a folder

well_fields : (f : Folder) (v m n : ℕ) → 0 < n → n ≤ 2 ^ 32 → IsWellFormedFolder f → IsWellFormedFolder (record f { validity = v; modseq = m; next = n })
well_fields f v m n l h w = record {
  numbered = w.numbered;
  number = w.number;
  delimiter = w.delimiter;
  attributes = w.attributes;
  begun = l;
  next = h;
}

well_under : (v : ℕ) (h : NumberedFolder) → IsWellFormedHeld h → IsWellFormedHeld (under v h)
well_under v h w =
    elim (eqb v h.folder.validity) as (λ b. IsWellFormedHeld (if b then h else record { folder = record h.folder { validity = v; next = 1 }; messages = [] })) [
      | true ↦ w
      | false ↦ record { folder = well_fields h.folder v h.folder.modseq 1 (omega arith) (omega arith) w.folder; messages = tt }
    ]

well_modseq : (n : ℕ) (h : NumberedFolder) → IsWellFormedHeld h → IsWellFormedHeld (with_modseq n h)
well_modseq n h w = record { folder = well_fields h.folder h.folder.validity n h.folder.next w.folder.begun w.folder.next w.folder; messages = w.messages }

well_first : (c : Command) (rs : List Response) (h : NumberedFolder) → IsWellFormedHeld h → IsWellFormedHeld (selected_first c rs h)
well_first (command.Select name known) rs h w = well_modseq (modseq_told rs) (under (last_told validity_in h.folder.validity rs) h) (well_under _ h w)
well_first _ rs h w = w

well_kept : (c : Command) (rs : List Response) (xs : List Message) → AllByRecursion IsWellFormedMessage xs → AllByRecursion IsWellFormedMessage (kept_after c rs xs)
well_kept command.FetchFlags rs xs a = all_filter IsWellFormedMessage (λ (x : Message). not (not (is_told rs x.uid))) xs a
well_kept _ rs xs a = a

well_told : (c : Command) (rs : List Response) (nm : ℕ) (h : NumberedFolder) → FitsSlice c → AllSpelled rs → 0 < nm → nm ≤ MAX_MARK + 1 → IsWellFormedHeld h
    → IsWellFormedHeld (told_by c rs nm h) × (0 < (telling_by c rs nm h).next_mark) × ((telling_by c rs nm h).next_mark ≤ MAX_MARK + 1)
well_told c rs nm h fits sp l m w =
    let first : IsWellFormedHeld (selected_first c rs h) = well_first c rs h w in
    let by : IsWellTold (telling_by c rs nm h) = well_responses (adds c) (telling_in nm (selected_first c rs h)) rs sp (first.messages, l, m) in
    let next = well_next c rs (telling_by c rs nm h).messages (selected_first c rs h).folder.next fits sp first.folder.begun first.folder.next in (
      record {
        folder = well_fields (selected_first c rs h).folder _ _ _ next.0 next.1 first.folder;
        messages = well_kept c rs (telling_by c rs nm h).messages by.0;
      },
      by.1,
      by.2,
    )

-- ---- mail

-- folders and counters as they may be
abbrev IsWellMade : Mail → Type 0
IsWellMade m = AllByRecursion IsWellFormedHeld m.folders × (0 < m.next_mark) × (m.next_mark ≤ MAX_MARK + 1) × (0 < m.next_folder) × (m.next_folder ≤ MAX_FOLDER_NUMBER + 1)

well_held : (m : Mail) (c : Command) (rs : List Response) (name : List ℕ) (o : Option NumberedFolder) → FitsSlice c → AllSpelled rs → named m.folders name ≡ o → IsWellMade m
    → IsWellMade (tell_held m c rs o)
well_held m c rs name None fits sp e w = w
well_held m c rs name (Some h) fits sp e w =
    let by = well_told c rs m.next_mark h fits sp w.1 w.2 (all_named IsWellFormedHeld m.folders name h w.0 e) in
    (all_with IsWellFormedHeld m.folders (told_by c rs m.next_mark h) w.0 by.0, by.1, by.2, w.3, w.4)

well_named : (m : Mail) (c : Command) (rs : List Response) (name : Option (List ℕ)) → FitsSlice c → AllSpelled rs → IsWellMade m → IsWellMade (tell_named m c rs name)
well_named m c rs None fits sp w = w
well_named m c rs (Some name) fits sp w = well_held m c rs name (named m.folders name) fits sp refl w

-- what a line may tell
abbrev IsWellLine : lists.Line → Type 0
IsWellLine l = (l.delimiter ≢ Some 0) × (kept l.attributes ≡ l.attributes)

well_line : (r : Response) (ls : List lists.Line) → IsSpelled r → AllByRecursion IsWellLine ls → AllByRecursion IsWellLine (cons_option (line_of r) ls)
well_line (response.List attributes delimiter name) ls sp a =
    let fine = list_fine attributes delimiter name sp.0 sp.1 in
    elim (is_name name) as (λ b. AllByRecursion IsWellLine
    (cons_option (if b then Some (record { name = name; delimiter = delimiter; attributes = attributes }) else None) ls)) [
      | true ↦ ((fine.1, fine.0), a)
      | false ↦ a
    ]
well_line _ ls sp a = a

well_lines : (rs : List Response) → AllSpelled rs → AllByRecursion IsWellLine (filter_map line_of rs)
well_lines [] sp = tt
well_lines (r ∷ rs) sp = well_line r (filter_map line_of rs) sp.0 (well_lines rs sp.1)

line_well : (name : List ℕ) (rs : List Response) (l : lists.Line) → AllSpelled rs → line_for name rs ≡ Some l → IsWellLine l
line_well name rs l sp e = all_last IsWellLine (filter (λ k. is_same k.name name) (filter_map line_of rs)) l
    (all_filter IsWellLine (λ (k : lists.Line). is_same k.name name) (filter_map line_of rs) (well_lines rs sp)) e

well_listed : (rs : List Response) (hs : List NumberedFolder) → AllSpelled rs → AllByRecursion IsWellFormedHeld hs → AllByRecursion IsWellFormedHeld (listed rs hs)
well_listed rs [] sp a = tt
well_listed rs (h ∷ hs) sp a =
    let rest = well_listed rs hs sp a.1 in
    elim (line_for h.folder.name rs) as (λ o. line_for h.folder.name rs ≡ o → AllByRecursion IsWellFormedHeld (put_listed o h (listed rs hs))) [
      | None ↦ λ e. rest
      | Some l ↦ λ e. let line = line_well h.folder.name rs l sp e in (
        record {
          folder = record {
            numbered = a.0.folder.numbered;
            number = a.0.folder.number;
            delimiter = line.0;
            attributes = line.1;
            begun = a.0.folder.begun;
            next = a.0.folder.next;
          };
          messages = a.0.messages;
        },
        rest,
      )
    ] refl

well_more : (m : Mail) (o : Option lists.Line) → ((l : lists.Line) → o ≡ Some l → IsWellLine l) → IsWellMade m → IsWellMade (with_new_folder m o)
well_more m None f w = w
well_more m (Some l) f w =
    let line : IsWellLine l = f l refl in
    elim (leb m.next_folder MAX_FOLDER_NUMBER) as (λ b. leb m.next_folder MAX_FOLDER_NUMBER ≡ b → IsWellMade (if b then record {
      folders = m.folders ++ new_folder m.next_folder l ∷ [];
      next_mark = m.next_mark;
      next_folder = m.next_folder + 1;
    } else m)) [
      | true ↦ λ e.
          let less : m.next_folder ≤ MAX_FOLDER_NUMBER = leb-true _ _ e in (
            all_append IsWellFormedHeld m.folders (new_folder m.next_folder l) w.0 (record {
              folder = record { numbered = w.3; number = less; delimiter = line.0; attributes = line.1; begun = omega arith; next = omega arith };
              messages = tt;
            }),
            w.1,
            w.2,
            omega arith,
            omega (arith, less),
          )
      | false ↦ λ e. w
    ] refl

well_added : (rs : List Response) (m : Mail) (names : List (List ℕ)) → AllSpelled rs → IsWellMade m → IsWellMade (with_new_folders rs m names)
well_added rs m [] sp w = w
well_added rs m (name ∷ names) sp w =
    well_added rs (with_new_folder m (line_for name rs)) names sp (well_more m (line_for name rs) (λ l e. line_well name rs l sp e) w)

well_list : (m : Mail) (rs : List Response) → AllSpelled rs → IsWellMade m → IsWellMade (tell_list m rs)
well_list m rs sp w = well_added rs (record m { folders = listed rs m.folders }) (new_names m.folders rs) sp (well_listed rs m.folders sp w.0, w.1, w.2, w.3, w.4)

spelled_after : (rs : List Response) → AllSpelled rs → AllSpelled (after_closed rs)
spelled_after [] sp = tt
spelled_after (r ∷ rs) sp =
    elim (list_any is_closed rs) as (λ b. AllSpelled (if b then after_closed rs else (if is_closed r then rs else r ∷ rs))) [
      | true ↦ spelled_after rs sp.1
      | false ↦ elim (is_closed r) as (λ b. AllSpelled (if b then rs else r ∷ rs)) [ true ↦ sp.1 | false ↦ sp ]
    ]

spelled_of : (c : Command) (rs : List Response) → AllSpelled rs → AllSpelled (responses_of c rs)
spelled_of (command.Select name known) rs sp = spelled_after rs sp
spelled_of _ rs sp = sp

well_ok : (m : Mail) (c : Command) (rs : List Response) (selected : Option (List ℕ)) → FitsSlice c → AllSpelled rs → IsWellMade m → IsWellMade (tell_ok m c rs selected)
well_ok m (command.List special_use) rs selected fits sp w = well_list (tell_named m (command.List special_use) rs selected) rs sp (well_named m (command.List special_use) rs selected fits sp w)
well_ok m c rs selected fits sp w = well_named m c (responses_of c rs) (target c selected) fits (spelled_of c rs sp) w

-- telling an exchange leaves mail well-formed, where octets spell its responses and its slice ends at a UID
pub well_formed : (m : Mail) (x : Exchange) → FitsSlice x.command → AllSpelled x.responses → IsWellFormed m → IsWellFormed (tell m x)
well_formed m x fits sp w = by x.status
  where
    by : (s : Status) → IsWellFormed (tell_as s m x)
    by status.Ok = (let k = well_ok m x.command x.responses x.selected fits sp (w.folders, w.marked, w.marks, w.numbered, w.numbers) in
        record { folders = k.0; marked = k.1; marks = k.2; numbered = k.3; numbers = k.4 })
    by _ = w

-- ---- what is put and cut

-- the messages of a folder of well-formed mail are well formed
pub all_messages : (hs : List NumberedFolder) (n : ℕ) → AllByRecursion IsWellFormedHeld hs → AllByRecursion IsWellFormedMessage (messages_in hs n)
all_messages [] n a = tt
all_messages (h ∷ hs) n a =
    elim (eqb (folder_number h) n) as (λ b. AllByRecursion IsWellFormedMessage (messages_of (if b then Some h else held_in hs n))) [
      | true ↦ a.0.messages
      | false ↦ all_messages hs n a.1
    ]

all_with_messages : (hs : List NumberedFolder) (n : ℕ) (xs : List Message) → AllByRecursion IsWellFormedHeld hs → AllByRecursion IsWellFormedMessage xs
    → AllByRecursion IsWellFormedHeld (with_messages hs n xs)
all_with_messages [] n xs a m = tt
all_with_messages (h ∷ hs) n xs a m =
    elim (eqb (folder_number h) n) as (λ b. AllByRecursion IsWellFormedHeld (if b then record h { messages = xs } ∷ hs else h ∷ with_messages hs n xs)) [
      | true ↦ (record { folder = a.0.folder; messages = m }, a.1)
      | false ↦ (a.0, all_with_messages hs n xs a.1 m)
    ]

-- well-formed mail is still so with a well-formed folder
pub well_with_folder : (m : Mail) (f : Folder) → IsWellFormedFolder f → IsWellFormed m → IsWellFormed (with_folder m f)
well_with_folder m f p w = record {
  folders = all_put folder_number IsWellFormedHeld (record { folder = f; messages = messages_in m.folders f.number }) m.folders
      (record { folder = p; messages = all_messages m.folders f.number w.folders }) w.folders;
  marked = w.marked;
  marks = w.marks;
  numbered = omega (arith, w.numbered);
  numbers = omega (arith, w.numbers, p.number);
}

-- well-formed mail is still so with a well-formed message
pub well_with_message : (m : Mail) (n : ℕ) (x : Message) → IsWellFormedMessage x → IsWellFormed m → IsWellFormed (with_message m n x)
well_with_message m n x p w = record {
  folders = all_with_messages m.folders n (put_keyed uid_of x (messages_in m.folders n)) w.folders
      (all_put uid_of IsWellFormedMessage x (messages_in m.folders n) p (all_messages m.folders n w.folders));
  marked = omega (arith, w.marked);
  marks = omega (arith, w.marks, p.mark);
  numbered = w.numbered;
  numbers = w.numbers;
}

-- well-formed mail is still so without a folder
pub well_without_folder : (m : Mail) (n : ℕ) → IsWellFormed m → IsWellFormed (without_folder m n)
well_without_folder m n w = record {
  folders = all_filter IsWellFormedHeld (λ (h : NumberedFolder). not (eqb (folder_number h) n)) m.folders w.folders;
  marked = w.marked;
  marks = w.marks;
  numbered = w.numbered;
  numbers = w.numbers;
}

-- well-formed mail is still so without a message
pub well_without_message : (m : Mail) (p : ℕ × ℕ) → IsWellFormed m → IsWellFormed (without_message m p)
well_without_message m p w = record {
  folders = all_with_messages m.folders p.0 (cut_keyed uid_of p.1 (messages_in m.folders p.0)) w.folders
      (all_filter IsWellFormedMessage (λ (x : Message). not (eqb x.uid p.1)) (messages_in m.folders p.0) (all_messages m.folders p.0 w.folders));
  marked = w.marked;
  marks = w.marks;
  numbered = w.numbered;
  numbers = w.numbers;
}

-- ---- other flags, attributes and names

-- a message that is found in well-formed mail is well formed
pub placed_message : (m : Mail) (n uid : ℕ) (x : Message) → message_in m.folders n uid ≡ Some x → IsWellFormed m → IsWellFormedMessage x
placed_message m n uid x found w = all_found IsWellFormedMessage uid (messages_in m.folders n) x (all_messages m.folders n w.folders) found

-- well-formed mail is still so with other flags of a message, in kept form
pub well_with_flags : (m : Mail) (n uid : ℕ) (flags : List (List ℕ)) (o : Option Message) → IsKept flags → message_in m.folders n uid ≡ o → IsWellFormed m
    → IsWellFormed (with_flags_of m n flags o)
well_with_flags m n uid flags None kept_is found w = w
well_with_flags m n uid flags (Some x) kept_is found w =
    let fine : IsWellFormedMessage x = placed_message m n uid x found w in
    let y : Message = record x { flags = flags } in
    let good : IsWellFormedMessage y = record { marked = fine.marked; mark = fine.mark; flags = kept_is } in
    record {
      folders = all_with_messages m.folders n (put_keyed uid_of y (messages_in m.folders n)) w.folders
          (all_put uid_of IsWellFormedMessage y (messages_in m.folders n) good (all_messages m.folders n w.folders));
      marked = w.marked;
      marks = w.marks;
      numbered = w.numbered;
      numbers = w.numbers;
    }

well_folder_in : (hs : List NumberedFolder) (n : ℕ) (f : Folder) → folder_in hs n ≡ Some f → AllByRecursion IsWellFormedHeld hs → IsWellFormedFolder f
well_folder_in [] n f e a = absurd (cc)
well_folder_in (h ∷ hs) n f e a =
    elim (eqb (folder_number h) n) as (λ b. option_map (λ (z : NumberedFolder). z.folder) (if b then Some h else held_in hs n) ≡ Some f → IsWellFormedFolder f) [
      | true ↦ λ g. subst IsWellFormedFolder (some_same h.folder f g) a.0.folder
      | false ↦ λ g. well_folder_in hs n f g a.1
    ] e

-- well-formed mail is still so with other attributes of a folder, in kept form
pub well_with_attributes : (m : Mail) (n : ℕ) (attributes : List (List ℕ)) (o : Option Folder) → IsKept attributes → folder_in m.folders n ≡ o → IsWellFormed m
    → IsWellFormed (with_attributes_of m attributes o)
well_with_attributes m n attributes None kept_is found w = w
well_with_attributes m n attributes (Some f) kept_is found w =
    let fine : IsWellFormedFolder f = well_folder_in m.folders n f found w.folders in
    well_with_folder m (record f { attributes = attributes }) (record {
      numbered = fine.numbered;
      number = fine.number;
      delimiter = fine.delimiter;
      attributes = kept_is;
      begun = fine.begun;
      next = fine.next;
    }) w

well_with_name : (name : List ℕ) (h : NumberedFolder) → IsWellFormedHeld h → IsWellFormedHeld (with_name name h)
well_with_name name h w = record {
  folder = record {
    numbered = w.folder.numbered;
    number = w.folder.number;
    delimiter = w.folder.delimiter;
    attributes = w.folder.attributes;
    begun = w.folder.begun;
    next = w.folder.next;
  };
  messages = w.messages;
}

well_names : (name : NumberedFolder → Option (List ℕ)) (hs : List NumberedFolder) → AllByRecursion IsWellFormedHeld hs → AllByRecursion IsWellFormedHeld (named_by name hs)
well_names name [] a = tt
well_names name (h ∷ hs) a =
    elim (name h) as (λ o. AllByRecursion IsWellFormedHeld (cons_option (option_map (λ q. with_name q h) o) (named_by name hs))) [
      | None ↦ well_names name hs a.1
      | Some q ↦ (well_with_name q h a.0, well_names name hs a.1)
    ]

-- well-formed mail is still so after a RENAME
pub well_with_renamed : (m : Mail) (from to : List ℕ) → IsWellFormed m → IsWellFormed (with_renamed m from to)
well_with_renamed m from to w =
    elim (is_inbox from) as (λ b. IsWellFormed (if b then m else record m { folders = renamed_folders from to m.folders })) [
      | true ↦ w
      | false ↦ record {
        folders = well_names (name_of from to m.folders) m.folders w.folders;
        marked = w.marked;
        marks = w.marks;
        numbered = w.numbered;
        numbers = w.numbers;
      }
    ]
