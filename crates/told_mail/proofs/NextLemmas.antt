-- What is told, put and taken out leads from what every mirror's mail is to mail that can follow.
use Rattle.std.proofs.Common.{◌≡◌, ◌≢◌, ◌⊎◌, ℕ, ◌+◌, ◌<◌, ◌≤◌, Bool, true, false, List, [], ◌∷◌, ◌++◌, Option, Some, None, fold, filter, map}
use Rattle.std.proofs.Common.{max, refl, sym, ap, ◌∙◌, subst, arith, inl, inr, eqb, eqb-true, is_some, leb, not, if◌then◌else◌}
use Rattle.std.specs.List.{AllByRecursion, filter_map}
use Rattle.std.specs.Option.{option_map}
use Rattle.imap_types.specs.declared.command.Command.{Command}
use Rattle.imap_types.specs.declared.command.Command.TheVariants as command
use Rattle.imap_types.specs.declared.response.Response.{Response}
use Rattle.imap_types.specs.declared.response.Status.{Status}
use Rattle.imap_types.specs.declared.response.Status.TheVariants as status
use Rattle.told_folder.specs.Folders.{folder_number, uid_of, held_in, folder_in, messages_in, mark_in, with_messages}
use Rattle.told_folder.specs.Index.{AllAscend}
use Rattle.told_folder.specs.Keyed.{AllAbove, Ascends, put_keyed, cut_keyed}
use Rattle.told_folder.specs.ToldBy.{selected_first, telling_by, told_by}
use Rattle.told_folder.specs.declared.exchange.Exchange.{Exchange}
use Rattle.told_folder.specs.declared.message.Folder.{Folder}
use Rattle.told_folder.specs.declared.message.NumberedFolder.{NumberedFolder}
use Rattle.told_folder.specs.declared.message.Message.{Message}
use Rattle.told_folder.proofs.FolderLemmas.{ascend_in, ascends_in, numbers_with, uids_with}
use Rattle.told_folder.proofs.IndexLemmas.{mark_was}
use Rattle.told_folder.proofs.KeyedLemmas.{some_is_not_none, ascends_put, ascends_cut, found_put}
use Rattle.told_mail.specs.Exchanges.{with_held, tell_held, tell_named, tell_ok, tell_as, tell, responses_of, target}
use Rattle.told_mail.specs.Lists as lists
use Rattle.told_mail.specs.Lists.{line_of, line_for, names_told, put_listed, listed, new_folder, new_names, with_new_folder, with_new_folders, tell_list}
use Rattle.told_mail.specs.Mail.{Mail, named, no_mail, AllBelow, IsMail, IsNextMail, IsWellFormed, IsWellFormedHeld, IsHeldOrNew, NameIsFree}
use Rattle.told_mail.specs.Mail.{with_folder, with_message, without_folder, without_message}
use Rattle.told_mail.specs.declared.mirror.listing.TheConstants.{MAX_FOLDER_NUMBER}
use Rattle.told_mail.specs.reading.Names.{AllFree, AreApart}
use Rattle.told_mail.proofs.LineLemmas.{line_name}
use Rattle.told_mail.proofs.NameLemmas.{named_held, named_there, free_added, free_new, apart_new}
use Rattle.told_mail.proofs.SortedLemmas.{sorted_names, sorted_apart}
use Rattle.told_mail.proofs.NumberLemmas.{same_least, one_more_least, numbers_stay, numbers_filter, numbers_told, next_by, next_mail_joins}
use Rattle.told_mail.proofs.OnceLemmas.{IsOnce, once_less, once_more, mark_at, mark_put, mark_cut, mark_held, messages_from, marks_from}
use Rattle.told_mail.proofs.OnceLemmas.{StoodAs, NamesDiffer, marks_stood, stood_listed, stood_cut, stood_put, names_less, had_with}
use Rattle.told_mail.proofs.ToldLemmas.{Alike, alike_self, alike_numbers, alike_uids, alike_marks, pair_same, put_end, uids_put, uids_cut, below_more, below_put}
use Rattle.told_mail.proofs.TellingLemmas.{IsTellingIn, IsFirst, first_is, told_messages}

one_more_above : (n : ℕ) → n < n + 1
one_more_above n = omega arith

-- ---- mail of which a folder is told

alike_with : (hs : List NumberedFolder) (k : NumberedFolder) → Alike (with_messages hs (folder_number k) k.messages) (with_held hs k)
alike_with [] k = tt
alike_with (h ∷ hs) k =
    elim (eqb (folder_number h) (folder_number k)) as (λ b. eqb (folder_number h) (folder_number k) ≡ b
    → Alike (if b then record h { messages = k.messages } ∷ hs else h ∷ with_messages hs (folder_number k) k.messages) (if b then k ∷ hs else h ∷ with_held hs k)) [
      | true ↦ λ t. (eqb-true _ _ t, refl, alike_self hs)
      | false ↦ λ t. (refl, refl, alike_with hs k)
    ] refl

below_with : (hs : List NumberedFolder) (k : NumberedFolder) (nf : ℕ) → AllBelow nf hs → AllBelow nf (with_held hs k)
below_with [] k nf b = tt
below_with (h ∷ hs) k nf b =
    elim (eqb (folder_number h) (folder_number k)) as (λ v. eqb (folder_number h) (folder_number k) ≡ v → AllBelow nf (if v then k ∷ hs else h ∷ with_held hs k)) [
      | true ↦ λ t. (subst (λ j. j < nf) (eqb-true _ _ t) b.0, b.1)
      | false ↦ λ t. (b.0, below_with hs k nf b.1)
    ] refl

placed_mail : (m : Mail) (h k : NumberedFolder) (nm : ℕ) → held_in m.folders (folder_number h) ≡ Some h → folder_number k ≡ folder_number h → k.folder.name ≡ h.folder.name
    → IsTellingIn m.folders (folder_number h) (record { messages = k.messages; next_mark = nm }) → IsMail m
    → IsMail (record { folders = with_held m.folders k; next_mark = nm; next_folder = m.next_folder })
placed_mail m h k nm found number name s i =
    let hs : List NumberedFolder = m.folders in
    let ks : List NumberedFolder = with_held hs k in
    let was : List NumberedFolder = with_messages hs (folder_number h) k.messages in
    let alike : Alike was ks = subst (λ j. Alike (with_messages hs j k.messages) ks) number (alike_with hs k) in
    let marks : (p : ℕ × ℕ) (v : ℕ) → mark_in ks p ≡ Some v → mark_in was p ≡ Some v = λ p v e. sym (alike_marks was ks alike p) ∙ e in
    record {
      numbers = alike_numbers was ks alike (numbers_with hs (folder_number h) k.messages i.numbers);
      uids = alike_uids was ks alike (uids_with hs (folder_number h) k.messages s.up i.uids);
      marks = once_less (mark_in was) (mark_in ks) s.once marks;
      names = names_less hs ks i.names (λ j x e. had_with hs h k j x (subst (λ q. held_in hs q ≡ Some h) (sym number) found) name e);
      marks_below = λ p v e. s.below p v (marks p v e);
      numbers_below = below_with hs k m.next_folder i.numbers_below;
    }

held_mail : (m : Mail) (c : Command) (rs : List Response) (name : List ℕ) (o : Option NumberedFolder) → named m.folders name ≡ o → IsMail m → IsMail (tell_held m c rs o)
held_mail m c rs name None e i = i
held_mail m c rs name (Some h) e i =
    let found : held_in m.folders (folder_number h) ≡ Some h = named_held m.folders name h i.numbers e in
    let first : IsFirst h (selected_first c rs h) = first_is c rs h in
    placed_mail m h (told_by c rs m.next_mark h) (telling_by c rs m.next_mark h).next_mark found first.number first.name
    (told_messages m.folders (folder_number h) h found c rs m.next_mark (ascend_in m.folders (folder_number h) h i.uids (sym found)) i.marks i.marks_below) i

named_mail : (m : Mail) (c : Command) (rs : List Response) (name : Option (List ℕ)) → IsMail m → IsMail (tell_named m c rs name)
named_mail m c rs None i = i
named_mail m c rs (Some name) i = held_mail m c rs name (named m.folders name) refl i

-- ---- folders that are left

left_mail : (m : Mail) (ks : List NumberedFolder) → Ascends folder_number ks → AllAscend ks → AllBelow m.next_folder ks
    → ((n : ℕ) (x : NumberedFolder) → held_in ks n ≡ Some x → StoodAs m.folders n x) → IsMail m
    → IsMail (record { folders = ks; next_mark = m.next_mark; next_folder = m.next_folder })
left_mail m ks numbers uids below stood i =
    let marks : (p : ℕ × ℕ) (v : ℕ) → mark_in ks p ≡ Some v → mark_in m.folders p ≡ Some v = marks_stood m.folders ks stood in
    record {
      numbers = numbers;
      uids = uids;
      marks = once_less (mark_in m.folders) (mark_in ks) i.marks marks;
      names = names_less m.folders ks i.names (λ j x e. let s : StoodAs m.folders j x = stood j x e in (s.was, s.held, s.name));
      marks_below = λ p v e. i.marks_below p v (marks p v e);
      numbers_below = below;
    }

module _ (rs : List Response) where
  above_listed : (k : ℕ) (hs : List NumberedFolder) → AllAbove folder_number k hs → AllAbove folder_number k (listed rs hs)
  above_listed k [] a = tt
  above_listed k (h ∷ hs) a = elim (line_for h.folder.name rs) as (λ o. AllAbove folder_number k (put_listed o h (listed rs hs)))
      [ None ↦ above_listed k hs a.1 | Some l ↦ (a.0, above_listed k hs a.1) ]

  numbers_listed : (hs : List NumberedFolder) → Ascends folder_number hs → Ascends folder_number (listed rs hs)
  numbers_listed [] a = tt
  numbers_listed (h ∷ hs) a = elim (line_for h.folder.name rs) as (λ o. Ascends folder_number (put_listed o h (listed rs hs)))
      [ None ↦ numbers_listed hs a.1 | Some l ↦ (above_listed (folder_number h) hs a.0, numbers_listed hs a.1) ]

  uids_listed : (hs : List NumberedFolder) → AllAscend hs → AllAscend (listed rs hs)
  uids_listed [] a = tt
  uids_listed (h ∷ hs) a = elim (line_for h.folder.name rs) as (λ o. AllAscend (put_listed o h (listed rs hs)))
      [ None ↦ uids_listed hs a.1 | Some l ↦ (a.0, uids_listed hs a.1) ]

  below_listed : (nf : ℕ) (hs : List NumberedFolder) → AllBelow nf hs → AllBelow nf (listed rs hs)
  below_listed nf [] a = tt
  below_listed nf (h ∷ hs) a = elim (line_for h.folder.name rs) as (λ o. AllBelow nf (put_listed o h (listed rs hs)))
      [ None ↦ below_listed nf hs a.1 | Some l ↦ (a.0, below_listed nf hs a.1) ]

listed_mail : (m : Mail) (rs : List Response) → IsMail m → IsMail (record { folders = listed rs m.folders; next_mark = m.next_mark; next_folder = m.next_folder })
listed_mail m rs i = left_mail m (listed rs m.folders) (numbers_listed rs m.folders i.numbers) (uids_listed rs m.folders i.uids)
    (below_listed rs m.next_folder m.folders i.numbers_below) (stood_listed rs m.folders i.numbers) i

below_filter : (p : NumberedFolder → Bool) (nf : ℕ) (hs : List NumberedFolder) → AllBelow nf hs → AllBelow nf (filter p hs)
below_filter p nf [] b = tt
below_filter p nf (h ∷ hs) b =
    elim (p h) as (λ v. AllBelow nf (if v then h ∷ filter p hs else filter p hs)) [ true ↦ (b.0, below_filter p nf hs b.1) | false ↦ below_filter p nf hs b.1 ]

-- ---- a folder that is put

names_put : (hs : List NumberedFolder) (k : NumberedFolder) → Ascends folder_number hs → NamesDiffer hs
    → ((n : ℕ) (x : NumberedFolder) → held_in hs n ≡ Some x → x.folder.name ≡ k.folder.name → n ≡ folder_number k) → NamesDiffer (put_keyed folder_number k hs)
names_put hs k up differ only = λ a b x y e f same.
    elim (stood_put hs k a x up e) [
      | inl was ↦ elim (stood_put hs k b y up f) [
        | inl too ↦ differ a b x y was too same
        | inr new ↦ only a x was (same ∙ ap (λ (z : NumberedFolder). z.folder.name) new.1) ∙ sym new.0
      ]
      | inr new ↦ elim (stood_put hs k b y up f) [
        | inl was ↦ new.0 ∙ sym (only b y was (sym same ∙ ap (λ (z : NumberedFolder). z.folder.name) new.1))
        | inr too ↦ new.0 ∙ sym too.0
      ]
    ]

put_mail : (m : Mail) (k : NumberedFolder) (nf : ℕ) → m.next_folder ≤ nf → folder_number k < nf → Ascends uid_of k.messages
    → ((u v : ℕ) → mark_at k.messages u ≡ Some v → mark_in m.folders (folder_number k, u) ≡ Some v)
    → ((n : ℕ) (x : NumberedFolder) → held_in m.folders n ≡ Some x → x.folder.name ≡ k.folder.name → n ≡ folder_number k) → IsMail m
    → IsMail (record { folders = put_keyed folder_number k m.folders; next_mark = m.next_mark; next_folder = nf })
put_mail m k nf rise less up stays only i =
    let hs : List NumberedFolder = m.folders in
    let ks : List NumberedFolder = put_keyed folder_number k hs in
    let marks : (p : ℕ × ℕ) (v : ℕ) → mark_in ks p ≡ Some v → mark_in hs p ≡ Some v =
    λ p v e.
    let x = mark_held ks p v e in
    elim (stood_put hs k p.0 x.0 i.numbers x.1) [
      | inl was ↦ mark_was hs p.0 p.1 x.0 was ∙ x.2
      | inr new ↦ ap (λ q. mark_in hs (q, p.1)) new.0 ∙ stays p.1 v (subst (λ (z : NumberedFolder). mark_at z.messages p.1 ≡ Some v) new.1 x.2)
    ] in
    record {
      numbers = ascends_put folder_number k hs i.numbers;
      uids = uids_put k hs up i.uids;
      marks = once_less (mark_in hs) (mark_in ks) i.marks marks;
      names = names_put hs k i.numbers i.names only;
      marks_below = λ p v e. i.marks_below p v (marks p v e);
      numbers_below = below_put k hs nf less (below_more hs m.next_folder nf rise i.numbers_below);
    }

-- ---- what a LIST tells

new_mail : (m : Mail) (l : lists.Line) → named m.folders l.name ≡ None → IsMail m
    → IsMail (record { folders = m.folders ++ new_folder m.next_folder l ∷ []; next_mark = m.next_mark; next_folder = m.next_folder + 1 })
new_mail m l free i =
    let h : NumberedFolder = new_folder m.next_folder l in
    let put : IsMail (record { folders = put_keyed folder_number h m.folders; next_mark = m.next_mark; next_folder = m.next_folder + 1 }) =
    put_mail m h (m.next_folder + 1) (one_more_least m.next_folder) (one_more_above m.next_folder) tt (λ u v e. absurd (some_is_not_none v (sym e)))
    (λ n x is same. absurd (named_there m.folders n x is (ap (named m.folders) same ∙ free))) i in
    subst (λ (ks : List NumberedFolder). IsMail (record { folders = ks; next_mark = m.next_mark; next_folder = m.next_folder + 1 })) (put_end h m.folders i.numbers_below) put

more_mail : (m : Mail) (o : Option lists.Line) (name : List ℕ) → ((l : lists.Line) → o ≡ Some l → l.name ≡ name) → named m.folders name ≡ None → IsMail m
    → IsMail (with_new_folder m o)
more_mail m None name is free i = i
more_mail m (Some l) name is free i =
    elim (leb m.next_folder MAX_FOLDER_NUMBER) as (λ b. IsMail (if b then record {
      folders = m.folders ++ new_folder m.next_folder l ∷ [];
      next_mark = m.next_mark;
      next_folder = m.next_folder + 1;
    } else m)) [
      | true ↦ new_mail m l (ap (named m.folders) (is l refl) ∙ free) i
      | false ↦ i
    ]

added_mail : (rs : List Response) (m : Mail) (names : List (List ℕ)) → AllFree m.folders names → AreApart names → IsMail m → IsMail (with_new_folders rs m names)
added_mail rs m [] free apart i = i
added_mail rs m (name ∷ names) free apart i =
    added_mail rs (with_new_folder m (line_for name rs)) names (free_added m (line_for name rs) name names (line_name name rs) free.1 apart.0) apart.1
    (more_mail m (line_for name rs) name (line_name name rs) free.0 i)

apart_names : (hs : List NumberedFolder) (rs : List Response) → AreApart (new_names hs rs)
apart_names hs rs =
    apart_new (λ name. not (is_some (named hs name))) (names_told rs) (sorted_apart (names_told rs) (sorted_names (map (λ (l : lists.Line). l.name) (filter_map line_of rs))))

list_mail : (m : Mail) (rs : List Response) → IsMail m → IsMail (tell_list m rs)
list_mail m rs i = added_mail rs (record m { folders = listed rs m.folders }) (new_names m.folders rs) (free_new rs m.folders) (apart_names m.folders rs) (listed_mail m rs i)

-- ---- an exchange that is told

ok_mail : (m : Mail) (c : Command) (rs : List Response) (selected : Option (List ℕ)) → IsMail m → IsMail (tell_ok m c rs selected)
ok_mail m (command.List special_use) rs selected i = list_mail (tell_named m (command.List special_use) rs selected) rs (named_mail m (command.List special_use) rs selected i)
ok_mail m c rs selected i = named_mail m c (responses_of c rs) (target c selected) i

exchange_mail : (m : Mail) (x : Exchange) → IsMail m → IsMail (tell m x)
exchange_mail m x i = by x.status
  where
    by : (s : Status) → IsMail (tell_as s m x)
    by status.Ok = ok_mail m x.command x.responses x.selected i
    by _ = i

-- what an exchange tells leads to mail that can follow
pub told_next : (m : Mail) (x : Exchange) → IsMail m → IsNextMail m (tell m x)
told_next m x i = next_by m (tell m x) (exchange_mail m x i) (numbers_told m x)

-- what exchanges tell in order leads to mail that can follow
pub all_next : (m : Mail) (xs : List Exchange) → IsMail m → IsNextMail m (fold tell m xs)
all_next m [] i = next_by m m i (numbers_stay m)
all_next m (x ∷ xs) i =
    let one : IsNextMail m (tell m x) = told_next m x i in
    next_mail_joins m (tell m x) (fold tell (tell m x) xs) one (all_next (tell m x) xs one.is_mail)

-- ---- what is put

none_put : (m : Mail) (k : NumberedFolder) (n : ℕ) → Ascends folder_number m.folders → IsHeldOrNew m (folder_number k) → n < m.next_folder → held_in m.folders n ≡ None
    → held_in (put_keyed folder_number k m.folders) n ≡ None
none_put m k n up new less e =
    found_put folder_number n k m.folders up
    ∙ elim (eqb (folder_number k) n) as (λ b. eqb (folder_number k) n ≡ b → (if b then Some k else held_in m.folders n) ≡ None) [
      | true ↦ λ t.
          let same : folder_number k ≡ n = eqb-true _ _ t in
          let least : m.next_folder ≤ folder_number k = new (ap (held_in m.folders) same ∙ e) in
          absurd (omega (arith, least, less, same))
      | false ↦ λ t. e
    ] refl

-- mail with a folder can follow where its number is held or new, and no other folder has its name
pub with_folder_next : (m : Mail) (f : Folder) → IsMail m → NameIsFree m.folders f → IsHeldOrNew m f.number → IsNextMail m (with_folder m f)
with_folder_next m f i free new =
    let k : NumberedFolder = record { folder = f; messages = messages_in m.folders f.number } in
    let rise : m.next_folder ≤ max m.next_folder (f.number + 1) = omega arith in
    let less : f.number < max m.next_folder (f.number + 1) = omega arith in
    next_by m (with_folder m f) (put_mail m k (max m.next_folder (f.number + 1)) rise less (ascends_in m.folders f.number i.uids) (λ u v e. e) free i)
    (record { counter = rise; ended = λ n below e. none_put m k n i.numbers new below e })

below_messages : (nf : ℕ) (hs : List NumberedFolder) (n : ℕ) (xs : List Message) → AllBelow nf hs → AllBelow nf (with_messages hs n xs)
below_messages nf [] n xs b = tt
below_messages nf (h ∷ hs) n xs b =
    elim (eqb (folder_number h) n) as (λ v. AllBelow nf (if v then record h { messages = xs } ∷ hs else h ∷ with_messages hs n xs)) [
      | true ↦ b
      | false ↦ (b.0, below_messages nf hs n xs b.1)
    ]

none_messages : (hs : List NumberedFolder) (n : ℕ) (xs : List Message) (j : ℕ) → held_in hs j ≡ None → held_in (with_messages hs n xs) j ≡ None
none_messages hs n xs j e =
    elim (held_in (with_messages hs n xs) j) as (λ (o : Option NumberedFolder). held_in (with_messages hs n xs) j ≡ o → o ≡ None) [
      | None ↦ λ f. refl
      | Some x ↦ λ f. let w = messages_from hs n xs j x f in absurd (some_is_not_none w.0 (sym w.1 ∙ e))
    ] refl

-- mail with other messages in a folder can follow, where their marks differ from all
pub with_messages_next : (m : Mail) (n : ℕ) (xs : List Message) (nm : ℕ) → Ascends uid_of xs → IsOnce (mark_in (with_messages m.folders n xs))
    → ((p : ℕ × ℕ) (k : ℕ) → mark_in (with_messages m.folders n xs) p ≡ Some k → k < nm) → IsMail m
    → IsNextMail m (record { folders = with_messages m.folders n xs; next_mark = nm; next_folder = m.next_folder })
with_messages_next m n xs nm up once below i = next_by m (record { folders = with_messages m.folders n xs; next_mark = nm; next_folder = m.next_folder })
    (record {
      numbers = numbers_with m.folders n xs i.numbers;
      uids = uids_with m.folders n xs up i.uids;
      marks = once;
      names = names_less m.folders (with_messages m.folders n xs) i.names
          (λ j x e. let w = messages_from m.folders n xs j x e in (w.0, w.1, ap (λ (f : Folder). f.name) w.2));
      marks_below = below;
      numbers_below = below_messages m.next_folder m.folders n xs i.numbers_below;
    })
    (record { counter = same_least m.next_folder; ended = λ j less e. none_messages m.folders n xs j e })

-- mail with a message of a new mark can follow
pub with_message_next : (m : Mail) (n : ℕ) (x : Message) → IsMail m → ((p : ℕ × ℕ) → mark_in m.folders p ≢ Some x.mark) → IsNextMail m (with_message m n x)
with_message_next m n x i new =
    let hs : List NumberedFolder = m.folders in
    let xs : List Message = messages_in hs n in
    let ys : List Message = put_keyed uid_of x xs in
    let up : Ascends uid_of xs = ascends_in hs n i.uids in
    let more : (p : ℕ × ℕ) (k : ℕ) → mark_in (with_messages hs n ys) p ≡ Some k → (mark_in hs p ≡ Some k) ⊎ ((p ≡ (n, x.uid)) × (k ≡ x.mark)) =
    λ p k e. elim (marks_from hs n ys p k e) [
      | inl a ↦ elim (mark_put x xs p.1 k up a.1) [
        | inl was ↦ inl (ap (λ j. mark_in hs (j, p.1)) a.0 ∙ was)
        | inr put ↦ inr (pair_same (n, x.uid) p a.0 put.0, put.1)
      ]
      | inr b ↦ inl b.1
    ] in
    with_messages_next m n ys (max m.next_mark (x.mark + 1)) (ascends_put uid_of x xs up)
    (once_more (mark_in hs) (mark_in (with_messages hs n ys)) (n, x.uid) x.mark i.marks new more)
    (λ p k e. elim (more p k e) [
      | inl was ↦ (let less : k < m.next_mark = i.marks_below p k was in let next : k < max m.next_mark (x.mark + 1) = omega (arith, less) in next)
      | inr put ↦ (let same : k ≡ x.mark = put.1 in let next : k < max m.next_mark (x.mark + 1) = omega (arith, same) in next)
    ]) i

-- ---- what is taken out

-- mail without a folder can follow
pub without_folder_next : (m : Mail) (n : ℕ) → IsMail m → IsNextMail m (without_folder m n)
without_folder_next m n i = next_by m (without_folder m n)
    (left_mail m (cut_keyed folder_number n m.folders) (ascends_cut folder_number n m.folders i.numbers) (uids_cut n m.folders i.uids)
    (below_filter (λ (h : NumberedFolder). not (eqb (folder_number h) n)) m.next_folder m.folders i.numbers_below) (stood_cut n m.folders) i)
    (numbers_filter m (λ (h : NumberedFolder). not (eqb (folder_number h) n)))

-- mail without a message can follow
pub without_message_next : (m : Mail) (p : ℕ × ℕ) → IsMail m → IsNextMail m (without_message m p)
without_message_next m p i =
    let hs : List NumberedFolder = m.folders in
    let xs : List Message = messages_in hs p.0 in
    let ys : List Message = cut_keyed uid_of p.1 xs in
    let was : (q : ℕ × ℕ) (k : ℕ) → mark_in (with_messages hs p.0 ys) q ≡ Some k → mark_in hs q ≡ Some k =
    λ q k e. elim (marks_from hs p.0 ys q k e) [
      | inl a ↦ ap (λ j. mark_in hs (j, q.1)) a.0 ∙ mark_cut p.1 xs q.1 k a.1
      | inr b ↦ b.1
    ] in
    with_messages_next m p.0 ys m.next_mark (ascends_cut uid_of p.1 xs (ascends_in hs p.0 i.uids))
    (once_less (mark_in hs) (mark_in (with_messages hs p.0 ys)) i.marks was) (λ q k e. i.marks_below q k (was q k e)) i

-- ---- after no mail

numbered : (hs : List NumberedFolder) (n : ℕ) (f : Folder) → AllByRecursion IsWellFormedHeld hs → folder_in hs n ≡ Some f → 0 < n
numbered [] n f a e = absurd (some_is_not_none f (sym e))
numbered (h ∷ hs) n f a e =
    elim (eqb (folder_number h) n) as (λ b. eqb (folder_number h) n ≡ b → option_map (λ (z : NumberedFolder). z.folder) (if b then Some h else held_in hs n) ≡ Some f → 0 < n) [
      | true ↦ λ t g. subst (λ k. 0 < k) (eqb-true _ _ t) a.0.folder.numbered
      | false ↦ λ t g. numbered hs n f a.1 g
    ] refl e

-- well-formed mail can follow where there was none
pub after_no_mail : (m : Mail) → IsMail m → IsWellFormed m → IsNextMail no_mail m
after_no_mail m i w = record {
  is_mail = i;
  counter = (let some : 0 < m.next_folder = w.numbered in let least : 1 ≤ m.next_folder = omega (arith, some) in least);
  new_folders = λ n f there gone. let some : 0 < n = numbered m.folders n f w.folders there in let least : 1 ≤ n = omega (arith, some) in least;
}
