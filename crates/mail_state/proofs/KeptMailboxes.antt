-- A Mailbox shows a folder's number, name, delimiter and attributes, and what its Emails are but for their UIDs.
use Rattle.std.proofs.Common.{◌≡◌, ℕ, ◌+◌, List, [], ◌∷◌, ◌++◌, Bool, true, false, not, ◌&&◌, ◌||◌, cond, nat_eq, nat_lt, map, filter, length, refl, sym, ap, ◌∙◌, subst, nat_cmp}
use Rattle.std.proofs.Common.{Option, Some, None, is_some, eqb-true, count_by, fold, if◌then◌else◌, suc, arith}
use Rattle.std.specs.List.{list_any}
use Rattle.std.specs.List.Sorted.{IsStrictlySortedBy}
use Rattle.std.specs.Map.{keys_of}
use Rattle.std.specs.Option.{option_map}
use Rattle.std.specs.Str.Lossy.{utf8_lossy}
use Rattle.std.proofs.Common.{drop}
use Rattle.std.proofs.lemmas.Slice.Eq.{slice_eq-Decides, bytes_eq-Decides}
use Rattle.std.proofs.lemmas.List.{append-nil}
use Rattle.change_list.specs.Advance.{advance_entries}
use Rattle.change_list.specs.declared.entries.Entry.{Entry}
use Rattle.served_maps.specs.Past.{tests_of}
use Rattle.told_folder.specs.declared.message.Folder.{Folder}
use Rattle.told_folder.specs.declared.message.NumberedFolder.{NumberedFolder}
use Rattle.mail_maps.specs.declared.row.EmailRow.{EmailRow}
use Rattle.mail_maps.specs.declared.row.MailboxRow.{MailboxRow}
use Rattle.mail_maps.specs.declared.tally.FolderCounts.{FolderCounts}
use Rattle.mail_maps.specs.declared.row.Role.{Role}
use Rattle.mail_maps.specs.Rows.{Rows, in_folder, in_thread, unread}
use Rattle.mail_maps.specs.Keywords.{keywords_of, is_unread}
use Rattle.mail_maps.specs.Hierarchy.{is_above, longer, longest, parent_in, parent_len}
use Rattle.mail_maps.specs.Roles.{role_told, same_role, is_taken}
use Rattle.mail_maps.specs.Threads.{distinct}
use Rattle.mail_maps.specs.Counts.{in_unread_thread, total_emails, unread_emails, total_threads, unread_threads}
use Rattle.mail_maps.specs.Mailboxes.{folders_of, row_with, counts_in, mailbox_row, mailboxes_of}
use Rattle.mail_maps.specs.Serve.{same_names, mailbox_of, mailbox_tests}
use Rattle.mail_maps.specs.Visible.{Placed, shown}
use Rattle.mail_rows.specs.NumberedRows.{NumberedRows}
use Rattle.mail_rows.specs.Remaining.{updated, put_remaining, remaining}
use Rattle.mail_rows.specs.Taking.{TakesMail, left, arrivals}
use Rattle.mail_rows.specs.RowTouches.{email_touches}
use Rattle.mail_rows.specs.reading.RowPass.{gone_of, gone_in, is_hidden, is_moved, changes_in, changes_where, change_where, touch_of_change, touch_of_addition, touch_of_removal}
use Rattle.mail_rows.specs.declared.remaining.RemovedEmail.{RemovedEmail}
use Rattle.mail_rows.proofs.Exact.{exact_mailbox}
use Rattle.mail_rows.proofs.RowLemmas.{all_in}
use Rattle.mail_rows.proofs.TakingLemmas.{added, rows_added, from_added}
use Rattle.mail_rows.proofs.TouchLemmas.{touches_are}
use Rattle.mail_state.specs.reading.Recounts.{all_recounted}
use Rattle.mail_state.specs.reading.Boxes.{stripped, stripped_folders, boxes_by, StepsMailboxes, BoxesStay}
use Rattle.mail_state.proofs.EmailLemmas.{InOrder}
use Rattle.mail_state.proofs.NoTouches.{no_touches}

-- ---- what a Mailbox shows of its folder

strip_filter : (f : Folder) (fs : List Folder) → filter (is_above (stripped f)) (map stripped fs) ≡ map stripped (filter (is_above f) fs)
strip_filter f [] = refl
strip_filter f (g ∷ fs) =
    elim (is_above f g) as (λ (b : Bool). cond b (stripped g ∷ filter (is_above (stripped f)) (map stripped fs)) (filter (is_above (stripped f)) (map stripped fs))
    ≡ map stripped (cond b (g ∷ filter (is_above f) fs) (filter (is_above f) fs))) [
      | true ↦ ap (λ (gs : List Folder). stripped g ∷ gs) (strip_filter f fs)
      | false ↦ strip_filter f fs
    ]

strip_longer : (best : Option Folder) (g : Folder) → longer (option_map stripped best) (stripped g) ≡ stripped (longer best g)
strip_longer None g = refl
strip_longer (Some b) g =
    elim (nat_lt (length b.name) (length g.name)) as (λ (t : Bool). (if t then stripped g else stripped b) ≡ stripped (if t then g else b)) [ true ↦ refl | false ↦ refl ]

strip_longest : (best : Option Folder) (gs : List Folder) → longest (option_map stripped best) (map stripped gs) ≡ option_map stripped (longest best gs)
strip_longest best [] = refl
strip_longest best (g ∷ gs) = ap (λ (f : Folder). longest (Some f) (map stripped gs)) (strip_longer best g) ∙ strip_longest (Some (longer best g)) gs

strip_parent : (fs : List Folder) (f : Folder) → parent_in (map stripped fs) (stripped f) ≡ option_map stripped (parent_in fs f)
strip_parent fs f = ap (longest None) (strip_filter f fs) ∙ strip_longest None (filter (is_above f) fs)

strip_len : (o : Option Folder) → parent_len (option_map stripped o) ≡ parent_len o
strip_len None = refl
strip_len (Some g) = refl

strip_number : (o : Option Folder) → option_map (λ (g : Folder). g.number) (option_map stripped o) ≡ option_map (λ (g : Folder). g.number) o
strip_number None = refl
strip_number (Some g) = refl

strip_taken : (fs : List Folder) (f : Folder) → is_taken (map stripped fs) (stripped f) ≡ is_taken fs f
strip_taken [] f = refl
strip_taken (g ∷ fs) f = ap (λ (b : Bool). (nat_lt g.number f.number && same_role (role_told g) (role_told f)) || b) (strip_taken fs f)

abbrev role_where : Bool → Folder → Option Role
role_where taken f = if taken then None else role_told f

-- a Mailbox of stripped folders is that of the folders
strip_row : (fs : List Folder) (f : Folder) (c : FolderCounts) → row_with (map stripped fs) (stripped f) c ≡ row_with fs f c
strip_row fs f c =
    ap (λ (p : Option Folder). record (row_with fs f c) {
      name = utf8_lossy (drop (parent_len p) f.name);
      parent = option_map (λ (g : Folder). g.number) p;
      role = role_where
          (is_taken (map stripped fs) (stripped f)) f;
    })
    (strip_parent fs f)
    ∙ ap (λ (n : ℕ). record (row_with fs f c) {
      name = utf8_lossy (drop n f.name);
      parent = option_map (λ (g : Folder). g.number) (option_map stripped (parent_in fs f));
      role =
          role_where (is_taken (map stripped fs) (stripped f)) f;
    })
    (strip_len (parent_in fs f))
    ∙ ap (λ (n : Option ℕ). record (row_with fs f c) { parent = n; role = role_where (is_taken (map stripped fs) (stripped f)) f }) (strip_number (parent_in fs f))
    ∙ ap (λ (b : Bool). record (row_with fs f c) { role = role_where b f }) (strip_taken fs f)

strip_each : (fs : List Folder) (rows : Rows) (gs : List Folder)
    → map {B = ℕ × MailboxRow} (λ (f : Folder). (f.number, mailbox_row (map stripped fs) rows f)) (map stripped gs) ≡ map {B = ℕ × MailboxRow}
    (λ (f : Folder). (f.number, mailbox_row fs rows f)) gs
strip_each fs rows [] = refl
strip_each fs rows (g ∷ gs) =
    ap (λ (r : MailboxRow). (g.number, r) ∷ map {B = ℕ × MailboxRow} (λ (f : Folder). (f.number, mailbox_row (map stripped fs) rows f)) (map stripped gs))
    (strip_row fs g (counts_in rows g.number))
    ∙ ap (λ (es : List (ℕ × MailboxRow)). (g.number, mailbox_row fs rows g) ∷ es) (strip_each fs rows gs)

-- the Mailboxes of stripped folders are those of the folders
pub strip_boxes : (hs : List NumberedFolder) (rows : Rows) → boxes_by (stripped_folders hs) rows ≡ mailboxes_of hs rows
strip_boxes hs rows = strip_each (folders_of hs) rows (folders_of hs)

-- ---- what it shows of Emails

-- in one folder and Thread, with the same keywords
record IsLike (a b : ℕ × EmailRow) : Type 0 where
  pub folder : a.1.folder ≡ b.1.folder
  pub thread : a.1.thread ≡ b.1.thread
  pub keywords : a.1.keywords ≡ b.1.keywords

abbrev AreLike : Rows → Rows → Type 0
AreLike [] [] = Unit {0}
AreLike [] (b ∷ ys) = ⊥
AreLike (a ∷ xs) [] = ⊥
AreLike (a ∷ xs) (b ∷ ys) = IsLike a b × AreLike xs ys

-- the tests agree on Emails that are alike
abbrev Agree : (ℕ × EmailRow → Bool) → (ℕ × EmailRow → Bool) → Type 0
Agree f g = (a b : ℕ × EmailRow) → IsLike a b → f a ≡ g b

fold_like : (f g : ℕ × EmailRow → Bool) → Agree f g → (k : ℕ) (xs ys : Rows) → AreLike xs ys → fold (λ (n : ℕ) (e : ℕ × EmailRow). n + cond (f e) 1 0) k xs ≡ fold
    (λ (n : ℕ) (e : ℕ × EmailRow). n + cond (g e) 1 0) k ys
fold_like f g same k [] [] l = refl
fold_like f g same k [] (b ∷ ys) l = absurd l
fold_like f g same k (a ∷ xs) [] l = absurd l
fold_like f g same k (a ∷ xs) (b ∷ ys) l =
    ap (λ (t : Bool). fold (λ (n : ℕ) (e : ℕ × EmailRow). n + cond (f e) 1 0) (k + cond t 1 0) xs) (same a b l.0) ∙ fold_like f g same (k + cond (g b) 1 0) xs ys l.1

count_like : (f g : ℕ × EmailRow → Bool) → Agree f g → (xs ys : Rows) → AreLike xs ys → count_by f xs ≡ count_by g ys
count_like f g same xs ys l = fold_like f g same 0 xs ys l

any_like : (f g : ℕ × EmailRow → Bool) → Agree f g → (xs ys : Rows) → AreLike xs ys → list_any f xs ≡ list_any g ys
any_like f g same [] [] l = refl
any_like f g same [] (b ∷ ys) l = absurd l
any_like f g same (a ∷ xs) [] l = absurd l
any_like f g same (a ∷ xs) (b ∷ ys) l = ap (λ (t : Bool). t || list_any f xs) (same a b l.0) ∙ ap (λ (t : Bool). g b || t) (any_like f g same xs ys l.1)

abbrev thread_numbers_in : (ℕ × EmailRow → Bool) → Rows → List ℕ
thread_numbers_in f rows = map (λ (e : ℕ × EmailRow). e.1.thread) (filter f rows)

threads_like : (f g : ℕ × EmailRow → Bool) → Agree f g → (xs ys : Rows) → AreLike xs ys → thread_numbers_in f xs ≡ thread_numbers_in g ys
threads_like f g same [] [] l = refl
threads_like f g same [] (b ∷ ys) l = absurd l
threads_like f g same (a ∷ xs) [] l = absurd l
threads_like f g same (a ∷ xs) (b ∷ ys) l =
    ap (λ (t : Bool). map (λ (e : ℕ × EmailRow). e.1.thread) (cond t (a ∷ filter f xs) (filter f xs))) (same a b l.0)
    ∙ elim (g b) as (λ (t : Bool). map (λ (e : ℕ × EmailRow). e.1.thread) (cond t (a ∷ filter f xs) (filter f xs)) ≡ map (λ (e : ℕ × EmailRow). e.1.thread)
    (cond t (b ∷ filter g ys) (filter g ys))) [
      | true ↦ ap (λ (n : ℕ). n ∷ thread_numbers_in f xs) l.0.thread ∙ ap (λ (ns : List ℕ). b.1.thread ∷ ns) (threads_like f g same xs ys l.1)
      | false ↦ threads_like f g same xs ys l.1
    ]

in_like : (folder : ℕ) → Agree (in_folder folder) (in_folder folder)
in_like folder a b l = ap (λ (n : ℕ). nat_eq n folder) l.folder

unread_like : Agree unread unread
unread_like a b l = ap is_unread l.keywords

there_and_unread_like : (xs ys : Rows) → AreLike xs ys → (folder : ℕ) → Agree (λ e. in_folder folder e && in_unread_thread xs e) (λ e. in_folder folder e && in_unread_thread ys e)
there_and_unread_like xs ys all folder a b l =
    ap (λ (t : Bool). t && in_unread_thread xs a) (in_like folder a b l)
    ∙ ap (λ (t : Bool). in_folder folder b && t) (any_like (λ d. in_thread a.1.thread d && unread d) (λ d. in_thread b.1.thread d && unread d)
    (λ c d k. ap (λ (n : ℕ). nat_eq n a.1.thread && unread c) k.thread ∙ ap (λ (n : ℕ). nat_eq d.1.thread n && unread c) l.thread ∙ ap
    (λ (t : Bool). nat_eq d.1.thread b.1.thread && t) (unread_like c d k)) xs ys all)

counts_same : (a b c d e f g h : ℕ) → a ≡ b → c ≡ d → e ≡ f → g ≡ h
    → ◌≡◌ {A = FolderCounts} (record { total_emails = a; unread_emails = c; total_threads = e; unread_threads = g })
    (record { total_emails = b; unread_emails = d; total_threads = f; unread_threads = h })
counts_same a b c d e f g h e0 e1 e2 e3 = cc

-- Emails that are alike are counted alike
counts_like : (xs ys : Rows) → AreLike xs ys → (folder : ℕ) → counts_in xs folder ≡ counts_in ys folder
counts_like xs ys all folder =
    let total = count_like (in_folder folder) (in_folder folder) (in_like folder) xs ys all in
    let unread_ones = count_like (λ e. in_folder folder e && unread e) (λ e. in_folder folder e && unread e)
    (λ a b l. ap (λ (t : Bool). t && unread a) (in_like folder a b l) ∙ ap (λ (t : Bool). in_folder folder b && t) (unread_like a b l)) xs ys all in
    let threads = ap (λ (ns : List ℕ). length (distinct ns)) (threads_like (in_folder folder) (in_folder folder) (in_like folder) xs ys all) in
    let unread_in = ap (λ (ns : List ℕ). length (distinct ns))
    (threads_like (λ e. in_folder folder e && in_unread_thread xs e) (λ e. in_folder folder e && in_unread_thread ys e) (there_and_unread_like xs ys all folder) xs ys all) in
    counts_same _ _ _ _ _ _ _ _ total unread_ones threads unread_in

boxes_like : (fs gs : List Folder) (xs ys : Rows) → AreLike xs ys
    → map {B = ℕ × MailboxRow} (λ (f : Folder). (f.number, mailbox_row fs xs f)) gs ≡ map {B = ℕ × MailboxRow} (λ (f : Folder). (f.number, mailbox_row fs ys f)) gs
boxes_like fs [] xs ys all = refl
boxes_like fs (g ∷ gs) xs ys all =
    ap (λ (c : FolderCounts). (g.number, row_with fs g c) ∷ map {B = ℕ × MailboxRow} (λ (f : Folder). (f.number, mailbox_row fs xs f)) gs) (counts_like xs ys all g.number)
    ∙ ap (λ (es : List (ℕ × MailboxRow)). (g.number, mailbox_row fs ys g) ∷ es) (boxes_like fs gs xs ys all)

-- ---- where no Email was touched

no_parts : (a b : List Entry) → a ++ b ≡ [] → (a ≡ []) × (b ≡ [])
no_parts [] b e = (refl, e)
no_parts (x ∷ a) b e = absurd (let f : x ∷ (a ++ b) ≡ [] = e in cc)

no_removals : (gone : List RemovedEmail) → map touch_of_removal gone ≡ [] → gone ≡ []
no_removals [] e = refl
no_removals (g ∷ gone) e = absurd (let f : touch_of_removal g ∷ map touch_of_removal gone ≡ [] = e in cc)

no_additions : (rows : Rows) → map touch_of_addition (keys_of rows) ≡ [] → rows ≡ []
no_additions [] e = refl
no_additions (r ∷ rows) e = absurd (let f : touch_of_addition r.0 ∷ map touch_of_addition (keys_of rows) ≡ [] = e in cc)

is_not : (b : Bool) → not b ≡ false → b ≡ true
is_not true e = refl
is_not false e = absurd (let f : true ≡ false = e in cc)

neither : (a b : Bool) → (a || b) ≡ false → (a ≡ false) × (b ≡ false)
neither true b e = absurd (let f : true ≡ false = e in cc)
neither false b e = (refl, e)

-- a row that isn't changed is like its message
unmoved : (e : ℕ × EmailRow) (p : Placed) → is_moved e.1 p ≡ false → IsLike e (e.0, updated e.1 p)
unmoved e p still =
    let parts = neither (not (nat_eq e.1.folder p.folder)) (not (same_names e.1.keywords (keywords_of p.message.flags))) still in
    record {
      folder = eqb-true e.1.folder p.folder (is_not (nat_eq e.1.folder p.folder) parts.0);
      thread = refl;
      keywords = (slice_eq-Decides bytes_eq-Decides e.1.keywords (keywords_of p.message.flags) _ refl).0 (is_not (same_names e.1.keywords (keywords_of p.message.flags)) parts.1);
    }

like_remaining : (hs : List NumberedFolder) (rows : Rows) → gone_in hs rows ≡ [] → changes_in hs rows ≡ [] → AreLike rows (remaining hs rows)
like_remaining hs [] gone changed = tt
like_remaining hs (e ∷ es) gone changed = by (shown hs e.1.mark) gone changed (like_remaining hs es)
  where
    rest : List (ℕ × EmailRow)
    rest = filter (is_hidden hs) es

    by : (o : Option Placed) → map gone_of (cond (not (is_some o)) (e ∷ rest) rest) ≡ [] → changes_where o e ++ changes_in hs es ≡ []
        → (gone_in hs es ≡ [] → changes_in hs es ≡ [] → AreLike es (remaining hs es)) → AreLike (e ∷ es) (put_remaining e.0 (option_map (updated e.1) o) (remaining hs es))
    by None g c later = absurd (let f : gone_of e ∷ map gone_of rest ≡ [] = g in cc)
    by (Some p) g c later =
        let parts = no_parts (change_where (is_moved e.1 p) e.0) (changes_in hs es) c in
        (unmoved e p (still (is_moved e.1 p) parts.0), later g parts.1)
      where
        still : (b : Bool) → change_where b e.0 ≡ [] → b ≡ false
        still true k = absurd (let f : touch_of_change e.0 ∷ [] ≡ [] = k in cc)
        still false k = refl

-- the Mailboxes of the same folders stay where no Email was touched
pub mailboxes_kept : (n : NumberedRows) (hs : List NumberedFolder) (after : NumberedRows) (kept : List Folder) (before : List (ℕ × MailboxRow)) → InOrder n → TakesMail n hs after
    → before ≡ boxes_by kept n.rows → email_touches n.rows after.rows ≡ [] → before ≡ boxes_by kept after.rows
mailboxes_kept n hs after kept before o takes was none =
    let more : Rows = added (left n hs) (arrivals n hs) takes.envelopes in
    let rows : after.rows ≡ remaining hs n.rows ++ more = ap (λ (x : NumberedRows). x.rows) takes.after_is ∙ rows_added (left n hs) (arrivals n hs) takes.envelopes in
    let touches : email_touches n.rows after.rows ≡ map touch_of_removal (gone_in hs n.rows) ++ (changes_in hs n.rows ++ map touch_of_addition (keys_of more)) =
    ap (email_touches n.rows) rows ∙ touches_are hs n.rows more n.next o.sorted o.under (from_added (left n hs) (arrivals n hs) takes.envelopes) in
    let first = no_parts (map touch_of_removal (gone_in hs n.rows)) (changes_in hs n.rows ++ map touch_of_addition (keys_of more)) (sym touches ∙ none) in
    let second = no_parts (changes_in hs n.rows) (map touch_of_addition (keys_of more)) first.1 in
    let is : remaining hs n.rows ≡ after.rows =
    sym (rows ∙ ap (λ (xs : Rows). remaining hs n.rows ++ xs) (no_additions more second.1) ∙ append-nil (remaining hs n.rows)) in
    let L : Rows → Type 0 = λ xs. AreLike n.rows xs in
    was ∙ boxes_like kept kept n.rows after.rows (subst L is (like_remaining hs n.rows (no_removals (gone_in hs n.rows) first.0) second.0))

-- Mailboxes that stay as they are are those of the folders and rows, without touches
pub boxes_step : (before : List (ℕ × MailboxRow)) (kept : List Folder) (hs : List NumberedFolder) (rows : Rows) (touches : List Entry) → IsStrictlySortedBy nat_cmp (keys_of before)
    → (steps : List Entry) → steps ≡ [] → touches ≡ [] → kept ≡ stripped_folders hs → BoxesStay before kept rows touches → StepsMailboxes before hs rows before steps
boxes_step before kept hs rows touches sorted steps empty none same stays = record {
  mailboxes = stays.stay none ∙ ap (λ (fs : List Folder). boxes_by fs rows) same ∙ strip_boxes hs rows;
  touches = empty ∙ sym (no_touches (tests_of mailbox_of mailbox_tests) (λ v. (exact_mailbox (mailbox_of v) (mailbox_of v)).1 refl) before (all_in before sorted));
}

counted_anew : (fs : List Folder) (was rows : Rows) (gs : List Folder)
    → all_recounted (counts_in rows) (map {B = ℕ × MailboxRow} (λ (f : Folder). (f.number, mailbox_row fs was f)) gs)
    ≡ map {B = ℕ × MailboxRow} (λ (f : Folder). (f.number, mailbox_row fs rows f)) gs
counted_anew fs was rows [] = refl
counted_anew fs was rows (g ∷ gs) = ap (λ (es : List (ℕ × MailboxRow)). (g.number, mailbox_row fs rows g) ∷ es) (counted_anew fs was rows gs)

-- Mailboxes of the same folders, with the counts of these rows, are those of the folders and rows
pub boxes_recounted : (before now : List (ℕ × MailboxRow)) (kept : List Folder) (hs : List NumberedFolder) (rows : Rows) (touches steps : List Entry)
    → now ≡ all_recounted (counts_in rows) before → steps ≡ advance_entries (tests_of mailbox_of mailbox_tests) before now → kept ≡ stripped_folders hs
    → BoxesStay before kept rows touches → StepsMailboxes before hs rows now steps
boxes_recounted before now kept hs rows touches steps are steps_are same stays = record {
  mailboxes = are ∙ ap (all_recounted (counts_in rows)) stays.made ∙ counted_anew kept stays.was rows kept ∙ ap (λ (fs : List Folder). boxes_by fs rows) same ∙ strip_boxes hs rows;
  touches = steps_are;
}

-- a list without elements
pub none_in : (es : List Entry) → nat_eq (length es) 0 ≡ true → es ≡ []
none_in [] e = refl
none_in (x ∷ es) e = absurd (let f : suc (length es) ≡ 0 = eqb-true (length (x ∷ es)) 0 e in omega (arith, f))

-- ---- the step of the rows

-- in a step, the Mailboxes are those of the folders kept, and where no Email was touched, of the rows now
pub boxes_stay : (n : NumberedRows) (hs : List NumberedFolder) (after : NumberedRows) (kept : List Folder) (before : List (ℕ × MailboxRow)) (rows : Rows) (touches : List Entry)
    → InOrder n → TakesMail n hs after → before ≡ boxes_by kept n.rows → rows ≡ after.rows → touches ≡ email_touches n.rows after.rows → BoxesStay before kept rows touches
boxes_stay n hs after kept before rows touches o takes was rows_are touches_are = record {
  was = n.rows;
  made = was;
  stay = λ none. mailboxes_kept n hs after kept before o takes was (sym touches_are ∙ none) ∙ ap (boxes_by kept) (sym rows_are);
}

-- Mailboxes of folders are those of the folders that are kept of them
pub boxes_are : (hs : List NumberedFolder) (rows after : Rows) (kept : List Folder) (boxes : List (ℕ × MailboxRow)) → boxes ≡ mailboxes_of hs rows → kept ≡ stripped_folders hs → rows ≡ after
    → boxes ≡ boxes_by kept after
boxes_are hs rows after kept boxes are kept_are rows_are =
    are ∙ sym (strip_boxes hs rows) ∙ ap (λ (fs : List Folder). boxes_by fs rows) (sym kept_are) ∙ ap (boxes_by kept) rows_are
