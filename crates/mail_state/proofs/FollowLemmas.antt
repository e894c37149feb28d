-- A state that took the rows of other mail, and noted their touches, stands for the history that went on.
use Rattle.std.proofs.Common.{◌≡◌, ◌↔◌, ℕ, ◌+◌, ◌<◌, ◌≤◌, List, ◌++◌, Bool, true, not, nat_eq, refl, sym, ap, ◌∙◌, subst, arith, length}
use Rattle.std.proofs.Common.{false, Option, Some, None, Err, if◌then◌else◌, ltb, ltb-true, ltb-false}
use Rattle.std.specs.Bool.{IsTrue}
use Rattle.std.specs.Option.{option_map, option_or}
use Rattle.change_list.specs.Kept.{Kept, IsOf}
use Rattle.change_list.specs.Advance.{Tests, advance_entries}
use Rattle.change_list.specs.History.{entries_of}
use Rattle.change_list.specs.declared.entries.Entry.{Entry}
use Rattle.change_list.specs.declared.list.TheConstants.{MAX_PLACE}
use Rattle.change_list.proofs.HistoryLaws.{length-entries_from}
use Rattle.told_mail.specs.Mail.{Mail, IsNextMail}
use Rattle.served_maps.specs.Past.{Past, StandsFor, gone_on, served, tests_of, place_now}
use Rattle.served_maps.proofs.StandsOn.{stands_on, entries_served, rises}
use Rattle.mail_maps.specs.declared.row.MailboxRow.{MailboxRow}
use Rattle.mail_maps.specs.Threads.{threads_of}
use Rattle.mail_maps.specs.Mailboxes.{mailboxes_of}
use Rattle.mail_maps.specs.Serve.{mailbox_of, email_of, thread_of, mailbox_tests, email_tests, thread_tests}
use Rattle.mail_rows.specs.NumberedRows.{NumberedRows}
use Rattle.mail_rows.specs.Taking.{TakesMail}
use Rattle.mail_rows.specs.RowTouches.{email_touches}
use Rattle.mail_rows.proofs.Exact.{exact_mailbox, exact_email, exact_thread}
use Rattle.mail_state.specs.declared.touches.Advance.{Advance}
use Rattle.mail_state.specs.declared.error.StateError.{StateError}
use Rattle.mail_state.specs.declared.error.StateError.TheVariants.{Spent, Memory}
use Rattle.mail_state.specs.History.{MailHistory, Advances, HasRoom, advanced}
use Rattle.mail_state.specs.Sound.{IsSound}
use Rattle.mail_state.specs.State.{ServedRows, ChangeLists, ServedState, IsStateOf, rows_of}
use Rattle.mail_state.specs.Following.{Touches, touches_between, full_place, spent_place, spent_to, AllNoted, StepsTo, Moves, FollowsMail, IfSpent, SpendsPlace}
use Rattle.mail_state.specs.reading.Noting.{StepsRows, moved_by}
use Rattle.mail_state.proofs.EmailLemmas.{emails_are_fresh}
use Rattle.mail_state.proofs.ThreadLemmas.{threads_are_fresh}
use Rattle.mail_state.proofs.FolderLemmas.{mailboxes_are_fresh}
use Rattle.mail_state.proofs.SoundLemmas.{taken_sound}

abbrev pub state_with : ServedState → ServedRows → ChangeLists → ServedState
state_with s rows lists = record { epoch = s.epoch; rows = rows; lists = lists }

stands_after : (s : ServedState) (h : MailHistory) (m : Mail) (n : NumberedRows) (lists : ChangeLists) → IsStateOf h s → IsNextMail h.mail m → TakesMail h.numbered m.folders n
    → AllNoted s.lists lists (touches_between s.rows (rows_of m n)) → IsStateOf (advanced h m n) (state_with s (rows_of m n) lists)
stands_after s h m n lists stands next takes noted =
    let sound : IsSound (advanced h m n) = taken_sound h m n stands.sound next takes in record {
      sound = sound;
      epoch = stands.epoch;
      rows = refl;
      mailboxes = stands_on mailbox_of mailbox_tests s.rows.mailboxes (mailboxes_of m.folders n.rows) s.lists.mailbox lists.mailbox h.mailboxes
          exact_mailbox sound.mailboxes.rows (mailboxes_are_fresh h m n stands.sound next) stands.mailboxes noted.mailbox.noted;
      emails = stands_on email_of email_tests s.rows.numbered.rows n.rows s.lists.email lists.email h.emails
          exact_email sound.emails.rows (emails_are_fresh h m.folders n stands.sound takes) stands.emails noted.email.noted;
      threads = stands_on thread_of thread_tests s.rows.threads (threads_of n.rows) s.lists.thread lists.thread h.threads
          exact_thread sound.threads.rows (threads_are_fresh h m.folders n stands.sound takes) stands.threads noted.thread.noted;
    }

-- ---- a place that rises

rose_to : (k a b : ℕ) → b ≡ a + k → not (nat_eq k 0) ≡ true → a < b
rose_to k a b e t = grind arith

rose_from : (k a b : ℕ) → b ≡ a + k → a < b → not (nat_eq k 0) ≡ true
rose_from k a b e l = grind arith

rose : (k a b : ℕ) → b ≡ a + k → IsTrue (not (nat_eq k 0)) ↔ (a < b)
rose k a b e = (rose_to k a b e, rose_from k a b e)

-- by the touches between the rows
place_rises : {R V : Type 0} (serve : R → V) (tests : Tests V) (rows new : List (ℕ × R)) (list : Kept) (p : Past V) → StandsFor serve rows list p
    → place_now (gone_on tests p (served serve new)) ≡ place_now p + length (advance_entries (tests_of serve tests) rows new)
place_rises {R} {V} serve tests rows new list p stands =
    rises tests p (served serve new)
    ∙ ap (λ (es : List Entry). place_now p + length es)
    (ap (λ (x : List (ℕ × V)). advance_entries tests x (served serve new)) (sym stands.now) ∙ entries_served serve tests rows new)

moves : (s : ServedState) (h : MailHistory) (m : Mail) (n : NumberedRows) → IsStateOf h s → Moves (moved_by (touches_between s.rows (rows_of m n))) h (advanced h m n)
moves s h m n stands = record {
  mailbox = rose _ _ _ (place_rises mailbox_of mailbox_tests s.rows.mailboxes (mailboxes_of m.folders n.rows) s.lists.mailbox h.mailboxes stands.mailboxes);
  email = rose _ _ _ (place_rises email_of email_tests s.rows.numbered.rows n.rows s.lists.email h.emails stands.emails);
  thread = rose _ _ _ (place_rises thread_of thread_tests s.rows.threads (threads_of n.rows) s.lists.thread h.threads stands.threads);
}

-- ---- the rows of other mail, with the touches that lead to them

-- rows, boxes and Threads of the mail, with their touches, are a step
pub steps_rows : (before : ServedRows) (m : Mail) (n : NumberedRows) (boxes : List (ℕ × MailboxRow)) (threads : List (ℕ × List ℕ)) (t : Touches)
    → TakesMail before.numbered m.folders n → boxes ≡ mailboxes_of m.folders n.rows → threads ≡ threads_of n.rows
    → t.mailbox ≡ advance_entries (tests_of mailbox_of mailbox_tests) before.mailboxes boxes
    → t.email ≡ email_touches before.numbered.rows n.rows
    → t.thread ≡ advance_entries (tests_of thread_of thread_tests) before.threads threads
    → n.next ≤ before.numbered.next + length t.email → StepsRows before m (record { numbered = n; mailboxes = boxes; threads = threads }) t
steps_rows before m n boxes threads t takes boxes_are threads_are mailbox email thread counted = record {
  takes = takes;
  rows = ap (λ (x : List (ℕ × MailboxRow)). record { numbered = n; mailboxes = x; threads = threads }) boxes_are
      ∙ ap (λ (x : List (ℕ × List ℕ)). record { numbered = n; mailboxes = mailboxes_of m.folders n.rows; threads = x }) threads_are;
  touches = ap (λ (x : List Entry). record { mailbox = x; email = t.email; thread = t.thread }) mailbox
      ∙ ap (λ (x : List Entry). record { mailbox = advance_entries (tests_of mailbox_of mailbox_tests) before.mailboxes boxes; email = x; thread = t.thread }) email
      ∙ ap (λ (x : List Entry). record {
        mailbox = advance_entries (tests_of mailbox_of mailbox_tests) before.mailboxes boxes;
        email = email_touches before.numbered.rows n.rows;
        thread = x;
      }) thread;
  counted = counted;
}

-- ---- room in the places

-- a list stands at the place of its past
listed_place : {V : Type 0} (list : Kept) (p : Past V) → IsOf list (entries_of p.touches) → list.place ≡ place_now p
listed_place list p is = is.place ∙ length-entries_from (λ _. None) p.touches

-- where the list has room for the touches, the place doesn't pass the last one
fits : (list : Kept) (touches : List Entry) → full_place list touches ≡ None → list.place + length touches ≤ MAX_PLACE
fits list touches none =
    elim (ltb MAX_PLACE (list.place + length touches)) as (λ (b : Bool). ltb MAX_PLACE (list.place + length touches) ≡ b → (if b then Some list.place else None) ≡ None
    → list.place + length touches ≤ MAX_PLACE) [
      | true ↦ λ t e. absurd (let f : Some list.place ≡ None = e in cc)
      | false ↦ λ t e. ltb-false _ _ t
    ] refl none

-- where it has none, the place does
passes : (list : Kept) (touches : List Entry) (place : ℕ) → full_place list touches ≡ Some place → list.place + length touches ≤ MAX_PLACE → ⊥
passes list touches place some room =
    elim (ltb MAX_PLACE (list.place + length touches)) as (λ (b : Bool). ltb MAX_PLACE (list.place + length touches) ≡ b → (if b then Some list.place else None) ≡ Some place → ⊥) [
      | true ↦ λ t e. let less : MAX_PLACE < list.place + length touches = ltb-true _ _ t in omega (arith, less, room)
      | false ↦ λ t e. let f : None ≡ Some place = e in cc
    ] refl some

module _ {R V : Type 0} (serve : R → V) (tests : Tests V) (rows new : List (ℕ × R)) (list : Kept) (p : Past V) (stands : StandsFor serve rows list p) where
  -- the place after the touches
  place_after : place_now (gone_on tests p (served serve new)) ≡ list.place + length (advance_entries (tests_of serve tests) rows new)
  place_after = place_rises serve tests rows new list p stands
      ∙ ap (λ (k : ℕ). k + length (advance_entries (tests_of serve tests) rows new)) (sym (listed_place list p stands.kept))

  has_place : full_place list (advance_entries (tests_of serve tests) rows new) ≡ None → place_now (gone_on tests p (served serve new)) ≤ MAX_PLACE
  has_place none =
      let room = fits list (advance_entries (tests_of serve tests) rows new) none in
      let after = place_after in
      omega (arith, room, after)

  passes_place : (place : ℕ) → full_place list (advance_entries (tests_of serve tests) rows new) ≡ Some place → place_now (gone_on tests p (served serve new)) ≤ MAX_PLACE → ⊥
  passes_place place some room =
      let after = place_after in
      passes list (advance_entries (tests_of serve tests) rows new) place some (omega (arith, room, after))

-- none of three where none is the first
none_of_all : (a b c : Option ℕ) → option_or a (option_or b c) ≡ None → (a ≡ None) × (b ≡ None) × (c ≡ None)
none_of_all None None None e = (refl, refl, refl)
none_of_all None None (Some z) e = absurd (let f : Some z ≡ None = e in cc)
none_of_all None (Some y) c e = absurd (let f : Some y ≡ None = e in cc)
none_of_all (Some x) b c e = absurd (let f : Some x ≡ None = e in cc)

-- where no place is spent, the history that went on has room
room_after : (s : ServedState) (h : MailHistory) (m : Mail) (n : NumberedRows) → IsStateOf h s → spent_place s.lists (touches_between s.rows (rows_of m n)) ≡ None
    → HasRoom (advanced h m n)
room_after s h m n stands none =
    let t : Touches = touches_between s.rows (rows_of m n) in
    let each = none_of_all (full_place s.lists.mailbox t.mailbox) (full_place s.lists.email t.email) (full_place s.lists.thread t.thread) none in
    record {
      mailboxes = has_place mailbox_of mailbox_tests s.rows.mailboxes (mailboxes_of m.folders n.rows) s.lists.mailbox h.mailboxes stands.mailboxes each.0;
      emails = has_place email_of email_tests s.rows.numbered.rows n.rows s.lists.email h.emails stands.emails each.1;
      threads = has_place thread_of thread_tests s.rows.threads (threads_of n.rows) s.lists.thread h.threads stands.threads each.2;
    }

-- where a place is spent, it has none
spends_after : (s : ServedState) (h : MailHistory) (m : Mail) (n : NumberedRows) (place : ℕ) → IsStateOf h s
    → spent_place s.lists (touches_between s.rows (rows_of m n)) ≡ Some place → HasRoom (advanced h m n) → ⊥
spends_after s h m n place stands some room =
    by (full_place s.lists.mailbox t.mailbox) refl (full_place s.lists.email t.email) refl (full_place s.lists.thread t.thread) refl some
  where
    t : Touches
    t = touches_between s.rows (rows_of m n)

    by : (a : Option ℕ) → full_place s.lists.mailbox t.mailbox ≡ a → (b : Option ℕ) → full_place s.lists.email t.email ≡ b → (c : Option ℕ)
        → full_place s.lists.thread t.thread ≡ c → option_or a (option_or b c) ≡ Some place → ⊥
    by (Some x) is b _ c _ e =
        passes_place mailbox_of mailbox_tests s.rows.mailboxes (mailboxes_of m.folders n.rows) s.lists.mailbox h.mailboxes stands.mailboxes x is room.mailboxes
    by None _ (Some y) is c _ e = passes_place email_of email_tests s.rows.numbered.rows n.rows s.lists.email h.emails stands.emails y is room.emails
    by None _ None _ (Some z) is e = passes_place thread_of thread_tests s.rows.threads (threads_of n.rows) s.lists.thread h.threads stands.threads z is room.threads
    by None _ None _ None _ e = let f : None ≡ Some place = e in cc

-- ---- the whole step

touches_are : (before : ServedRows) (m : Mail) (now : ServedRows) (t : Touches) → StepsRows before m now t → t ≡ touches_between before (rows_of m now.numbered)
touches_are before m now t steps = steps.touches ∙ ap (touches_between before) steps.rows

-- the state stands for the history that went on to the mail
pub follows : (s : ServedState) (h : MailHistory) (m : Mail) (rows : ServedRows) (t : Touches) (lists : ChangeLists) → IsStateOf h s → IsNextMail h.mail m
    → StepsRows s.rows m rows t → AllNoted s.lists lists t → spent_place s.lists t ≡ None → FollowsMail h m (state_with s rows lists) (moved_by t)
follows s h m rows t lists stands next steps noted room =
    let n : NumberedRows = rows.numbered in
    let T : NumberedRows → Type 0 = λ x. TakesMail x m.folders n in
    let takes : TakesMail h.numbered m.folders n = subst T (ap (λ (x : ServedRows). x.numbered) stands.rows) steps.takes in
    let are : t ≡ touches_between s.rows (rows_of m n) = touches_are s.rows m rows t steps in
    let N : Touches → Type 0 = λ x. AllNoted s.lists lists x in
    let S : ServedRows → Type 0 = λ x. IsStateOf (advanced h m n) (state_with s x lists) in
    let M : Touches → Type 0 = λ x. Moves (moved_by x) h (advanced h m n) in
    record {
      after = advanced h m n;
      advances = record { takes = takes; after_is = refl };
      stands = subst S (sym steps.rows) (stands_after s h m n lists stands next takes (subst N are noted));
      moves = subst M (sym are) (moves s h m n stands);
      room = room_after s h m n stands (sym (ap (spent_place s.lists) are) ∙ room);
    }

-- the state has the rows of the mail, and has noted the touches
pub steps_to : (s : ServedState) (m : Mail) (rows : ServedRows) (t : Touches) (lists : ChangeLists) → StepsRows s.rows m rows t → AllNoted s.lists lists t
    → StepsTo s m (state_with s rows lists)
steps_to s m rows t lists steps noted =
    let N : Touches → Type 0 = λ x. AllNoted s.lists lists x in
    record { epoch = refl; takes = steps.takes; rows = steps.rows; noted = subst N steps.touches noted }

-- ---- room

spent_is : (s : ServedState) (m : Mail) (rows : ServedRows) (t : Touches) → StepsRows s.rows m rows t → spent_to s m rows.numbered ≡ spent_place s.lists t
spent_is s m rows t steps = sym (ap (spent_place s.lists) (touches_are s.rows m rows t steps))

-- no place would pass the last one
abbrev pub FindsRoom : ServedState → Mail → Type 0
FindsRoom s m = (n : NumberedRows) × TakesMail s.rows.numbered m.folders n × (spent_to s m n ≡ None)

-- touches that have room
pub has_room : (s : ServedState) (m : Mail) (rows : ServedRows) (t : Touches) → StepsRows s.rows m rows t → spent_place s.lists t ≡ None → FindsRoom s m
has_room s m rows t steps room = (rows.numbered, steps.takes, spent_is s m rows t steps ∙ room)

-- the refusal names a place that would
abbrev pub FindsNoRoom : StateError → ServedState → Mail → Type 0
FindsNoRoom e s m = (n : NumberedRows) × TakesMail s.rows.numbered m.folders n × (option_map Spent (spent_to s m n) ≡ Some e)

-- touches that have none
pub has_no_room : (e : StateError) (s : ServedState) (m : Mail) (rows : ServedRows) (t : Touches) → StepsRows s.rows m rows t → option_map Spent (spent_place s.lists t) ≡ Some e
    → FindsNoRoom e s m
has_no_room e s m rows t steps spent = (rows.numbered, steps.takes, ap (option_map Spent) (spent_is s m rows t steps) ∙ spent)

-- the touches that have none lead to a history that has none
pub spends : (s : ServedState) (h : MailHistory) (m : Mail) (rows : ServedRows) (t : Touches) (place : ℕ) → IsStateOf h s → StepsRows s.rows m rows t
    → spent_place s.lists t ≡ Some place → SpendsPlace h m
spends s h m rows t place stands steps spent =
    let n : NumberedRows = rows.numbered in
    let T : NumberedRows → Type 0 = λ x. TakesMail x m.folders n in
    record {
      after = advanced h m n;
      advances = record { takes = subst T (ap (λ (x : ServedRows). x.numbered) stands.rows) steps.takes; after_is = refl };
      passes = spends_after s h m n place stands (sym (ap (spent_place s.lists) (touches_are s.rows m rows t steps)) ∙ spent);
    }

some_place : (o : Option ℕ) (place : ℕ) → option_map Spent o ≡ Some (Spent place) → o ≡ Some place
some_place None place e = absurd (let f : None ≡ Some (Spent place) = e in cc)
some_place (Some x) place e = let f : Some (Spent x) ≡ Some (Spent place) = e in cc

-- what an answer by the touches says of the history
pub if_spent : (X : Type 0) (s : ServedState) (h : MailHistory) (m : Mail) (rows : ServedRows) (t : Touches) (e : StateError) → IsStateOf h s → StepsRows s.rows m rows t
    → option_map Spent (spent_place s.lists t) ≡ Some e → IfSpent {X = X} (Err e) (SpendsPlace h m)
if_spent X s h m rows t Memory stands steps spent = tt
if_spent X s h m rows t (Spent place) stands steps spent = spends s h m rows t place stands steps (some_place (spent_place s.lists t) place spent)
