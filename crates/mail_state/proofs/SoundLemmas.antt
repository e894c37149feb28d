-- Each history is sound, and no number is used twice.
use Rattle.std.proofs.Common.{◌≡◌, ◌≢◌, ℕ, ◌+◌, ◌<◌, ◌≤◌, List, [], ◌∷◌, take, refl, sym, ap, ◌∙◌, subst, arith, nat_cmp, zero, suc, All, Option, Some, None}
use Rattle.std.proofs.Common.{◌↔◌, ◌&&◌, Bool, true, false, Contains}
use Rattle.std.specs.Bool.{IsTrue}
use Rattle.std.specs.List.Sorted.{IsStrictlySortedBy}
use Rattle.std.specs.Map.{keys_of}
use Rattle.std.specs.Option.{option_map}
use Rattle.std.proofs.lemmas.List.Elements.{All-nil}
use Rattle.change_list.specs.Advance.{Tests, row_at, AreRows, advance}
use Rattle.change_list.specs.Changes.{IsChanges}
use Rattle.change_list.specs.History.{map_at, entries_of}
use Rattle.change_list.specs.declared.answer.Changes.{Changes}
use Rattle.change_list.specs.Kept.{IsOf, none_yet}
use Rattle.change_list.proofs.CopyLaws as copies
use Rattle.served_maps.specs.Past.{Past, IsPast, AreFresh, no_past, gone_on, had_at, has_now, place_now}
use Rattle.served_maps.proofs.StandsOn.{past_on, row_at-served}
use Rattle.served_maps.proofs.Between.{ever_below}
use Rattle.told_folder.specs.declared.message.NumberedFolder.{NumberedFolder}
use Rattle.told_mail.specs.Mail.{Mail, no_mail, IsMail, IsNextMail}
use Rattle.mail_maps.specs.Serve.{Immutable, Email, ServedMailbox, email_of, same_counts, same_but_counts, mailbox_tests, email_tests, thread_tests}
use Rattle.mail_rows.specs.NumberedRows.{NumberedRows}
use Rattle.mail_rows.specs.Taking.{TakesMail}
use Rattle.mail_rows.proofs.MailLaws.{emails_are_shown}
use Rattle.mail_rows.proofs.OneTake.{one_take}
use Rattle.mail_rows.proofs.Exact.{exact_mailbox, exact_email, exact_thread}
use Rattle.mail_rows.proofs.RowLemmas.{found_under}
use Rattle.mail_state.specs.History.{
  MailHistory,
  IsReached,
  Begins,
  Goes,
  Advances,
  advanced,
  first_history,
  served_mailboxes,
  served_emails,
  served_threads,
}
use Rattle.mail_state.specs.Sound.{IsSound, IsRowOf, KeepsImmutable}
use Rattle.mail_state.specs.State.{IsStateOf, first_state}
use Rattle.mail_state.specs.Laws.{ComesNew, UsesOnce, CopiesStay, KeepsCopies, HasCopyLaws}
use Rattle.mail_state.proofs.CountLemmas.{goes_on_alone, counts_leave}
use Rattle.mail_state.proofs.EmailLemmas.{InOrder, in_order, taken_in_order, served_rows, next_rises, next_bound, emails_are_fresh, keeps_immutable}
use Rattle.mail_state.proofs.ThreadLemmas.{thread_rows, threads_have, threads_are_fresh, threads_below_then, some_is}
use Rattle.mail_state.proofs.FolderLemmas.{mailbox_rows, mailboxes_have, mailboxes_are_fresh, folder_below}
use Rattle.mail_state.proofs.MarkLemmas.{rows_are, marks_apart}

-- ---- the first history

none_at : {V : Type 0} (i q : ℕ) → map_at {V = V} [] i q ≡ None
none_at zero q = refl
none_at (suc i) q = refl

no_past_is : {V : Type 0} → IsPast {V = V} no_past
no_past_is {V} = record { rows = tt; last = λ q. refl; history = record { differ = tt; lost_for_good = λ i j k q a b some gone. none_at k q } }

nothing_sorted : IsStrictlySortedBy {K = ℕ} nat_cmp []
unfolding IsStrictlySortedBy
nothing_sorted = tt

no_mail_is : IsMail no_mail
no_mail_is = record {
  numbers = tt;
  uids = tt;
  marks = λ p q mark e f. absurd (let g : None ≡ Some mark = e in cc);
  names = λ i j h k e f s. absurd (let g : None ≡ Some h = e in cc);
  marks_below = λ p mark e. absurd (let g : None ≡ Some mark = e in cc);
  numbers_below = tt;
}

-- the first history is sound
pub first_is_sound : (epoch : ℕ) → IsSound (first_history epoch)
first_is_sound epoch = record {
  is_mail = no_mail_is;
  mailboxes = no_past_is;
  emails = no_past_is;
  threads = no_past_is;
  mailboxes_now = refl;
  emails_now = refl;
  threads_now = refl;
  mailboxes_below = λ i q some. absurd (some (none_at i q));
  emails_below = λ i q some. absurd (some (none_at i q));
  threads_below = λ i q some. absurd (some (none_at i q));
  next = omega (arith);
  ascending = nothing_sorted;
  rows = All-nil (IsRowOf []);
  marks = tt;
  marks_shown = λ mark. refl;
  immutable = λ i j q u v a b. absurd (let f : None ≡ Some u = sym (none_at i q) ∙ a in cc);
  count_alone = tt;
}

-- ---- Mailboxes that are the same but for counts

both : (a b : Bool) → (a && b) ≡ true → (a ≡ true) × (b ≡ true)
both true b e = (refl, e)
both false b e = absurd (let f : false ≡ true = e in cc)

same_itself : (v : ServedMailbox) → same_counts v.counts v.counts ≡ true
same_itself v = (both (same_but_counts v v) (same_counts v.counts v.counts) ((exact_mailbox v v).1 refl)).1

-- two Mailboxes are the same but for counts where one with the other's counts is the other
pub but_for_counts : (u v : ServedMailbox) → IsTrue (mailbox_tests.counts u v) ↔ (record u { counts = v.counts } ≡ v)
but_for_counts u v = (
  (λ h. (exact_mailbox (record u { counts = v.counts }) v).0 (ap (λ (b : Bool). b && same_counts v.counts v.counts) h ∙ same_itself v)),
  (λ e. (both (same_but_counts u v) (same_counts v.counts v.counts) ((exact_mailbox (record u { counts = v.counts }) v).1 e)).0),
)

-- ---- going on

-- a sound history goes on to a sound one
pub taken_sound : (h : MailHistory) (m : Mail) (n : NumberedRows) → IsSound h → IsNextMail h.mail m → TakesMail h.numbered m.folders n → IsSound (advanced h m n)
taken_sound h m n sound next takes =
    let order : InOrder n = taken_in_order h.numbered m.folders n (in_order h sound) takes in
    let emails : AreRows (served_emails n.rows) = served_rows email_of n.rows order.sorted in
    let boxes : AreRows (served_mailboxes m n.rows) = mailbox_rows m n.rows next.is_mail in
    let threads : AreRows (served_threads n.rows) = thread_rows n.rows in
    let rise : h.numbered.next ≤ n.next = next_rises h.numbered m.folders n takes in
    record {
      is_mail = next.is_mail;
      mailboxes = past_on mailbox_tests h.mailboxes (served_mailboxes m n.rows) exact_mailbox sound.mailboxes boxes (mailboxes_are_fresh h m n sound next);
      emails = past_on email_tests h.emails (served_emails n.rows) exact_email sound.emails emails (emails_are_fresh h m.folders n sound takes);
      threads = past_on thread_tests h.threads (served_threads n.rows) exact_thread sound.threads threads (threads_are_fresh h m.folders n sound takes);
      mailboxes_now = refl;
      emails_now = refl;
      threads_now = refl;
      mailboxes_below = ever_below mailbox_tests h.mailboxes (served_mailboxes m n.rows) h.mail.next_folder m.next_folder boxes sound.mailboxes_below next.counter
          (λ q some. folder_below m.next_folder m.folders q next.is_mail.numbers_below (sym (mailboxes_have m n.rows q) ∙ some_is (row_at (served_mailboxes m n.rows) q) some));
      emails_below = ever_below email_tests h.emails (served_emails n.rows) h.numbered.next n.next emails sound.emails_below rise
          (λ q some. found_under n.next n.rows order.under q (λ e. some (no_email q e)));
      threads_below = ever_below thread_tests h.threads (served_threads n.rows) h.numbered.next n.next threads sound.threads_below rise
          (λ q some. threads_below_then h m.folders n sound takes q (sym (threads_have n.rows q) ∙ some_is (row_at (served_threads n.rows) q) some));
      next = next_bound h m n sound takes;
      ascending = order.sorted;
      rows = rows_are h.mail.folders m h.numbered n next.is_mail sound.rows takes;
      marks = marks_apart m h.numbered n next.is_mail sound.marks takes;
      marks_shown = λ mark. emails_are_shown h.numbered m.folders n mark takes;
      immutable = keeps_immutable h m.folders n sound takes emails;
      count_alone = goes_on_alone h.mailboxes (served_mailboxes m n.rows) (λ x y. (but_for_counts x y).0) sound.mailboxes boxes sound.count_alone;
    }
  where
    no_email : (q : ℕ) → row_at n.rows q ≡ None → row_at (served_emails n.rows) q ≡ None
    no_email q e = row_at-served email_of n.rows q ∙ ap (option_map email_of) e

-- the same of any history that it advances to
pub advances_keep_sound : (h after : MailHistory) (m : Mail) → IsSound h → IsNextMail h.mail m → Advances h m after → IsSound after
advances_keep_sound h after m sound next a = let P : MailHistory → Type 0 = λ x. IsSound x in subst P (sym a.after_is) (taken_sound h m after.numbered sound next a.takes)

-- each history that there is is sound
pub all_are_sound : (h : MailHistory) → IsReached h → IsSound h
all_are_sound _ (Begins epoch) = first_is_sound epoch
all_are_sound _ (Goes h after m reached next a) = advances_keep_sound h after m (all_are_sound h reached) next a

-- ---- one step, and no number twice

-- a history goes on to some mail in one way
pub one_advance : (h : MailHistory) (m : Mail) (a b : MailHistory) → Advances h m a → Advances h m b → a ≡ b
one_advance h m a b g k = g.after_is ∙ ap (advanced h m) (one_take h.numbered m.folders a.numbered b.numbered g.takes k.takes) ∙ sym k.after_is

comes_new : {V : Type 0} (tests : Tests V) (p : Past V) (new : List (ℕ × V)) → IsPast p → IsPast (gone_on tests p new) → AreFresh p new → ComesNew p (gone_on tests p new)
comes_new tests p new past then fresh q gone comes place = fresh q place (past.last q ∙ gone) (λ none. comes (sym (then.last q) ∙ none))

-- no number is used twice
pub numbers_are_new : (h after : MailHistory) (m : Mail) → IsSound h → IsNextMail h.mail m → Advances h m after → UsesOnce h after
numbers_are_new h after m sound next a =
    let P : MailHistory → Type 0 = λ k. UsesOnce h k in
    let n : NumberedRows = after.numbered in
    let then : IsSound (advanced h m n) = taken_sound h m n sound next a.takes in
    subst P (sym a.after_is) (record {
      mailboxes = comes_new mailbox_tests h.mailboxes (served_mailboxes m n.rows) sound.mailboxes then.mailboxes (mailboxes_are_fresh h m n sound next);
      emails = comes_new email_tests h.emails (served_emails n.rows) sound.emails then.emails (emails_are_fresh h m.folders n sound a.takes);
      threads = comes_new thread_tests h.threads (served_threads n.rows) sound.threads then.threads (threads_are_fresh h m.folders n sound a.takes);
    })

-- a number never names two marks
pub one_mark : (h : MailHistory) (i j q : ℕ) (u v : Email) → IsSound h → had_at h.emails i q ≡ Some u → had_at h.emails j q ≡ Some v → u.immutable.mark ≡ v.immutable.mark
one_mark h i j q u v sound at_i at_j = ap (λ (b : Immutable). b.mark) (sound.immutable i j q u v at_i at_j)

-- ---- copies

stays : {V : Type 0} (tests : Tests V) (p : Past V) (new : List (ℕ × V)) → CopiesStay p (gone_on tests p new)
stays tests p new place copy within is = copies.copies_stay p.touches (advance tests p.now new) place copy within is

-- a copy at a place stays one
pub copies_stay_right : (h after : MailHistory) (m : Mail) → Advances h m after → KeepsCopies h after
copies_stay_right h after m a =
    let P : MailHistory → Type 0 = λ k. KeepsCopies h k in
    subst P (sym a.after_is) (record {
      mailboxes = stays mailbox_tests h.mailboxes (served_mailboxes m after.numbered.rows);
      emails = stays email_tests h.emails (served_emails after.numbered.rows);
      threads = stays thread_tests h.threads (served_threads after.numbered.rows);
    })

-- the laws of copies are those of any history
pub copy_laws : {V : Type 0} (p : Past V) → HasCopyLaws p
copy_laws {V} p = record {
  follow = copies.copies_follow p.touches;
  last = λ copy. (copies.last_copy_is_map p.touches copy, λ all. record { no_other = λ q none. all q ∙ none; agrees = λ q untouched. all q });
  takes = copies.copies_take p.touches;
  drops = copies.copies_drop p.touches;
  steps = copies.steps_keep p.touches;
  ends = copies.steps_end p.touches;
}

-- ---- counts alone

-- where an answer says that the counts alone changed, the rest of what was updated is as it was
pub counts_alone_leave : (h : MailHistory) (s i q : ℕ) (max : Option ℕ) (c : Changes) (u v : ServedMailbox) → IsReached h → IsChanges (entries_of h.mailboxes.touches) s max c
    → IsTrue c.counts_only → Contains c.updated q → s ≤ i → i ≤ c.to → had_at h.mailboxes s q ≡ Some u → had_at h.mailboxes i q ≡ Some v → record u { counts = v.counts } ≡ v
counts_alone_leave h s i q max c u v reached changes alone there from to at_first at_last =
    counts_leave h.mailboxes s i max c q u v (all_are_sound h reached).count_alone changes ((changes.counts_only.0 alone).1 q ((changes.updated.members q).0 there))
    from to at_first at_last

-- ---- the first state

none_kept : IsOf none_yet []
none_kept = record { place = refl; entries = refl }

-- a state without mail stands for the first history
pub first_stands : (epoch : ℕ) → IsStateOf (first_history epoch) (first_state epoch)
first_stands epoch = record {
  sound = first_is_sound epoch;
  epoch = refl;
  rows = refl;
  mailboxes = record { now = refl; kept = none_kept; past = no_past_is };
  emails = record { now = refl; kept = none_kept; past = no_past_is };
  threads = record { now = refl; kept = none_kept; past = no_past_is };
}
