-- A mark names one message for good, and a new validity makes new ids.
use Rattle.std.proofs.Common.{◌≡◌, ◌≢◌, ℕ, ◌<◌, ◌≤◌, Bool, true, false, ◌||◌, List, [], ◌∷◌, Option, Some, None, is_some}
use Rattle.std.proofs.Common.{cond, refl, sym, ap, ◌∙◌, subst, arith, inl, inr, nat_cmp, fold, eq-eqb, nat_eq}
use Rattle.std.specs.BTreeMap.{is_at}
use Rattle.std.specs.Option.{option_map}
use Rattle.change_list.specs.Advance.{row_at}
use Rattle.told_folder.specs.Folders.{folder_in, message_in}
use Rattle.told_folder.specs.declared.exchange.Exchange.{Exchange}
use Rattle.told_folder.specs.declared.message.Folder.{Folder}
use Rattle.told_folder.specs.declared.message.NumberedFolder.{NumberedFolder}
use Rattle.told_folder.specs.declared.message.Message.{Message}
use Rattle.told_mail.specs.Mail.{Mail, IsMail}
use Rattle.told_changes.specs.Told.{told}
use Rattle.mail_maps.specs.declared.row.EmailRow.{EmailRow}
use Rattle.mail_maps.specs.Rows.{Rows}
use Rattle.mail_maps.specs.Visible.{Placed, shown}
use Rattle.mail_rows.specs.NumberedRows.{knows}
use Rattle.mail_rows.specs.Remaining.{updated}
use Rattle.mail_rows.proofs.TouchLemmas.{remaining_if}
use Rattle.mail_rows.proofs.VisibleLemmas.{IsVisibleOf, visible_of, marked_at, hidden_mark}
use Rattle.mail_state.specs.History.{MailHistory, Advances}
use Rattle.mail_state.specs.Sound.{IsSound}
use Rattle.mail_state.specs.Telling.{IsSameMessage, NoneMoves}
use Rattle.mail_state.proofs.EmailLemmas.{in_order, taken_at, under_or_over}
use Rattle.mail_state.proofs.ChangeLemmas.{IsHeldAt, held_at, at_place, all_keep, all_next, all_stay}

some_is : {A : Type 0} (a b : A) → Some a ≡ Some b → a ≡ b
some_is a b e = cc

-- ---- a mark names one message

-- a message after exchanges whose mark a message had before is that one
pub one_message : (m : Mail) (xs : List Exchange) (p q : ℕ × ℕ) (a b : Message) → IsMail m → message_in m.folders p.0 p.1 ≡ Some a
    → message_in (fold told m xs).folders q.0 q.1 ≡ Some b → b.mark ≡ a.mark → IsSameMessage a b
one_message m xs p q a b is at_p at_q marks =
    elim ((all_keep m xs is).each q b at_q) [
      | inl w ↦
          let mark : w.was.mark ≡ a.mark = sym w.same.mark ∙ marks in
          let place : w.place ≡ p =
          is.marks w.place p a.mark (marked_at m.folders w.place.0 w.place.1 w.was w.there ∙ ap (λ (n : ℕ). Some n) mark) (marked_at m.folders p.0 p.1 a at_p) in
          let same : w.was ≡ a = some_is w.was a (sym w.there ∙ ap (λ (r : ℕ × ℕ). message_in m.folders r.0 r.1) place ∙ at_p) in
          let S : Message → Type 0 = λ z. IsSameMessage z b in
          subst S same w.same
      | inr new ↦ absurd (let less : a.mark < m.next_mark = is.marks_below p a.mark (marked_at m.folders p.0 p.1 a at_p) in omega (arith, new, less, marks))
    ]

-- and stands at its place of before, as long as no MOVE is told
pub one_place : (m : Mail) (xs : List Exchange) (p q : ℕ × ℕ) (a b : Message) → IsMail m → NoneMoves xs → message_in m.folders p.0 p.1 ≡ Some a
    → message_in (fold told m xs).folders q.0 q.1 ≡ Some b → b.mark ≡ a.mark → q ≡ p
one_place m xs p q a b is none at_p at_q marks =
    let k : IsHeldAt (fold told m xs).folders q.0 q.1 b = held_at (fold told m xs).folders q.0 q.1 b at_q in
    elim (all_stay m xs is none q k.held b k.is_held k.there) [
      | inl stood ↦
          let there : message_in m.folders q.0 q.1 ≡ Some stood.was = at_place m.folders q.0 q.1 stood.held stood.was stood.is_held stood.there in
          let mark : stood.was.mark ≡ a.mark = sym stood.same.mark ∙ marks in
          is.marks q p a.mark (marked_at m.folders q.0 q.1 stood.was there ∙ ap (λ (n : ℕ). Some n) mark) (marked_at m.folders p.0 p.1 a at_p)
      | inr new ↦ absurd (let less : a.mark < m.next_mark = is.marks_below p a.mark (marked_at m.folders p.0 p.1 a at_p) in omega (arith, new, less, marks))
    ]

-- ---- under another validity

-- the folder after exchanges, under another validity, has messages of new marks alone
pub new_marks : (m : Mail) (xs : List Exchange) (n u : ℕ) (f g : Folder) (x : Message) → IsMail m → NoneMoves xs → folder_in m.folders n ≡ Some f
    → folder_in (fold told m xs).folders n ≡ Some g → f.validity ≢ g.validity → message_in (fold told m xs).folders n u ≡ Some x → m.next_mark ≤ x.mark
new_marks m xs n u f g x is none was now other at =
    let k : IsHeldAt (fold told m xs).folders n u x = held_at (fold told m xs).folders n u x at in
    elim (all_stay m xs is none (n, u) k.held x k.is_held k.there) [
      | inl stood ↦
          let before : stood.held.folder ≡ f = some_is stood.held.folder f (sym (ap (option_map (λ (h : NumberedFolder). h.folder)) stood.is_held) ∙ was) in
          let after : k.held.folder ≡ g = some_is k.held.folder g (sym (ap (option_map (λ (h : NumberedFolder). h.folder)) k.is_held) ∙ now) in
          absurd (other (ap (λ (h : Folder). h.validity) (sym before) ∙ sym stood.valid ∙ ap (λ (h : Folder). h.validity) after))
      | inr new ↦ new
    ]

-- ---- ids

known_row : (rows : Rows) (q : ℕ) (row : EmailRow) → row_at rows q ≡ Some row → knows rows row.mark ≡ true
known_row [] q row e = absurd (let f : None ≡ Some row = e in cc)
known_row (d ∷ rows) q row e =
    elim (is_at (nat_cmp q) d.0) as (λ (b : Bool). cond b (Some d.1) (row_at rows q) ≡ Some row → (nat_eq d.1.mark row.mark || knows rows row.mark) ≡ true) [
      | true ↦ λ f. ap (λ (b : Bool). b || knows rows row.mark) (eq-eqb d.1.mark row.mark (ap (λ (r : EmailRow). r.mark) (some_is d.1 row f)))
      | false ↦ λ f. or_true (nat_eq d.1.mark row.mark) (knows rows row.mark) (known_row rows q row f)
    ] e
  where
    or_true : (a b : Bool) → b ≡ true → (a || b) ≡ true
    or_true true b t = refl
    or_true false b t = t

-- what remains of a row is of a message that is shown
record IsRest (hs : List NumberedFolder) (o : Option EmailRow) (row : EmailRow) : Type 0 where
  pub old : EmailRow
  pub there : o ≡ Some old
  pub message : Placed
  pub is_shown : shown hs old.mark ≡ Some message
  pub now : updated old message ≡ row

rest_of : (hs : List NumberedFolder) (o : Option EmailRow) (row : EmailRow) → remaining_if hs o ≡ Some row → IsRest hs o row
rest_of hs None row e = absurd (let f : None ≡ Some row = e in cc)
rest_of hs (Some old) row e = by (shown hs old.mark) refl e
  where
    by : (w : Option Placed) → shown hs old.mark ≡ w → option_map (updated old) w ≡ Some row → IsRest hs (Some old) row
    by None is f = absurd (let g : None ≡ Some row = f in cc)
    by (Some p) is f = record { old = old; there = refl; message = p; is_shown = is; now = some_is (updated old p) row f }

-- a mark that was never given isn't shown
never_shown : (m : Mail) (mark : ℕ) → IsMail m → m.next_mark ≤ mark → shown m.folders mark ≡ None
never_shown m mark is least = hidden_mark m mark is (λ p at. (let less : mark < m.next_mark = is.marks_below p mark at in omega (arith, less, least)))

-- an Email of a folder under another validity has a new number
pub new_ids : (h after : MailHistory) (xs : List Exchange) (f g : Folder) (number : ℕ) (row : EmailRow) → IsSound h → NoneMoves xs → Advances h (fold told h.mail xs) after
    → folder_in h.mail.folders row.folder ≡ Some f → folder_in after.mail.folders row.folder ≡ Some g → f.validity ≢ g.validity
    → row_at after.numbered.rows number ≡ Some row → h.numbered.next ≤ number
new_ids h after xs f g number row sound none a was now other there =
    elim (under_or_over number h.numbered.next) [ inl under ↦ absurd (never under) | inr over ↦ over ]
  where
    m : Mail
    m = fold told h.mail xs

    is_mail : IsMail m
    is_mail = (all_next h.mail xs sound.is_mail).is_mail

    folder_now : folder_in m.folders row.folder ≡ Some g
    folder_now = sym (ap (λ (x : MailHistory). folder_in x.mail.folders row.folder) a.after_is) ∙ now

    never : number < h.numbered.next → ⊥
    never under =
        let rest : IsRest m.folders (row_at h.numbered.rows number) row =
        rest_of m.folders (row_at h.numbered.rows number) row (sym (taken_at h.numbered m.folders after.numbered (in_order h sound) a.takes number under) ∙ there) in
        let seen : IsVisibleOf m.folders rest.old.mark rest.message = visible_of m rest.old.mark rest.message is_mail rest.is_shown in
        let folder : rest.message.folder ≡ row.folder = ap (λ (r : EmailRow). r.folder) rest.now in
        let at : message_in m.folders row.folder rest.message.message.uid ≡ Some rest.message.message =
        ap (λ (n : ℕ). message_in m.folders n rest.message.message.uid) (sym folder) ∙ seen.seen.at in
        let new : h.mail.next_mark ≤ rest.message.message.mark =
        new_marks h.mail xs row.folder rest.message.message.uid f g rest.message.message sound.is_mail none was folder_now other at in
        let mark : rest.message.message.mark ≡ rest.old.mark = seen.marked in
        let known : is_some (shown h.mail.folders rest.old.mark) ≡ true = sym (sound.marks_shown rest.old.mark) ∙ known_row h.numbered.rows number rest.old rest.there in
        let hidden : shown h.mail.folders rest.old.mark ≡ None = never_shown h.mail rest.old.mark sound.is_mail (omega (arith, new, mark)) in
        let wrong : false ≡ true = sym (ap is_some hidden) ∙ known in
        cc
