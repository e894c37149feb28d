-- A message that goes to another place of a mirror.
use Rattle.std.proofs.Common.{◌≡◌, ℕ, ◌<◌, arith, Bool, true, false, List, [], ◌∷◌, Option, Some, None, refl, sym, ap, ◌∙◌, inl, inr, eqb, if◌then◌else◌, is_some, ◌||◌, subst}
use Rattle.std.specs.Option.{option_map}
use Rattle.imap_types.specs.declared.command.Command.{Command}
use Rattle.imap_types.specs.declared.command.Command.TheVariants as command
use Rattle.imap_types.specs.declared.response.Status.{Status}
use Rattle.imap_types.specs.declared.response.Status.TheVariants as status
use Rattle.told_folder.specs.Folders.{folder_number, uid_of, held_in, messages_in, message_in, mark_in, with_messages}
use Rattle.told_folder.specs.Keyed.{cut_keyed}
use Rattle.told_folder.specs.declared.exchange.Exchange.{Exchange}
use Rattle.told_folder.specs.declared.message.Folder.{Folder}
use Rattle.told_folder.specs.declared.message.NumberedFolder.{NumberedFolder}
use Rattle.told_folder.specs.declared.message.Message.{Message}
use Rattle.told_folder.proofs.IndexLemmas.{mark_of}
use Rattle.told_folder.proofs.KeyedLemmas.{some_is_not_none, some_same}
use Rattle.told_mail.specs.Mail.{Mail, named, Cuts, IsMail, IsNextMail, with_message, without_message}
use Rattle.told_mail.specs.Told.{Told, counted_up}
use Rattle.told_mail.proofs.NameLemmas.{named_held}
use Rattle.told_mail.proofs.NextLemmas.{without_message_next}
use Rattle.told_mail.proofs.OnceLemmas.{mark_cut, marks_from}
use Rattle.told_changes.specs.declared.landing.Landing.{Landing}
use Rattle.told_changes.specs.Landings.{landing, landing_in, landed_uid, is_contradicted, is_below_next, target_of, told_landing, told_landing_as, unless_contradicted}
use Rattle.told_changes.specs.Changes.{with_moved}
use Rattle.told_changes.specs.reading.Steps.{IsFree, Steps}
use Rattle.told_changes.proofs.Changing.{mark_free, moved_next}
use Rattle.told_changes.proofs.Steps.{steps_counted}

-- the message that is taken out by the mark of one that is held is that one
pub taken_is : (m : Mail) (i : IsMail m) (from uid : ℕ) (x : Message) → message_in m.folders from uid ≡ Some x → (new : Mail) (y : Message) → Cuts m new x.mark y
    → (y ≡ x) × (new ≡ without_message m (from, uid))
taken_is m i from uid x found new y cuts =
    let at : mark_in m.folders (from, uid) ≡ Some x.mark = ap (option_map mark_of) found in
    let was : mark_in m.folders cuts.place ≡ Some x.mark = ap (option_map mark_of) cuts.held ∙ ap (λ v. Some v) cuts.marked in
    let same : cuts.place ≡ (from, uid) = i.marks cuts.place (from, uid) x.mark was at in (
      some_same _ _ (sym cuts.held ∙ (ap (λ (p : ℕ × ℕ). message_in m.folders p.0 p.1) same ∙ found)),
      cuts.after ∙ ap (without_message m) same,
    )

-- ---- a place that is free

held_after : (hs : List NumberedFolder) (n : ℕ) (xs : List Message) (j : ℕ) → is_some (held_in (with_messages hs n xs) j) ≡ is_some (held_in hs j)
held_after [] n xs j = refl
held_after (h ∷ hs) n xs j =
    elim (eqb (folder_number h) n) as (λ b. is_some (held_in (if b then record h { messages = xs } ∷ hs else h ∷ with_messages hs n xs) j) ≡ is_some (held_in (h ∷ hs) j)) [
      | true ↦ elim (eqb (folder_number h) j) as (λ b. is_some (if b then Some (record h { messages = xs }) else held_in hs j) ≡ is_some (if b then Some h else held_in hs j))
          [ true ↦ refl | false ↦ refl ]
      | false ↦ elim (eqb (folder_number h) j) as (λ b. is_some (if b then Some h else held_in (with_messages hs n xs) j) ≡ is_some (if b then Some h else held_in hs j))
          [ true ↦ refl | false ↦ held_after hs n xs j ]
    ]

-- it is free still once a message is taken out
pub free_after : (m : Mail) (place : ℕ × ℕ) (l : Landing) → IsFree m l → IsFree (without_message m place) l
free_after m place l f =
    let hs : List NumberedFolder = m.folders in
    let xs : List Message = messages_in hs place.0 in
    let ys : List Message = cut_keyed uid_of place.1 xs in
    let was : (q : ℕ × ℕ) (k : ℕ) → mark_in (with_messages hs place.0 ys) q ≡ Some k → mark_in hs q ≡ Some k =
    λ q k e. elim (marks_from hs place.0 ys q k e) [
      | inl a ↦ ap (λ j. mark_in hs (j, q.1)) a.0 ∙ mark_cut place.1 xs q.1 k a.1
      | inr b ↦ b.1
    ] in
    record {
      there = held_after hs place.0 ys l.folder ∙ f.there;
      free =
          elim (message_in (with_messages hs place.0 ys) l.folder l.uid) as (λ (o : Option Message). message_in (with_messages hs place.0 ys) l.folder l.uid ≡ o → o ≡ None) [
            | None ↦ λ e. refl
            | Some x ↦ λ e. absurd (some_is_not_none x.mark (sym (was (l.folder, l.uid) x.mark (ap (option_map mark_of) e)) ∙ ap (option_map mark_of) f.free))
          ] refl;
    }

-- ---- a landing that is told

neither : (a b : Bool) → (a || b) ≡ false → b ≡ false
neither true b e = absurd (cc)
neither false b e = e

none_of : {A : Type 0} (o : Option A) → is_some o ≡ false → o ≡ None
none_of None e = refl
none_of (Some a) e = absurd (cc)

module _ (m : Mail) (i : IsMail m) where
  target_held : (name : List ℕ) (f : Folder) → option_map (λ (h : NumberedFolder). h.folder) (named m.folders name) ≡ Some f → is_some (held_in m.folders f.number) ≡ true
  target_held name f e = by (named m.folders name) refl e
    where
      by : (o : Option NumberedFolder) → named m.folders name ≡ o → option_map (λ (h : NumberedFolder). h.folder) o ≡ Some f → is_some (held_in m.folders f.number) ≡ true
      by None t g = absurd (some_is_not_none f (sym g))
      by (Some h) t g = ap (λ (z : Folder). is_some (held_in m.folders z.number)) (sym (some_same h.folder f g)) ∙ ap is_some (named_held m.folders name h i.numbers t)

  target_there : (c : Command) (f : Folder) → target_of m c ≡ Some f → is_some (held_in m.folders f.number) ≡ true
  target_there (command.Move uid name) f e = target_held name f e
  target_there (command.Append name flags date message) f e = target_held name f e
  target_there _ f e = absurd (cc)

  landing_there : (x : Exchange) (k : Landing) (o : Option Folder) → target_of m x.command ≡ o → landing_in m.next_mark x.command x.responses x.code o ≡ Some k
      → is_some (held_in m.folders k.folder) ≡ true
  landing_there x k None t e = absurd (some_is_not_none k (sym e))
  landing_there x k (Some f) t e = by (landed_uid m.next_mark f.validity x.command x.responses x.code) e
    where
      by : (u : Option ℕ) → option_map (λ (uid : ℕ). record { folder = f.number; uid = uid }) u ≡ Some k → is_some (held_in m.folders k.folder) ≡ true
      by None g = absurd (some_is_not_none k (sym g))
      by (Some uid) g = ap (λ (z : Landing). is_some (held_in m.folders z.folder)) (sym (some_same _ _ g)) ∙ target_there x.command f t

  landing_at : (x : Exchange) (l : Landing) (o : Option Landing) → landing m x ≡ o → unless_contradicted m x.command o ≡ Some l → IsFree m l
  landing_at x l None t e = absurd (some_is_not_none l (sym e))
  landing_at x l (Some k) t e =
      elim (is_contradicted m (target_of m x.command) k) as (λ b. is_contradicted m (target_of m x.command) k ≡ b → (if b then None else Some k) ≡ Some l → IsFree m l) [
        | true ↦ λ s f. absurd (some_is_not_none l (sym f))
        | false ↦ λ s f. subst (IsFree m) (some_same k l f) (record {
          there = landing_there x k (target_of m x.command) refl t;
          free = none_of (message_in m.folders k.folder k.uid) (neither (is_below_next k.uid (target_of m x.command)) (is_some (message_in m.folders k.folder k.uid)) s);
        })
      ] refl e

  -- the place where a message is told to have gone is free
  pub landing_free : (x : Exchange) (l : Landing) → told_landing m x ≡ Some l → IsFree m l
  landing_free x l e = by x.status e
    where
      by : (s : Status) → told_landing_as s m x ≡ Some l → IsFree m l
      by status.Ok f = landing_at x l (landing m x) refl f
      by _ f = absurd (some_is_not_none l (sym f))

-- what is told is what the code says
landing_told : (m : Mail) (x : Exchange) (l : Landing) (o : Option Landing) → unless_contradicted m x.command o ≡ Some l → o ≡ Some l
landing_told m x l None e = e
landing_told m x l (Some k) e =
    elim (is_contradicted m (target_of m x.command) k) as (λ b. (if b then None else Some k) ≡ Some l → Some k ≡ Some l) [
      | true ↦ λ f. absurd (some_is_not_none l (sym f))
      | false ↦ λ f. f
    ] e

pub landing_is : (m : Mail) (x : Exchange) (l : Landing) → told_landing m x ≡ Some l → landing m x ≡ Some l
landing_is m x l e = by x.status e
  where
    by : (s : Status) → told_landing_as s m x ≡ Some l → landing m x ≡ Some l
    by status.Ok f = landing_told m x l (landing m x) f
    by _ f = absurd (some_is_not_none l (sym f))

-- ---- a message that moves

module _ (a : Told) (i : IsMail a.mail) (from uid : ℕ) (l : Landing) (x y : Message) (found : Some x ≡ message_in a.mail.folders from uid) (mid : Told)
    (cuts : Cuts a.mail mid.mail x.mark y) where
  taken : (y ≡ x) × (mid.mail ≡ without_message a.mail (from, uid))
  taken = taken_is a.mail i from uid x (sym found) mid.mail y cuts

  -- its new place is free once it is taken out
  pub free_there : IsFree a.mail l → IsFree mid.mail l
  free_there f = subst (λ (m : Mail). IsFree m l) (sym taken.1) (free_after a.mail (from, uid) l f)

  -- and its mark is free
  pub mark_there : (p : ℕ × ℕ) → mark_in mid.mail.folders p ≡ Some y.mark → ⊥
  mark_there p e =
      let marked : y.mark ≡ x.mark = ap (λ (z : Message). z.mark) taken.0 in
      mark_free a.mail from uid x i (sym found) p (sym (ap (λ (m : Mail). mark_in m.folders p) taken.1) ∙ (e ∙ ap (λ (k : ℕ). Some k) marked))

  -- the mark was given before
  pub mark_given : y.mark < mid.mail.next_mark
  mark_given =
      let marked : y.mark ≡ x.mark = ap (λ (z : Message). z.mark) taken.0 in
      let next : mid.mail.next_mark ≡ a.mail.next_mark = ap (λ (m : Mail). m.next_mark) taken.1 in
      let less : x.mark < a.mail.next_mark = i.marks_below (from, uid) x.mark (ap (option_map mark_of) (sym found)) in
      omega (arith, marked, next, less)

  -- it has its new place
  pub moved_is : (b : Mail) → b ≡ with_message mid.mail l.folder (record y { uid = l.uid }) → b ≡ with_moved a.mail from uid l (message_in a.mail.folders from uid)
  moved_is b is =
      is
      ∙ (ap (λ (z : Message). with_message mid.mail l.folder (record z { uid = l.uid })) taken.0
      ∙ (ap (λ (m : Mail). with_message m l.folder (record x { uid = l.uid })) taken.1
      ∙ ap (with_moved a.mail from uid l) found))

  -- the mirror without it is a step, and the mirror with it again, too
  pub taken_steps : mid.changes ≡ counted_up a.changes → Steps a mid
  taken_steps counted = steps_counted a mid (subst (λ (m : Mail). IsNextMail a.mail m) (sym taken.1) (without_message_next a.mail (from, uid) i)) counted

  pub moved_steps : (b : Told) → b.mail ≡ with_message mid.mail l.folder (record y { uid = l.uid }) → mid.changes ≡ counted_up a.changes → b.changes ≡ counted_up mid.changes
      → Steps a b
  moved_steps b is once again = record {
    next = subst (λ (m : Mail). IsNextMail a.mail m) (sym (moved_is b.mail is)) (moved_next a.mail from uid l (message_in a.mail.folders from uid) refl i);
    rises = omega (arith, once, again);
    stands = λ e less. absurd (omega (arith, once, again, e, less));
  }
