-- The way of a message from one folder of the mail to another: its numbers fit, and the mail is the one that is due.
use Rattle.std.proofs.Common.{◌≡◌, ◌≢◌, ℕ, zero, suc, ◌+◌, ◌<◌, Bool, true, false, List, [], ◌∷◌}
use Rattle.std.proofs.Common.{Some, length, map, set, get_or, refl, sym, ap, ◌∙◌, arith, eq-eqb, eqb-true, ◌==◌, if◌then◌else◌}
use Rattle.std.proofs.lemmas.List.{length-map}
use Rattle.std.specs.List.{slice_get}
use Rattle.std.proofs.lemmas.Bool.{false≢true, leb-false, or_parts}
use Rattle.std.specs.Prelude.{nat_le}
use Rattle.std.proofs.lemmas.List.{get_or-set_same, get_or-set_other, length_push}
use Rattle.std.proofs.lemmas.Option.{get_or_from_slice_get, slice_get_within}
use Rattle.honest_store.specs.StoreMail.{StoreMessage, StoreFolder, StoreMail, NameUse}
use Rattle.honest_store.specs.WellFormed.{AscendByUid, IsStoreMail}
use Rattle.honest_store.specs.MessageChanges.{folder_with, folder_without}
use Rattle.small_answers.specs.Changes.{mail_with, mail_without}
use Rattle.small_answers.specs.Limits.{is_last_change, is_last_message}
use Rattle.small_mail.specs.Places.{IsFolderAt, IsMessageAt}
use Rattle.small_mail.proofs.Mails.{folder_at, mail_of}
use Rattle.small_mail.proofs.Moves.{ended, put, moved_between, moved_within, numbers_there}

-- ---- numbers that aren't at their end

pub message_room : (f : StoreFolder) → is_last_message f ≡ false → (f.highest < 9223372036854775807) × (f.uid_next < 4294967295)
message_room f fits =
    let both = or_parts (is_last_change f) (nat_le 4294967295 f.uid_next) fits in
    (leb-false 9223372036854775807 f.highest both.0, leb-false 4294967295 f.uid_next both.1)

pub element : {X : Type 0} (xs : List X) (n : ℕ) → n < length xs → (x : X) × (slice_get xs n ≡ Some x)
element [] n l = absurd (omega (arith, l))
element (x ∷ xs) zero l = (x, refl)
element (x ∷ xs) (suc n) l = element xs n (omega (arith, l))

-- what is asked of a message's way, and what its copy is
module _ (mail : StoreMail) (source at target : ℕ) (whole : IsStoreMail mail) (from : source < length mail.folders) (to : target < length mail.folders)
    (message : (f : StoreFolder) → IsFolderAt mail source f → at < length f.messages)
    (room : (f t : StoreFolder) (m : StoreMessage) → IsFolderAt mail source f → IsMessageAt f at m → IsFolderAt (mail_without mail (Some f) m.uid) target t
    → is_last_message t ≡ false) where
  -- the numbers of the target
  pub target_room : (x : StoreFolder) → IsFolderAt mail target x → (x.highest < 9223372036854775807) × (x.uid_next < 4294967295)
  target_room x there =
      let f = element mail.folders source from in
      let m = element f.0.messages at (message f.0 f.1) in
      let gone : StoreFolder = folder_without f.0 m.0.uid (f.0.highest + 1) in
      let t = element (map (put gone) mail.folders) target (omega (arith, to, length-map mail.folders (put gone))) in
      let fits = message_room t.0 (room f.0 t.0 m.0 f.1 m.1 t.1) in
      let numbers = numbers_there mail.folders source at target f.0 t.0 m.0 whole.numbers (folder_at mail source f.0 whole f.1).ascend f.1 m.1 t.1 x
      (sym (get_or_from_slice_get mail.folders target x x there)) in
      (omega (arith, fits.0, numbers.1), omega (arith, fits.1, numbers.0))

-- the message stands at its place while the copy has come
pub still_there : (fs : List StoreFolder) (source target at : ℕ) (f x g y : StoreFolder) (copy : StoreMessage) → slice_get fs source ≡ Some f → at < length f.messages
    → x ≡ get_or fs target x → g ≡ folder_with x copy (copy.uid + 1) → y ≡ get_or (set fs target g) source y → at < length y.messages
still_there fs source target at f x g y copy from l x_is g_is y_is = by (source == target) refl
  where
    by : (b : Bool) → (source == target) ≡ b → at < length y.messages
    by true e =
        let same : source ≡ target = eqb-true source target e in
        let x_f : x ≡ f = x_is ∙ (ap (λ (n : ℕ). get_or fs n x) (sym same) ∙ get_or_from_slice_get fs source f x from) in
        let y_g : y ≡ g = y_is ∙ (ap (λ (n : ℕ). get_or (set fs n g) source y) (sym same) ∙ get_or-set_same fs source g y (slice_get_within fs source f from)) in
        let count : length y.messages ≡ length f.messages + 1 =
        ap (λ (h : StoreFolder). length h.messages) (y_g ∙ (g_is ∙ ap (λ (h : StoreFolder). folder_with h copy (copy.uid + 1)) x_f)) ∙ length_push f.messages copy in
        omega (arith, l, count)
    by false e =
        let other : source ≢ target = λ same. false≢true (sym e ∙ eq-eqb source target same) in
        let y_f : y ≡ f = y_is ∙ (get_or-set_other fs target source g y other ∙ get_or_from_slice_get fs source f y from) in
        omega (arith, l, ap (λ (h : StoreFolder). length h.messages) y_f)

-- the copy comes, and the message ends
pub moved_mail : (fs : List StoreFolder) (us : List NameUse) (mail : StoreMail) (source at target : ℕ) (f t x g y z : StoreFolder) (m copy : StoreMessage) (q : ℕ)
    → mail_of fs us ≡ mail → IsStoreMail mail → IsFolderAt mail source f → IsMessageAt f at m → IsFolderAt (mail_without mail (Some f) m.uid) target t
    → IsFolderAt mail target x → g ≡ folder_with x copy (copy.uid + 1)
    → copy ≡ record m { uid = x.uid_next; modseq = if source == target then x.highest + 2 else x.highest + 1 }
    → y ≡ get_or (set fs target g) source y → q ≡ f.highest + 1 → ((n : StoreMessage) → IsMessageAt y at n → z ≡ ended y at n.uid q)
    → mail_of (set (set fs target g) source z) us ≡ mail_with (mail_without mail (Some f) m.uid) (Some t) m
moved_mail fs us mail source at target f t x g y z m copy q is whole from there to at_x g_is copy_is y_is q_is z_is =
    let folders : fs ≡ mail.folders = ap (λ (n : StoreMail). n.folders) is in
    let gone : StoreFolder = folder_without f m.uid (f.highest + 1) in
    let come : StoreFolder = folder_with t (record m { uid = t.uid_next; modseq = t.highest + 1 }) (t.uid_next + 1) in
    let ascend = (folder_at mail source f whole from).ascend in
    let x_is : x ≡ get_or mail.folders target x = sym (get_or_from_slice_get mail.folders target x x at_x) in
    let y_at : y ≡ get_or (set mail.folders target (folder_with x copy (copy.uid + 1))) source y =
    y_is ∙ (ap (λ (gs : List StoreFolder). get_or (set gs target g) source y) folders ∙ ap (λ (h : StoreFolder). get_or (set mail.folders target h) source y) g_is) in
    let z_at : (n : StoreMessage) → slice_get y.messages at ≡ Some n → z ≡ ended y at n.uid (f.highest + 1) =
    λ n e. z_is n e ∙ ap (λ (k : ℕ). ended y at n.uid k) q_is in
    let due : set (set mail.folders target (folder_with x copy (copy.uid + 1))) source z ≡ map (put come) (map (put gone) mail.folders) =
    by (source == target) refl copy_is x_is y_at z_at ascend in
    ap (λ (gs : List StoreFolder). mail_of (set (set gs target g) source z) us) folders
    ∙ (ap (λ (h : StoreFolder). mail_of (set (set mail.folders target h) source z) us) g_is
    ∙ (ap (λ (gs : List StoreFolder). mail_of gs us) due
    ∙ ap (λ (n : StoreMail). record n { folders = map (put come) (map (put gone) mail.folders) }) is))
  where
    by : (b : Bool) → (source == target) ≡ b → copy ≡ record m { uid = x.uid_next; modseq = if b then x.highest + 2 else x.highest + 1 }
        → x ≡ get_or mail.folders target x
        → y ≡ get_or (set mail.folders target (folder_with x copy (copy.uid + 1))) source y
        → ((n : StoreMessage) → slice_get y.messages at ≡ Some n → z ≡ ended y at n.uid (f.highest + 1))
        → AscendByUid 0 f.messages
        → set (set mail.folders target (folder_with x copy (copy.uid + 1))) source z
        ≡ map (put (folder_with t (record m { uid = t.uid_next; modseq = t.highest + 1 }) (t.uid_next + 1))) (map (put (folder_without f m.uid (f.highest + 1))) mail.folders)
    by true e copy_is x_is y_at z_at ascend =
        moved_within mail.folders source at target f t m whole.numbers ascend from there to x y z copy (eqb-true source target e) x_is copy_is y_at z_at
    by false e copy_is x_is y_at z_at ascend =
        moved_between mail.folders source at target f t m whole.numbers ascend from there to x y z copy
        (λ same. false≢true (sym e ∙ eq-eqb source target same)) x_is copy_is y_at z_at
