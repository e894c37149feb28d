-- A message that ends at its place, and one that comes to another folder.
use Rattle.std.proofs.Common.{◌≡◌, ◌≢◌, ℕ, ◌+◌, ◌<◌, max, Bool, true, false, List, [], ◌∷◌, ◌++◌, Option, Some, None}
use Rattle.std.proofs.Common.{length, map, set, get_or, refl, sym, ap, ◌∙◌, subst, arith, eq-eqb, eqb-true, ◌==◌, ◌≤◌, if◌then◌else◌, AllPairs}
use Rattle.std.specs.List.{remove, slice_get}
use Rattle.std.specs.Option.{option_map}
use Rattle.std.proofs.lemmas.Bool.{false≢true}
use Rattle.std.proofs.lemmas.List.{get_or-set_same, get_or-set_other, set-set, set_comm, set-get_or, get_or_default, get_or_append_left, length_push}
use Rattle.std.proofs.lemmas.List.Edits.{remove-append_left}
use Rattle.std.proofs.lemmas.Option.{get_or_from_slice_get, slice_get_within, slice_get-get_or, slice_get-map, none-some, same_Some}
use Rattle.honest_store.specs.StoreMail.{StoreMessage, StoreFolder}
use Rattle.honest_store.specs.WellFormed.{AscendByUid}
use Rattle.honest_store.specs.MessageChanges.{folder_with, folder_without}
use Rattle.small_mail.proofs.Only.{OnlyPasses, only_map, map_only}
use Rattle.small_mail.proofs.Messages.{removed_is}
use Rattle.small_mail.proofs.Folders.{only_number, put_is}

-- without the message at this place, which had this UID and went at this mod-sequence
abbrev pub ended : StoreFolder → ℕ → ℕ → ℕ → StoreFolder
ended f at u modseq = record f {
  highest = max f.highest modseq;
  messages = remove f.messages at;
  expunged = f.expunged ++ record { uid = u; modseq = modseq } ∷ [];
}

pub ended_is : (f : StoreFolder) (at : ℕ) (m : StoreMessage) → AscendByUid 0 f.messages → slice_get f.messages at ≡ Some m
    → ended f at m.uid (f.highest + 1) ≡ folder_without f m.uid (f.highest + 1)
ended_is f at m ascend there =
    let top : max f.highest (f.highest + 1) ≡ f.highest + 1 = omega arith in
    let left = removed_is f.messages at m ascend there in
    λ i. record f { highest = top i; messages = left i; expunged = f.expunged ++ record { uid = m.uid; modseq = f.highest + 1 } ∷ [] }

-- ---- from one folder to another

abbrev pub put : StoreFolder → StoreFolder → StoreFolder
put g x = if x.number == g.number then g else x

put_number : (g x : StoreFolder) → (put g x).number ≡ x.number
put_number g x = by (x.number == g.number) refl
  where
    by : (b : Bool) → (x.number == g.number) ≡ b → (if b then g else x).number ≡ x.number
    by true same = sym (eqb-true x.number g.number same)
    by false other = refl

came_from : (h : StoreFolder → StoreFolder) (o : Option StoreFolder) (t : StoreFolder) → option_map h o ≡ Some t → (x : StoreFolder) × (o ≡ Some x) × (h x ≡ t)
came_from h None t e = absurd (none-some t e)
came_from h (Some x) t e = (x, refl, same_Some (h x) t e)

in_front : (ms : List StoreMessage) (n : ℕ) (m c : StoreMessage) → slice_get ms n ≡ Some m → slice_get (ms ++ c ∷ []) n ≡ Some m
in_front ms n m c e =
    let l : n < length ms = slice_get_within ms n m e in
    slice_get-get_or (ms ++ c ∷ []) n m (omega (arith, l, length_push ms c))
    ∙ ap (λ (x : StoreMessage). Some x) (get_or_append_left ms (c ∷ []) m n l ∙ get_or_from_slice_get ms n m m e)

module _ (fs : List StoreFolder) (source at target : ℕ) (f t : StoreFolder) (m : StoreMessage) (apart : AllPairs (λ (f g : StoreFolder). f.number ≢ g.number) fs)
    (ascend : AscendByUid 0 f.messages) (from : slice_get fs source ≡ Some f) (there : slice_get f.messages at ≡ Some m)
    (to : slice_get (map (put (folder_without f m.uid (f.highest + 1))) fs) target ≡ Some t) where
  abbrev gone : StoreFolder
  gone = folder_without f m.uid (f.highest + 1)

  abbrev come : StoreFolder
  come = folder_with t (record m { uid = t.uid_next; modseq = t.highest + 1 }) (t.uid_next + 1)

  left_is : map (put gone) fs ≡ set fs source gone
  left_is = sym (put_is fs source f from gone apart refl)

  only_target : OnlyPasses (λ (x : StoreFolder). x.number == t.number) (map (put gone) fs) target
  only_target =
      let was = came_from (put gone) (slice_get fs target) t (sym (slice_get-map (put gone) fs target) ∙ to) in
      let number : was.0.number ≡ t.number = sym (put_number gone was.0) ∙ ap (λ (x : StoreFolder). x.number) was.2 in
      only_map (λ (x : StoreFolder). x.number == t.number) (put gone) (λ x. ap (λ (n : ℕ). n == t.number) (put_number gone x)) fs target
      (subst (λ (n : ℕ). OnlyPasses (λ (x : StoreFolder). x.number == n) fs target) number (only_number fs target was.0 was.1 apart))

  -- what is due
  due_is : map (put come) (map (put gone) fs) ≡ set (set fs source gone) target come
  due_is = map_only (λ (x : StoreFolder). x.number == t.number) (λ x. come) (map (put gone) fs) target t only_target ∙ ap (λ (gs : List StoreFolder). set gs target come) left_is

  at_target : (d : StoreFolder) → get_or (set fs source gone) target d ≡ t
  at_target d = ap (λ (gs : List StoreFolder). get_or gs target d) (sym left_is) ∙ get_or_from_slice_get (map (put gone) fs) target t d to

  -- into another folder
  pub moved_between : (x y z : StoreFolder) (copy : StoreMessage) → source ≢ target → x ≡ get_or fs target x
      → copy ≡ record m { uid = x.uid_next; modseq = x.highest + 1 }
      → y ≡ get_or (set fs target (folder_with x copy (copy.uid + 1))) source y
      → ((n : StoreMessage) → slice_get y.messages at ≡ Some n → z ≡ ended y at n.uid (f.highest + 1))
      → set (set fs target (folder_with x copy (copy.uid + 1))) source z ≡ map (put come) (map (put gone) fs)
  moved_between x y z copy other x_is copy_is y_is z_is =
      let x_t : x ≡ t = x_is ∙ (sym (get_or-set_other fs source target gone x (λ e. other (sym e))) ∙ at_target x) in
      let y_f : y ≡ f = y_is ∙ (get_or-set_other fs target source (folder_with x copy (copy.uid + 1)) y other ∙ get_or_from_slice_get fs source f y from) in
      let z_gone : z ≡ gone = z_is m (ap (λ (g : StoreFolder). slice_get g.messages at) y_f ∙ there)
      ∙ (ap (λ (g : StoreFolder). ended g at m.uid (f.highest + 1)) y_f ∙ ended_is f at m ascend there) in
      let copied : copy ≡ record m { uid = t.uid_next; modseq = t.highest + 1 } =
      copy_is ∙ ap (λ (g : StoreFolder). record m { uid = g.uid_next; modseq = g.highest + 1 }) x_t in
      let come_is : folder_with x copy (copy.uid + 1) ≡ come =
      ap (λ (g : StoreFolder). folder_with g copy (copy.uid + 1)) x_t ∙ ap (λ (c : StoreMessage). folder_with t c (c.uid + 1)) copied in
      ap (λ (g : StoreFolder). set (set fs target g) source z) come_is ∙ (ap (λ (g : StoreFolder). set (set fs target come) source g) z_gone
      ∙ (set_comm fs target source come gone (λ e. other (sym e)) ∙ sym due_is))

  abbrev copied : StoreMessage
  copied = record m { uid = f.uid_next; modseq = f.highest + 1 + 1 }

  ended_put : ended (folder_with f copied (f.uid_next + 1)) at m.uid (f.highest + 1) ≡ folder_with gone copied (f.uid_next + 1)
  ended_put =
      let top : max (f.highest + 1 + 1) (f.highest + 1) ≡ f.highest + 1 + 1 = omega arith in
      let left : remove (f.messages ++ copied ∷ []) at ≡ gone.messages ++ copied ∷ [] =
      remove-append_left f.messages (copied ∷ []) at (slice_get_within f.messages at m there)
      ∙ ap (λ (ms : List StoreMessage). ms ++ copied ∷ []) (removed_is f.messages at m ascend there) in
      λ i. record f {
        highest = top i;
        uid_next = f.uid_next + 1;
        messages = left i;
        expunged = f.expunged ++ record { uid = m.uid; modseq = f.highest + 1 } ∷ [];
      }

  -- within the folder
  pub moved_within : (x y z : StoreFolder) (copy : StoreMessage) → source ≡ target → x ≡ get_or fs target x
      → copy ≡ record m { uid = x.uid_next; modseq = x.highest + 2 }
      → y ≡ get_or (set fs target (folder_with x copy (copy.uid + 1))) source y
      → ((n : StoreMessage) → slice_get y.messages at ≡ Some n → z ≡ ended y at n.uid (f.highest + 1))
      → set (set fs target (folder_with x copy (copy.uid + 1))) source z ≡ map (put come) (map (put gone) fs)
  moved_within x y z copy same x_is copy_is y_is z_is =
      let within : source < length fs = slice_get_within fs source f from in
      let x_f : x ≡ f = x_is ∙ (ap (λ (n : ℕ). get_or fs n x) (sym same) ∙ get_or_from_slice_get fs source f x from) in
      let plus : f.highest + 2 ≡ f.highest + 1 + 1 = omega arith in
      let copy_f : copy ≡ copied = copy_is ∙ (ap (λ (g : StoreFolder). record m { uid = g.uid_next; modseq = g.highest + 2 }) x_f
      ∙ ap (λ (q : ℕ). record m { uid = f.uid_next; modseq = q }) plus) in
      let with_copy : folder_with x copy (copy.uid + 1) ≡ folder_with f copied (f.uid_next + 1) =
      ap (λ (g : StoreFolder). folder_with g copy (copy.uid + 1)) x_f ∙ ap (λ (c : StoreMessage). folder_with f c (c.uid + 1)) copy_f in
      let y_g : y ≡ folder_with f copied (f.uid_next + 1) = y_is ∙ (ap (λ (n : ℕ). get_or (set fs n (folder_with x copy (copy.uid + 1))) source y) (sym same)
      ∙ (get_or-set_same fs source (folder_with x copy (copy.uid + 1)) y within ∙ with_copy)) in
      let held : slice_get (f.messages ++ copied ∷ []) at ≡ Some m = in_front f.messages at m copied there in
      let z_g : z ≡ folder_with gone copied (f.uid_next + 1) = z_is m (ap (λ (h : StoreFolder). slice_get h.messages at) y_g ∙ held)
      ∙ (ap (λ (h : StoreFolder). ended h at m.uid (f.highest + 1)) y_g ∙ ended_put) in
      let t_gone : t ≡ gone = sym (at_target t) ∙ (ap (λ (n : ℕ). get_or (set fs source gone) n t) (sym same) ∙ get_or-set_same fs source gone t within) in
      let come_is : folder_with gone copied (f.uid_next + 1) ≡ come =
      sym (ap (λ (h : StoreFolder). folder_with h (record m { uid = h.uid_next; modseq = h.highest + 1 }) (h.uid_next + 1)) t_gone) in
      ap (λ (n : ℕ). set (set fs n (folder_with x copy (copy.uid + 1))) source z) (sym same)
      ∙ (set-set fs source (folder_with x copy (copy.uid + 1)) z ∙ (ap (λ (h : StoreFolder). set fs source h) (z_g ∙ come_is)
      ∙ (sym (set-set fs source gone come) ∙ (ap (λ (n : ℕ). set (set fs source gone) n come) same ∙ sym due_is))))

  -- the numbers that the other folder has when the message has gone are those that it had, or higher
  pub numbers_there : (x : StoreFolder) → x ≡ get_or fs target x → (x.uid_next ≡ t.uid_next) × (x.highest ≤ t.highest)
  numbers_there x x_is = by (source == target) refl
    where
      by : (b : Bool) → (source == target) ≡ b → (x.uid_next ≡ t.uid_next) × (x.highest ≤ t.highest)
      by true e =
          let same : source ≡ target = eqb-true source target e in
          let x_f : x ≡ f = x_is ∙ (ap (λ (n : ℕ). get_or fs n x) (sym same) ∙ get_or_from_slice_get fs source f x from) in
          let t_gone : t ≡ gone = sym (at_target t) ∙ (ap (λ (n : ℕ). get_or (set fs source gone) n t) (sym same)
          ∙ get_or-set_same fs source gone t (slice_get_within fs source f from)) in (
            ap (λ (g : StoreFolder). g.uid_next) x_f ∙ sym (ap (λ (g : StoreFolder). g.uid_next) t_gone),
            omega (arith, ap (λ (g : StoreFolder). g.highest) x_f, ap (λ (g : StoreFolder). g.highest) t_gone),
          )
      by false e =
          let other : target ≢ source = λ same. false≢true (sym e ∙ eq-eqb source target (sym same)) in
          let x_t : x ≡ t = x_is ∙ (sym (get_or-set_other fs source target gone x other) ∙ at_target x) in
          (ap (λ (g : StoreFolder). g.uid_next) x_t, omega (arith, ap (λ (g : StoreFolder). g.highest) x_t))

-- two that were read at one place
pub same_read : (fs : List StoreFolder) (p : ℕ) (x y : StoreFolder) → p < length fs → x ≡ get_or fs p x → y ≡ get_or fs p y → x ≡ y
same_read fs p x y within x_is y_is = x_is ∙ (get_or_default fs p x y within ∙ sym y_is)

-- the copy comes, the message doesn't end, and the copy is taken back
pub moved_back : (fs : List StoreFolder) (source target : ℕ) (x g y kept w back : StoreFolder) (copy : StoreMessage) (uid_next highest : ℕ) → target < length fs
    → x ≡ get_or fs target x → g ≡ folder_with x copy (copy.uid + 1) → y ≡ get_or (set fs target g) source y → kept ≡ y
    → w ≡ get_or (set (set fs target g) source kept) target w
    → ((ms : List StoreMessage) (m : StoreMessage) → w.messages ≡ ms ++ m ∷ [] → back ≡ record w { highest = highest; uid_next = uid_next; messages = ms })
    → uid_next ≡ x.uid_next → highest ≡ x.highest → set (set (set fs target g) source kept) target back ≡ fs
moved_back fs source target x g y kept w back copy uid_next highest within x_is g_is y_is kept_is w_is back_is uid_next_is highest_is =
    let still : set (set fs target g) source kept ≡ set fs target g =
    ap (λ (h : StoreFolder). set (set fs target g) source h) (kept_is ∙ y_is) ∙ set-get_or (set fs target g) source y in
    let w_g : w ≡ folder_with x copy (copy.uid + 1) =
    w_is ∙ (ap (λ (gs : List StoreFolder). get_or gs target w) still ∙ (get_or-set_same fs target g w within ∙ g_is)) in
    let back_x : back ≡ x = back_is x.messages copy (ap (λ (h : StoreFolder). h.messages) w_g)
    ∙ (ap (λ (h : StoreFolder). record h { highest = highest; uid_next = uid_next; messages = x.messages }) w_g
    ∙ (λ i. record x { highest = highest_is i; uid_next = uid_next_is i })) in
    ap (λ (gs : List StoreFolder). set gs target back) still ∙ (ap (λ (h : StoreFolder). set (set fs target g) target h) back_x
    ∙ (set-set fs target g x ∙ (ap (λ (h : StoreFolder). set fs target h) x_is ∙ set-get_or fs target x)))
