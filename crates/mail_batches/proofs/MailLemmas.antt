-- Marks and places of messages in mail.
use Rattle.std.proofs.Common.{◌≡◌, ◌≢◌, ◌↔◌, ◌<◌, ℕ, Bool, true, false, not, List, [], ◌∷◌, Option, Some, None, option_map, refl, sym, ap, subst, ◌∙◌, inl, inr, arith}
use Rattle.std.specs.Prelude.{MatchOption, IsTrue, is_some}
use Rattle.told_folder.specs.Keyed.{AllAbove, Ascends, with_key}
use Rattle.told_folder.proofs.SameLemmas.{folder_decides}
use Rattle.told_folder.specs.contracts.message.FolderPartialEq.TheImpl.{eq-value as folder_eq}
use Rattle.told_folder.specs.declared.message.Folder.{Folder}
use Rattle.told_folder.specs.declared.message.Message.{Message}
use Rattle.told_folder.specs.declared.message.NumberedFolder.{NumberedFolder}
use Rattle.told_mail.specs.Mail.{Mail, IsMail, folder_number, held_in, mark_in, message_in, messages_of, uid_of}
use Rattle.mail_batches.specs.Between.{HasMark}
use Rattle.mail_batches.specs.Steps.{moved}
use Rattle.mail_batches.specs.Tables.{StandsAs}
use Rattle.mail_batches.specs.reading.Adding.{AnyOf, HasLost, HasOther, IsLost, IsOther, IsOtherAt}
use Rattle.mail_batches.specs.declared.placed.Placed.{Placed}
use Rattle.mail_batches.proofs.Found.{found_key, one_some, passed, same_or_other, some_none, taken}
use Rattle.mail_batches.proofs.Once.{ascends_found}

-- ---- elements by their keys

module _ {X : Type 0} (key : X → ℕ) where
  -- what is found is above what all are above
  pub above_found : (n k : ℕ) (xs : List X) (x : X) → AllAbove key n xs → with_key key k xs ≡ Some x → n < key x
  above_found n k [] x up e = absurd (some_none x (sym e))
  above_found n k (y ∷ ys) x up e = elim (same_or_other (key y) k) [
    | inl same ↦ subst (λ (z : X). n < key z) (one_some y x (sym (taken key k y ys same) ∙ e)) up.0
    | inr other ↦ above_found n k ys x up.1 (sym (passed key k y ys other) ∙ e)
  ]

  -- an element is found by its key
  pub element_found : (P : X → Type 0) (xs : List X) → Ascends key xs → AnyOf P xs → (x : X) × (with_key key (key x) xs ≡ Some x) × P x
  element_found P [] up n = absurd n
  element_found P (x ∷ xs) up (inl p) = (x, taken key (key x) x xs refl, p)
  element_found P (x ∷ xs) up (inr r) =
      let f = element_found P xs up.1 r in
      let lt : key x < key f.0 = above_found (key x) (key f.0) xs f.0 up.0 f.1 in
      let other : key x ≢ key f.0 = λ same. omega (arith, lt, same) in
      (f.0, passed key (key f.0) x xs other ∙ f.1, f.2)

  -- what is found is an element
  pub found_element : (P : X → Type 0) (k : ℕ) (xs : List X) (x : X) → with_key key k xs ≡ Some x → P x → AnyOf P xs
  found_element P k [] x e p = absurd (some_none x (sym e))
  found_element P k (y ∷ ys) x e p = elim (same_or_other (key y) k) [
    | inl same ↦ inl (subst P (one_some x y (sym e ∙ taken key k y ys same)) p)
    | inr other ↦ inr (found_element P k ys x (sym (passed key k y ys other) ∙ e) p)
  ]

-- ---- marks

abbrev mark_of : Message → ℕ
mark_of x = x.mark

pub some_of : (o : Option Message) (q : ℕ) → option_map mark_of o ≡ Some q → (x : Message) × (o ≡ Some x) × (x.mark ≡ q)
some_of None q e = absurd (some_none q (sym e))
some_of (Some x) q e = (x, refl, one_some x.mark q e)

-- a message of the mark stands where it is found
pub stands : (m : Mail) (n u q : ℕ) (x : Message) → message_in m.folders n u ≡ Some x → x.mark ≡ q → StandsAs m q (record { folder = n; message = x })
stands m n u q x e marked =
    let uid : x.uid ≡ u = found_key uid_of u (messages_of (held_in m.folders n)) x e in
    record { there = ap (λ (v : ℕ). message_in m.folders n v) uid ∙ e; marked = marked }

pub mark_stands : (m : Mail) (p : ℕ × ℕ) (q : ℕ) → mark_in m.folders p ≡ Some q → HasMark m q
mark_stands m p q e =
    let f = some_of (message_in m.folders p.0 p.1) q e in
    (record { folder = p.0; message = f.0 }, stands m p.0 p.1 q f.0 f.1 f.2)

pub stands_mark : (m : Mail) (q : ℕ) (p : Placed) → StandsAs m q p → mark_in m.folders (p.folder, p.message.uid) ≡ Some q
stands_mark m q p s = ap (option_map mark_of) s.there ∙ ap (λ (k : ℕ). Some k) s.marked

-- a mark stands at one place
pub one_stands : (m : Mail) → IsMail m → (q : ℕ) (p r : Placed) → StandsAs m q p → StandsAs m q r → p ≡ r
one_stands m is q p r s t =
    let places : ◌≡◌ {A = ℕ × ℕ} (p.folder, p.message.uid) (r.folder, r.message.uid)
    = is.marks (p.folder, p.message.uid) (r.folder, r.message.uid) q (stands_mark m q p s) (stands_mark m q r t) in
    let message : p.message ≡ r.message
    = one_some p.message r.message (sym s.there ∙ ap (λ (x : ℕ × ℕ). message_in m.folders x.0 x.1) places ∙ t.there) in
    let folder : p.folder ≡ r.folder = ap (λ (x : ℕ × ℕ). x.0) places in
    λ i. record { folder = folder i; message = message i }

abbrev pub TellsPlace : Mail → ℕ → Option (ℕ × ℕ) → Type 0
TellsPlace m q o = MatchOption o ((p : ℕ × ℕ) → mark_in m.folders p ≢ Some q) (λ p. mark_in m.folders p ≡ Some q)

pub mark_told : (m : Mail) (q : ℕ) (o : Option (ℕ × ℕ)) → TellsPlace m q o → IsTrue (is_some o) ↔ HasMark m q
mark_told m q None h = (λ e. absurd (cc), λ k. absurd (h (k.0.folder, k.0.message.uid) (stands_mark m q k.0 k.1)))
mark_told m q (Some p) h = (λ e. mark_stands m p q h, λ k. refl)

pub no_mark : (m : Mail) (q : ℕ) → ((p : ℕ × ℕ) → mark_in m.folders p ≢ Some q) → HasMark m q → ⊥
no_mark m q none k = none (k.0.folder, k.0.message.uid) (stands_mark m q k.0 k.1)

pub message_there : (m : Mail) (p : ℕ × ℕ) (q : ℕ) → mark_in m.folders p ≡ Some q → message_in m.folders p.0 p.1 ≡ None → ⊥
message_there m p q e none = let f = some_of (message_in m.folders p.0 p.1) q e in some_none f.0 (sym f.1 ∙ none)

pub placed_stands : (m : Mail) (p : ℕ × ℕ) (q : ℕ) (x : Message) → mark_in m.folders p ≡ Some q → message_in m.folders p.0 p.1 ≡ Some x → StandsAs m q (record { folder = p.0; message = x })
placed_stands m p q x e at =
    let f = some_of (message_in m.folders p.0 p.1) q e in
    stands m p.0 p.1 q x at (ap mark_of (one_some x f.0 (sym at ∙ f.1)) ∙ f.2)

-- ---- another place or other flags

module _ (m : Mail) (folder : ℕ) (x : Message) (at : ℕ) (w : Message) (stood : StandsAs m x.mark (record { folder = at; message = w })) where
  pub other_folder : at ≢ folder → IsOther m folder x
  other_folder other = record { was = record { folder = at; message = w }; stood = stood; differs = λ e. other (sym (ap (λ (p : Placed). p.folder) e)) }

  pub other_uid : w.uid ≢ x.uid → IsOther m folder x
  other_uid other = record { was = record { folder = at; message = w }; stood = stood; differs = λ e. other (sym (ap (λ (p : Placed). p.message.uid) e)) }

  other_flags : w.flags ≢ x.flags → IsOther m folder x
  other_flags other = record { was = record { folder = at; message = w }; stood = stood; differs = λ e. other (sym (ap (λ (p : Placed). p.message.flags) e)) }

  not_other : IsMail m → at ≡ folder → w.uid ≡ x.uid → w.flags ≡ x.flags → IsOther m folder x → ⊥
  not_other is at_folder uid flags o =
      let here : Placed = record { folder = at; message = w } in
      let same : moved here folder x.uid x.flags ≡ here = λ i. record { folder = sym at_folder i; message = record w { uid = sym uid i; flags = sym flags i } } in
      o.differs (subst (λ (p : Placed). moved p folder x.uid x.flags ≡ p) (one_stands m is x.mark here o.was stood o.stood) same)

  pub told_by_flags : (b : Bool) → IsMail m → at ≡ folder → w.uid ≡ x.uid → IsTrue b ↔ (w.flags ≡ x.flags) → IsTrue (not b) ↔ IsOther m folder x
  told_by_flags true is f u both = (λ e. absurd (cc), λ o. absurd (not_other is f u (both.0 refl) o))
  told_by_flags false is f u both = (λ e. other_flags (λ same. absurd (false_true (both.1 same))), λ o. refl)
    where
      false_true : IsTrue false → ⊥
      false_true e = cc

pub none_other : (m : Mail) (folder : ℕ) (x : Message) → (HasMark m x.mark → ⊥) → IsOther m folder x → ⊥
none_other m folder x none o = none (o.was, o.stood)

-- ---- marks that are in one mail, and in the other not or otherwise

pub held_of : (o : Option NumberedFolder) (u : ℕ) (x : Message) → with_key uid_of u (messages_of o) ≡ Some x → (h : NumberedFolder) × (o ≡ Some h) × (with_key uid_of u h.messages ≡ Some x)
held_of None u x e = absurd (some_none x (sym e))
held_of (Some h) u x e = (h, refl, e)

module _ (m n : Mail) (is : IsMail m) where
  pub lost_is : (q : ℕ) → AnyOf (HasLost n q) m.folders → HasMark m q × (HasMark n q → ⊥)
  lost_is q a =
      let h = element_found folder_number (HasLost n q) m.folders is.numbers a in
      let x = element_found uid_of (IsLost n q) h.0.messages (ascends_found m.folders is.uids (folder_number h.0) h.0 h.1) h.2 in
      let there : message_in m.folders (folder_number h.0) x.0.uid ≡ Some x.0 = ap (λ (o : Option NumberedFolder). with_key uid_of x.0.uid (messages_of o)) h.1 ∙ x.1 in
      ((record { folder = folder_number h.0; message = x.0 }, stands m (folder_number h.0) x.0.uid q x.0 there x.2.0), x.2.1)

  pub other_marks_is : (q : ℕ) → AnyOf (HasOther n q) m.folders → (p : Placed) × StandsAs m q p × IsOther n p.folder p.message
  other_marks_is q a =
      let h = element_found folder_number (HasOther n q) m.folders is.numbers a in
      let x = element_found uid_of (IsOtherAt n h.0.folder.number q) h.0.messages (ascends_found m.folders is.uids (folder_number h.0) h.0 h.1) h.2 in
      let there : message_in m.folders (folder_number h.0) x.0.uid ≡ Some x.0 = ap (λ (o : Option NumberedFolder). with_key uid_of x.0.uid (messages_of o)) h.1 ∙ x.1 in
      (record { folder = folder_number h.0; message = x.0 }, stands m (folder_number h.0) x.0.uid q x.0 there x.2.0, x.2.1)

pub lost_has : (m n : Mail) (q : ℕ) → HasMark m q → (HasMark n q → ⊥) → AnyOf (HasLost n q) m.folders
lost_has m n q k none =
    let h = held_of (held_in m.folders k.0.folder) k.0.message.uid k.0.message k.1.there in
    found_element folder_number (HasLost n q) k.0.folder m.folders h.0 h.1 (found_element uid_of (IsLost n q) k.0.message.uid h.0.messages k.0.message h.2 (k.1.marked, none))

pub other_has : (m n : Mail) (q : ℕ) (p : Placed) → StandsAs m q p → IsOther n p.folder p.message → AnyOf (HasOther n q) m.folders
other_has m n q p s o =
    let h = held_of (held_in m.folders p.folder) p.message.uid p.message s.there in
    let number : folder_number h.0 ≡ p.folder = found_key folder_number p.folder m.folders h.0 h.1 in
    let here : IsOther n h.0.folder.number p.message = subst (λ (k : ℕ). IsOther n k p.message) (sym number) o in
    found_element folder_number (HasOther n q) p.folder m.folders h.0 h.1
    (found_element uid_of (IsOtherAt n h.0.folder.number q) p.message.uid h.0.messages p.message h.2 (s.marked, here))

pub no_told : (P : Type 0) → (P → ⊥) → IsTrue false ↔ P
no_told P none = (λ e. absurd (cc), λ p. absurd (none p))

pub yes_told : (P : Type 0) → P → IsTrue true ↔ P
yes_told P p = (λ e. p, λ q. refl)

-- `==` of the folder that is found
pub same_folder : (b : Bool) (a f : Folder) (o : Option Folder) → b ≡ folder_eq.it a f → Some a ≡ o → IsTrue b ↔ (o ≡ Some f)
same_folder b a f o is there = (
  λ e. sym there ∙ ap (λ (x : Folder). Some x) ((folder_decides a f).0 (sym is ∙ e)),
  λ same. is ∙ (folder_decides a f).1 (one_some a f (there ∙ same)),
)
