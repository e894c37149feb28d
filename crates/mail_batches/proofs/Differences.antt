-- The items that are added are what differs, in order.
use Rattle.std.proofs.Common.{◌≡◌, ◌≢◌, ◌↔◌, ◌⊎◌, ◌+◌, ◌<◌, ◌||◌, ℕ, Bool, true, false, eqb-true, eq-eqb, nat_cmp, List, [], ◌∷◌, ◌++◌, Option, Some, None, option_map, refl, sym, ap, subst, ◌∙◌, inl, inr, arith}
use Rattle.std.proofs.lemmas.Bool.{ltb-true, ltb-false}
use Rattle.std.proofs.lemmas.Bool.Decides.{nat_tests}
use Rattle.std.specs.BTreeMap.{is_at}
use Rattle.std.specs.BTreeSet.{BTreeSet, IsOrdered, contains}
use Rattle.std.specs.List.{AllByRecursion, Contains, list_any}
use Rattle.std.specs.List.Sorted.{IsStrictlySortedBy}
use Rattle.std.specs.declared.cmp.Ordering.TheVariants.{Less}
use Rattle.std.specs.Prelude.{IsSome, is_some, nat_lt}
use Rattle.told_folder.specs.Keyed.{AllAbove, Ascends}
use Rattle.told_folder.specs.declared.message.Folder.{Folder}
use Rattle.told_folder.specs.declared.message.NumberedFolder.{NumberedFolder}
use Rattle.told_mail.specs.Mail.{Mail, IsMail, folder_in, folder_number, held_in}
use Rattle.mail_batches.specs.Between.{AllAfter, AreBetween, AreInOrder, Differs, HasMark, IsSet}
use Rattle.mail_batches.specs.Steps.{moved, number_of, rank}
use Rattle.mail_batches.specs.Tables.{StandsAs}
use Rattle.mail_batches.specs.reading.Adding.{Adds, AnyOf, GoneFolder, GoneMessage, HasLost, HasOther, IsOther, Notes, OfMark, Parts, PutFolder, listed, new_item, set_item}
use Rattle.mail_batches.specs.declared.placed.Placed.{Placed}
use Rattle.mail_batches.specs.declared.item.Item.{Item}
use Rattle.mail_batches.specs.declared.item.Item.TheVariants.{MessageGone, FolderGone, FolderPut, MessagePut, MessageSet}
use Rattle.mail_batches.proofs.Between.{in_head, in_tail, is_in, none_in}
use Rattle.mail_batches.proofs.Found.{found_key, one_some, some_none}
use Rattle.mail_batches.proofs.MailLemmas.{element_found, found_element, lost_has, lost_is, one_stands, other_has, other_marks_is}
use Rattle.mail_batches.proofs.TableLemmas.{number_test}

-- ---- elements

module _ {X : Type 0} (P : X → Type 0) where
  any_elim : (C : Type 0) (xs : List X) → AnyOf P xs → ((x : X) → AnyOf (λ (y : X). y ≡ x) xs → P x → C) → C
  any_elim C [] n f = absurd n
  any_elim C (x ∷ xs) (inl p) f = f x (inl refl) p
  any_elim C (x ∷ xs) (inr r) f = any_elim C xs r (λ y at p. f y (inr at) p)

  any_from : (xs : List X) (x : X) → AnyOf (λ (y : X). y ≡ x) xs → P x → AnyOf P xs
  any_from [] x n p = absurd n
  any_from (y ∷ ys) x (inl same) p = inl (subst P (sym same) p)
  any_from (y ∷ ys) x (inr r) p = inr (any_from ys x r p)

  any_append : (a b : List X) → AnyOf P (a ++ b) → AnyOf P a ⊎ AnyOf P b
  any_append [] b h = inr h
  any_append (x ∷ a) b (inl p) = inl (inl p)
  any_append (x ∷ a) b (inr r) = elim (any_append a b r) [ inl l ↦ inl (inr l) | inr l ↦ inr l ]

  any_front : (a b : List X) → AnyOf P a → AnyOf P (a ++ b)
  any_front [] b n = absurd n
  any_front (x ∷ a) b (inl p) = inl p
  any_front (x ∷ a) b (inr r) = inr (any_front a b r)

  any_back : (a b : List X) → AnyOf P b → AnyOf P (a ++ b)
  any_back [] b h = h
  any_back (x ∷ a) b h = inr (any_back a b h)

abbrev Has : List Item → Item → Type 0
Has xs i = AnyOf (λ (j : Item). j ≡ i) xs

contains_has : (xs : List Item) (i : Item) → Contains xs i → Has xs i
contains_has [] i c = absurd (none_in i c)
contains_has (j ∷ js) i c = elim (is_in j i js c) [ inl e ↦ inl e | inr r ↦ inr (contains_has js i r) ]

has_contains : (xs : List Item) (i : Item) → Has xs i → Contains xs i
has_contains [] i n = absurd n
has_contains (j ∷ js) i (inl e) = subst (Contains (j ∷ js)) e (in_head j js)
has_contains (j ∷ js) i (inr r) = in_tail j i js (has_contains js i r)

-- ---- the items of elements

module _ {X : Type 0} (R : X → Option Item → Type 0) where
  one_part : (x : X) (xs : List X) (rest : List Item) (i : Item) (o : Option Item) → R x o → (Has rest i → AnyOf (λ (y : X). R y (Some i)) xs) → Has (listed o) i ⊎ Has rest i
      → AnyOf (λ (y : X). R y (Some i)) (x ∷ xs)
  one_part x xs rest i None r more (inl n) = absurd n
  one_part x xs rest i None r more (inr b) = inr (more b)
  one_part x xs rest i (Some j) r more (inl (inl e)) = inl (subst (λ (k : Item). R x (Some k)) e r)
  one_part x xs rest i (Some j) r more (inl (inr n)) = absurd n
  one_part x xs rest i (Some j) r more (inr b) = inr (more b)

  parts_has : (xs : List X) (block : List Item) (i : Item) → Parts R xs block → Has block i → AnyOf (λ (x : X). R x (Some i)) xs
  parts_has [] block i p a = subst (λ (l : List Item). Has l i) p a
  parts_has (x ∷ xs) block i p a =
      one_part x xs p.2.0 i p.0 p.1 (λ h. parts_has xs p.2.0 i p.2.2 h)
      (any_append (λ (j : Item). j ≡ i) (listed p.0) p.2.0 (subst (λ (l : List Item). Has l i) p.2.1 a))

  has_part : (xs : List X) (block : List Item) (i : Item) → ((x : X) (o : Option Item) → R x o → R x (Some i) → o ≡ Some i) → Parts R xs block → AnyOf (λ (x : X). R x (Some i)) xs → Has block i
  has_part [] block i one p n = absurd n
  has_part (x ∷ xs) block i one p (inl r) =
      subst (λ (l : List Item). Has l i) (sym p.2.1) (any_front (λ (j : Item). j ≡ i) (listed p.0) p.2.0
      (subst (λ (o : Option Item). Has (listed o) i) (sym (one x p.0 p.1 r)) (inl refl)))
  has_part (x ∷ xs) block i one p (inr r) =
      subst (λ (l : List Item). Has l i) (sym p.2.1) (any_back (λ (j : Item). j ≡ i) (listed p.0) p.2.0 (has_part xs p.2.0 i one p.2.2 r))

-- ---- order

abbrev AllOf : ℕ → List Item → Type 0
AllOf r [] = Unit {0}
AllOf r (i ∷ is) = (rank i ≡ r) × AllOf r is

abbrev AllUnder : ℕ → List Item → Type 0
AllUnder r [] = Unit {0}
AllUnder r (i ∷ is) = (rank i < r) × AllUnder r is

module _ {X : Type 0} (R : X → Option Item → Type 0) (key : X → ℕ) (r : ℕ) (ranked : (x : X) (i : Item) → R x (Some i) → (rank i ≡ r) × (number_of i ≡ key x)) where
  after_one : (j : Item) → rank j ≡ r → (x : X) (rest : List Item) (o : Option Item) → number_of j < key x → R x o → AllAfter j rest → AllAfter j (listed o ++ rest)
  after_one j e x rest None lt h after = after
  after_one j e x rest (Some i) lt h after =
      let is = ranked x i h in
      (inr (e ∙ sym is.0, subst (λ (k : ℕ). number_of j < k) (sym is.1) lt), after)

  after_parts : (j : Item) → rank j ≡ r → (xs : List X) (block : List Item) → AllAbove key (number_of j) xs → Parts R xs block → AllAfter j block
  after_parts j e [] block up p = subst (AllAfter j) (sym p) tt
  after_parts j e (x ∷ xs) block up p = subst (AllAfter j) (sym p.2.1) (after_one j e x p.2.0 p.0 up.0 p.1 (after_parts j e xs p.2.0 up.1 p.2.2))

  ordered_one : (x : X) (xs : List X) (rest : List Item) (o : Option Item) → AllAbove key (key x) xs → Parts R xs rest → AreInOrder rest → R x o → AreInOrder (listed o ++ rest)
  ordered_one x xs rest None up p ordered h = ordered
  ordered_one x xs rest (Some i) up p ordered h =
      let is = ranked x i h in
      (after_parts i is.0 xs rest (subst (λ (k : ℕ). AllAbove key k xs) (sym is.1) up) p, ordered)

  ordered_parts : (xs : List X) (block : List Item) → Ascends key xs → Parts R xs block → AreInOrder block
  ordered_parts [] block up p = subst AreInOrder (sym p) tt
  ordered_parts (x ∷ xs) block up p = subst AreInOrder (sym p.2.1) (ordered_one x xs p.2.0 p.0 up.0 p.2.2 (ordered_parts xs p.2.0 up.1 p.2.2) p.1)

  ranked_one : (x : X) (rest : List Item) (o : Option Item) → R x o → AllOf r rest → AllOf r (listed o ++ rest)
  ranked_one x rest None h all = all
  ranked_one x rest (Some i) h all = ((ranked x i h).0, all)

  ranked_parts : (xs : List X) (block : List Item) → Parts R xs block → AllOf r block
  ranked_parts [] block p = subst (AllOf r) (sym p) tt
  ranked_parts (x ∷ xs) block p = subst (AllOf r) (sym p.2.1) (ranked_one x p.2.0 p.0 p.1 (ranked_parts xs p.2.0 p.2.2))

after_kind : (j : Item) (r : ℕ) (is : List Item) → rank j < r → AllOf r is → AllAfter j is
after_kind j r [] lt all = tt
after_kind j r (i ∷ is) lt all = (inl (subst (λ (k : ℕ). rank j < k) (sym all.0) lt), after_kind j r is lt all.1)

after_append : (j : Item) (a b : List Item) → AllAfter j a → AllAfter j b → AllAfter j (a ++ b)
after_append j [] b p q = q
after_append j (i ∷ a) b p q = (p.0, after_append j a b p.1 q)

in_order_append : (r : ℕ) (a b : List Item) → AreInOrder a → AllUnder r a → AreInOrder b → AllOf r b → AreInOrder (a ++ b)
in_order_append r [] b p under q all = q
in_order_append r (i ∷ a) b p under q all = (after_append i a b p.0 (after_kind i r b under.0 all), in_order_append r a b p.1 under.1 q all)

under_append : (r : ℕ) (a b : List Item) → AllUnder r a → AllOf r b → AllUnder (r + 1) (a ++ b)
under_append r [] [] p q = tt
under_append r [] (i ∷ b) p q = let e = q.0 in (omega (arith, e), under_append r [] b p q.1)
under_append r (i ∷ a) b p q = let lt = p.0 in (omega (arith, lt), under_append r a b p.1 q)

-- ---- what differs, up to a kind

record IsPart (m n : Mail) (r : ℕ) (items : List Item) : Type 0 where
  ordered : AreInOrder items
  under : AllUnder r items
  each : (i : Item) → Has items i ↔ ((rank i < r) × Differs m n i)

module _ (m n : Mail) {X : Type 0} (R : X → Option Item → Type 0) (key : X → ℕ) (r : ℕ) (ranked : (x : X) (i : Item) → R x (Some i) → (rank i ≡ r) × (number_of i ≡ key x)) where
  part_more : (xs : List X) (old new : List Item) → ((x : X) (o : Option Item) (i : Item) → R x o → R x (Some i) → o ≡ Some i) → Ascends key xs
      → ((i : Item) → AnyOf (λ (x : X). R x (Some i)) xs ↔ ((rank i ≡ r) × Differs m n i)) → Adds R xs old new → IsPart m n r old → IsPart m n (r + 1) new
  part_more xs old new one up these a p = record {
    ordered = subst AreInOrder (sym a.1) (in_order_append r old a.0 p.ordered p.under (ordered_parts R key r ranked xs a.0 up a.2) (ranked_parts R key r ranked xs a.0 a.2));
    under = subst (AllUnder (r + 1)) (sym a.1) (under_append r old a.0 p.under (ranked_parts R key r ranked xs a.0 a.2));
    each = λ i. (
      λ h. elim (any_append (λ (j : Item). j ≡ i) old a.0 (subst (λ (l : List Item). Has l i) a.1 h)) [
        | inl o ↦ (let is = (p.each i).0 o in let lt = is.0 in (omega (arith, lt), is.1))
        | inr b ↦ (let is = (these i).0 (parts_has R xs a.0 i a.2 b) in let e = is.0 in (omega (arith, e), is.1))
      ],
      λ is. subst (λ (l : List Item). Has l i) (sym a.1) (elim (kinds (rank i) r is.0) [
        | inl lt ↦ any_front (λ (j : Item). j ≡ i) old a.0 ((p.each i).1 (lt, is.1))
        | inr e ↦ any_back (λ (j : Item). j ≡ i) old a.0 (has_part R xs a.0 i (λ x o. one x o i) a.2 ((these i).1 (e, is.1)))
      ]),
    );
  }
    where
      kinds : (k s : ℕ) → k < s + 1 → (k < s) ⊎ (k ≡ s)
      kinds k s lt = elim (nat_lt k s) as (λ b. nat_lt k s ≡ b → (k < s) ⊎ (k ≡ s)) [ true ↦ λ e. inl (ltb-true k s e) | false ↦ λ e. inr (last e) ] refl
        where
          last : nat_lt k s ≡ false → k ≡ s
          last e = let le = ltb-false k s e in omega (arith, lt, le)

-- ---- sets of marks

key_step : (q k : ℕ) (ks : List ℕ) → (list_any (is_at (nat_cmp q)) ks ≡ true → AnyOf (λ (x : ℕ). x ≡ q) ks) → (b : Bool) → is_at (nat_cmp q) k ≡ b
    → (b || list_any (is_at (nat_cmp q)) ks) ≡ true → AnyOf (λ (x : ℕ). x ≡ q) (k ∷ ks)
key_step q k ks more true is h = inl (sym (eqb-true q k (sym (number_test q k) ∙ is)))
key_step q k ks more false is h = inr (more h)

any_key : (q : ℕ) (ks : List ℕ) → list_any (is_at (nat_cmp q)) ks ≡ true → AnyOf (λ (k : ℕ). k ≡ q) ks
any_key q [] e = absurd (cc)
any_key q (k ∷ ks) e = key_step q k ks (λ h. any_key q ks h) (is_at (nat_cmp q) k) refl e

key_any : (q : ℕ) (ks : List ℕ) → AnyOf (λ (k : ℕ). k ≡ q) ks → list_any (is_at (nat_cmp q)) ks ≡ true
key_any q [] n = absurd n
key_any q (k ∷ ks) (inl e) = ap (λ (b : Bool). b || list_any (is_at (nat_cmp q)) ks) (number_test q k ∙ eq-eqb q k (sym e))
key_any q (k ∷ ks) (inr r) = or_second (is_at (nat_cmp q) k) (list_any (is_at (nat_cmp q)) ks) (key_any q ks r)
  where
    or_second : (a b : Bool) → b ≡ true → (a || b) ≡ true
    or_second true b e = refl
    or_second false b e = e

abbrev pub NotesAlone : BTreeSet ℕ → (ℕ → Type 0) → Type 0
NotesAlone s P = Notes (λ _. false) (contains nat_cmp s) P

noted_is : (s : BTreeSet ℕ) (P : ℕ → Type 0) → NotesAlone s P → (q : ℕ) → AnyOf (λ (k : ℕ). k ≡ q) s.keys → P q
noted_is s P n q a = elim ((n q).0 (key_any q s.keys a)) [ inl f ↦ absurd (false_true f) | inr p ↦ p ]
  where
    false_true : false ≡ true → ⊥
    false_true f = cc

is_noted : (s : BTreeSet ℕ) (P : ℕ → Type 0) → NotesAlone s P → (q : ℕ) → P q → AnyOf (λ (k : ℕ). k ≡ q) s.keys
is_noted s P n q p = any_key q s.keys ((n q).1 (inr p))

abbrev itself : ℕ → ℕ
itself k = k

less_is : (x y : ℕ) → nat_cmp x y ≡ Less → x < y
less_is x y e = grind (arith, nat_tests)

ascending : (ks : List ℕ) → IsStrictlySortedBy nat_cmp ks → Ascends itself ks
unfolding IsStrictlySortedBy
ascending [] sorted = tt
ascending (k ∷ ks) sorted = (above k ks sorted.0, ascending ks sorted.1)
  where
    above : (x : ℕ) (xs : List ℕ) → AllByRecursion (λ y. nat_cmp x y ≡ Less) xs → AllAbove itself x xs
    above x [] all = tt
    above x (y ∷ ys) all = (less_is x y all.0, above x ys all.1)

-- ---- folders

abbrev folder_of : NumberedFolder → Folder
folder_of h = h.folder

pub some_held : (o : Option NumberedFolder) → IsSome (option_map folder_of o) → (h : NumberedFolder) × (o ≡ Some h)
some_held None is = absurd (cc)
some_held (Some h) is = (h, refl)

pub some_folder : (o : Option NumberedFolder) (f : Folder) → option_map folder_of o ≡ Some f → (h : NumberedFolder) × (o ≡ Some h) × (h.folder ≡ f)
some_folder None f e = absurd (some_none f (sym e))
some_folder (Some h) f e = (h, refl, one_some h.folder f e)

not_there : (o : Option Folder) → IsSome o → o ≡ None → ⊥
not_there None is e = cc
not_there (Some f) is e = some_none f e

-- ---- the items of each kind

module _ (m n : Mail) (is_m : IsMail m) (is_n : IsMail n) where
  module _ (gone : List ℕ) (gone_is : (q : ℕ) → AnyOf (λ (k : ℕ). k ≡ q) gone → HasMark m q × (HasMark n q → ⊥))
      (is_gone : (q : ℕ) → HasMark m q → (HasMark n q → ⊥) → AnyOf (λ (k : ℕ). k ≡ q) gone) where
    gone_messages : (i : Item) → AnyOf (λ (k : ℕ). GoneMessage k (Some i)) gone ↔ ((rank i ≡ 0) × Differs m n i)
    gone_messages i = (there, back i)
      where
        there : AnyOf (λ (k : ℕ). GoneMessage k (Some i)) gone → (rank i ≡ 0) × Differs m n i
        there a = any_elim (λ (k : ℕ). GoneMessage k (Some i)) ((rank i ≡ 0) × Differs m n i) gone a
            (λ k at e. subst (λ (j : Item). (rank j ≡ 0) × Differs m n j) (sym (one_some i (MessageGone k) e)) (refl, gone_is k at))

        back : (j : Item) → (rank j ≡ 0) × Differs m n j → AnyOf (λ (k : ℕ). GoneMessage k (Some j)) gone
        back (MessageGone k) d = any_from (λ (q : ℕ). GoneMessage q (Some (MessageGone k))) gone k (is_gone k d.1.0 d.1.1) refl
        back (FolderGone k) d = let e = d.0 in absurd (omega (arith, e))
        back (FolderPut f) d = let e = d.0 in absurd (omega (arith, e))
        back (MessagePut k x) d = let e = d.0 in absurd (omega (arith, e))
        back (MessageSet k f u g) d = let e = d.0 in absurd (omega (arith, e))

  gone_folders : (i : Item) → AnyOf (λ (h : NumberedFolder). GoneFolder n h (Some i)) m.folders ↔ ((rank i ≡ 1) × Differs m n i)
  gone_folders i = (there, back i)
    where
      there : AnyOf (λ (h : NumberedFolder). GoneFolder n h (Some i)) m.folders → (rank i ≡ 1) × Differs m n i
      there a =
          let f = element_found folder_number (λ (h : NumberedFolder). GoneFolder n h (Some i)) m.folders is_m.numbers a in
          let held : IsSome (folder_in m.folders (folder_number f.0)) = ap (λ (o : Option NumberedFolder). is_some (option_map folder_of o)) f.1 in
          subst (λ (j : Item). (rank j ≡ 1) × Differs m n j) (sym f.2.0) (refl, (held, f.2.1))

      back : (j : Item) → (rank j ≡ 1) × Differs m n j → AnyOf (λ (h : NumberedFolder). GoneFolder n h (Some j)) m.folders
      back (FolderGone k) d =
          let h = some_held (held_in m.folders k) d.1.0 in
          let number : folder_number h.0 ≡ k = found_key folder_number k m.folders h.0 h.1 in
          found_element folder_number (λ (x : NumberedFolder). GoneFolder n x (Some (FolderGone k))) k m.folders h.0 h.1
          (ap (λ (x : ℕ). FolderGone x) (sym number), subst (λ (x : ℕ). folder_in n.folders x ≡ None) (sym number) d.1.1)
      back (MessageGone k) d = let e = d.0 in absurd (omega (arith, e))
      back (FolderPut f) d = let e = d.0 in absurd (omega (arith, e))
      back (MessagePut k x) d = let e = d.0 in absurd (omega (arith, e))
      back (MessageSet k f u g) d = let e = d.0 in absurd (omega (arith, e))

  folders_put : (i : Item) → AnyOf (λ (h : NumberedFolder). PutFolder m h (Some i)) n.folders ↔ ((rank i ≡ 2) × Differs m n i)
  folders_put i = (there, back i)
    where
      there : AnyOf (λ (h : NumberedFolder). PutFolder m h (Some i)) n.folders → (rank i ≡ 2) × Differs m n i
      there a =
          let f = element_found folder_number (λ (h : NumberedFolder). PutFolder m h (Some i)) n.folders is_n.numbers a in
          let held : folder_in n.folders (folder_number f.0) ≡ Some f.0.folder = ap (option_map folder_of) f.1 in
          subst (λ (j : Item). (rank j ≡ 2) × Differs m n j) (sym f.2.0) (refl, (held, f.2.1))

      back : (j : Item) → (rank j ≡ 2) × Differs m n j → AnyOf (λ (h : NumberedFolder). PutFolder m h (Some j)) n.folders
      back (FolderPut f) d =
          let h = some_folder (held_in n.folders f.number) f d.1.0 in
          found_element folder_number (λ (x : NumberedFolder). PutFolder m x (Some (FolderPut f))) f.number n.folders h.0 h.1
          (ap (λ (x : Folder). FolderPut x) (sym h.2), subst (λ (x : Folder). folder_in m.folders x.number ≢ Some x) (sym h.2) d.1.1)
      back (MessageGone k) d = let e = d.0 in absurd (omega (arith, e))
      back (FolderGone k) d = let e = d.0 in absurd (omega (arith, e))
      back (MessagePut k x) d = let e = d.0 in absurd (omega (arith, e))
      back (MessageSet k f u g) d = let e = d.0 in absurd (omega (arith, e))

  module _ (new : List ℕ) (new_is : (q : ℕ) → AnyOf (λ (k : ℕ). k ≡ q) new → HasMark n q × (HasMark m q → ⊥))
      (is_new : (q : ℕ) → HasMark n q → (HasMark m q → ⊥) → AnyOf (λ (k : ℕ). k ≡ q) new) where
    messages_put : (i : Item) → AnyOf (λ (k : ℕ). OfMark new_item n k (Some i)) new ↔ ((rank i ≡ 3) × Differs m n i)
    messages_put i = (there, back i)
      where
        there : AnyOf (λ (k : ℕ). OfMark new_item n k (Some i)) new → (rank i ≡ 3) × Differs m n i
        there a = any_elim (λ (k : ℕ). OfMark new_item n k (Some i)) ((rank i ≡ 3) × Differs m n i) new a
            (λ k at p. subst (λ (j : Item). (rank j ≡ 3) × Differs m n j) (sym p.2)
            (refl, (record { there = p.1.there; marked = refl }, λ h. (new_is k at).1 (subst (HasMark m) p.1.marked h))))

        back : (j : Item) → (rank j ≡ 3) × Differs m n j → AnyOf (λ (k : ℕ). OfMark new_item n k (Some j)) new
        back (MessagePut folder x) d =
            let p : Placed = record { folder = folder; message = x } in
            any_from (λ (k : ℕ). OfMark new_item n k (Some (MessagePut folder x))) new x.mark (is_new x.mark (p, d.1.0) d.1.1) (p, d.1.0, refl)
        back (MessageGone k) d = let e = d.0 in absurd (omega (arith, e))
        back (FolderGone k) d = let e = d.0 in absurd (omega (arith, e))
        back (FolderPut f) d = let e = d.0 in absurd (omega (arith, e))
        back (MessageSet k f u g) d = let e = d.0 in absurd (omega (arith, e))

  module _ (other : List ℕ) (others_are : (q : ℕ) → AnyOf (λ (k : ℕ). k ≡ q) other → (p : Placed) × StandsAs n q p × IsOther m p.folder p.message)
      (are_others : (q : ℕ) (p : Placed) → StandsAs n q p → IsOther m p.folder p.message → AnyOf (λ (k : ℕ). k ≡ q) other) where
    set_of : (k : ℕ) (p : Placed) → StandsAs n k p → IsOther m p.folder p.message → IsSet m n k p.folder p.message.uid p.message.flags
    set_of k p s o = record {
      was = o.was;
      before = subst (λ (q : ℕ). StandsAs m q o.was) s.marked o.stood;
      now = p;
      after = s;
      there = refl;
      other = o.differs;
    }

    messages_set : (i : Item) → AnyOf (λ (k : ℕ). OfMark set_item n k (Some i)) other ↔ ((rank i ≡ 4) × Differs m n i)
    messages_set i = (there, back i)
      where
        there : AnyOf (λ (k : ℕ). OfMark set_item n k (Some i)) other → (rank i ≡ 4) × Differs m n i
        there a = any_elim (λ (k : ℕ). OfMark set_item n k (Some i)) ((rank i ≡ 4) × Differs m n i) other a
            (λ k at p.
            let o = others_are k at in
            let same : o.0 ≡ p.0 = one_stands n is_n k o.0 p.0 o.1 p.1 in
            let is : IsOther m p.0.folder p.0.message = subst (λ (x : Placed). IsOther m x.folder x.message) same o.2 in
            subst (λ (j : Item). (rank j ≡ 4) × Differs m n j) (sym p.2) (refl, set_of k p.0 p.1 is))

        back : (j : Item) → (rank j ≡ 4) × Differs m n j → AnyOf (λ (k : ℕ). OfMark set_item n k (Some j)) other
        back (MessageSet k folder uid flags) d =
            let s = d.1 in
            let folder_is : folder ≡ s.now.folder = sym (ap (λ (p : Placed). p.folder) s.there) in
            let uid_is : uid ≡ s.now.message.uid = sym (ap (λ (p : Placed). p.message.uid) s.there) in
            let flags_is : flags ≡ s.now.message.flags = sym (ap (λ (p : Placed). p.message.flags) s.there) in
            let differs : moved s.was s.now.folder s.now.message.uid s.now.message.flags ≢ s.was = λ e.
            s.other ((λ x. moved s.was (folder_is x) (uid_is x) (flags_is x)) ∙ e) in
            let is : IsOther m s.now.folder s.now.message
            = record { was = s.was; stood = subst (λ (q : ℕ). StandsAs m q s.was) (sym s.after.marked) s.before; differs = differs } in
            any_from (λ (q : ℕ). OfMark set_item n q (Some (MessageSet k folder uid flags))) other k (are_others k s.now s.after is)
            (s.now, s.after, λ x. MessageSet k (folder_is x) (uid_is x) (flags_is x))
        back (MessageGone k) d = let e = d.0 in absurd (omega (arith, e))
        back (FolderGone k) d = let e = d.0 in absurd (omega (arith, e))
        back (FolderPut f) d = let e = d.0 in absurd (omega (arith, e))
        back (MessagePut k x) d = let e = d.0 in absurd (omega (arith, e))

  of_mark_one : (item : ℕ → Placed → Item) (k : ℕ) (o : Option Item) (i : Item) → OfMark item n k o → OfMark item n k (Some i) → o ≡ Some i
  of_mark_one item k None i none p = absurd (none (p.0, p.1))
  of_mark_one item k (Some j) i r p = ap (λ (x : Item). Some x) (r.2 ∙ ap (item k) (one_stands n is_n k r.0 p.0 r.1 p.1) ∙ sym p.2)

  gone_folder_one : (h : NumberedFolder) (o : Option Item) (i : Item) → GoneFolder n h o → GoneFolder n h (Some i) → o ≡ Some i
  gone_folder_one h None i there p = absurd (not_there (folder_in n.folders (folder_number h)) there p.1)
  gone_folder_one h (Some j) i r p = ap (λ (x : Item). Some x) (r.0 ∙ sym p.0)

  put_folder_one : (h : NumberedFolder) (o : Option Item) (i : Item) → PutFolder m h o → PutFolder m h (Some i) → o ≡ Some i
  put_folder_one h None i there p = absurd (p.1 there)
  put_folder_one h (Some j) i r p = ap (λ (x : Item). Some x) (r.0 ∙ sym p.0)

  -- all kinds are added in turn
  pub are_between : (gone new other : BTreeSet ℕ) (first second third fourth last : List Item) → NotesAlone gone (λ q. AnyOf (HasLost n q) m.folders)
      → NotesAlone new (λ q. AnyOf (HasLost m q) n.folders) → NotesAlone other (λ q. AnyOf (HasOther m q) n.folders) → IsOrdered nat_cmp gone → IsOrdered nat_cmp new
      → IsOrdered nat_cmp other → Adds GoneMessage gone.keys [] first → Adds (GoneFolder n) m.folders first second → Adds (PutFolder m) n.folders second third
      → Adds (OfMark new_item n) new.keys third fourth → Adds (OfMark set_item n) other.keys fourth last → AreBetween m n last
  are_between gone new other first second third fourth last gone_is new_is other_is sorted_gone sorted_new sorted_other a b c d e =
      let none : IsPart m n 0 [] = record { ordered = tt; under = tt; each = λ i. (λ h. absurd h, λ h. absurd (let lt = h.0 in omega (arith, lt))) } in
      let one : IsPart m n 1 first = part_more m n GoneMessage itself 0 (λ k i r. (ap rank (one_some i (MessageGone k) r), ap number_of (one_some i (MessageGone k) r)))
      gone.keys [] first (λ k o i r p. r ∙ sym p) (ascending gone.keys sorted_gone)
      (gone_messages gone.keys (λ q k. lost_is m n is_m q (noted_is gone (λ x. AnyOf (HasLost n x) m.folders) gone_is q k))
      (λ q k l. is_noted gone (λ x. AnyOf (HasLost n x) m.folders) gone_is q (lost_has m n q k l))) a none in
      let two : IsPart m n 2 second = part_more m n (GoneFolder n) folder_number 1 (λ h i r. (ap rank r.0, ap number_of r.0))
      m.folders first second gone_folder_one is_m.numbers gone_folders b one in
      let three : IsPart m n 3 third = part_more m n (PutFolder m) folder_number 2 (λ h i r. (ap rank r.0, ap number_of r.0))
      n.folders second third put_folder_one is_n.numbers folders_put c two in
      let four : IsPart m n 4 fourth = part_more m n (OfMark new_item n) itself 3 (λ k i r. (ap rank r.2, ap number_of r.2 ∙ r.1.marked))
      new.keys third fourth (of_mark_one new_item) (ascending new.keys sorted_new)
      (messages_put new.keys (λ q k. lost_is n m is_n q (noted_is new (λ x. AnyOf (HasLost m x) n.folders) new_is q k))
      (λ q k l. is_noted new (λ x. AnyOf (HasLost m x) n.folders) new_is q (lost_has n m q k l))) d three in
      let five : IsPart m n 5 last = part_more m n (OfMark set_item n) itself 4 (λ k i r. (ap rank r.2, ap number_of r.2))
      other.keys fourth last (of_mark_one set_item) (ascending other.keys sorted_other)
      (messages_set other.keys (λ q k. other_marks_is n m is_n q (noted_is other (λ x. AnyOf (HasOther m x) n.folders) other_is q k))
      (λ q p s l. is_noted other (λ x. AnyOf (HasOther m x) n.folders) other_is q (other_has n m q p s l))) e four in
      record {
        ordered = five.ordered;
        each = λ i. (λ h. ((five.each i).0 (contains_has last i h)).1, λ is. has_contains last i ((five.each i).1 (five_kinds i, is)));
      }
    where
      five_kinds : (i : Item) → rank i < 5
      five_kinds (MessageGone k) = omega arith
      five_kinds (FolderGone k) = omega arith
      five_kinds (FolderPut f) = omega arith
      five_kinds (MessagePut k x) = omega arith
      five_kinds (MessageSet k f u g) = omega arith
