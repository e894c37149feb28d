-- What holds of the index from marks to places as messages are put and cut.
use Rattle.std.proofs.Common.{◌≡◌, ◌≢◌, ◌⊎◌, ℕ, ◌<◌, ◌≤◌, true, false, List, Option, Some, None, get_or, set, refl, sym, ap, ◌∙◌, subst, arith, eqb, eqb-true, inl, inr, cond}
use Rattle.std.proofs.Common.{if◌then◌else◌, nat_cmp}
use Rattle.std.proofs.lemmas.Bool.{eqb-false}
use Rattle.std.specs.BTreeMap.{BTreeMap, get, is_at}
use Rattle.std.specs.Option.{option_map}
use Rattle.told_folder.specs.Keyed.{Ascends, with_key, put_keyed, cut_keyed}
use Rattle.told_folder.specs.Places.{IsHeldAt}
use Rattle.told_folder.specs.Folders.{folder_number, uid_of, held_in, messages_of, messages_in, message_in, mark_in, with_messages}
use Rattle.told_folder.specs.Index.{Inverts, IsIndexed}
use Rattle.told_folder.specs.declared.message.Message.{Message}
use Rattle.told_folder.specs.declared.message.NumberedFolder.{NumberedFolder}
use Rattle.told_folder.proofs.KeyedLemmas.{some_is_not_none, some_same, held_found, found_put, found_cut, ascends_put, ascends_cut}
use Rattle.told_folder.proofs.FolderLemmas.{with_at, messages_same, messages_other, numbers_with, uids_with, ascend_in}

-- a number is another or not
pub same_or_not : (m n : ℕ) → (m ≡ n) ⊎ (m ≢ n)
same_or_not m n = elim (eqb m n) as (λ b. eqb m n ≡ b → (m ≡ n) ⊎ (m ≢ n)) [ true ↦ λ e. inl (eqb-true m n e) | false ↦ λ e. inr (eqb-false m n e) ] refl

pair_same : (a b c d : ℕ) → a ≡ c → b ≡ d → ◌≡◌ {A = ℕ × ℕ} (a, b) (c, d)
pair_same a b c d e f = cc

-- a place is another or not
pub same_place_or_not : (p q : ℕ × ℕ) → (p ≡ q) ⊎ (p ≢ q)
same_place_or_not p q =
    elim (same_or_not p.0 q.0) [
      | inl same ↦ elim (same_or_not p.1 q.1) [ inl too ↦ inl (pair_same p.0 p.1 q.0 q.1 same too) | inr apart ↦ inr (λ e. apart (ap (λ (x : ℕ × ℕ). x.1) e)) ]
      | inr apart ↦ inr (λ e. apart (ap (λ (x : ℕ × ℕ). x.0) e))
    ]

module _ {K P : Type 0} where
  -- one pair more
  pub inverts_put : (look look' : K → Option P) (back back' : P → Option K) (k : K) (p : P) → ((j : K) → (j ≡ k) ⊎ (j ≢ k)) → ((q : P) → (q ≡ p) ⊎ (q ≢ p)) → Inverts look back
      → look' k ≡ Some p → ((j : K) → j ≢ k → look' j ≡ look j) → back' p ≡ Some k → ((q : P) → q ≢ p → back' q ≡ back q) → ((q : P) → back q ≢ Some k) → back p ≡ None
      → Inverts look' back'
  inverts_put look look' back back' k p keys places i at_k other_k at_p other_p new free = record {
    to = λ j q e. elim (keys j) [
      | inl same ↦ let here : look' j ≡ Some p = ap look' same ∙ at_k in let place : q ≡ p = some_same _ _ (sym e ∙ here) in ap back' place ∙ at_p ∙ ap (λ x. Some x) (sym same)
      | inr apart ↦ let was : back q ≡ Some j = i.to j q (sym (other_k j apart) ∙ e) in
          elim (places q) [
            | inl here ↦ absurd (some_is_not_none _ (sym was ∙ ap back here ∙ free))
            | inr off ↦ other_p q off ∙ was
          ]
    ];
    from = λ j q e. elim (places q) [
      | inl same ↦ let here : j ≡ k = some_same _ _ (sym e ∙ ap back' same ∙ at_p) in ap look' here ∙ at_k ∙ ap (λ x. Some x) (sym same)
      | inr off ↦ let was : back q ≡ Some j = sym (other_p q off) ∙ e in
          elim (keys j) [
            | inl same ↦ absurd (new q (was ∙ ap (λ x. Some x) same))
            | inr apart ↦ other_k j apart ∙ i.from j q was
          ]
    ];
  }

  -- one pair less
  pub inverts_cut : (look look' : K → Option P) (back back' : P → Option K) (k : K) (p : P) → ((j : K) → (j ≡ k) ⊎ (j ≢ k)) → ((q : P) → (q ≡ p) ⊎ (q ≢ p)) → Inverts look back
      → look' k ≡ None → ((j : K) → j ≢ k → look' j ≡ look j) → back' p ≡ None → ((q : P) → q ≢ p → back' q ≡ back q) → back p ≡ Some k → Inverts look' back'
  inverts_cut look look' back back' k p keys places i at_k other_k at_p other_p held = record {
    to = λ j q e. elim (keys j) [
      | inl same ↦ absurd (some_is_not_none _ (sym e ∙ ap look' same ∙ at_k))
      | inr apart ↦ let was : back q ≡ Some j = i.to j q (sym (other_k j apart) ∙ e) in
          elim (places q) [
            | inl here ↦ absurd (apart (some_same _ _ (sym was ∙ ap back here ∙ held)))
            | inr off ↦ other_p q off ∙ was
          ]
    ];
    from = λ j q e. elim (places q) [
      | inl same ↦ absurd (some_is_not_none _ (sym e ∙ ap back' same ∙ at_p))
      | inr off ↦ let was : back q ≡ Some j = sym (other_p q off) ∙ e in
          elim (keys j) [
            | inl same ↦ absurd (off (some_same _ _ (sym (i.from j q was) ∙ ap look same ∙ i.from k p held)))
            | inr apart ↦ other_k j apart ∙ i.from j q was
          ]
    ];
  }

  -- functions that agree with two that undo each other undo each other, too
  pub inverts_same : (look look' : K → Option P) (back back' : P → Option K) → Inverts look back → ((j : K) → look' j ≡ look j) → ((q : P) → back' q ≡ back q) → Inverts look' back'
  inverts_same look look' back back' i l b = record {
    to = λ j q e. b q ∙ i.to j q (sym (l j) ∙ e);
    from = λ j q e. l j ∙ i.from j q (sym (b q) ∙ e);
  }

-- an option that is Some of nothing is None
pub none_found : {A : Type 0} (o : Option A) → ((a : A) → o ≡ Some a → ⊥) → o ≡ None
none_found None h = refl
none_found (Some a) h = absurd (h a refl)

-- what is at a place that was found
pub record IsHere (hs : List NumberedFolder) (n at : ℕ) (h : NumberedFolder) : Type 0 where
  pub found : held_in hs n ≡ Some h
  pub placed : (xs : List Message) → with_messages hs n xs ≡ set hs at (record h { messages = xs })

-- the folder at its number's place is found by the number, and its messages are changed at that place
pub here : (hs shown : List NumberedFolder) (n at : ℕ) (h : NumberedFolder) → shown ≡ hs → Ascends folder_number hs → IsHeldAt folder_number n shown at → h ≡ get_or hs at h → IsHere hs n at h
here hs shown n at h same up held is =
    let held_hs : IsHeldAt folder_number n hs at = subst (λ (zs : List NumberedFolder). IsHeldAt folder_number n zs at) same held in
    record {
      found = sym (held_found folder_number n hs up at held_hs h is);
      placed = λ xs. with_at hs n xs at held_hs.place.before held_hs.within h is (ap folder_number is ∙ held_hs.same h);
    }

-- the messages at a folder's number are those of the folder that is found by it
pub messages_here : (hs : List NumberedFolder) (n : ℕ) (h : NumberedFolder) → held_in hs n ≡ Some h → messages_in hs n ≡ h.messages
messages_here hs n h e = ap messages_of e

-- another key is not at this one
pub apart_at : (k q : ℕ) → q ≢ k → is_at (nat_cmp k) q ≡ false
apart_at k q apart = grind arith

-- a key is at itself
pub here_at : (k : ℕ) → is_at (nat_cmp k) k ≡ true
here_at k = grind arith

abbrev pub mark_of : Message → ℕ
mark_of x = x.mark

-- the marks of the folder whose messages are others now
pub mark_same : (hs : List NumberedFolder) (n u : ℕ) (xs : List Message) (h : NumberedFolder) → held_in hs n ≡ Some h
    → mark_in (with_messages hs n xs) (n, u) ≡ option_map mark_of (with_key uid_of u xs)
mark_same hs n u xs h found = ap (λ (ys : List Message). option_map mark_of (with_key uid_of u ys)) (messages_same hs n xs h found)

-- the mark at a folder's number and a UID is that of the message which the folder has at the UID
pub mark_was : (hs : List NumberedFolder) (n u : ℕ) (h : NumberedFolder) → held_in hs n ≡ Some h → mark_in hs (n, u) ≡ option_map mark_of (with_key uid_of u h.messages)
mark_was hs n u h found = ap (λ (o : Option NumberedFolder). option_map mark_of (with_key uid_of u (messages_of o))) found

-- at every place but one they stay, where every UID but one is found as it was
pub mark_off : (hs : List NumberedFolder) (n v : ℕ) (xs : List Message) (h : NumberedFolder) → held_in hs n ≡ Some h → ((u : ℕ) → u ≢ v → with_key uid_of u xs ≡ with_key uid_of u h.messages)
    → (q : ℕ × ℕ) → q ≢ (n, v) → mark_in (with_messages hs n xs) q ≡ mark_in hs q
mark_off hs n v xs h found stay q off =
    elim (same_or_not q.0 n) [
      | inl same ↦
          let apart : q.1 ≢ v = λ e. off (pair_same q.0 q.1 n v same e) in
          ap (λ m. mark_in (with_messages hs n xs) (m, q.1)) same ∙ mark_same hs n q.1 xs h found ∙ ap (option_map mark_of) (stay q.1 apart) ∙ sym (mark_was hs n q.1 h found)
          ∙ ap (λ m. mark_in hs (m, q.1)) (sym same)
      | inr apart ↦ ap (λ (ys : List Message). option_map mark_of (with_key uid_of q.1 ys)) (messages_other hs n xs q.0 apart)
    ]

-- a number compares as equal to itself
pub eqb_same : (k : ℕ) → eqb k k ≡ true
eqb_same k = grind arith

-- numbers that differ compare as not equal
pub eqb_apart : (j k : ℕ) → k ≢ j → eqb j k ≡ false
eqb_apart j k apart = grind arith

-- when a message of a new UID and mark is put in a folder, and its mark in the index, the index is that of the folders
pub indexed_put : (hs : List NumberedFolder) (marks marks' : BTreeMap ℕ (ℕ × ℕ)) (nm nm' n : ℕ) (h : NumberedFolder) (x : Message) → nm ≤ nm' → x.mark < nm' → IsIndexed hs marks nm
    → held_in hs n ≡ Some h → message_in hs n x.uid ≡ None → ((p : ℕ × ℕ) → mark_in hs p ≢ Some x.mark)
    → ((q : ℕ) → get nat_cmp marks' q ≡ cond (is_at (nat_cmp x.mark) q) (Some (n, x.uid)) (get nat_cmp marks q))
    → IsIndexed (with_messages hs n (put_keyed uid_of x h.messages)) marks' nm'
indexed_put hs marks marks' nm nm' n h x grows fits i found free new upd =
    let up : Ascends uid_of h.messages = ascend_in hs n h i.uids (sym found) in
    let at_p : mark_in (with_messages hs n (put_keyed uid_of x h.messages)) (n, x.uid) ≡ Some x.mark = mark_same hs n x.uid (put_keyed uid_of x h.messages) h found
    ∙ ap (option_map mark_of) (found_put uid_of x.uid x h.messages up ∙ ap (λ b. if b then Some x else with_key uid_of x.uid h.messages) (eqb_same x.uid)) in
    let other_p : (q : ℕ × ℕ) → q ≢ (n, x.uid) → mark_in (with_messages hs n (put_keyed uid_of x h.messages)) q ≡ mark_in hs q =
    mark_off hs n x.uid (put_keyed uid_of x h.messages) h found
    (λ u apart. found_put uid_of u x h.messages up ∙ ap (λ b. if b then Some x else with_key uid_of u h.messages) (eqb_apart x.uid u apart)) in
    record {
      below = λ p q e. elim (same_place_or_not p (n, x.uid)) [
        | inl same ↦ let here : q ≡ x.mark = some_same _ _ (sym e ∙ ap (mark_in (with_messages hs n (put_keyed uid_of x h.messages))) same ∙ at_p) in omega (arith, here, fits)
        | inr off ↦ omega (arith, i.below p q (sym (other_p p off) ∙ e), grows)
      ];
      numbers = numbers_with hs n _ i.numbers;
      uids = uids_with hs n _ (ascends_put uid_of x h.messages up) i.uids;
      inverse = inverts_put (get nat_cmp marks) (get nat_cmp marks') (mark_in hs) (mark_in (with_messages hs n (put_keyed uid_of x h.messages))) x.mark (n, x.uid)
          (λ j. same_or_not j x.mark) (λ q. same_place_or_not q (n, x.uid)) i.inverse
          (upd x.mark ∙ ap (λ b. cond b (Some (n, x.uid)) (get nat_cmp marks x.mark)) (here_at x.mark))
          (λ j apart. upd j ∙ ap (λ b. cond b (Some (n, x.uid)) (get nat_cmp marks j)) (apart_at x.mark j apart))
          at_p
          other_p
          new
          (ap (option_map mark_of) free);
    }

-- when the message at a UID is cut from a folder, and its mark from the index, the index is that of the folders
pub indexed_cut : (hs : List NumberedFolder) (marks marks' : BTreeMap ℕ (ℕ × ℕ)) (nm nm' n u k : ℕ) (h : NumberedFolder) → nm ≤ nm' → IsIndexed hs marks nm → held_in hs n ≡ Some h
    → mark_in hs (n, u) ≡ Some k → ((q : ℕ) → get nat_cmp marks' q ≡ cond (is_at (nat_cmp k) q) None (get nat_cmp marks q))
    → IsIndexed (with_messages hs n (cut_keyed uid_of u h.messages)) marks' nm'
indexed_cut hs marks marks' nm nm' n u k h grows i found held upd =
    let up : Ascends uid_of h.messages = ascend_in hs n h i.uids (sym found) in
    let at_p : mark_in (with_messages hs n (cut_keyed uid_of u h.messages)) (n, u) ≡ None = mark_same hs n u (cut_keyed uid_of u h.messages) h found
    ∙ ap (option_map mark_of) (found_cut uid_of u u h.messages ∙ ap (λ b. if b then None else with_key uid_of u h.messages) (eqb_same u)) in
    let other_p : (q : ℕ × ℕ) → q ≢ (n, u) → mark_in (with_messages hs n (cut_keyed uid_of u h.messages)) q ≡ mark_in hs q =
    mark_off hs n u (cut_keyed uid_of u h.messages) h found
    (λ v apart. found_cut uid_of v u h.messages ∙ ap (λ b. if b then None else with_key uid_of v h.messages) (eqb_apart u v apart)) in
    record {
      below = λ p q e. elim (same_place_or_not p (n, u)) [
        | inl same ↦ absurd (some_is_not_none _ (sym e ∙ ap (mark_in (with_messages hs n (cut_keyed uid_of u h.messages))) same ∙ at_p))
        | inr off ↦ omega (arith, i.below p q (sym (other_p p off) ∙ e), grows)
      ];
      numbers = numbers_with hs n _ i.numbers;
      uids = uids_with hs n _ (ascends_cut uid_of u h.messages up) i.uids;
      inverse = inverts_cut (get nat_cmp marks) (get nat_cmp marks') (mark_in hs) (mark_in (with_messages hs n (cut_keyed uid_of u h.messages))) k (n, u) (λ j. same_or_not j k)
          (λ q. same_place_or_not q (n, u)) i.inverse
          (upd k ∙ ap (λ b. cond b None (get nat_cmp marks k)) (here_at k))
          (λ j apart. upd j ∙ ap (λ b. cond b None (get nat_cmp marks j)) (apart_at k j apart))
          at_p
          other_p
          held;
    }

-- the index after a mark that was put is cut again
pub indexed_again : (hs : List NumberedFolder) (marks marks' marks'' : BTreeMap ℕ (ℕ × ℕ)) (nm k : ℕ) (p : ℕ × ℕ) → IsIndexed hs marks nm → ((q : ℕ × ℕ) → mark_in hs q ≢ Some k)
    → ((q : ℕ) → get nat_cmp marks' q ≡ cond (is_at (nat_cmp k) q) (Some p) (get nat_cmp marks q))
    → ((q : ℕ) → get nat_cmp marks'' q ≡ cond (is_at (nat_cmp k) q) None (get nat_cmp marks' q)) → IsIndexed hs marks'' nm
indexed_again hs marks marks' marks'' nm k p i new upd upd' =
    record {
      numbers = i.numbers;
      uids = i.uids;
      below = i.below;
      inverse = inverts_same (get nat_cmp marks) (get nat_cmp marks'') (mark_in hs) (mark_in hs) i.inverse
          (λ j. elim (same_or_not j k) [
            | inl same ↦ ap (get nat_cmp marks'') same ∙ upd' k ∙ ap (λ b. cond b None (get nat_cmp marks' k)) (here_at k)
                ∙ sym (none_found (get nat_cmp marks k) (λ q e. new q (i.inverse.to k q e))) ∙ ap (get nat_cmp marks) (sym same)
            | inr apart ↦ upd' j ∙ ap (λ b. cond b None (get nat_cmp marks' j)) (apart_at k j apart) ∙ upd j ∙ ap (λ b. cond b (Some p) (get nat_cmp marks j)) (apart_at k j apart)
          ])
          (λ q. refl);
    }
