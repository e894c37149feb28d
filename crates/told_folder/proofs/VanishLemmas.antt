-- What holds as messages vanish.
use Rattle.std.proofs.Common.{◌≡◌, ◌≢◌, ℕ, ◌+◌, ◌<◌, ◌≤◌, Bool, true, false, not, ◌&&◌, List, [], ◌∷◌, ◌++◌, Option, Some, None, length, filter, take, get_or, refl, sym, ap, ◌∙◌}
use Rattle.std.proofs.Common.{subst, arith, eqb, eqb-true, inl, inr, cond, if◌then◌else◌, nat_cmp, is_some}
use Rattle.std.specs.BTreeMap.{BTreeMap, get, is_at}
use Rattle.std.specs.Option.{option_map}
use Rattle.told_folder.specs.Keyed.{AllAbove, Ascends, with_key}
use Rattle.told_folder.specs.Folders.{uid_of, held_in, mark_in, with_messages}
use Rattle.told_folder.specs.Index.{Inverts, IsIndexed}
use Rattle.told_folder.specs.Tell.{Telling, without_those}
use Rattle.told_folder.specs.FolderTelling.{cleared, GoesOn, Goes}
use Rattle.told_folder.specs.declared.telling.FolderTelling.{FolderTelling}
use Rattle.told_folder.proofs.OpenLemmas.{telling_same}
use Rattle.told_folder.specs.declared.message.Message.{Message}
use Rattle.told_folder.specs.declared.message.NumberedFolder.{NumberedFolder}
use Rattle.told_folder.proofs.KeyedLemmas.{some_is_not_none, some_same, none_either, none_above}
use Rattle.told_folder.proofs.FolderLemmas.{with_twice, held_with, messages_other, numbers_with, uids_with}
use Rattle.std.proofs.lemmas.List.{take_more}
use Rattle.told_folder.proofs.IndexLemmas.{mark_of, mark_same, mark_was, same_or_not, here_at, apart_at}

-- where the first message has a UID, it is found by it
pub head_found : (u : ℕ) (x : Message) (xs : List Message) → x.uid ≡ u → with_key uid_of u (x ∷ xs) ≡ Some x
head_found u x xs same = grind arith

-- a first message of another UID is passed over
pub head_passed : (u : ℕ) (x : Message) (xs : List Message) → x.uid ≢ u → with_key uid_of u (x ∷ xs) ≡ with_key uid_of u xs
head_passed u x xs apart = grind arith

-- true isn't false
pub true_is_not_false : (b : Bool) → ◌≡◌ {A = Bool} true false → ⊥
true_is_not_false b e = cc

-- equal places have one folder's number
pub place_first : (p q : ℕ × ℕ) → p ≡ q → p.0 ≡ q.0
place_first p q e = ap (λ (x : ℕ × ℕ). x.0) e

-- equal places have one UID
pub place_second : (p q : ℕ × ℕ) → p ≡ q → p.1 ≡ q.1
place_second p q e = ap (λ (x : ℕ × ℕ). x.1) e

-- two tests that are each true are true together
pub both : (a b : Bool) → a ≡ true → b ≡ true → (a && b) ≡ true
both true true e f = refl
both true false e f = f
both false b e f = e

-- two tests that aren't both true are false together
pub not_both : (a b : Bool) → (a ≡ true → b ≡ true → ⊥) → (a && b) ≡ false
not_both true true h = absurd (h refl refl)
not_both true false h = refl
not_both false b h = refl

-- equal numbers compare as equal
pub eqb_is : {m n : ℕ} → m ≡ n → eqb m n ≡ true
eqb_is {m} {n} e = grind arith

module _ (gone : ℕ → Bool) where
  -- a number below all UIDs is below those that are left
  pub above_without : (k : ℕ) (xs : List Message) → AllAbove uid_of k xs → AllAbove uid_of k (without_those gone xs)
  above_without k [] a = tt
  above_without k (x ∷ xs) a =
      elim (gone x.uid) as (λ b. AllAbove uid_of k (if not b then x ∷ without_those gone xs else without_those gone xs)) [
        | true ↦ above_without k xs a.1
        | false ↦ (a.0, above_without k xs a.1)
      ]

  -- where UIDs ascend, those that are left do
  pub ascends_without : (xs : List Message) → Ascends uid_of xs → Ascends uid_of (without_those gone xs)
  ascends_without [] a = tt
  ascends_without (x ∷ xs) a =
      elim (gone x.uid) as (λ b. Ascends uid_of (if not b then x ∷ without_those gone xs else without_those gone xs)) [
        | true ↦ ascends_without xs a.1
        | false ↦ (above_without x.uid xs a.0, ascends_without xs a.1)
      ]

  -- a UID that goes isn't found, and every other UID is found as before
  pub found_without : (u : ℕ) (xs : List Message) → with_key uid_of u (without_those gone xs) ≡ (if gone u then None else with_key uid_of u xs)
  found_without u [] = none_either (gone u)
  found_without u (x ∷ xs) =
      let rest : with_key uid_of u (without_those gone xs) ≡ (if gone u then None else with_key uid_of u xs) = found_without u xs in
      elim (same_or_not x.uid u) [
        | inl same ↦
            elim (gone x.uid) as (λ b. gone x.uid ≡ b → with_key uid_of u (if not b then x ∷ without_those gone xs else without_those gone xs)
            ≡ (if gone u then None else with_key uid_of u (x ∷ xs))) [
              | true ↦ λ e. let at_u : gone u ≡ true = ap gone (sym same) ∙ e in rest ∙ ap (λ b. if b then None else with_key uid_of u xs) at_u
                  ∙ sym (ap (λ b. if b then None else with_key uid_of u (x ∷ xs)) at_u)
              | false ↦ λ e. let at_u : gone u ≡ false = ap gone (sym same) ∙ e in head_found u x (without_those gone xs) same ∙ sym (head_found u x xs same)
                  ∙ sym (ap (λ b. if b then None else with_key uid_of u (x ∷ xs)) at_u)
            ] refl
        | inr apart ↦
            let skip : with_key uid_of u (x ∷ xs) ≡ with_key uid_of u xs = head_passed u x xs apart in
            elim (gone x.uid) as (λ b. with_key uid_of u (if not b then x ∷ without_those gone xs else without_those gone xs) ≡ (if gone u then None else with_key uid_of u
            (x ∷ xs))) [
              | true ↦ rest ∙ sym (ap (λ (o : Option Message). if gone u then None else o) skip)
              | false ↦ head_passed u x (without_those gone xs) apart ∙ rest ∙ sym (ap (λ (o : Option Message). if gone u then None else o) skip)
            ]
      ]

  -- ---- the marks that are taken out

  -- a mark that the index doesn't have is not in it once marks are cleared
  pub cleared_none : (xs : List Message) (q : ℕ) → cleared gone xs q None ≡ None
  cleared_none [] q = refl
  cleared_none (x ∷ xs) q =
      elim (gone x.uid && eqb x.mark q) as (λ b. cleared gone xs q (if b then None else None) ≡ None) [ true ↦ cleared_none xs q | false ↦ cleared_none xs q ]

  -- with one message more, its mark is cleared, too, where the message goes
  pub cleared_more : (xs : List Message) (x : Message) (q : ℕ) (o : Option (ℕ × ℕ))
      → cleared gone (xs ++ x ∷ []) q o ≡ (if gone x.uid && eqb x.mark q then None else cleared gone xs q o)
  cleared_more [] x q o = refl
  cleared_more (y ∷ ys) x q o = cleared_more ys x q (if gone y.uid && eqb y.mark q then None else o)

  -- what is left was there
  pub cleared_was : (xs : List Message) (q : ℕ) (o : Option (ℕ × ℕ)) (p : ℕ × ℕ) → cleared gone xs q o ≡ Some p → o ≡ Some p
  cleared_was [] q o p e = e
  cleared_was (x ∷ xs) q o p e =
      elim (gone x.uid && eqb x.mark q) as (λ b. cleared gone xs q (if b then None else o) ≡ Some p → o ≡ Some p) [
        | true ↦ λ f. absurd (some_is_not_none _ (sym f ∙ cleared_none xs q))
        | false ↦ λ f. cleared_was xs q o p f
      ] e

  -- the mark of a message that is covered is gone
  pub cleared_hit : (xs : List Message) (u : ℕ) (x : Message) (q : ℕ) (o : Option (ℕ × ℕ)) → with_key uid_of u xs ≡ Some x → gone u ≡ true → x.mark ≡ q → cleared gone xs q o ≡ None
  cleared_hit [] u x q o e c m = absurd (cc)
  cleared_hit (y ∷ ys) u x q o e c m =
      elim (same_or_not y.uid u) [
        | inl same ↦
            let here : y ≡ x = some_same _ _ (sym (head_found u y ys same) ∙ e) in
            let hit : (gone y.uid && eqb y.mark q) ≡ true = both (gone y.uid) (eqb y.mark q) (ap gone same ∙ c) (eqb_is (ap mark_of here ∙ m)) in
            ap (λ b. cleared gone ys q (if b then None else o)) hit ∙ cleared_none ys q
        | inr apart ↦ cleared_hit ys u x q (if gone y.uid && eqb y.mark q then None else o) (sym (head_passed u y ys apart) ∙ e) c m
      ]

  -- the mark of the message at a UID that goes is cleared
  pub mark_hit : (xs : List Message) (u q : ℕ) (o : Option (ℕ × ℕ)) → option_map mark_of (with_key uid_of u xs) ≡ Some q → gone u ≡ true → cleared gone xs q o ≡ None
  mark_hit xs u q o e c =
      elim (with_key uid_of u xs) as (λ w. with_key uid_of u xs ≡ w → option_map mark_of w ≡ Some q → cleared gone xs q o ≡ None) [
        | None ↦ λ f g. absurd (cc)
        | Some x ↦ λ f g. cleared_hit xs u x q o f c (some_same _ _ g)
      ] refl e

  -- a mark that no covered message has is left
  pub cleared_kept : (xs : List Message) (q : ℕ) (o : Option (ℕ × ℕ)) → Ascends uid_of xs → ((u : ℕ) (x : Message) → with_key uid_of u xs ≡ Some x → gone u ≡ true → x.mark ≢ q)
      → cleared gone xs q o ≡ o
  cleared_kept [] q o a miss_all = refl
  cleared_kept (y ∷ ys) q o a miss_all =
      let miss : (gone y.uid && eqb y.mark q) ≡ false = not_both (gone y.uid) (eqb y.mark q) (λ c m. miss_all y.uid y (head_found y.uid y ys refl) c (eqb-true _ _ m)) in
      ap (λ b. cleared gone ys q (if b then None else o)) miss
      ∙ cleared_kept ys q o a.1 (λ u x e. miss_all u x (head_passed u y ys (λ s. some_is_not_none _ (sym e ∙ none_above uid_of u ys (subst (λ n. AllAbove uid_of n ys) s a.0)))
      ∙ e))

  -- when the messages that go are taken out of a folder, and their marks from the index, the index is that of the folders
  pub index_without : (hs : List NumberedFolder) (n : ℕ) (xs : List Message) (marks marks' : BTreeMap ℕ (ℕ × ℕ)) (a : ℕ) → is_some (held_in hs n) ≡ true → Ascends uid_of xs
      → ((q : ℕ) → get nat_cmp marks' q ≡ cleared gone xs q (get nat_cmp marks q)) → IsIndexed (with_messages hs n xs) marks a
      → IsIndexed (with_messages hs n (without_those gone xs)) marks' a
  index_without hs n xs marks marks' a there up clear i =
      let r = held_with hs n xs there in
      let ks = with_messages hs n xs in
      let ys : List Message = without_those gone xs in
      let P : List NumberedFolder → Type 0 = λ zs. IsIndexed zs marks' a in
      let was : (u : ℕ) → mark_in ks (n, u) ≡ option_map mark_of (with_key uid_of u xs) = λ u. mark_was ks n u r.0 r.1.found
      ∙ ap (λ (zs : List Message). option_map mark_of (with_key uid_of u zs)) r.1.messages in
      let now : (u : ℕ) → mark_in (with_messages ks n ys) (n, u) ≡ option_map mark_of (if gone u then None else with_key uid_of u xs) = λ u. mark_same ks n u ys r.0 r.1.found
      ∙ ap (option_map mark_of) (found_without u xs) in
      let other : (q : ℕ × ℕ) → q.0 ≢ n → mark_in (with_messages ks n ys) q ≡ mark_in ks q =
      λ q apart. ap (λ (zs : List Message). option_map mark_of (with_key uid_of q.1 zs)) (messages_other ks n ys q.0 apart) in
      let inverse : Inverts (get nat_cmp marks') (mark_in (with_messages ks n ys)) = record {
        to = λ k p e.
            let held : mark_in ks p ≡ Some k = i.inverse.to k p (cleared_was xs k _ p (sym (clear k) ∙ e)) in
            elim (same_or_not p.0 n) [
              | inl same ↦
                  let at : mark_in ks (n, p.1) ≡ Some k = ap (λ m. mark_in ks (m, p.1)) (sym same) ∙ held in
                  elim (gone p.1) as (λ b. gone p.1 ≡ b → mark_in (with_messages ks n ys) p ≡ Some k) [
                    | true ↦ λ c. absurd (some_is_not_none _ (sym (sym (clear k) ∙ e) ∙ mark_hit xs p.1 k _ (sym (was p.1) ∙ at) c))
                    | false ↦ λ c. ap (λ m. mark_in (with_messages ks n ys) (m, p.1)) same ∙ now p.1 ∙ ap (λ v. option_map mark_of (if v then None else with_key uid_of p.1 xs)) c
                        ∙ sym (was p.1) ∙ at
                  ] refl
              | inr apart ↦ other p apart ∙ held
            ];
        from = λ k p e. elim (same_or_not p.0 n) [
          | inl same ↦
              let at : mark_in (with_messages ks n ys) (n, p.1) ≡ Some k = ap (λ m. mark_in (with_messages ks n ys) (m, p.1)) (sym same) ∙ e in
              elim (gone p.1) as (λ v. gone p.1 ≡ v → get nat_cmp marks' k ≡ Some p) [
                | true ↦ λ c. absurd (some_is_not_none _ (sym at ∙ now p.1 ∙ ap (λ v. option_map mark_of (if v then None else with_key uid_of p.1 xs)) c))
                | false ↦ λ c.
                    let held : mark_in ks p ≡ Some k = ap (λ m. mark_in ks (m, p.1)) same ∙ was p.1
                    ∙ sym (ap (λ v. option_map mark_of (if v then None else with_key uid_of p.1 xs)) c) ∙ sym (now p.1) ∙ at in
                    clear k ∙ cleared_kept xs k _ up (λ u x f d m. true_is_not_false true
                    (sym d ∙ ap gone (place_second _ _ (some_same _ _
                    (sym (i.inverse.from k (n, u) (was u ∙ ap (option_map mark_of) f ∙ ap (λ z. Some z) m)) ∙ i.inverse.from k p held))) ∙ c)) ∙ i.inverse.from k p held
              ] refl
          | inr apart ↦
              let held : mark_in ks p ≡ Some k = sym (other p apart) ∙ e in
              clear k ∙ cleared_kept xs k _ up (λ u x f d m. apart
              (sym (place_first _ _ (some_same _ _ (sym (i.inverse.from k (n, u) (was u ∙ ap (option_map mark_of) f ∙ ap (λ z. Some z) m)) ∙ i.inverse.from k p held)))))
              ∙ i.inverse.from k p held
        ];
      } in
      subst P (with_twice hs n xs ys) (record {
        numbers = numbers_with ks n ys i.numbers;
        uids = uids_with ks n ys (ascends_without xs up) i.uids;
        inverse = inverse;
        below = λ p q e. i.below p q (i.inverse.to q p (cleared_was xs q _ p (sym (clear q) ∙ inverse.from q p e)));
      })

-- what a filter leaves is no longer than the list
pub filter_short : {X : Type 0} (p : X → Bool) (xs : List X) → length (filter p xs) ≤ length xs
filter_short p [] = omega arith
filter_short p (x ∷ xs) = elim (p x) as (λ b. length (if b then x ∷ filter p xs else filter p xs) ≤ length (x ∷ xs)) [
  | true ↦ omega (arith, filter_short p xs)
  | false ↦ omega
      (arith, filter_short p xs)
]

-- a list from which nothing is taken is the whole
pub filter_whole : {X : Type 0} (p : X → Bool) (xs : List X) → length (filter p xs) ≡ length xs → filter p xs ≡ xs
filter_whole p [] e = refl
filter_whole p (x ∷ xs) e =
    elim (p x) as (λ b. length (if b then x ∷ filter p xs else filter p xs) ≡ length (x ∷ xs) → (if b then x ∷ filter p xs else filter p xs) ≡ x ∷ xs) [
      | true ↦ λ f. ap (λ zs. x ∷ zs) (filter_whole p xs (omega (arith, f)))
      | false ↦ λ f. let short : length (filter p xs) ≤ length xs = filter_short p xs in absurd (omega (arith, f, short))
    ] e

-- taking out the messages that go, and their marks, brings the open folder to those that are left
pub vanish_goes : (old new : FolderTelling) (gone : ℕ → Bool) → Ascends uid_of old.messages → GoesOn old new
    → (without_those gone old.messages ≡ old.messages → new.changes ≡ old.changes) → new.messages ≡ without_those gone old.messages → new.next_mark ≡ old.next_mark
    → ((q : ℕ) → get nat_cmp new.marks q ≡ cleared gone old.messages q (get nat_cmp old.marks q))
    → Goes old new (record { messages = without_those gone old.messages; next_mark = old.next_mark })
vanish_goes old new gone up on known kept next clear = record {
  on = on;
  known = λ e. known (ap (λ (t : Telling). t.messages) e);
  ascends = λ a. subst (λ (zs : List Message). Ascends uid_of zs) (sym kept) (ascends_without gone old.messages a);
  told = telling_same _ _ _ _ kept next;
  index = λ hs i. record {
    there = subst (λ n. is_some (held_in hs n) ≡ true) (sym on.folder) i.there;
    indexed =
        subst (λ n. IsIndexed (with_messages hs n new.messages) new.marks new.next_mark) (sym on.folder)
        (subst (λ (zs : List Message). IsIndexed (with_messages hs old.folder zs) new.marks new.next_mark) (sym kept)
        (subst (λ n. IsIndexed (with_messages hs old.folder (without_those gone old.messages)) new.marks n) (sym next)
        (index_without gone hs old.folder old.messages old.marks new.marks old.next_mark i.there up clear i.indexed)));
  };
}

-- one message more has been looked at
pub clear_step : (gone : ℕ → Bool) (xs : List Message) (i : ℕ) (x : Message) (q : ℕ) (o : Option (ℕ × ℕ)) → i < length xs → x ≡ get_or xs i x
    → cleared gone (take (i + 1) xs) q o ≡ (if gone x.uid && eqb x.mark q then None else cleared gone (take i xs) q o)
clear_step gone xs i x q o h is = ap (λ (zs : List Message). cleared gone zs q o) (take_more xs i x h ∙ ap (λ (z : Message). take i xs ++ z ∷ []) (sym is))
    ∙ cleared_more gone (take i xs) x q o

-- where a message goes and its mark was removed, the marks of those that go are cleared up to and with it
pub clear_taken : (gone : ℕ → Bool) (xs : List Message) (i : ℕ) (x : Message) (q : ℕ) (before after was : Option (ℕ × ℕ)) → i < length xs → x ≡ get_or xs i x → gone x.uid ≡ true
    → before ≡ cleared gone (take i xs) q was → after ≡ cond (is_at (nat_cmp x.mark) q) None before → after ≡ cleared gone (take (i + 1) xs) q was
clear_taken gone xs i x q before after was h is c b a =
    a ∙ elim (same_or_not q x.mark) [
      | inl same ↦ ap (λ k. cond (is_at (nat_cmp x.mark) k) None before) same ∙ ap (λ v. cond v None before) (here_at x.mark)
          ∙ sym (clear_step gone xs i x q was h is ∙ ap (λ v. if v then None else cleared gone (take i xs) q was) (both (gone x.uid) (eqb x.mark q) c (eqb_is (sym same))))
      | inr apart ↦ ap (λ v. cond v None before) (apart_at x.mark q apart) ∙ b
          ∙ sym (clear_step gone xs i x q was h is ∙ ap (λ v. if v then None else cleared gone (take i xs) q was)
          (not_both (gone x.uid) (eqb x.mark q) (λ d m. apart (sym (eqb-true _ _ m)))))
    ]

-- where a message stays, the marks of those that go are cleared up to and with it as they were before
pub clear_left : (gone : ℕ → Bool) (xs : List Message) (i : ℕ) (x : Message) (q : ℕ) (before was : Option (ℕ × ℕ)) → i < length xs → x ≡ get_or xs i x → gone x.uid ≡ false
    → before ≡ cleared gone (take i xs) q was → before ≡ cleared gone (take (i + 1) xs) q was
clear_left gone xs i x q before was h is c b = b ∙ sym (clear_step gone xs i x q was h is ∙ ap (λ v. if v && eqb x.mark q then None else cleared gone (take i xs) q was) c)
