-- What holds as a VANISHED takes messages out one by one.
use Rattle.std.proofs.Common.{◌≡◌, ℕ, zero, suc, ◌+◌, ◌<◌, ◌≤◌, Bool, true, false, not, ◌&&◌, ◌||◌, List, [], ◌∷◌, ◌++◌, Option, Some, None, Ok, Err, length}
use Rattle.std.proofs.Common.{get_or, take, find}
use Rattle.std.proofs.Common.{refl, sym, ap, ◌∙◌, subst, arith, leb, le-leb, inl, inr, cond, if◌then◌else◌, eqb, eq-eqb, ne_eqb, nat_cmp, is_some}
use Rattle.std.proofs.lemmas.Bool.{lt-leb}
use Rattle.std.proofs.lemmas.List.{take_more}
use Rattle.std.specs.BTreeMap.{BTreeMap, get, is_at}
use Rattle.std.specs.Option.{option_map}
use Rattle.std.specs.declared.alloc.AllocError.{AllocError}
use Rattle.imap_types.specs.declared.uid_set.UidRange.{UidRange}
use Rattle.told_folder.specs.Folders.{uid_of, held_in, mark_in, with_messages}
use Rattle.told_folder.specs.Index.{IsIndexed}
use Rattle.told_folder.specs.Keyed.{AllAbove, Ascends, with_key, cut_keyed}
use Rattle.told_folder.specs.Tell.{Telling, is_in, covers, without_those}
use Rattle.told_folder.specs.FolderTelling.{telling_of, IsIndexOf, GoesOn, GoesOk}
use Rattle.told_folder.specs.declared.message.NumberedFolder.{NumberedFolder}
use Rattle.told_folder.specs.declared.message.Message.{Message}
use Rattle.told_folder.specs.declared.telling.FolderTelling.{FolderTelling}
use Rattle.told_folder.proofs.FolderLemmas.{with_twice, held_with}
use Rattle.told_folder.proofs.IndexLemmas.{mark_of, mark_was, same_or_not, indexed_cut}
use Rattle.told_folder.proofs.KeyedLemmas.{some_is_not_none, some_same, ascends_cut}
use Rattle.told_folder.proofs.OpenLemmas.{telling_same, goes_on_to, undone}
use Rattle.told_folder.proofs.StepLemmas.{without_same}
use Rattle.told_folder.proofs.VanishLemmas.{found_without, filter_short, head_found, head_passed}

-- ---- the first message of a range

none_past : (f l k : ℕ) (xs : List Message) → AllAbove uid_of k xs → l ≤ k → find (λ x. leb f x.uid && leb x.uid l) xs ≡ None
none_past f l k [] a h = refl
none_past f l k (x ∷ xs) a h =
    let above : k < x.uid = a.0 in
    ap (λ b. if leb f x.uid && b then Some x else find (λ y. leb f y.uid && leb y.uid l) xs) (lt-leb _ _ (omega (arith, above, h)))
    ∙ elim (leb f x.uid) as (λ b. (if b && false then Some x else find (λ y. leb f y.uid && leb y.uid l) xs) ≡ None) [
      | true ↦ none_past f l k xs a.1 h
      | false ↦ none_past f l k xs a.1 h
    ]

-- the first UID held from f on is the first held from f to l, where it is at most l
pub within_yes : (f l u : ℕ) (xs : List Message) → Some u ≡ option_map uid_of (find (λ x. leb f x.uid) xs) → u ≤ l
    → Some u ≡ option_map uid_of (find (λ x. leb f x.uid && leb x.uid l) xs)
within_yes f l u [] e h = absurd (cc)
within_yes f l u (x ∷ xs) e h =
    elim (leb f x.uid) as (λ b. Some u ≡ option_map uid_of (if b then Some x else find (λ y. leb f y.uid) xs)
    → Some u ≡ option_map uid_of (if b && leb x.uid l then Some x else find (λ y. leb f y.uid && leb y.uid l) xs)) [
      | true ↦ λ g.
          let same : u ≡ x.uid = some_same _ _ g in
          g ∙ sym (ap (λ b. option_map uid_of (if b then Some x else find (λ y. leb f y.uid && leb y.uid l) xs)) (le-leb _ _ (omega (arith, same, h))))
      | false ↦ λ g. within_yes f l u xs g h
    ] e

-- where UIDs ascend and the first one held from f on is above l, none is held from f to l
pub within_no : (f l u : ℕ) (xs : List Message) → Ascends uid_of xs → Some u ≡ option_map uid_of (find (λ x. leb f x.uid) xs) → l < u
    → ◌≡◌ {A = Option ℕ} None (option_map uid_of (find (λ x. leb f x.uid && leb x.uid l) xs))
within_no f l u [] a e h = refl
within_no f l u (x ∷ xs) a e h =
    elim (leb f x.uid) as (λ b. Some u ≡ option_map uid_of (if b then Some x else find (λ y. leb f y.uid) xs)
    → ◌≡◌ {A = Option ℕ} None (option_map uid_of (if b && leb x.uid l then Some x else find (λ y. leb f y.uid && leb y.uid l) xs))) [
      | true ↦ λ g.
          let same : u ≡ x.uid = some_same _ _ g in
          sym (ap (λ b. option_map uid_of (if b then Some x else find (λ y. leb f y.uid && leb y.uid l) xs)) (lt-leb _ _ (omega (arith, same, h)))
          ∙ ap (option_map uid_of) (none_past f l x.uid xs a.0 (omega (arith, same, h))))
      | false ↦ λ g. within_no f l u xs a.1 g h
    ] e

-- where no UID is held from f on, none is held from f to l
pub within_none : (f l : ℕ) (xs : List Message) → ◌≡◌ {A = Option ℕ} None (option_map uid_of (find (λ x. leb f x.uid) xs))
    → ◌≡◌ {A = Option ℕ} None (option_map uid_of (find (λ x. leb f x.uid && leb x.uid l) xs))
within_none f l [] e = refl
within_none f l (x ∷ xs) e =
    elim (leb f x.uid) as (λ b. ◌≡◌ {A = Option ℕ} None (option_map uid_of (if b then Some x else find (λ y. leb f y.uid) xs))
    → ◌≡◌ {A = Option ℕ} None (option_map uid_of (if b && leb x.uid l then Some x else find (λ y. leb f y.uid && leb y.uid l) xs))) [
      | true ↦ λ g. absurd (some_is_not_none _ (sym g))
      | false ↦ λ g. within_none f l xs g
    ] e

-- a UID that is found is held, and passes the test
pub record IsOf (p : ℕ → Bool) (u : ℕ) (xs : List Message) : Type 0 where
  pub message : Message
  pub held : with_key uid_of u xs ≡ Some message
  pub passes : p u ≡ true

-- the UID of the first message that passes a test is held, and passes it
pub found_of : (p : ℕ → Bool) (u : ℕ) (xs : List Message) → Some u ≡ option_map uid_of (find (λ x. p x.uid) xs) → IsOf p u xs
found_of p u [] e = absurd (cc)
found_of p u (x ∷ xs) e =
    elim (p x.uid) as (λ b. p x.uid ≡ b → Some u ≡ option_map uid_of (if b then Some x else find (λ y. p y.uid) xs) → IsOf p u (x ∷ xs)) [
      | true ↦ λ t g.
          let same : u ≡ x.uid = some_same _ _ g in
          record { message = x; held = head_found u x xs (sym same); passes = ap p same ∙ t }
      | false ↦ λ t g.
          let rest = found_of p u xs g in
          elim (same_or_not x.uid u) [
            | inl same ↦ record { message = x; held = head_found u x xs same; passes = rest.passes }
            | inr apart ↦ record { message = rest.message; held = head_passed u x xs apart ∙ rest.held; passes = rest.passes }
          ]
    ] refl e

-- where no message passes a test, taking out those that do takes out none
pub none_of : (p : ℕ → Bool) (xs : List Message) → ◌≡◌ {A = Option ℕ} None (option_map uid_of (find (λ x. p x.uid) xs)) → without_those p xs ≡ xs
none_of p [] e = refl
none_of p (x ∷ xs) e =
    elim (p x.uid) as (λ b. ◌≡◌ {A = Option ℕ} None (option_map uid_of (if b then Some x else find (λ y. p y.uid) xs))
    → (if not b then x ∷ without_those p xs else without_those p xs) ≡ x ∷ xs) [
      | true ↦ λ g. absurd (some_is_not_none _ (sym g))
      | false ↦ λ g. ap (λ zs. x ∷ zs) (none_of p xs g)
    ] e

-- ---- a message that is cut

-- where a UID passes a test, cutting it before all that pass are taken out leaves the same messages
pub cut_within : (p : ℕ → Bool) (u : ℕ) (xs : List Message) → p u ≡ true → without_those p (cut_keyed uid_of u xs) ≡ without_those p xs
cut_within p u [] t = refl
cut_within p u (x ∷ xs) t =
    elim (same_or_not x.uid u) [
      | inl same ↦ ap (λ b. without_those p (if not b then x ∷ cut_keyed uid_of u xs else cut_keyed uid_of u xs)) (eq-eqb _ _ same) ∙ cut_within p u xs t
          ∙ sym (ap (λ b. if not b then x ∷ without_those p xs else without_those p xs) (ap p same ∙ t))
      | inr apart ↦ ap (λ b. without_those p (if not b then x ∷ cut_keyed uid_of u xs else cut_keyed uid_of u xs)) (ne_eqb _ _ apart)
          ∙ ap (λ zs. if not (p x.uid) then x ∷ zs else zs) (cut_within p u xs t)
    ]

-- cutting a message that is held leaves fewer messages
pub cut_shorter : (u : ℕ) (x : Message) (xs : List Message) → with_key uid_of u xs ≡ Some x → length (cut_keyed uid_of u xs) < length xs
cut_shorter u x [] e = absurd (cc)
cut_shorter u x (y ∷ ys) e =
    elim (same_or_not y.uid u) [
      | inl same ↦
          let short : length (cut_keyed uid_of u ys) ≤ length ys = filter_short (λ (m : Message). not (eqb m.uid u)) ys in
          subst (λ b. length (if not b then y ∷ cut_keyed uid_of u ys else cut_keyed uid_of u ys) < length (y ∷ ys)) (sym (eq-eqb _ _ same)) (omega (arith, short))
      | inr apart ↦
          let rest : length (cut_keyed uid_of u ys) < length ys = cut_shorter u x ys (sym (head_passed u y ys apart) ∙ e) in
          subst (λ b. length (if not b then y ∷ cut_keyed uid_of u ys else cut_keyed uid_of u ys) < length (y ∷ ys)) (sym (ne_eqb _ _ apart)) (omega (arith, rest))
    ]

index_cut : (hs : List NumberedFolder) (n : ℕ) (xs : List Message) (marks marks' : BTreeMap ℕ (ℕ × ℕ)) (nm u : ℕ) (x : Message) → is_some (held_in hs n) ≡ true
    → with_key uid_of u xs ≡ Some x → ((q : ℕ) → get nat_cmp marks' q ≡ cond (is_at (nat_cmp x.mark) q) None (get nat_cmp marks q))
    → IsIndexed (with_messages hs n xs) marks nm → IsIndexed (with_messages hs n (cut_keyed uid_of u xs)) marks' nm
index_cut hs n xs marks marks' nm u x there found upd i =
    let r = held_with hs n xs there in
    let ks = with_messages hs n xs in
    let P : List NumberedFolder → Type 0 = λ zs. IsIndexed zs marks' nm in
    let marked : mark_in ks (n, u) ≡ Some x.mark = mark_was ks n u r.0 r.1.found
    ∙ ap (λ (zs : List Message). option_map mark_of (with_key uid_of u zs)) r.1.messages ∙ ap (option_map mark_of) found in
    subst P (ap (λ (zs : List Message). with_messages ks n (cut_keyed uid_of u zs)) r.1.messages ∙ with_twice hs n xs (cut_keyed uid_of u xs))
    (indexed_cut ks marks marks' nm nm n u x.mark r.0 (omega arith) i r.1.found marked upd)

-- cutting a message that is held, and its mark, brings the open folder to its messages without that one
pub lost_goes : (old new : FolderTelling) (u : ℕ) (x : Message) → with_key uid_of u old.messages ≡ Some x → GoesOn old new → new.messages ≡ cut_keyed uid_of u old.messages
    → new.next_mark ≡ old.next_mark → ((q : ℕ) → get nat_cmp new.marks q ≡ cond (is_at (nat_cmp x.mark) q) None (get nat_cmp old.marks q))
    → GoesOk old new (record (telling_of old) { messages = cut_keyed uid_of u old.messages }) (Ok tt)
lost_goes old new u x found on cut next upd =
    let xs : List Message = old.messages in
    record {
      on = on;
      known = λ e.
          let same : cut_keyed uid_of u xs ≡ xs = ap (λ (t : Telling). t.messages) e in
          let short : length (cut_keyed uid_of u xs) < length xs = cut_shorter u x xs found in
          let long : length (cut_keyed uid_of u xs) ≡ length xs = ap length same in
          absurd (omega (arith, short, long));
      ascends = λ a. subst (λ (zs : List Message). Ascends uid_of zs) (sym cut) (ascends_cut uid_of u xs a);
      told = telling_same _ _ _ _ cut next;
      index = λ hs i. record {
        there = subst (λ n. is_some (held_in hs n) ≡ true) (sym on.folder) i.there;
        indexed =
            subst (λ n. IsIndexed (with_messages hs n new.messages) new.marks new.next_mark) (sym on.folder)
            (subst (λ (zs : List Message). IsIndexed (with_messages hs old.folder zs) new.marks new.next_mark) (sym cut)
            (subst (λ n. IsIndexed (with_messages hs old.folder (cut_keyed uid_of u xs)) new.marks n) (sym next)
            (index_cut hs old.folder xs old.marks new.marks old.next_mark u x i.there found upd i.indexed)));
      };
    }

-- out of memory, and the messages stay
pub lost_fails : (old new : FolderTelling) (t : Telling) (e : AllocError) → new.folder ≡ old.folder → new.messages ≡ old.messages → new.marks ≡ old.marks → new.next_mark ≡ old.next_mark
    → new.changes ≡ old.changes → GoesOk old new t (Err e)
lost_fails old new t e folder messages marks next changes =
    undone old new t e folder messages next changes
    (λ hs i. subst (λ (m : BTreeMap ℕ (ℕ × ℕ)). IsIndexed (with_messages hs old.folder old.messages) m old.next_mark) (sym marks) i)

-- ---- message by message, and range by range

-- so far those that are left come to what is left of all
pub record IsLosing (p : ℕ → Bool) (was now : FolderTelling) : Type 0 where
  pub on : GoesOn was now
  pub ascends : Ascends uid_of now.messages
  pub left : without_those p now.messages ≡ without_those p was.messages
  pub next_mark : now.next_mark ≡ was.next_mark
  pub known : without_those p was.messages ≡ was.messages → (now.messages ≡ was.messages) × (now.changes ≡ was.changes)
  pub index : (hs : List NumberedFolder) → IsIndexOf hs was → IsIndexOf hs now

-- at the start nothing is cut yet
pub losing_none : (p : ℕ → Bool) (old : FolderTelling) → Ascends uid_of old.messages → IsLosing p old old
losing_none p old up = record {
  on = record { folder = refl; rises = omega arith; stands = λ e l. refl; draws = λ e l. refl };
  ascends = up;
  left = refl;
  next_mark = refl;
  known = λ k. (refl, refl);
  index = λ hs i. i;
}

-- when the first message left that passes the test is cut, those left still come to what is left of all
pub losing_more : (p : ℕ → Bool) (was now next : FolderTelling) (u : ℕ) → Some u ≡ option_map uid_of (find (λ x. p x.uid) now.messages) → IsLosing p was now
    → GoesOk now next (record (telling_of now) { messages = cut_keyed uid_of u now.messages }) (Ok tt) → IsLosing p was next
losing_more p was now next u found so g =
    let of_p = found_of p u now.messages found in
    let cut : next.messages ≡ cut_keyed uid_of u now.messages = ap (λ (t : Telling). t.messages) g.told in
    record {
      on = goes_on_to _ _ _ so.on g.on;
      ascends = g.ascends so.ascends;
      left = ap (without_those p) cut ∙ cut_within p u now.messages of_p.passes ∙ so.left;
      next_mark = ap (λ (t : Telling). t.next_mark) g.told ∙ so.next_mark;
      known = λ k.
          let same : now.messages ≡ was.messages = (so.known k).0 in
          let stays : without_those p now.messages ≡ now.messages = ap (without_those p) same ∙ k ∙ sym same in
          absurd (some_is_not_none _ (sym of_p.held ∙ ap (λ (zs : List Message). with_key uid_of u zs) (sym stays)
          ∙ found_without p u now.messages ∙ ap (λ b. if b then None else with_key uid_of u now.messages) of_p.passes));
      index = λ hs i. g.index hs (so.index hs i);
    }

-- where no message is left that passes the test, the open folder has come to its messages without those that did
pub losing_all : (p : ℕ → Bool) (was now : FolderTelling) → ◌≡◌ {A = Option ℕ} None (option_map uid_of (find (λ x. p x.uid) now.messages)) → IsLosing p was now
    → GoesOk was now (record (telling_of was) { messages = without_those p was.messages }) (Ok tt)
losing_all p was now none so = record {
  on = so.on;
  ascends = λ a. so.ascends;
  told = telling_same _ _ _ _ (sym (none_of p now.messages none) ∙ so.left) so.next_mark;
  index = so.index;
  known = λ e. (so.known (ap (λ (t : Telling). t.messages) e)).1;
}

-- what runs out of memory in a step after others does so as a whole, and leaves the index and the count right
pub losing_fails : (was now next : FolderTelling) (on : GoesOn was now) (ascends : Ascends uid_of now.messages) (index : (hs : List NumberedFolder) → IsIndexOf hs was → IsIndexOf hs now)
    (t u : Telling)
    (e : AllocError) → GoesOk now next t (Err e) → GoesOk was next u (Err e)
losing_fails was now next on ascends index t u e g = record {
  on = goes_on_to _ _ _ on g.on;
  ascends = λ a. g.ascends ascends;
  told = tt;
  index = λ hs i. g.index hs (index hs i);
  known = λ k. tt;
}

-- ---- ranges

without_both : (p q : ℕ → Bool) (xs : List Message) → without_those q (without_those p xs) ≡ without_those (λ u. p u || q u) xs
without_both p q [] = refl
without_both p q (x ∷ xs) =
    elim (p x.uid) as (λ b. without_those q (if not b then x ∷ without_those p xs else without_those p xs)
    ≡ (if not (b || q x.uid) then x ∷ without_those (λ u. p u || q u) xs else without_those (λ u. p u || q u) xs)) [
      | true ↦ without_both p q xs
      | false ↦ ap (λ zs. if not (q x.uid) then x ∷ zs else zs) (without_both p q xs)
    ]

-- fewer go where none goes
fewer_stay : (p q : ℕ → Bool) → ((u : ℕ) → q u ≡ true → p u ≡ true) → (xs : List Message) → without_those p xs ≡ xs → without_those q xs ≡ xs
fewer_stay p q within [] e = refl
fewer_stay p q within (x ∷ xs) e =
    elim (p x.uid) as (λ b. p x.uid ≡ b → (if not b then x ∷ without_those p xs else without_those p xs) ≡ x ∷ xs → without_those q (x ∷ xs) ≡ x ∷ xs) [
      | true ↦ λ t f.
          let short : length (without_those p xs) ≤ length xs = filter_short (λ (m : Message). not (p m.uid)) xs in
          let long : length (without_those p xs) ≡ length (x ∷ xs) = ap length f in
          absurd (omega (arith, short, long))
      | false ↦ λ t f.
          let tails : without_those p xs ≡ xs = cc in
          let rest : without_those q xs ≡ xs = fewer_stay p q within xs tails in
          elim (q x.uid) as (λ b. q x.uid ≡ b → (if not b then x ∷ without_those q xs else without_those q xs) ≡ x ∷ xs) [
            | true ↦ λ g. let wrong : ◌≡◌ {A = Bool} true false = sym (within x.uid g) ∙ t in absurd (cc)
            | false ↦ λ g. ap (λ zs. x ∷ zs) rest
          ] refl
    ] refl e

covers_more : (rs : List UidRange) (r : UidRange) (u : ℕ) → covers (rs ++ r ∷ []) u ≡ (covers rs u || is_in r u)
covers_more [] r u = or_false (is_in r u) where
  or_false : (b : Bool) → (b || false) ≡ b
  or_false true = refl
  or_false false = refl
covers_more (q ∷ qs) r u = ap (λ b. is_in q u || b) (covers_more qs r u) ∙ or_assoc (is_in q u) (covers qs u) (is_in r u) where
  or_assoc : (a b c : Bool) → (a || (b || c)) ≡ ((a || b) || c)
  or_assoc true b c = refl
  or_assoc false b c = refl

covers_one : (rs : List UidRange) (i : ℕ) (r : UidRange) → i < length rs → r ≡ get_or rs i r → (u : ℕ) → is_in r u ≡ true → covers rs u ≡ true
covers_one [] i r h is u t = absurd (omega arith)
covers_one (q ∷ qs) zero r h is u t = ap (λ (z : UidRange). is_in z u || covers qs u) (sym is) ∙ ap (λ b. b || covers qs u) t
covers_one (q ∷ qs) (suc i) r h is u t = ap (λ b. is_in q u || b) (covers_one qs i r (omega arith) is u t) ∙ or_true (is_in q u) where
  or_true : (b : Bool) → (b || true) ≡ true
  or_true true = refl
  or_true false = refl

-- so far those of the ranges before a place are gone
pub record IsLost (rs : List UidRange) (i : ℕ) (was now : FolderTelling) : Type 0 where
  pub on : GoesOn was now
  pub ascends : Ascends uid_of now.messages
  pub left : now.messages ≡ without_those (covers (take i rs)) was.messages
  pub next_mark : now.next_mark ≡ was.next_mark
  pub known : without_those (covers rs) was.messages ≡ was.messages → (now.messages ≡ was.messages) × (now.changes ≡ was.changes)
  pub index : (hs : List NumberedFolder) → IsIndexOf hs was → IsIndexOf hs now

without_none : (xs : List Message) → xs ≡ without_those (λ u. false) xs
without_none [] = refl
without_none (x ∷ xs) = ap (λ zs. x ∷ zs) (without_none xs)

-- at the start the messages of no range are gone
pub lost_none : (rs : List UidRange) (old : FolderTelling) → Ascends uid_of old.messages → IsLost rs 0 old old
lost_none rs old up = record {
  on = record { folder = refl; rises = omega arith; stands = λ e l. refl; draws = λ e l. refl };
  ascends = up;
  left = nothing_taken rs old.messages;
  next_mark = refl;
  known = λ k. (refl, refl);
  index = λ hs i. i;
} where
  nothing_taken : (rs : List UidRange) (xs : List Message) → xs ≡ without_those (covers (take 0 rs)) xs
  nothing_taken [] xs = without_none xs
  nothing_taken (r ∷ rs) xs = without_none xs

-- when the messages of the range at a place go after those before it, those of the ranges up to it are gone
pub lost_more : (rs : List UidRange) (i : ℕ) (r : UidRange) (was now next : FolderTelling) → i < length rs → r ≡ get_or rs i r → IsLost rs i was now
    → GoesOk now next (record (telling_of now) { messages = without_those (is_in r) now.messages }) (Ok tt) → IsLost rs (i + 1) was next
lost_more rs i r was now next h is so g =
    let step : (u : ℕ) → (covers (take i rs) u || is_in r u) ≡ covers (take (i + 1) rs) u = λ u.
    sym (ap (λ (qs : List UidRange). covers qs u) (take_more rs i r h ∙ ap (λ (q : UidRange). take i rs ++ q ∷ []) (sym is)) ∙ covers_more (take i rs) r u) in
    record {
      on = goes_on_to _ _ _ so.on g.on;
      ascends = g.ascends so.ascends;
      left = ap (λ (t : Telling). t.messages) g.told ∙ ap (without_those (is_in r)) so.left ∙ without_both (covers (take i rs)) (is_in r) was.messages
          ∙ without_same _ _ step was.messages;
      next_mark = ap (λ (t : Telling). t.next_mark) g.told ∙ so.next_mark;
      known = λ k.
          let same : now.messages ≡ was.messages = (so.known k).0 in
          let here : without_those (is_in r) now.messages ≡ now.messages = ap (without_those (is_in r)) same
          ∙ fewer_stay (covers rs) (is_in r) (covers_one rs i r h is) was.messages k ∙ sym same in
          (ap (λ (t : Telling). t.messages) g.told ∙ here ∙ same, g.known (telling_same _ _ _ _ here refl) ∙ (so.known k).1);
      index = λ hs j. g.index hs (so.index hs j);
    }

-- after the last range the open folder has come to its messages without those of all ranges
pub lost_all : (rs : List UidRange) (i : ℕ) (was now : FolderTelling) → take i rs ≡ rs → IsLost rs i was now
    → GoesOk was now (record (telling_of was) { messages = without_those (covers rs) was.messages }) (Ok tt)
lost_all rs i was now whole so = record {
  on = so.on;
  ascends = λ a. so.ascends;
  told = telling_same _ _ _ _ (so.left ∙ ap (λ (qs : List UidRange). without_those (covers qs) was.messages) whole) so.next_mark;
  index = so.index;
  known = λ e. (so.known (ap (λ (t : Telling). t.messages) e)).1;
}
