-- What holds of the index while one folder's messages change.
use Rattle.std.proofs.Common.{◌≡◌, ◌≢◌, ℕ, ◌+◌, ◌<◌, ◌≤◌, Bool, true, false, List, [], ◌∷◌, ◌++◌, Option, Some, None, length, get_or, take, refl, sym, ap, ◌∙◌, subst}
use Rattle.std.proofs.Common.{arith, eqb, inl, inr, cond, if◌then◌else◌, nat_cmp, is_some}
use Rattle.std.specs.BTreeMap.{BTreeMap, get, is_at}
use Rattle.std.specs.Option.{option_map}
use Rattle.told_folder.specs.Keyed.{Ascends, with_key, put_keyed}
use Rattle.told_folder.specs.Folders.{uid_of, held_in, messages_of, message_in, mark_in, with_messages}
use Rattle.told_folder.specs.Index.{IsIndexed}
use Rattle.told_folder.specs.declared.message.Message.{Message}
use Rattle.told_folder.specs.declared.message.NumberedFolder.{NumberedFolder}
use Rattle.std.proofs.Common.{Result, Ok, Err, OnOk, OnErr}
use Rattle.std.specs.declared.alloc.AllocError.{AllocError}
use Rattle.imap_types.specs.declared.response.FetchItems.{FetchItems}
use Rattle.told_folder.specs.declared.telling.FolderTelling.{FolderTelling}
use Rattle.told_folder.specs.Tell.{Telling, with_flags, with_new, new_message, tell_uid, tell_fetch, tell_response, tell_responses, AllKnown}
use Rattle.imap_types.specs.declared.response.Response.{Response}
use Rattle.std.proofs.lemmas.List.{take_more}
use Rattle.told_folder.specs.FolderTelling.{telling_of, IsIndexOf, GoesOn, GoesOk, IsFlagged}
use Rattle.told_folder.proofs.KeyedLemmas.{found_put, ascends_put, some_same}
use Rattle.told_folder.proofs.PartLemmas.{some_there, found_key, put_found}
use Rattle.told_folder.proofs.FolderLemmas.{with_twice, held_with, messages_other, numbers_with, uids_with}
use Rattle.told_folder.proofs.IndexLemmas.{mark_of, mark_same, mark_was, same_or_not, inverts_same, eqb_same, eqb_apart, indexed_put, indexed_again}

-- the marks of every place stay, where they stay at each UID of the open folder
pub marks_stay : (hs : List NumberedFolder) (n : ℕ) (h : NumberedFolder) (ys : List Message) → held_in hs n ≡ Some h
    → ((u : ℕ) → option_map mark_of (with_key uid_of u ys) ≡ option_map mark_of (with_key uid_of u h.messages)) → (q : ℕ × ℕ) → mark_in (with_messages hs n ys) q ≡ mark_in hs q
marks_stay hs n h ys found stay q =
    elim (same_or_not q.0 n) [
      | inl same ↦ ap (λ m. mark_in (with_messages hs n ys) (m, q.1)) same ∙ mark_same hs n q.1 ys h found ∙ stay q.1 ∙ sym (mark_was hs n q.1 h found)
          ∙ ap (λ m. mark_in hs (m, q.1)) (sym same)
      | inr apart ↦ ap (λ (zs : List Message). option_map mark_of (with_key uid_of q.1 zs)) (messages_other hs n ys q.0 apart)
    ]

-- the index stays right where the open folder's other messages ascend and have the same mark at each UID
pub index_same : (hs : List NumberedFolder) (n : ℕ) (xs ys : List Message) (marks : BTreeMap ℕ (ℕ × ℕ)) (a : ℕ) → is_some (held_in hs n) ≡ true → Ascends uid_of ys
    → ((u : ℕ) → option_map mark_of (with_key uid_of u ys) ≡ option_map mark_of (with_key uid_of u xs)) → IsIndexed (with_messages hs n xs) marks a
    → IsIndexed (with_messages hs n ys) marks a
index_same hs n xs ys marks a there up stay i =
    let r = held_with hs n xs there in
    let ks = with_messages hs n xs in
    let stay_h : (u : ℕ) → option_map mark_of (with_key uid_of u ys) ≡ option_map mark_of (with_key uid_of u r.0.messages) = λ u. stay u
    ∙ ap (λ (zs : List Message). option_map mark_of (with_key uid_of u zs)) (sym r.1.messages) in
    let P : List NumberedFolder → Type 0 = λ zs. IsIndexed zs marks a in
    subst P (with_twice hs n xs ys) (record {
      numbers = numbers_with ks n ys i.numbers;
      uids = uids_with ks n ys up i.uids;
      inverse = inverts_same (get nat_cmp marks) (get nat_cmp marks) (mark_in ks) (mark_in (with_messages ks n ys)) i.inverse (λ j. refl) (marks_stay ks n r.0 ys r.1.found stay_h);
      below = λ p q e. i.below p q (sym (marks_stay ks n r.0 ys r.1.found stay_h p) ∙ e);
    })

-- a put of a message of the same UID and mark leaves the marks
pub put_marks : (x y : Message) (xs : List Message) → Ascends uid_of xs → Some y ≡ with_key uid_of x.uid xs → x.mark ≡ y.mark → (u : ℕ)
    → option_map mark_of (with_key uid_of u (put_keyed uid_of x xs)) ≡ option_map mark_of (with_key uid_of u xs)
put_marks x y xs up held same u =
    ap (option_map mark_of) (found_put uid_of u x xs up) ∙
    elim (same_or_not u x.uid) [
      | inl here ↦ ap (λ v. option_map mark_of (if eqb x.uid v then Some x else with_key uid_of v xs)) here
          ∙ ap (λ b. option_map mark_of (if b then Some x else with_key uid_of x.uid xs)) (eqb_same x.uid) ∙ ap (λ m. Some m) same ∙ ap (option_map mark_of) held
          ∙ ap (λ v. option_map mark_of (with_key uid_of v xs)) (sym here)
      | inr apart ↦ ap (λ b. option_map mark_of (if b then Some x else with_key uid_of u xs)) (eqb_apart x.uid u apart)
    ]

-- what follows from what holds at Ok holds at Ok
pub on_ok_map : {T E : Type 0} (r : Result T E) {P Q : Type 0} → (P → Q) → OnOk r P → OnOk r Q
on_ok_map (Ok x) f p = f p
on_ok_map (Err e) f p = tt

-- equal messages with equal next marks are equal
pub telling_same : (xs ys : List Message) (a b : ℕ) → xs ≡ ys → a ≡ b → ◌≡◌ {A = Telling} (record { messages = xs; next_mark = a }) (record { messages = ys; next_mark = b })
telling_same xs ys a b e f = cc

-- the index goes on where folder and marks stay
pub index_on : (hs : List NumberedFolder) (old new : FolderTelling) → new.folder ≡ old.folder → new.marks ≡ old.marks → new.next_mark ≡ old.next_mark → is_some (held_in hs old.folder) ≡ true
    → IsIndexed (with_messages hs old.folder new.messages) old.marks old.next_mark → IsIndexOf hs new
index_on hs old new folder marks next there i = record {
  there = subst (λ n. is_some (held_in hs n) ≡ true) (sym folder) there;
  indexed =
      subst (λ n. IsIndexed (with_messages hs n new.messages) new.marks new.next_mark) (sym folder)
      (subst (λ (m : BTreeMap ℕ (ℕ × ℕ)). IsIndexed (with_messages hs old.folder new.messages) m new.next_mark) (sym marks)
      (subst (λ n. IsIndexed (with_messages hs old.folder new.messages) old.marks n) (sym next) i));
}

-- giving a message that is held the flags that a FETCH tells is what the FETCH comes to
pub held_goes : (old new : FolderTelling) (uid : ℕ) (items : FetchItems) (flags : List (List ℕ)) (result : Result (Unit {0}) AllocError) (adds : Bool) → Ascends uid_of old.messages
    → is_some (with_key uid_of uid old.messages) ≡ true → items.flags ≡ Some flags
    → ((x : Message) → with_key uid_of uid old.messages ≡ Some x → IsFlagged old new x flags result)
    → GoesOk old new (tell_uid adds (telling_of old) uid items (with_key uid_of uid old.messages)) result
held_goes old new uid items flags result adds up held is flagged =
    let xs : List Message = old.messages in
    let item = some_there (with_key uid_of uid xs) held in
    let x : Message = item.0 in
    let found : with_key uid_of uid xs ≡ Some x = item.1 in
    let f : IsFlagged old new x flags result = flagged x found in
    let y : Message = record x { flags = flags } in
    let uid_is : x.uid ≡ uid = found_key uid xs x found in
    let at_x : with_key uid_of x.uid xs ≡ Some x = ap (λ u. with_key uid_of u xs) uid_is ∙ found in
    let told_is : ◌≡◌ {A = Telling} (record { messages = put_keyed uid_of y xs; next_mark = old.next_mark }) (tell_uid adds (telling_of old) uid items (with_key uid_of uid xs)) =
    ap (λ (fs : Option (List (List ℕ))). record { messages = put_keyed uid_of (with_flags x fs) xs; next_mark = old.next_mark }) (sym is)
    ∙ ap (λ (o : Option Message). tell_uid adds (telling_of old) uid items o) (sym found) in
    let put_y : with_key uid_of x.uid (put_keyed uid_of y xs) ≡ Some y = found_put uid_of x.uid y xs up
    ∙ ap (λ b. if b then Some y else with_key uid_of x.uid xs) (eqb_same x.uid) in
    record {
      on = f.on;
      known = λ e.
          let same : put_keyed uid_of y xs ≡ xs = ap (λ (t : Telling). t.messages) (told_is ∙ e) in
          let one : x ≡ y = some_same _ _ (sym at_x ∙ ap (λ (zs : List Message). with_key uid_of x.uid zs) (sym same) ∙ put_y) in
          f.known (ap (λ (z : Message). z.flags) one);
      ascends = λ a. elim result as (λ r. OnOk r (new.messages ≡ put_keyed uid_of y xs) → OnErr r (new.messages ≡ xs) → Ascends uid_of new.messages) [
        | Ok v ↦ λ e d. subst (λ (zs : List Message). Ascends uid_of zs) (sym e) (ascends_put uid_of y xs a)
        | Err v ↦ λ e d. subst (λ (zs : List Message). Ascends uid_of zs) (sym d) a
      ] f.told f.err;
      told = on_ok_map result (λ e. telling_same _ _ _ _ e f.next_mark ∙ told_is) f.told;
      index = λ hs i. index_on hs old new f.on.folder f.marks f.next_mark i.there
          (elim result as (λ r. OnOk r (new.messages ≡ put_keyed uid_of y xs) → OnErr r (new.messages ≡ xs)
          → IsIndexed (with_messages hs old.folder new.messages) old.marks old.next_mark) [
            | Ok v ↦ λ e d. subst (λ (zs : List Message). IsIndexed (with_messages hs old.folder zs) old.marks old.next_mark) (sym e)
                (index_same hs old.folder xs (put_keyed uid_of y xs) old.marks old.next_mark i.there (ascends_put uid_of y xs up) (put_marks y x xs up (sym at_x) refl) i.indexed)
            | Err v ↦ λ e d. subst (λ (zs : List Message). IsIndexed (with_messages hs old.folder zs) old.marks old.next_mark) (sym d) i.indexed
          ] f.told f.err);
    }

-- out of memory for the flags
pub stays_flagged : (old : FolderTelling) (x : Message) (flags : List (List ℕ)) (e : AllocError) → IsFlagged old old x flags (Err e)
stays_flagged old x flags e = record {
  on = record { folder = refl; rises = omega arith; stands = λ f l. refl; draws = λ f l. refl };
  marks = refl;
  next_mark = refl;
  told = tt;
  err = refl;
  known = λ k. tt;
}

-- a message that is held, of which no flags are told
pub held_stays : (old : FolderTelling) (uid : ℕ) (items : FetchItems) (adds : Bool) → Ascends uid_of old.messages → is_some (with_key uid_of uid old.messages) ≡ true → items.flags ≡ None
    → GoesOk old old (tell_uid adds (telling_of old) uid items (with_key uid_of uid old.messages)) (Ok tt)
held_stays old uid items adds up held is =
    let xs : List Message = old.messages in
    let item = some_there (with_key uid_of uid xs) held in
    let x : Message = item.0 in
    let put : put_keyed uid_of x xs ≡ xs = put_found uid x xs up item.1 in
    record {
      on = record { folder = refl; rises = omega arith; stands = λ e l. refl; draws = λ e l. refl };
      ascends = λ a. a;
      known = λ e. refl;
      told = telling_same _ _ _ _ (sym put) refl
          ∙ ap (λ (fs : Option (List (List ℕ))). record { messages = put_keyed uid_of (with_flags x fs) xs; next_mark = old.next_mark }) (sym is)
          ∙ ap (λ (o : Option Message). tell_uid adds (telling_of old) uid items o) (sym item.1);
      index = λ hs i. i;
    }

-- ---- a new message

-- when a message of a new UID, with a mark from the next one on, is put in the open folder, the index with its mark is right
pub index_put : (hs : List NumberedFolder) (n : ℕ) (xs : List Message) (marks marks' : BTreeMap ℕ (ℕ × ℕ)) (nm nm' : ℕ) (x : Message) → is_some (held_in hs n) ≡ true → nm ≤ nm'
    → x.mark < nm' → nm ≤ x.mark → with_key uid_of x.uid xs ≡ None → ((q : ℕ) → get nat_cmp marks' q ≡ cond (is_at (nat_cmp x.mark) q) (Some (n, x.uid)) (get nat_cmp marks q))
    → IsIndexed (with_messages hs n xs) marks nm → IsIndexed (with_messages hs n (put_keyed uid_of x xs)) marks' nm'
index_put hs n xs marks marks' nm nm' x there grows fits fresh free upd i =
    let r = held_with hs n xs there in
    let ks = with_messages hs n xs in
    let P : List NumberedFolder → Type 0 = λ zs. IsIndexed zs marks' nm' in
    let free_ks : message_in ks n x.uid ≡ None = ap (λ (o : Option NumberedFolder). with_key uid_of x.uid (messages_of o)) r.1.found
    ∙ ap (λ (zs : List Message). with_key uid_of x.uid zs) r.1.messages ∙ free in
    let new : (p : ℕ × ℕ) → mark_in ks p ≢ Some x.mark = λ p e. omega (arith, i.below p x.mark e, fresh) in
    subst P (ap (λ (zs : List Message). with_messages ks n (put_keyed uid_of x zs)) r.1.messages ∙ with_twice hs n xs (put_keyed uid_of x xs))
    (indexed_put ks marks marks' nm nm' n r.0 x grows fits i r.1.found free_ks new upd)

-- a new message that is put with the next mark in the open folder and in the index is what was to be told
pub put_goes : (old new : FolderTelling) (x : Message) → Ascends uid_of old.messages → with_key uid_of x.uid old.messages ≡ None → x.mark ≡ old.next_mark → GoesOn old new
    → new.messages ≡ put_keyed uid_of x old.messages → new.next_mark ≡ old.next_mark + 1
    → ((q : ℕ) → get nat_cmp new.marks q ≡ cond (is_at (nat_cmp x.mark) q) (Some (old.folder, x.uid)) (get nat_cmp old.marks q))
    → GoesOk old new (with_new (telling_of old) (Some x)) (Ok tt)
put_goes old new x up free mark on put next upd =
    let xs : List Message = old.messages in
    record {
      on = on;
      known = λ e. let next_is : old.next_mark + 1 ≡ old.next_mark = ap (λ (t : Telling). t.next_mark) e in absurd (omega (arith, next_is));
      ascends = λ a. subst (λ (zs : List Message). Ascends uid_of zs) (sym put) (ascends_put uid_of x xs a);
      told = telling_same _ _ _ _ put next;
      index = λ hs i. record {
        there = subst (λ n. is_some (held_in hs n) ≡ true) (sym on.folder) i.there;
        indexed =
            subst (λ n. IsIndexed (with_messages hs n new.messages) new.marks new.next_mark) (sym on.folder)
            (subst (λ (zs : List Message). IsIndexed (with_messages hs old.folder zs) new.marks new.next_mark) (sym put)
            (index_put hs old.folder xs old.marks new.marks old.next_mark new.next_mark x i.there (omega (arith, next)) (omega (arith, next, mark)) (omega (arith, mark))
            free upd i.indexed));
      };
    }

-- nothing is told
pub stays : (old : FolderTelling) (t : Telling) → telling_of old ≡ t → GoesOk old old t (Ok tt)
stays old t e = record {
  known = λ k. refl;
  on = record { folder = refl; rises = omega arith; stands = λ f l. refl; draws = λ f l. refl };
  ascends = λ a. a;
  told = e;
  index = λ hs i. i;
}

-- out of memory, and all is as it was but the marks, by which the index is right
pub undone : (old new : FolderTelling) (t : Telling) (e : AllocError) → new.folder ≡ old.folder → new.messages ≡ old.messages → new.next_mark ≡ old.next_mark
    → new.changes ≡ old.changes
    → ((hs : List NumberedFolder) → IsIndexed (with_messages hs old.folder old.messages) old.marks old.next_mark
    → IsIndexed (with_messages hs old.folder old.messages) new.marks old.next_mark)
    → GoesOk old new t (Err e)
undone old new t e folder messages next changes marks = record {
  known = λ k. tt;
  on = record { folder = folder; rises = omega (arith, changes); stands = λ f l. messages; draws = λ f l. next };
  ascends = λ a. subst (λ (zs : List Message). Ascends uid_of zs) (sym messages) a;
  told = tt;
  index = λ hs i. record {
    there = subst (λ n. is_some (held_in hs n) ≡ true) (sym folder) i.there;
    indexed =
        subst (λ n. IsIndexed (with_messages hs n new.messages) new.marks new.next_mark) (sym folder)
        (subst (λ (zs : List Message). IsIndexed (with_messages hs old.folder zs) new.marks new.next_mark) (sym messages)
        (subst (λ n. IsIndexed (with_messages hs old.folder old.messages) new.marks n) (sym next) (marks hs i.indexed)));
  };
}

-- out of memory, and the mark that was put was cut again
pub put_fails : (old new : FolderTelling) (t : Telling) (k : ℕ) (p : ℕ × ℕ) (marks : BTreeMap ℕ (ℕ × ℕ)) (e : AllocError) → old.next_mark ≤ k → new.folder ≡ old.folder
    → new.messages ≡ old.messages → new.next_mark ≡ old.next_mark → new.changes ≡ old.changes
    → ((q : ℕ) → get nat_cmp marks q ≡ cond (is_at (nat_cmp k) q) (Some p) (get nat_cmp old.marks q))
    → ((q : ℕ) → get nat_cmp new.marks q ≡ cond (is_at (nat_cmp k) q) None (get nat_cmp marks q)) → GoesOk old new t (Err e)
put_fails old new t k p marks e fresh folder messages next changes upd upd' =
    undone old new t e folder messages next changes
    (λ hs i. indexed_again (with_messages hs old.folder old.messages) old.marks marks new.marks old.next_mark k p i
    (λ q f. omega (arith, i.below q k f, fresh)) upd upd')

-- out of memory, and nothing was changed
pub fails : (old : FolderTelling) (t : Telling) (e : AllocError) → GoesOk old old t (Err e)
fails old t e = undone old old t e refl refl refl refl (λ hs i. i)

-- ---- what a FETCH comes to

-- a step that comes to what was to be told comes to what is equal to it
pub goes_to : (old new : FolderTelling) (t u : Telling) (result : Result (Unit {0}) AllocError) → t ≡ u → GoesOk old new t result → GoesOk old new u result
goes_to old new t u result e g = subst (λ (z : Telling). GoesOk old new z result) e g

-- a FETCH that has a UID tells what its items tell of that UID
pub fetched : (old new : FolderTelling) (adds : Bool) (o : Option ℕ) (uid : ℕ) (items : FetchItems) (result : Result (Unit {0}) AllocError) → o ≡ Some uid
    → GoesOk old new (tell_uid adds (telling_of old) uid items (with_key uid_of uid old.messages)) result → GoesOk old new (tell_fetch adds (telling_of old) o items) result
fetched old new adds o uid items result e g = subst (λ (z : Option ℕ). GoesOk old new (tell_fetch adds (telling_of old) z items) result) (sym e) g

-- of a UID that isn't held
pub added : (old new : FolderTelling) (adds : Bool) (uid : ℕ) (items : FetchItems) (result : Result (Unit {0}) AllocError) → with_key uid_of uid old.messages ≡ None → adds ≡ true
    → GoesOk old new (with_new (telling_of old) (new_message old.next_mark uid items.flags items.date items.size items.header)) result
    → GoesOk old new (tell_uid adds (telling_of old) uid items (with_key uid_of uid old.messages)) result
added old new adds uid items result free on g =
    goes_to old new _ _ result (sym (ap (λ b. tell_uid b (telling_of old) uid items (with_key uid_of uid old.messages)) on
    ∙ ap (λ (o : Option Message). tell_uid true (telling_of old) uid items o) free)) g

-- a FETCH of a UID that isn't held changes nothing where the command adds no messages
pub passed_over : (old : FolderTelling) (adds : Bool) (uid : ℕ) (items : FetchItems) → with_key uid_of uid old.messages ≡ None → adds ≡ false
    → GoesOk old old (tell_uid adds (telling_of old) uid items (with_key uid_of uid old.messages)) (Ok tt)
passed_over old adds uid items free off =
    stays old _ (sym (ap (λ b. tell_uid b (telling_of old) uid items (with_key uid_of uid old.messages)) off
    ∙ ap (λ (o : Option Message). tell_uid false (telling_of old) uid items o) free))

-- ---- one response more

-- two steps in order that each keep the folder's number and count what changes do so together
pub goes_on_to : (a b c : FolderTelling) → GoesOn a b → GoesOn b c → GoesOn a c
goes_on_to a b c f g = record {
  folder = g.folder ∙ f.folder;
  rises = omega (arith, f.rises, g.rises);
  stands = λ e l.
      let first : a.changes ≡ b.changes = omega (arith, e, f.rises, g.rises) in
      let second : b.changes ≡ c.changes = sym first ∙ e in
      g.stands second l ∙ f.stands first (omega (arith, second, l));
  draws = λ e l.
      let first : a.changes ≡ b.changes = omega (arith, e, f.rises, g.rises) in
      let second : b.changes ≡ c.changes = sym first ∙ e in
      g.draws second l ∙ f.draws first (omega (arith, second, l));
}

-- telling one response more is telling it after the others
pub tell_more : (adds : Bool) (t : Telling) (rs : List Response) (r : Response) → tell_responses adds t (rs ++ r ∷ []) ≡ tell_response adds (tell_responses adds t rs) r
tell_more adds t [] r = refl
tell_more adds t (q ∷ qs) r = tell_more adds (tell_response adds t q) qs r

-- when the response at a place is told after those before it, those up to it are told
pub tell_step : (adds : Bool) (was : Telling) (rs : List Response) (i : ℕ) (r : Response) (mid new : Telling) → i < length rs → r ≡ get_or rs i r
    → mid ≡ tell_responses adds was (take i rs) → new ≡ tell_response adds mid r → new ≡ tell_responses adds was (take (i + 1) rs)
tell_step adds was rs i r mid new h is m n =
    n ∙ ap (λ (t : Telling). tell_response adds t r) m ∙ sym (tell_more adds was (take i rs) r) ∙ ap (λ (x : Response). tell_responses adds was (take i rs ++ x ∷ [])) is
    ∙ sym (ap (λ (xs : List Response). tell_responses adds was xs) (take_more rs i r h))

-- ---- what is known

-- where all responses tell what is known, those but the last do, and so does the last
pub known_more : (adds : Bool) (t : Telling) (rs : List Response) (r : Response) → AllKnown adds t (rs ++ r ∷ []) → AllKnown adds t rs × (tell_response adds t r ≡ t)
known_more adds t [] r k = (tt, k.0)
known_more adds t (q ∷ qs) r k = let rest = known_more adds t qs r k.1 in ((k.0, rest.0), rest.1)

-- responses that each tell what is known change nothing
pub known_stays : (adds : Bool) (t : Telling) (rs : List Response) → AllKnown adds t rs → tell_responses adds t rs ≡ t
known_stays adds t [] k = refl
known_stays adds t (r ∷ rs) k = ap (λ (s : Telling). tell_responses adds s rs) k.0 ∙ known_stays adds t rs k.1

-- the count stands after one response more that tells what is known
pub known_step : (adds : Bool) (was mid : FolderTelling) (rs : List Response) (i : ℕ) (r : Response) (changes : ℕ) → i < length rs → r ≡ get_or rs i r
    → telling_of mid ≡ tell_responses adds (telling_of was) (take i rs) → (AllKnown adds (telling_of was) (take i rs) → mid.changes ≡ was.changes)
    → (tell_response adds (telling_of mid) r ≡ telling_of mid → changes ≡ mid.changes) → AllKnown adds (telling_of was) (take (i + 1) rs) → changes ≡ was.changes
known_step adds was mid rs i r changes h is told before step k =
    let more = known_more adds (telling_of was) (take i rs) (get_or rs i r) (subst (λ (xs : List Response). AllKnown adds (telling_of was) xs) (take_more rs i r h) k) in
    let same : telling_of mid ≡ telling_of was = told ∙ known_stays adds (telling_of was) (take i rs) more.0 in
    let now : tell_response adds (telling_of mid) r ≡ telling_of mid = ap (λ (t : Telling). tell_response adds t r) same
    ∙ ap (λ (x : Response). tell_response adds (telling_of was) x) is ∙ more.1 ∙ sym same in
    step now ∙ before more.0
