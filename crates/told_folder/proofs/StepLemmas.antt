-- What holds as responses are read in order, and as a folder comes to what was told of it.
use Rattle.std.proofs.Common.{◌≡◌, ◌≢◌, ℕ, ◌+◌, ◌-◌, ◌^◌, ◌<◌, ◌≤◌, zero, suc, Bool, true, false, not, List, [], ◌∷◌, Option, Some, None, Result, Ok, Err, OnOk, length}
use Rattle.std.proofs.Common.{get_or, drop, max, min, refl, sym, ap, ◌∙◌, subst, arith, unwrap_or, if◌then◌else◌, nat_cmp, ◌||◌}
use Rattle.std.specs.BTreeSet.{BTreeSet, contains}
use Rattle.std.specs.List.{list_any, filter_map, cons_option}
use Rattle.std.specs.declared.alloc.AllocError.{AllocError}
use Rattle.imap_types.specs.declared.command.Command.{Command}
use Rattle.imap_types.specs.declared.command.Command.TheVariants as command
use Rattle.imap_types.specs.declared.response.Response.{Response}
use Rattle.told_folder.specs.Keyed.{last_of}
use Rattle.told_folder.specs.Select.{is_closed, after_closed, last_told, under}
use Rattle.told_folder.specs.Tell.{Telling, without_those, tell_responses, AllKnown}
use Rattle.told_folder.specs.ToldBy.{past, past_told, uid_told, is_told, selected_first, adds, ended_command, telling_in, telling_by}
use Rattle.told_folder.specs.FolderTelling.{telling_of, held_of, GoesOn, Goes, GoesWith, Keeps, StepsOk, Steps, Tells}
use Rattle.told_folder.specs.reading.Loops.{closed}
use Rattle.told_folder.specs.declared.message.Folder.{Folder}
use Rattle.told_folder.specs.declared.message.NumberedFolder.{NumberedFolder}
use Rattle.told_folder.specs.declared.message.Message.{Message}
use Rattle.told_folder.specs.declared.telling.FolderTelling.{FolderTelling}
use Rattle.told_folder.proofs.FolderLemmas.{held_same}
use Rattle.told_folder.proofs.IndexLemmas.{eqb_apart}
use Rattle.told_folder.proofs.OpenLemmas.{telling_same, on_ok_map, goes_on_to, known_stays}

-- ---- what is left to read

-- what is left from a place on is the element there, and then what is left after it
pub left : {X : Type 0} (xs : List X) (i : ℕ) (x : X) → i < length xs → x ≡ get_or xs i x → drop i xs ≡ x ∷ drop (i + 1) xs
left [] i x h is = absurd (omega arith)
left (y ∷ ys) zero x h is = ap (λ z. z ∷ ys) (sym is)
left (y ∷ ys) (suc i) x h is = left ys i x (omega arith) is ∙ ap (λ j. x ∷ drop j (y ∷ ys)) (more i) where
  more : (i : ℕ) → suc (i + 1) ≡ suc i + 1
  more i = omega arith

-- from the end of a list on nothing is left
pub none_left : {X : Type 0} (xs : List X) (i : ℕ) → length xs ≤ i → drop i xs ≡ []
none_left [] zero h = refl
none_left [] (suc i) h = refl
none_left (x ∷ xs) zero h = absurd (omega arith)
none_left (x ∷ xs) (suc i) h = none_left xs i (omega arith)

last_first : (value : Response → Option ℕ) (was : ℕ) (r : Response) (rs : List Response) → last_told value was (r ∷ rs) ≡ last_told value (unwrap_or (value r) was) rs
last_first value was r rs =
    elim (value r) as (λ o. unwrap_or (last_of (cons_option o (filter_map value rs))) was ≡ unwrap_or (last_of (filter_map value rs)) (unwrap_or o was))
    [ None ↦ refl | Some v ↦ refl ]

-- what the loop has found is what stands after the last CLOSED
pub closed_is : (after rs : List Response) → closed after rs ≡ (if list_any is_closed rs then after_closed rs else after)
closed_is after [] = refl
closed_is after (r ∷ rs) =
    elim (is_closed r) as (λ b. (if b then closed rs rs else closed after rs)
    ≡ (if b || list_any is_closed rs then (if list_any is_closed rs then after_closed rs else (if b then rs else r ∷ rs)) else after)) [
      | true ↦ closed_is rs rs
      | false ↦ closed_is after rs ∙ elim (list_any is_closed rs) as (λ v. (if v then after_closed rs else after)
          ≡ (if v then (if v then after_closed rs else r ∷ rs) else after)) [ true ↦ refl | false ↦ refl ]
    ]

-- a loop that begins with all responses finds those after the last CLOSED, or all where there is none
pub closed_whole : (rs : List Response) → closed rs rs ≡ after_closed rs
closed_whole rs = closed_is rs rs ∙ none_closed rs where
  none_closed : (rs : List Response) → (if list_any is_closed rs then after_closed rs else rs) ≡ after_closed rs
  none_closed [] = refl
  none_closed (r ∷ rs) =
      let rest = none_closed rs in
      elim (is_closed r) as (λ b. (if b || list_any is_closed rs then (if list_any is_closed rs then after_closed rs else (if b then rs else r ∷ rs)) else r ∷ rs)
      ≡ (if list_any is_closed rs then after_closed rs else (if b then rs else r ∷ rs))) [
        | true ↦ refl
        | false ↦ elim (list_any is_closed rs) as (λ v. (if v then (if v then after_closed rs else r ∷ rs) else r ∷ rs) ≡ (if v then after_closed rs else r ∷ rs))
            [ true ↦ refl | false ↦ refl ]
      ]

module _ (rs : List Response) (i : ℕ) (r : Response) (h : i < length rs) (is : r ≡ get_or rs i r) where
  -- taking the value that a response tells, where it tells one, for the one so far leaves the value told last as it is
  pub last_step : (value : Response → Option ℕ) (was : ℕ) → last_told value was (drop i rs) ≡ last_told value (unwrap_or (value r) was) (drop (i + 1) rs)
  last_step value was = ap (λ (qs : List Response). last_told value was qs) (left rs i r h is) ∙ last_first value was r (drop (i + 1) rs)

  -- at a CLOSED the loop begins anew with all responses after it, and at any other response it goes on with those found so far
  pub closed_step : (after : List Response) → closed after (drop i rs) ≡ (if is_closed r then closed (drop (i + 1) rs) (drop (i + 1) rs) else closed after (drop (i + 1) rs))
  closed_step after = ap (λ (qs : List Response). closed after qs) (left rs i r h is)

  -- raising the number so far to that past the UID which a response tells leaves the number past all UIDs as it is
  pub past_step : (xs : List Message) (n : ℕ) → max n (past_told xs (drop i rs)) ≡ max (max n (past xs (uid_told r))) (past_told xs (drop (i + 1) rs))
  past_step xs n = ap (λ (qs : List Response). max n (past_told xs qs)) (left rs i r h is) ∙ outer n (past xs (uid_told r)) (past_told xs (drop (i + 1) rs)) where
    outer : (a b c : ℕ) → max a (max b c) ≡ max (max a b) c
    outer a b c = omega arith

-- where no response is left, the responses after the last CLOSED are those found so far
pub closed_end : (after rs : List Response) (i : ℕ) → length rs ≤ i → closed after (drop i rs) ≡ after
closed_end after rs i h = ap (λ (qs : List Response). closed after qs) (none_left rs i h)

-- ---- the codes of a SELECT

-- where every UID goes, no message is left
pub without_all : (xs : List Message) → without_those (λ u. true) xs ≡ []
without_all [] = refl
without_all (x ∷ xs) = without_all xs

-- under another validity a folder has that validity, its `next` at 1, and no messages
pub under_other : (v : ℕ) (h : NumberedFolder) → v ≢ h.folder.validity → under v h ≡ record { folder = record h.folder { validity = v; next = 1 }; messages = [] }
under_other v h apart = ap (λ b. if b then h else record { folder = record h.folder { validity = v; next = 1 }; messages = [] })
    (eqb_apart v h.folder.validity (λ e. apart (sym e)))

validity_of : NumberedFolder → ℕ
validity_of h = h.folder.validity

-- another validity
pub renewed : (old mid : FolderTelling) (f : Folder) (v changes : ℕ) → v ≢ f.validity
    → Goes old mid (record { messages = without_those (λ u. true) old.messages; next_mark = old.next_mark }) → changes ≡ min (mid.changes + 1) (2 ^ 64 - 1) → mid.changes < 2 ^ 64
    → Steps old (record mid { changes = changes }) f (record f { validity = v; next = 1 }) (under v (held_of old f))
renewed old mid f v changes apart goes more fits =
    let messages : mid.messages ≡ [] = ap (λ (t : Telling). t.messages) goes.told ∙ without_all old.messages in
    let to : under v (held_of old f) ≡ held_of (record mid { changes = changes }) (record f { validity = v; next = 1 }) = under_other v (held_of old f) apart
    ∙ held_same _ _ _ _ refl (sym messages) in
    let rises : old.changes ≤ mid.changes = goes.on.rises in
    record {
      keeps = record { same = refl; stands = λ e l. absurd (omega (arith, e, l, more, rises)) };
      on = record {
        folder = goes.on.folder;
        rises = omega (arith, more, rises, fits);
        stands = λ e l. absurd (omega (arith, e, l, more, rises));
        draws = λ e l. ap
            (λ (t : Telling). t.next_mark) goes.told;
      };
      ascends = goes.ascends;
      index = λ hs i. let k = goes.index hs i in record { there = k.there; indexed = k.indexed };
      next_mark = ap (λ (t : Telling). t.next_mark) goes.told;
      told = sym to;
      known = λ e. absurd (apart (ap (λ (k : NumberedFolder). k.folder.validity) (sym (under_other v (held_of old f) apart) ∙ e)));
    }

-- ---- what the end of a fetch tells

-- what holds anyway holds at Ok
pub on_ok_always : {T E : Type 0} (r : Result T E) {P : Type 0} → P → OnOk r P
on_ok_always (Ok x) p = p
on_ok_always (Err e) p = tt

-- two tests that say the same of each UID leave the same messages
pub without_same : (p q : ℕ → Bool) → ((u : ℕ) → p u ≡ q u) → (xs : List Message) → without_those p xs ≡ without_those q xs
without_same p q same [] = refl
without_same p q same (x ∷ xs) =
    ap (λ b. if not b then x ∷ without_those p xs else without_those p xs) (same x.uid)
    ∙ ap (λ (zs : List Message). if not (q x.uid) then x ∷ zs else zs) (without_same p q same xs)

folder_same : (h k : NumberedFolder) → h ≡ k → h.folder ≡ k.folder
folder_same h k e = ap (λ (z : NumberedFolder). z.folder) e

messages_same : (h k : NumberedFolder) → h ≡ k → h.messages ≡ k.messages
messages_same h k e = ap (λ (z : NumberedFolder). z.messages) e

-- FETCH of the flags of all
pub kept_told : (old new : FolderTelling) (f : Folder) (c : Command) (rs : List Response) (told : BTreeSet ℕ) → c ≡ command.FetchFlags → ((u : ℕ) → contains nat_cmp told u ≡ is_told rs u)
    → Goes old new (record { messages = without_those (λ u. not (contains nat_cmp told u)) old.messages; next_mark = old.next_mark })
    → Steps old new f f (ended_command c rs f old.messages)
kept_told old new f c rs told is same goes =
    let xs : List Message = old.messages in
    let kept : without_those (λ u. not (contains nat_cmp told u)) xs ≡ without_those (λ u. not (is_told rs u)) xs = without_same _ _ (λ u. ap not (same u)) xs in
    let to : ended_command c rs f xs ≡ record { folder = f; messages = without_those (λ u. not (is_told rs u)) xs } = ap (λ (d : Command). ended_command d rs f xs) is in
    record {
      keeps = record { same = refl; stands = λ e l. refl };
      on = goes.on;
      ascends = goes.ascends;
      index = goes.index;
      next_mark = ap (λ (t : Telling). t.next_mark) goes.told;
      told = held_same _ _ _ _ refl (ap (λ (t : Telling). t.messages) goes.told ∙ kept) ∙ sym to;
      known = λ e. goes.known (telling_same _ _ _ _ (kept ∙ messages_same _ _ (sym to ∙ e)) refl);
    }

-- ---- the whole exchange

-- where two steps in order each keep what no exchange of the folder tells, both together do
pub keeps_on : (a b c : FolderTelling) (f g k : Folder) → GoesOn a b → GoesOn b c → Keeps a b f g → Keeps b c g k → Keeps a c f k
keeps_on a b c f g k on next p q = record {
  same = q.same ∙ ap (λ (z : Folder). record z { validity = k.validity; modseq = k.modseq; next = k.next }) p.same;
  stands = λ e l.
      let first : a.changes ≡ b.changes = omega (arith, e, on.rises, next.rises) in
      let second : b.changes ≡ c.changes = sym first ∙ e in
      q.stands second l ∙ p.stands first (omega (arith, second, l));
}

-- what comes before the responses, the responses, and what comes after them bring the folder to what the command tells
pub told_whole : (old a b d : FolderTelling) (f f1 g : Folder) (c : Command) (rs : List Response) (adding : Bool) (result : Result (Unit {0}) AllocError)
    → Steps old a f f1 (selected_first c rs (held_of old f)) → adding ≡ adds c → GoesWith (AllKnown adding (telling_of a) rs) a b (tell_responses adding (telling_of a) rs) (Ok tt)
    → StepsOk b d f1 g (ended_command c rs f1 b.messages) result → Tells old d f g c rs result
told_whole old a b d f f1 g c rs adding result start is mid end =
    let h : NumberedFolder = held_of old f in
    let begin : NumberedFolder = selected_first c rs h in
    let folder : f1 ≡ begin.folder = folder_same _ _ start.told in
    let messages : a.messages ≡ begin.messages = messages_same _ _ start.told in
    let from : telling_of a ≡ telling_in old.next_mark begin = telling_same _ _ _ _ messages start.next_mark in
    let to : telling_of b ≡ telling_by c rs old.next_mark h = mid.told ∙ ap (λ v. tell_responses v (telling_of a) rs) is
    ∙ ap (λ (t : Telling). tell_responses (adds c) t rs) from in
    let now : b.messages ≡ (telling_by c rs old.next_mark h).messages = ap (λ (t : Telling). t.messages) to in
    let on_ab = goes_on_to old a b start.on mid.on in
    record {
      keeps = keeps_on old b d f f1 g on_ab end.on (keeps_on old a b f f1 f1 start.on mid.on start.keeps (record { same = refl; stands = λ e l. refl })) end.keeps;
      on = goes_on_to old b d on_ab end.on;
      ascends = λ u. end.ascends (mid.ascends (start.ascends u));
      index = λ hs i. end.index hs (mid.index hs (start.index hs i));
      told = on_ok_map result (λ e. e ∙ ap (λ (z : Folder). ended_command c rs z b.messages) folder ∙ ap (λ (zs : List Message). ended_command c rs begin.folder zs) now) end.told;
      next_mark = on_ok_always result (end.next_mark ∙ ap (λ (t : Telling). t.next_mark) to);
      known = λ k.
          let first : a.changes ≡ old.changes = start.known k.before in
          let here : begin ≡ h = k.before in
          let from_h : telling_of a ≡ telling_in old.next_mark h = from ∙ ap (λ (z : NumberedFolder). telling_in old.next_mark z) here in
          let all : AllKnown adding (telling_of a) rs = subst (λ v. AllKnown v (telling_of a) rs) (sym is)
          (subst (λ (t : Telling). AllKnown (adds c) t rs) (sym from_h) k.responses) in
          let second : b.changes ≡ a.changes = mid.known all in
          let stays : telling_of b ≡ telling_in old.next_mark h = mid.told ∙ known_stays adding (telling_of a) rs all ∙ from_h in
          let folder_h : f1 ≡ f = folder ∙ folder_same _ _ here in
          let messages_h : b.messages ≡ old.messages = ap (λ (t : Telling). t.messages) stays in
          let over : ended_command c rs f1 b.messages ≡ held_of b f1 = ap (λ (z : Folder). ended_command c rs z b.messages) folder_h
          ∙ ap (λ (zs : List Message). ended_command c rs f zs) messages_h ∙ k.after ∙ held_same _ _ _ _ (sym folder_h) (sym messages_h) in
          on_ok_map result (λ e. e ∙ second ∙ first) (end.known over);
    }
