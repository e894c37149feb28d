-- Answers to SELECT are honest.
use Rattle.std.proofs.Common.{inl, ◌≡◌, ◌≢◌, ℕ, zero, suc, ◌<◌, Bool, true, false, List, [], ◌∷◌, ◌++◌, Option, Some, None, map, filter, slice_index_or, refl, sym, subst}
use Rattle.std.proofs.Common.{arith, nat_lt, ◌==◌, IfSome, All, Any, eq-eqb, lt-ltb, if◌then◌else◌}
use Rattle.std.specs.List.{AllByRecursion}
use Rattle.std.proofs.lemmas.Bool.{true≢false}
use Rattle.std.proofs.lemmas.List.Elements.{All-from_recursion, All-nil, recursion_from_All}
use Rattle.imap_types.specs.declared.code.Code.TheVariants as code
use Rattle.imap_types.specs.declared.command.Command.TheVariants as command
use Rattle.imap_types.specs.declared.response.Response.{Response}
use Rattle.imap_types.specs.declared.response.Response.TheVariants as response
use Rattle.imap_types.specs.declared.uid_set.UidRange.{UidRange}
use Rattle.imap_types.specs.UidSets.{InRange, Holds}
use Rattle.honest_store.specs.StoreMail.{ExpungedUid, StoreFolder, StoreMessage, folder_called, folder_numbered}
use Rattle.honest_store.specs.WellFormed.{IsExpungedUid, IsStoreFolder, IsStoreMail}
use Rattle.honest_store.specs.Others.{NoStep}
use Rattle.honest_store.specs.Responses.{IsCoded, IsFetchOf, IsVanishedOf, MayAnswer, TellsFlags, ok_code}
use Rattle.honest_store.specs.TrueResponses.{IsVanished}
use Rattle.honest_store.specs.Sessions.{StoreSession}
use Rattle.honest_store.specs.Selecting.{BeginsFolder, IsCodeOf, TellsChanges, TellsFolder}
use Rattle.honest_store.specs.Honest.{Honest}
use Rattle.small_answers.specs.Causes.{RefusalCause, NotThere}
use Rattle.small_answers.specs.ToldResponses.{set_of, ok_response, change_response, changes_since, closed_responses, folder_responses, known_changes, select_responses}
use Rattle.small_answers.specs.Answers.{ok_answer, select_reply}
use Rattle.small_answers.proofs.Elements.{any_head, any_left, any_right, each_append, each_of, each_weaker, told_all, told_each}
use Rattle.small_answers.proofs.Truths.{IsTrueThere}
use Rattle.small_answers.proofs.Fetches.{change_all_true}
use Rattle.small_answers.proofs.FoldersFound.{called_is, called_numbered}
use Rattle.small_answers.proofs.Reading.{late_answer}

-- ---- sets of one UID

holds_at : (w u k : ℕ) (r : UidRange) → k < 1 → slice_index_or (record { first = w; last = w } ∷ []) k r ≡ r → InRange r u → u ≡ w
holds_at w u zero r l e h = let i : InRange (record { first = w; last = w }) u = subst (λ q. InRange q u) (sym e) h in omega (arith, i.0, i.1)
holds_at w u (suc k) r l e h = absurd (omega (arith, l))

pub set_holds_one : (w u : ℕ) → Holds (set_of w).ranges u → u ≡ w
set_holds_one w u h = holds_at w u h.0 h.1 h.2 h.3 h.4

pub set_holds : (w : ℕ) → Holds (set_of w).ranges w
set_holds w = (0, record { first = w; last = w }, omega arith, refl, (omega arith, omega arith))

-- a VANISHED of one UID is true where it is of that
pub vanished_true : (earlier : Bool) (f : StoreFolder) (u : ℕ) → IsVanished earlier (Some f) u → IsTrueThere (Some (Some f)) (response.Vanished earlier (set_of u))
vanished_true earlier f u is = (tt, λ v h. subst (IsVanished earlier (Some f)) (sym (set_holds_one u v h)) is)

-- ---- the responses to a SELECT of a folder

abbrev went : ExpungedUid → Response
went e = response.Vanished true (set_of e.uid)

abbrev is_later : ℕ → ExpungedUid → Bool
is_later since e = nat_lt since e.modseq

abbrev is_changed : ℕ → StoreMessage → Bool
is_changed since m = nat_lt since m.modseq

changes_true : (f : StoreFolder) → IsStoreFolder f → (since : ℕ) → AllByRecursion (IsTrueThere (Some (Some f))) (changes_since f since)
changes_true f whole since =
    each_append (IsTrueThere (Some (Some f))) (map went (filter (is_later since) f.expunged)) (map (change_response f.messages) (filter (is_changed since) f.messages))
    (told_all (is_later since) went (IsTrueThere (Some (Some f))) f.expunged
    (each_weaker (IsExpungedUid f) (λ e. IsTrueThere (Some (Some f)) (went e)) (λ e is. vanished_true true f e.uid (record { not_held = is.not_held; has_gone = λ same. absurd (true≢false same) })) f.expunged
    (recursion_from_All (IsExpungedUid f) f.expunged whole.expunged)))
    (change_all_true (is_changed since) f whole.ascend)

only_if : (T : Response → Type 0) (b : Bool) (rs : List Response) → AllByRecursion T rs → AllByRecursion T (if b then rs else [])
only_if T true rs h = h
only_if T false rs h = tt

known_true : (f : StoreFolder) → IsStoreFolder f → (known : Option (ℕ × ℕ)) → AllByRecursion (IsTrueThere (Some (Some f))) (known_changes f known)
known_true f whole None = tt
known_true f whole (Some k) = only_if (IsTrueThere (Some (Some f))) (k.0 == f.validity) (changes_since f k.1) (changes_true f whole k.1)

folder_true : (f : StoreFolder) → AllByRecursion (IsTrueThere (Some (Some f))) (folder_responses f)
folder_true f = ((tt, tt), ((tt, tt), ((tt, tt), ((tt, tt), ((tt, tt), ((tt, tt), tt))))))

closed_true : (o : Option ℕ) (f : StoreFolder) → AllByRecursion (IsTrueThere (Some (Some f))) (closed_responses o)
closed_true None f = tt
closed_true (Some n) f = ((tt, tt), tt)

select_true : (o : Option ℕ) (f : StoreFolder) → IsStoreFolder f → (known : Option (ℕ × ℕ)) → AllByRecursion (IsTrueThere (Some (Some f))) (select_responses o f known)
select_true o f whole known =
    each_append (IsTrueThere (Some (Some f))) (closed_responses o ++ folder_responses f) (known_changes f known)
    (each_append (IsTrueThere (Some (Some f))) (closed_responses o) (folder_responses f) (closed_true o f) (folder_true f)) (known_true f whole known)

-- ---- codes

abbrev IsCodeTrue : StoreFolder → Response → Type 0
IsCodeTrue f r = IsCodeOf f (ok_code r)

changes_coded : (f : StoreFolder) (since : ℕ) → AllByRecursion (IsCodeTrue f) (changes_since f since)
changes_coded f since =
    each_append (IsCodeTrue f) (map went (filter (is_later since) f.expunged)) (map (change_response f.messages) (filter (is_changed since) f.messages))
    (told_all (is_later since) went (IsCodeTrue f) f.expunged (each_of (λ e. IsCodeTrue f (went e)) (λ e. tt) f.expunged))
    (told_all (is_changed since) (change_response f.messages) (IsCodeTrue f) f.messages (each_of (λ m. IsCodeTrue f (change_response f.messages m)) (λ m. tt) f.messages))

known_coded : (f : StoreFolder) (known : Option (ℕ × ℕ)) → AllByRecursion (IsCodeTrue f) (known_changes f known)
known_coded f None = tt
known_coded f (Some k) = only_if (IsCodeTrue f) (k.0 == f.validity) (changes_since f k.1) (changes_coded f k.1)

folder_coded : (f : StoreFolder) → f.has_modseqs ≡ true → AllByRecursion (IsCodeTrue f) (folder_responses f)
folder_coded f has = (tt, (tt, (tt, (refl, (refl, ((has, refl), tt))))))

-- ---- what changed

abbrev all_of_folder : StoreFolder → ℕ → List Response
all_of_folder f since = folder_responses f ++ changes_since f since

changed_told : (f : StoreFolder) (since : ℕ) → All (λ m. since < m.modseq → Any (IsFetchOf m.uid TellsFlags) (all_of_folder f since)) f.messages
changed_told f since =
    All-from_recursion (λ m. since < m.modseq → Any (IsFetchOf m.uid TellsFlags) (all_of_folder f since)) f.messages
    (each_weaker (λ m. is_changed since m ≡ true → Any (IsFetchOf m.uid TellsFlags) (map (change_response f.messages) (filter (is_changed since) f.messages)))
    (λ m. since < m.modseq → Any (IsFetchOf m.uid TellsFlags) (all_of_folder f since))
    (λ m told later. any_right (IsFetchOf m.uid TellsFlags) (folder_responses f) (changes_since f since)
    (any_right (IsFetchOf m.uid TellsFlags) (map went (filter (is_later since) f.expunged)) (map (change_response f.messages) (filter (is_changed since) f.messages))
    (told (lt-ltb since m.modseq later))))
    f.messages (told_each (is_changed since) (change_response f.messages) (λ m r. IsFetchOf m.uid TellsFlags r) (λ m. (refl, refl)) f.messages))

went_told : (f : StoreFolder) (since : ℕ) → All (λ e. since < e.modseq → Any (IsVanishedOf true e.uid) (all_of_folder f since)) f.expunged
went_told f since =
    All-from_recursion (λ e. since < e.modseq → Any (IsVanishedOf true e.uid) (all_of_folder f since)) f.expunged
    (each_weaker (λ e. is_later since e ≡ true → Any (IsVanishedOf true e.uid) (map went (filter (is_later since) f.expunged)))
    (λ e. since < e.modseq → Any (IsVanishedOf true e.uid) (all_of_folder f since))
    (λ e told later. any_right (IsVanishedOf true e.uid) (folder_responses f) (changes_since f since)
    (any_left (IsVanishedOf true e.uid) (map went (filter (is_later since) f.expunged)) (map (change_response f.messages) (filter (is_changed since) f.messages))
    (told (lt-ltb since e.modseq later))))
    f.expunged (told_each (is_later since) went (λ e r. IsVanishedOf true e.uid r) (λ e. (refl, set_holds e.uid)) f.expunged))

known_told : (f : StoreFolder) (known : Option (ℕ × ℕ))
    → IfSome known (λ k. f.has_modseqs ≡ true → k.0 ≡ f.validity → TellsChanges f k.1 (folder_responses f ++ known_changes f known))
known_told f None = tt
known_told f (Some k) = λ has same.
    subst (λ (b : Bool). TellsChanges f k.1 (folder_responses f ++ (if b then changes_since f k.1 else []))) (sym (eq-eqb k.0 f.validity same))
    (record { changed = changed_told f k.1; expunged = went_told f k.1 })

tells_folder : (f : StoreFolder) (known : Option (ℕ × ℕ)) → f.has_modseqs ≡ true → TellsFolder f known (folder_responses f ++ known_changes f known)
tells_folder f known has = record {
  true_codes = All-from_recursion (IsCodeTrue f) (folder_responses f ++ known_changes f known)
      (each_append (IsCodeTrue f) (folder_responses f) (known_changes f known) (folder_coded f has) (known_coded f known));
  validity = any_left (IsCoded (code.UidValidity f.validity)) (folder_responses f) (known_changes f known)
      (3, ok_response (code.UidValidity f.validity), omega arith, refl, refl);
  uid_next = λ told. any_left (IsCoded (code.UidNext f.uid_next)) (folder_responses f) (known_changes f known)
      (4, ok_response (code.UidNext f.uid_next), omega arith, refl, refl);
  highest = λ told. any_left (IsCoded (code.HighestModSeq f.highest)) (folder_responses f) (known_changes f known)
      (5, ok_response (code.HighestModSeq f.highest), omega arith, refl, refl);
  changes = known_told f known;
}

begins_folder : (o : Option ℕ) (f : StoreFolder) (known : Option (ℕ × ℕ))
    → BeginsFolder f.number o (record { early = []; late = select_responses o f known; code = code.Other }) (folder_responses f ++ known_changes f known)
begins_folder None f known = (refl, refl)
begins_folder (Some n) f known = inl (refl, All-nil (λ r. ok_code r ≢ code.Closed))

-- ---- the answer

select_found : (s : StoreSession) (name : List ℕ) (known : Option (ℕ × ℕ)) → IsStoreMail s.mail → All (λ f. f.has_modseqs ≡ true) s.mail.folders
    → (RefusalCause s (command.Select name known) → ⊥) → (q : Option StoreFolder) → folder_called s.mail.folders name ≡ q
    → Honest NoStep s (command.Select name known) (ok_answer (select_reply s known q)) (select_reply s known q).session
select_found s name known whole has free None e = absurd (free (NotThere (any_head (λ n. folder_called s.mail.folders n ≡ None) name [] e)))
select_found s name known whole has free (Some f) e =
    let numbered : folder_numbered s.mail.folders f.number ≡ Some f = called_numbered s.mail name f whole e in
    let f_is : IsStoreFolder f = called_is IsStoreFolder s.mail name f whole.folders e in
    let f_has : f.has_modseqs ≡ true = called_is (λ g. g.has_modseqs ≡ true) s.mail name f has e in
    late_answer s (record { mail = s.mail; selected = Some f.number }) (command.Select name known) (select_responses s.selected f known) code.Other whole
    (subst (λ (o : Option StoreFolder). AllByRecursion (IsTrueThere (Some o)) (select_responses s.selected f known)) (sym numbered)
    (select_true s.selected f f_is known))
    (each_of (MayAnswer (command.Select name known)) (λ r. tt) (select_responses s.selected f known))
    (f, folder_responses f ++ known_changes f known, e, refl, begins_folder s.selected f known, tells_folder f known f_has)

pub select_honest : (s : StoreSession) (name : List ℕ) (known : Option (ℕ × ℕ)) → IsStoreMail s.mail → All (λ f. f.has_modseqs ≡ true) s.mail.folders
    → (RefusalCause s (command.Select name known) → ⊥)
    → Honest NoStep s (command.Select name known) (ok_answer (select_reply s known (folder_called s.mail.folders name)))
    (select_reply s known (folder_called s.mail.folders name)).session
select_honest s name known whole has free = select_found s name known whole has free (folder_called s.mail.folders name) refl
