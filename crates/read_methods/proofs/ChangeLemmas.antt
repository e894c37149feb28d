-- What is found in the last touches of a type is what changed in each history that they are the last of.
use Rattle.std.proofs.Common.{◌≡◌, inl, inr, arith, ℕ, List, ◌++◌, length, Option, Result, Ok, Err, refl, sym, ap, ◌∙◌, subst, false}
use Rattle.std.proofs.Math.Seq.{take-append_seam, take-length}
use Rattle.std.proofs.lemmas.List.{length-append}
use Rattle.std.specs.Result.{IfOk}
use Rattle.serde_json.specs.Data.{Data}
use Rattle.serde_json.specs.View.{view}
use Rattle.serde_json.specs.Written.{has_float}
use Rattle.serde_json.specs.declared.value.Value.{Value}
use Rattle.change_list.specs.Changes.{IsChanges}
use Rattle.change_list.specs.Copy.{IsCopy, applied}
use Rattle.change_list.specs.History.{Touch, IsHistory, map_now, entries_of}
use Rattle.change_list.specs.Kept.{Kept, IsOf}
use Rattle.change_list.specs.declared.answer.Changes.{Changes}
use Rattle.change_list.proofs.CopyLaws.{copies_follow, last_copy_is_map}
use Rattle.change_list.proofs.HistoryLaws.{history_fits, length-entries_from}
use Rattle.jmap_arguments.specs.Outcome.{Meets}
use Rattle.jmap_arguments.specs.declared.method_error.MethodError.{MethodError}
use Rattle.jmap_arguments.specs.declared.method_error.MethodError.TheVariants.{Memory}
use Rattle.served_maps.specs.Past.{Past, StandsFor, has_now, place_now}
use Rattle.read_methods.specs.Changes.{ChangesAsked, AnsweredChanges, changes_asked, changes_data, Further, AnswersChanges, Refused, NoSuchState, Answered}
use Rattle.served_types.specs.States.{IsPlaceOf, NamesNone}
use Rattle.read_methods.specs.Copies.{BringsUpToDate}
use Rattle.read_methods.specs.reading.Found.{FindsChanges, FoundSince, Finds, AnswersFound, reply_of}
use Rattle.read_methods.specs.reading.Found as reading
use Rattle.read_methods.proofs.WholeLemmas.{AddsWhole, whole_changes}

module _ {V : Type 0} (letter epoch : ℕ) (k : Kept) (p : Past V) (further : Further) (d : Data) (kept : IsOf k (entries_of p.touches)) (history : IsHistory p.touches) where
  answer_of : (asked : ChangesAsked) (c : Changes) → FindsChanges epoch k asked c → AnsweredChanges epoch (entries_of p.touches) asked
  answer_of asked c found = record {
    place = found.place;
    changes = c;
    named = let P : ℕ → Type 0 = λ n. IsPlaceOf epoch n asked.since found.place in subst P kept.place found.named;
    are_changes = found.changes (entries_of p.touches) kept (history_fits p.touches history);
  }

  none_of : (text : List ℕ) → NamesNone epoch k.place text → NamesNone epoch (length (entries_of p.touches)) text
  none_of text none = let P : ℕ → Type 0 = λ n. NamesNone epoch n text in subst P kept.place none

  answers : (found : Result FoundSince MethodError) → Finds epoch k d found
      → AnswersChanges letter epoch (entries_of p.touches) further d (reply_of letter epoch k.place further found)
  unfolding answer_of
  answers _ (reading.Refuses e is) = Refused e is
  answers _ (reading.NamesNothing asked is none) = NoSuchState asked is (none_of asked.since none)
  answers _ (reading.InKept asked c is found) =
      let P : ℕ → Type 0 = λ n. AnswersChanges letter epoch (entries_of p.touches) further d (Ok (changes_data letter epoch n asked.since further c)) in
      subst P (sym kept.place) (Answered asked (answer_of asked c found) is)

  answers_found : (result : Result Data MethodError) → AnswersFound letter epoch k further d result → AnswersChanges letter epoch (entries_of p.touches) further d result
  answers_found result a =
      let P : Result Data MethodError → Type 0 = λ r. AnswersChanges letter epoch (entries_of p.touches) further d r in
      subst P (sym a.reply) (answers a.found a.finds)

  -- what is answered is what changed
  pub exactly : (r : Result Value MethodError) → Meets Memory view r (AnswersFound letter epoch k further d)
      → Meets Memory view r (AnswersChanges letter epoch (entries_of p.touches) further d)
  exactly (Ok value) a = answers_found (Ok (view value)) a
  exactly (Err e) (inl memory) = inl memory
  exactly (Err e) (inr a) = inr (answers_found (Err e) a)

-- the same where rows and the touches stand for what has become of the type
pub over_history : {R V : Type 0} (serve : R → V) (rows : List (ℕ × R)) (letter epoch now : ℕ) (k : Kept) (p : Past V) (further : Further) (d : Data) (r : Result Value MethodError)
    → epoch ≡ now → StandsFor serve rows k p → Meets Memory view r (AnswersFound letter epoch k further d)
    → Meets Memory view r (AnswersChanges letter now (entries_of p.touches) further d)
over_history serve rows letter epoch now k p further d r same stands a =
    let P : ℕ → Type 0 = λ n. Meets Memory view r (AnswersChanges letter n (entries_of p.touches) further d) in
    subst P same (exactly letter epoch k p further d stands.kept stands.past.history r a)

-- ---- copies

module _ {V : Type 0} (epoch : ℕ) (p : Past V) (asked : ChangesAsked) (a : AnsweredChanges epoch (entries_of p.touches) asked) where
  -- an answer takes a copy to its place, also where the values are fetched later
  follows : (more : List (Touch V)) (copy : ℕ → Option V) → IsCopy copy (p.touches ++ more) a.place
      → IsCopy (applied a.changes (map_now (p.touches ++ more)) copy) (p.touches ++ more) a.changes.to
  follows more copy is =
      let P : List (Touch V) → Type 0 = λ h. IsChanges (entries_of h) a.place asked.most a.changes in
      copies_follow (p.touches ++ more) (length p.touches) a.place asked.most a.changes copy
      (omega (arith, length-append p.touches more)) (subst P (sym (take-append_seam p.touches more)) a.are_changes) is

  follows_now : (copy : ℕ → Option V) → IsCopy copy p.touches a.place → IsCopy (applied a.changes (has_now p) copy) p.touches a.changes.to
  follows_now copy is =
      let P : List (Touch V) → Type 0 = λ h. IsChanges (entries_of h) a.place asked.most a.changes in
      copies_follow p.touches (length p.touches) a.place asked.most a.changes copy (omega arith) (subst P (sym (take-length p.touches)) a.are_changes) is

  ends : a.changes.to ≡ place_now p → (copy : ℕ → Option V) → IsCopy copy p.touches a.place → (q : ℕ) → applied a.changes (has_now p) copy q ≡ has_now p q
  ends last copy is =
      let P : ℕ → Type 0 = λ n. IsCopy (applied a.changes (has_now p) copy) p.touches n in
      last_copy_is_map p.touches (applied a.changes (has_now p) copy) (subst P last (follows_now copy is))

  brings : (letter : ℕ) (further : Further) (d reply : Data) → changes_asked d ≡ Ok asked
      → reply ≡ changes_data letter epoch (length (entries_of p.touches)) asked.since further a.changes → BringsUpToDate letter epoch p further d reply
  brings letter further d reply is same = record {
    asked = asked;
    answer = a;
    asked_is = is;
    reply_is = same ∙ ap (λ (n : ℕ). changes_data letter epoch n asked.since further a.changes) (length-entries_from _ p.touches);
    copies = follows;
    fresh = ends;
  }

module _ {V : Type 0} (letter epoch : ℕ) (p : Past V) (further : Further) (d : Data) where
  -- an answer keeps a copy right
  pub brings_if : (r : Result Data MethodError) → AnswersChanges letter epoch (entries_of p.touches) further d r → IfOk r (BringsUpToDate letter epoch p further d)
  brings_if _ (Refused e is) = tt
  brings_if _ (NoSuchState asked is none) = tt
  brings_if _ (Answered asked a is) =
      brings epoch p asked a letter further d (changes_data letter epoch (length (entries_of p.touches)) asked.since further a.changes) is refl

  -- so does a value that answers so
  pub up_to_date : (r : Result Value MethodError) → Meets Memory view r (AnswersChanges letter epoch (entries_of p.touches) further d)
      → IfOk r (λ value. BringsUpToDate letter epoch p further d (view value))
  up_to_date (Ok value) a = brings_if (Ok (view value)) a
  up_to_date (Err e) a = tt

-- ---- integers alone

whole_found : (letter epoch : ℕ) (k : Kept) (further : Further) (d : Data) (found : Result FoundSince MethodError) → AddsWhole further
    → IfOk (reply_of letter epoch k.place further found) (λ reply. has_float reply ≡ false)
whole_found letter epoch k further d (Err e) whole = tt
whole_found letter epoch k further d (Ok found) whole = whole_changes letter epoch k.place found.since further found.changes whole

whole_result : (letter epoch : ℕ) (k : Kept) (further : Further) (d : Data) (result : Result Data MethodError) → AddsWhole further → AnswersFound letter epoch k further d result
    → IfOk result (λ reply. has_float reply ≡ false)
whole_result letter epoch k further d result whole a =
    let P : Result Data MethodError → Type 0 = λ r. IfOk r (λ reply. has_float reply ≡ false) in
    subst P (sym a.reply) (whole_found letter epoch k further d a.found whole)

-- an answer to what is found has integers alone
pub wholly : (letter epoch : ℕ) (k : Kept) (further : Further) (d : Data) (r : Result Value MethodError) → AddsWhole further
    → Meets Memory view r (AnswersFound letter epoch k further d) → IfOk r (λ value. has_float (view value) ≡ false)
wholly letter epoch k further d (Ok value) whole a = whole_result letter epoch k further d (Ok (view value)) whole a
wholly letter epoch k further d (Err e) whole a = tt

-- ---- each history

-- what holds of a value for each x holds for each x of the value
pub under : {X Y E : Type 0} (H : X → Type 0) (P : X → Y → Type 0) (r : Result Y E) → ((x : X) → H x → IfOk r (P x)) → IfOk r (λ y. (x : X) → H x → P x y)
under H P (Ok y) each = each
under H P (Err e) each = tt
