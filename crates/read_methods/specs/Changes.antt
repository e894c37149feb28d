-- What a /changes asks and answers (RFC 8620 section 5.2, RFC 8621 sections 2.2, 3.2 and 4.3).
use Rattle.std.specs.Prelude.{◌≡◌, ℕ, nat_lt, Bool, List, [], ◌∷◌, map, if◌then◌else◌, codes, Option, Result, Ok, Err}
use Rattle.serde_json.specs.Data.{Data, null, boolean, string, array, object, Members, no_members, member}
use Rattle.serde_json.specs.View.{items_of}
use Rattle.change_list.specs.Changes.{IsChanges}
use Rattle.change_list.specs.declared.answer.Changes.{Changes}
use Rattle.change_list.specs.declared.entries.Entry.{Entry}
use Rattle.jmap_arguments.specs.Arguments.{text_at, most_at, account_id, account_check}
use Rattle.jmap_arguments.specs.Ids.{id_list}
use Rattle.jmap_arguments.specs.State.{state_text}
use Rattle.jmap_arguments.specs.Outcome.{refusal_of}
use Rattle.jmap_arguments.specs.declared.method_error.MethodError.{MethodError}
use Rattle.jmap_arguments.specs.declared.method_error.MethodError.TheVariants.{CannotCalculateChanges}
use Rattle.served_types.specs.States.{IsPlaceOf, NamesNone, newest_place}

-- ---- what is asked, or the first refusal: the arguments' kinds, the account

pub record ChangesAsked : Type 0 where
  pub since : List ℕ
  pub most : Option ℕ

abbrev pub admitted_changes : Result (Unit {0}) MethodError → ChangesAsked → Result ChangesAsked MethodError
admitted_changes (Ok account) asked = Ok asked
admitted_changes (Err e) asked = Err e

abbrev pub changes_from : Result (List ℕ) MethodError → Result (List ℕ) MethodError → Result (Option ℕ) MethodError → Result ChangesAsked MethodError
changes_from (Ok account) (Ok since) (Ok most) = admitted_changes (account_check account) (record { since = since; most = most })
changes_from (Ok account) (Ok since) (Err e) = Err e
changes_from (Ok account) (Err e) most = Err e
changes_from (Err e) since most = Err e

abbrev pub changes_asked : Data → Result ChangesAsked MethodError
changes_asked d = changes_from (text_at (codes "accountId") d) (text_at (codes "sinceState") d) (most_at (codes "maxChanges") d)

-- the refusal by the arguments alone
abbrev pub changes_refused : Data → Result (Unit {0}) MethodError
changes_refused d = refusal_of (changes_asked d)

-- ---- the answer, over the touches of a type

-- the place that is named, and what changed after it
pub record AnsweredChanges (epoch : ℕ) (h : List Entry) (asked : ChangesAsked) : Type 0 where
  pub place : ℕ
  pub changes : Changes
  pub named : IsPlaceOf epoch (newest_place h) asked.since place
  pub are_changes : IsChanges h place asked.most changes

-- the new state is the place to which the ids listed lead, and there are more where that isn't the last
abbrev pub changes_members : ℕ → ℕ → ℕ → List ℕ → Changes → Members → Members
changes_members letter epoch last since c further =
    member (codes "accountId") (string account_id)
    (member (codes "created") (id_list letter c.created)
    (member (codes "destroyed") (id_list letter c.destroyed)
    (member (codes "hasMoreChanges") (boolean (nat_lt c.to last))
    (member (codes "newState") (string (state_text (record { epoch = epoch; place = c.to })))
    (member (codes "oldState") (string since)
    (member (codes "updated") (id_list letter c.updated)
    further))))))

-- what a type adds to the members
abbrev pub Further : Type 0
Further = Changes → Members

abbrev pub no_further : Further
no_further c = no_members

-- the properties of Mailboxes that may have changed, where these are the counts alone (RFC 8621 section 2.2)
abbrev pub count_names : Data
count_names = array (items_of (map string (codes "totalEmails" ∷ codes "unreadEmails" ∷ codes "totalThreads" ∷ codes "unreadThreads" ∷ [])))

abbrev pub names_if : Bool → Data
names_if counts_only = if counts_only then count_names else null

abbrev pub updated_properties : Further
updated_properties c = member (codes "updatedProperties") (names_if c.counts_only) no_members

abbrev pub changes_data : ℕ → ℕ → ℕ → List ℕ → Further → Changes → Data
changes_data letter epoch last since further c = object (changes_members letter epoch last since c (further c))

-- A refusal by the arguments; or the text names no state whose changes are kept, which alone can't be calculated; or what changed.
pub data AnswersChanges (letter epoch : ℕ) (h : List Entry) (further : Further) (d : Data) : Result Data MethodError → Type 0 where
  Refused : (e : MethodError) → changes_asked d ≡ Err e → AnswersChanges letter epoch h further d (Err e)
  NoSuchState : (asked : ChangesAsked) → changes_asked d ≡ Ok asked → NamesNone epoch (newest_place h) asked.since
      → AnswersChanges letter epoch h further d (Err CannotCalculateChanges)
  Answered : (asked : ChangesAsked) (a : AnsweredChanges epoch h asked) → changes_asked d ≡ Ok asked
      → AnswersChanges letter epoch h further d (Ok (changes_data letter epoch (newest_place h) asked.since further a.changes))
