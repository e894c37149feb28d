-- Thread/get (RFC 8621 section 3.1): Threads as objects, with the properties of section 3.
use Rattle.std.specs.Prelude.{ℕ, List, Bool, true, ◌||◌, if◌then◌else◌, bytes_eq, codes, Option, Some, None, Result, Ok, Err}
use Rattle.std.specs.List.{list_all}
use Rattle.serde_json.specs.Data.{Data, object, Members, no_members, put}
use Rattle.jmap_arguments.specs.Arguments.{texts_at, is_among}
use Rattle.jmap_arguments.specs.Gets.{GetAsked, get_asked, shown_as, get_answered}
use Rattle.jmap_arguments.specs.Ids.{thread_letter, email_letter, id_data, id_list}
use Rattle.jmap_arguments.specs.Outcome.{refusal_of}
use Rattle.jmap_arguments.specs.declared.method_error.MethodError.{MethodError}
use Rattle.jmap_arguments.specs.declared.method_error.MethodError.TheVariants.{InvalidArguments}

abbrev pub is_thread_property : List ℕ → Bool
is_thread_property name = bytes_eq name (codes "id") || bytes_eq name (codes "emailIds")

-- whether the ids of its Emails are wanted; its own id always is
abbrev pub emails_wanted : Option (List (List ℕ)) → Result Bool MethodError
emails_wanted None = Ok true
emails_wanted (Some names) = if list_all is_thread_property names then Ok (is_among (codes "emailIds") names) else Err InvalidArguments

abbrev pub emails_wanted_from : Result (Option (List (List ℕ))) MethodError → Result Bool MethodError
emails_wanted_from (Ok names) = emails_wanted names
emails_wanted_from (Err e) = Err e

abbrev pub with_emails : Bool → List ℕ → Members → Members
with_emails wanted emails members = if wanted then put (codes "emailIds") (id_list email_letter emails) members else members

abbrev pub thread_data : Bool → ℕ × List ℕ → Data
thread_data wanted e = object (with_emails wanted e.1 (put (codes "id") (id_data thread_letter e.0) no_members))

abbrev pub threads_asked : Data → Result (GetAsked Bool) MethodError
threads_asked d = get_asked (emails_wanted_from (texts_at (codes "properties") d)) d

-- the refusal by the arguments alone
abbrev pub threads_refused : Data → Result (Unit {0}) MethodError
threads_refused d = refusal_of (threads_asked d)

abbrev pub thread_objects : List (ℕ × List ℕ) → Bool → List (ℕ × Data)
thread_objects threads wanted = shown_as (thread_data wanted) threads

-- of these Threads, in this state
abbrev pub threads_answer : List ℕ → List (ℕ × List ℕ) → Data → Result Data MethodError
threads_answer state threads d = get_answered thread_letter state (thread_objects threads) (threads_asked d)
