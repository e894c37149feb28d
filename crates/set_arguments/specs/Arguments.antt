-- What Email/set, Mailbox/set and Email/import ask, or the first refusal by their arguments (RFC 8620 section 5.3, RFC 8621 sections 2.5, 4.6 and 4.8).
use Rattle.std.specs.Prelude.{ℕ, ◌+◌, nat_lt, Bool, true, false, List, [], ◌∷◌, length, codes, if◌then◌else◌, Option, Some, None, Result, Ok, Err, option_map, option_and_then}
use Rattle.serde_json.specs.Data.{Data, null, boolean, string, array, object, Members, no_members, member}
use Rattle.serde_json.specs.Find.{get, as_object, as_str}
use Rattle.serde_json.specs.Written.{has_float}
use Rattle.jmap_arguments.specs.Arguments.{texts_in, account_check}
use Rattle.jmap_arguments.specs.declared.method_error.MethodError.{MethodError}
use Rattle.jmap_arguments.specs.declared.method_error.MethodError.TheVariants.{InvalidArguments, RequestTooLarge}
use Rattle.set_arguments.specs.declared.arguments.TheConstants.{MAX_OBJECTS_IN_SET}
use Rattle.set_arguments.specs.declared.set_method.SetMethod.{SetMethod}
use Rattle.set_arguments.specs.declared.set_method.SetMethod.TheVariants.{EmailSet, MailboxSet, EmailImport}

-- objects by key: those to be made by creation id, those to be changed by what names them
abbrev pub Keyed : Type 0
Keyed = List (List ℕ × Members)

-- what a call asks: the state that it goes by, its items, and whether Mailboxes are destroyed with their Emails
pub record SetAsked : Type 0 where
  pub state : Option (List ℕ)
  pub create : Keyed
  pub update : Keyed
  pub destroy : List (List ℕ)
  pub removes : Bool

-- ---- kinds: none where the argument is of another one; null is as if it weren't there

abbrev pub objects_in : Members → Option Keyed
objects_in no_members = Some []
objects_in (member k d ms) = option_and_then (λ (found : Members). option_map (λ (cs : Keyed). (k, found) ∷ cs) (objects_in ms)) (as_object d)

abbrev pub keyed_in : Option Data → Option Keyed
keyed_in None = Some []
keyed_in (Some null) = Some []
keyed_in (Some (object ms)) = objects_in ms
keyed_in (Some d) = None

-- an object that has to be there
abbrev pub keyed_there : Option Data → Option Keyed
keyed_there (Some (object ms)) = objects_in ms
keyed_there _ = None

abbrev pub texts_or_none : Option Data → Option (List (List ℕ))
texts_or_none None = Some []
texts_or_none (Some null) = Some []
texts_or_none (Some (array ds)) = texts_in ds
texts_or_none (Some d) = None

abbrev pub text_or_null : Option Data → Option (Option (List ℕ))
text_or_null None = Some None
text_or_null (Some null) = Some None
text_or_null (Some (string s)) = Some (Some s)
text_or_null (Some d) = None

abbrev pub truth_or_null : Option Data → Option Bool
truth_or_null None = Some false
truth_or_null (Some null) = Some false
truth_or_null (Some (boolean b)) = Some b
truth_or_null (Some d) = None

-- ---- what is asked

-- whether the account that is named is the one that there is
abbrev pub account_asked : Data → Option (Result (Unit {0}) MethodError)
account_asked d = option_map account_check (option_and_then as_str (get (codes "accountId") d))

abbrev pub state_asked : Data → Option (Option (List ℕ))
state_asked d = text_or_null (get (codes "ifInState") d)

-- an import makes Emails alone
abbrev pub destroy_asked : SetMethod → Data → Option (List (List ℕ))
destroy_asked EmailSet d = texts_or_none (get (codes "destroy") d)
destroy_asked MailboxSet d = texts_or_none (get (codes "destroy") d)
destroy_asked EmailImport d = Some []

abbrev pub removes_asked : SetMethod → Data → Option Bool
removes_asked EmailSet d = Some false
removes_asked MailboxSet d = truth_or_null (get (codes "onDestroyRemoveEmails") d)
removes_asked EmailImport d = Some false

abbrev pub create_asked : SetMethod → Data → Option Keyed
create_asked EmailSet d = keyed_in (get (codes "create") d)
create_asked MailboxSet d = keyed_in (get (codes "create") d)
create_asked EmailImport d = keyed_there (get (codes "emails") d)

abbrev pub update_asked : SetMethod → Data → Option Keyed
update_asked EmailSet d = keyed_in (get (codes "update") d)
update_asked MailboxSet d = keyed_in (get (codes "update") d)
update_asked EmailImport d = Some []

abbrev pub count_asked : SetAsked → ℕ
count_asked a = length a.create + (length a.update + length a.destroy)

-- the account, then the count
abbrev pub within_count : SetAsked → Result (Unit {0}) MethodError → Result SetAsked MethodError
within_count a (Ok account) = if nat_lt MAX_OBJECTS_IN_SET (count_asked a) then Err RequestTooLarge else Ok a
within_count a (Err e) = Err e

-- all kinds first
abbrev pub asked_from : Option (Result (Unit {0}) MethodError) → Option (Option (List ℕ)) → Option (List (List ℕ)) → Option Bool → Option Keyed → Option Keyed
    → Result SetAsked MethodError
asked_from (Some account) (Some state) (Some destroy) (Some removes) (Some create) (Some update) =
    within_count (record { state = state; create = create; update = update; destroy = destroy; removes = removes }) account
asked_from _ _ _ _ _ _ = Err InvalidArguments

abbrev pub asked_of : SetMethod → Data → Result SetAsked MethodError
asked_of m d = asked_from (account_asked d) (state_asked d) (destroy_asked m d) (removes_asked m d) (create_asked m d) (update_asked m d)

-- each number in the arguments is an integer
abbrev pub set_asked : SetMethod → Data → Result SetAsked MethodError
set_asked m d = if has_float d then Err InvalidArguments else asked_of m d
