-- The methods by their names, and what a call by a name needs (RFC 8620 sections 3.3, 3.6.2 and 4, RFC 8621 sections 2 to 4).
use Rattle.std.specs.Prelude.{◌≢◌, ℕ, List, [], ◌∷◌, Bool, not, if◌then◌else◌, bytes_eq, codes, Option, Some, None, Result, Ok, Err}
use Rattle.std.specs.List.{find}
use Rattle.gate_calls.specs.declared.method.Method.{Method}
use Rattle.gate_calls.specs.declared.method.Method.TheVariants.{CoreEcho, MailboxGet, MailboxChanges, MailboxQuery, MailboxQueryChanges, ThreadGet}
use Rattle.gate_calls.specs.declared.method.Method.TheVariants.{ThreadChanges, EmailGet, EmailChanges, EmailQuery, EmailQueryChanges, EmailParse, Set}
use Rattle.jmap_arguments.specs.declared.using.Using.{Using}
use Rattle.set_arguments.specs.declared.set_method.SetMethod.{SetMethod}
use Rattle.set_arguments.specs.declared.set_method.SetMethod.TheVariants.{EmailSet, MailboxSet, EmailImport}
use Rattle.jmap_arguments.specs.declared.method_error.MethodError.{MethodError}
use Rattle.jmap_arguments.specs.declared.method_error.MethodError.TheVariants as error

abbrev pub methods : List Method
methods =
    CoreEcho ∷ MailboxGet ∷ MailboxChanges ∷ MailboxQuery ∷ MailboxQueryChanges ∷ ThreadGet ∷ ThreadChanges ∷ EmailGet ∷ EmailChanges ∷ EmailQuery
    ∷ EmailQueryChanges ∷ EmailParse ∷ Set MailboxSet ∷ Set EmailSet ∷ Set EmailImport ∷ []

abbrev pub name_of : Method → List ℕ
name_of CoreEcho = codes "Core/echo"
name_of MailboxGet = codes "Mailbox/get"
name_of MailboxChanges = codes "Mailbox/changes"
name_of MailboxQuery = codes "Mailbox/query"
name_of MailboxQueryChanges = codes "Mailbox/queryChanges"
name_of ThreadGet = codes "Thread/get"
name_of ThreadChanges = codes "Thread/changes"
name_of EmailGet = codes "Email/get"
name_of EmailChanges = codes "Email/changes"
name_of EmailQuery = codes "Email/query"
name_of EmailQueryChanges = codes "Email/queryChanges"
name_of EmailParse = codes "Email/parse"
name_of (Set MailboxSet) = codes "Mailbox/set"
name_of (Set EmailSet) = codes "Email/set"
name_of (Set EmailImport) = codes "Email/import"

-- whether its capability is used
abbrev pub is_used : Using → Method → Bool
is_used uses CoreEcho = uses.core
is_used uses m = uses.mail

abbrev pub method_of : List ℕ → Option Method
method_of name = find (λ m. bytes_eq name (name_of m)) methods

abbrev pub where_used : Using → Option Method → Result Method MethodError
where_used uses None = Err error.UnknownMethod
where_used uses (Some method) = if is_used uses method then Ok method else Err error.UnknownMethod

-- the method that a call of this name asks
abbrev pub method_asked : Using → List ℕ → Result Method MethodError
method_asked uses name = where_used uses (method_of name)

-- a call of this name asks no method that changes mail
abbrev pub ChangesNoMail : Using → List ℕ → Type 0
ChangesNoMail uses name = (m : SetMethod) → method_asked uses name ≢ Ok (Set m)

-- Every call but Core/echo needs the mail, also one that is refused.
abbrev pub needs_mail_by : List ℕ → Bool
needs_mail_by name = not (bytes_eq name (name_of CoreEcho))
