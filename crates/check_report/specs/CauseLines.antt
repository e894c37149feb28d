-- The line on a cause: what happened, and what to do.
use Rattle.std.specs.Prelude.{ℕ, Bool, true, false, ◌++◌, List, [], ◌∷◌, codes, decimal, Option, Some, None}
use Rattle.store_causes.specs.declared.cause.Asked.{Asked}
use Rattle.store_causes.specs.declared.cause.Asked.TheVariants as asked
use Rattle.store_causes.specs.declared.cause.Breach.{Breach}
use Rattle.store_causes.specs.declared.cause.Breach.TheVariants as breach
use Rattle.store_causes.specs.declared.cause.StoreCause.{StoreCause}
use Rattle.store_causes.specs.declared.cause.StoreCause.TheVariants as cause
use Rattle.check_report.specs.declared.causes.TheConstants as text
use Rattle.check_report.specs.Shown.{shown}

abbrev pub named : List ℕ → List ℕ → List ℕ
named words name = words ++ shown name

-- what was asked; of LOGIN the command alone
abbrev pub asked_piece : Asked → List ℕ
asked_piece asked.Greeting = codes "the connection"
asked_piece asked.Capabilities = codes "CAPABILITY"
asked_piece asked.Login = codes "LOGIN"
asked_piece asked.Enabling = codes "ENABLE"
asked_piece asked.Listing = codes "LIST"
asked_piece (asked.Selecting name) = named (codes "SELECT ") name
asked_piece (asked.Fetching name) = named (codes "FETCH in ") name

-- no greeting lets the client in
abbrev pub greeting_piece : List ℕ → Breach → List ℕ
greeting_piece store breach.Silent = store ++ text.SILENT_GREETING.now
greeting_piece store breach.Bye = store ++ text.BYE_GREETING.now
greeting_piece store (breach.Unreadable at) =
    codes "what " ++ store ++ codes " says first is no greeting of IMAP, at octet " ++ decimal at ++ text.UNREADABLE_GREETING.now
greeting_piece store breach.Stray = store ++ codes " begins with an answer"
greeting_piece store breach.TooMuch = store ++ codes " gives more octets than a greeting may have"

abbrev pub unanswered_piece : Asked → Breach → List ℕ
unanswered_piece a breach.Silent = text.SILENT.now ++ asked_piece a ++ text.LOG.now
unanswered_piece a breach.Bye = codes "the store says BYE after " ++ asked_piece a ++ text.LOG.now
unanswered_piece a (breach.Unreadable at) =
    text.SAYS_AFTER.now ++ asked_piece a ++ text.AT_OCTET.now ++ decimal at ++ text.OF_CONNECTION.now
unanswered_piece a breach.Stray = text.STRAY.now ++ asked_piece a
unanswered_piece a breach.TooMuch = text.TOO_MUCH.now ++ asked_piece a

abbrev pub not_answered_piece : List ℕ → Asked → Breach → List ℕ
not_answered_piece store asked.Greeting b = greeting_piece store b
not_answered_piece store a b = unanswered_piece a b

abbrev pub refused_piece : List ℕ → Asked → List ℕ
refused_piece user asked.Greeting = codes "the store refuses the connection"
refused_piece user asked.Capabilities = text.CAPABILITY_REFUSED.now
refused_piece user asked.Login = text.LETS_NOT.now ++ user ++ text.LOGIN_REFUSED.now
refused_piece user asked.Enabling = text.ENABLE_REFUSED.now
refused_piece user asked.Listing = text.LIST_REFUSED.now
refused_piece user (asked.Selecting name) = text.NAMES.now ++ shown name ++ text.SELECT_REFUSED.now
refused_piece user (asked.Fetching name) = text.FETCH_REFUSED.now ++ shown name ++ text.LOG.now

-- whether IMAP4rev2 and QRESYNC are told, of which one isn't
abbrev pub lacking_piece : Bool → Bool → List ℕ
lacking_piece true qresync = text.NO_QRESYNC.now
lacking_piece false true = text.NO_REV2.now
lacking_piece false false = text.NEITHER.now

-- the cause, where the store and the user are shown so
abbrev pub cause_piece : List ℕ → List ℕ → StoreCause → List ℕ
cause_piece store user cause.Unreached = text.LISTENS.now ++ store ++ text.UNREACHED.now
cause_piece store user (cause.Unanswered a b) = not_answered_piece store a b
cause_piece store user (cause.Refused a) = refused_piece user a
cause_piece store user cause.LoginDisabled = text.LOGIN_DISABLED.now
cause_piece store user (cause.Lacking rev2 qresync) = lacking_piece rev2 qresync
cause_piece store user cause.NotEnabled = text.NOT_ENABLED.now
cause_piece store user (cause.NoValidity name) = text.NO_VALIDITY.now ++ shown name

-- The cause, where a first round was done: a folder is refused then mostly since SELECT asks with what is known of it.
abbrev pub again_piece : List ℕ → List ℕ → StoreCause → List ℕ
again_piece store user (cause.Refused (asked.Selecting name)) = text.SELECT_AGAIN.now ++ shown name ++ text.WITH_KNOWN.now
again_piece store user c = cause_piece store user c

abbrev pub begun_piece : List ℕ → List ℕ
begun_piece [] = []
begun_piece (octet ∷ octets) = text.BEGINS.now ++ shown (octet ∷ octets)

-- how octets begin that can't be read, where anything of them is told
abbrev pub begins_piece : Option (List ℕ) → List ℕ
begins_piece None = []
begins_piece (Some octets) = begun_piece octets
