-- The parts of a request as the code has them, and capabilities noted in turn, for private clauses.
use Rattle.std.specs.Prelude.{ℕ, List, [], ◌∷◌, if◌then◌else◌, bytes_eq, map, Option, Some, None, option_and_then, false, true}
use Rattle.jmap_core.specs.Request.{Form as FormData, core_capability, mail_capability}
use Rattle.result_references.specs.Call.{call_data}
use Rattle.jmap_core.specs.declared.request_body.Form.{Form}
use Rattle.jmap_arguments.specs.declared.using.Using.{Using}

abbrev pub form_data : Form → FormData
form_data form = record { uses = map (λ t. t.now) form.names.items; calls = map call_data form.calls.items; created = form.created }

-- with this capability besides, if it is one
abbrev pub note_capability : List ℕ → Using → Option Using
note_capability name uses = if bytes_eq name core_capability then Some (record uses { core = true }) else
    (if bytes_eq name mail_capability then Some (record uses { mail = true }) else None)

abbrev pub noted : Using → List (List ℕ) → Option Using
noted uses [] = Some uses
noted uses (name ∷ names) = option_and_then (λ more. noted more names) (note_capability name uses)

-- the capabilities that names use, if they name no other
abbrev pub known_capabilities : List (List ℕ) → Option Using
known_capabilities names = noted (record { core = false; mail = false }) names
