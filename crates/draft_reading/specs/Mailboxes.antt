-- Addresses of an Email that is to be created (RFC 8621 section 4.1.2.3).
use Rattle.std.specs.Prelude.{◌≡◌, ℕ, List, [], ◌∷◌, Option, Some, None, option_and_then, codes}
use Rattle.serde_json.specs.Data.{Data}
use Rattle.serde_json.specs.Find.{get, as_str}
use Rattle.mail_drafts.specs.Mailboxes.{is_email, ReadsAlone}
use Rattle.mail_drafts.specs.declared.mailbox.Mailbox.{Mailbox}
use Rattle.draft_reading.specs.Values.{tested, line_in, nullable, list_in}

-- what an EmailAddress says
pub record Named : Type 0 where
  pub name : Option (List ℕ)
  pub email : List ℕ

abbrev pub named : Option (Option (List ℕ)) → Option (List ℕ) → Option Named
named None email = None
named (Some name) None = None
named (Some name) (Some email) = Some (record { name = name; email = email })

-- EmailAddress: the name is one line, and the email ends nowhere in a list
unfoldable pub named_in : Data → Option Named
named_in d = named (nullable line_in (get (codes "name") d)) (tested is_email (option_and_then as_str (get (codes "email") d)))

-- what a mailbox of a draft says
abbrev pub said : Mailbox → Named
said m = record { name = m.name; email = m.email }

-- alone in a field, each email reads as itself
abbrev pub AreAlone : List Named → Type 0
AreAlone [] = Unit {0}
AreAlone (m ∷ ms) = ReadsAlone m.email × AreAlone ms

-- a list of addresses that can stand in a field
pub record AreAddresses (d : Data) (list : List Named) : Type 0 where
  pub typed : list_in named_in d ≡ Some list
  pub alone : AreAlone list
