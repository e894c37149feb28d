-- Ids of Mailboxes, Emails and Threads: a letter and the number in decimal (RFC 8620 section 1.2).
use Rattle.std.specs.Prelude.{ℕ, List, ◌∷◌, map, decimal}
use Rattle.serde_json.specs.Data.{Data, string, array}
use Rattle.serde_json.specs.View.{items_of}

abbrev pub mailbox_letter : ℕ
mailbox_letter = 109

abbrev pub email_letter : ℕ
email_letter = 101

abbrev pub thread_letter : ℕ
thread_letter = 116

abbrev pub id_text : ℕ → ℕ → List ℕ
id_text letter n = letter ∷ decimal n

abbrev pub id_data : ℕ → ℕ → Data
id_data letter n = string (id_text letter n)

abbrev pub id_list : ℕ → List ℕ → Data
id_list letter numbers = array (items_of (map (id_data letter) numbers))
