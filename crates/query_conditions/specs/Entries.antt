-- What is served of Emails with their numbers.
use Rattle.std.specs.Prelude.{ℕ, List, map}
use Rattle.mail_maps.specs.Serve.{Email, email_of}
use Rattle.query_conditions.specs.declared.entry.EmailEntry.{EmailEntry}

abbrev pub email_at : EmailEntry → Email
email_at e = email_of e.row.now

abbrev pub emails_at : List EmailEntry → List (ℕ × Email)
emails_at es = map {B = ℕ × Email} (λ (e : EmailEntry). (e.number, email_at e)) es
