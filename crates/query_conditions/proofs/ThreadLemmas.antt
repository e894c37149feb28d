-- What is found in Emails, and that all have it where none lacks it.
use Rattle.std.proofs.Common.{◌≡◌, ℕ, List, [], ◌∷◌, Bool, true, false, not, ◌&&◌, ◌||◌, map, nat_eq, refl, ap, ◌∙◌}
use Rattle.std.specs.List.{list_all, list_any}
use Rattle.mail_maps.specs.Keywords.{has_name}
use Rattle.mail_maps.specs.Serve.{Email}
use Rattle.query_conditions.specs.Entries.{email_at, emails_at}
use Rattle.query_conditions.specs.ThreadKeywords.{has_in_thread, lacks_in_thread, some_in_thread_has, all_in_thread_have}
use Rattle.query_conditions.specs.declared.entry.EmailEntry.{EmailEntry}

pub some_is : (keyword : List ℕ) (t : ℕ) (es : List EmailEntry)
    → list_any (λ (e : EmailEntry). has_in_thread keyword t (email_at e)) es ≡ some_in_thread_has (emails_at es) keyword t
some_is keyword t [] = refl
some_is keyword t (e ∷ es) = ap (λ (b : Bool). has_in_thread keyword t (email_at e) || b) (some_is keyword t es)

neither : (a b c : Bool) → not ((a && not b) || c) ≡ ((not a || b) && not c)
neither true true c = refl
neither true false c = refl
neither false b c = refl

pub all_is : (keyword : List ℕ) (t : ℕ) (es : List EmailEntry)
    → not (list_any (λ (e : EmailEntry). lacks_in_thread keyword t (email_at e)) es) ≡ all_in_thread_have (emails_at es) keyword t
all_is keyword t [] = refl
all_is keyword t (e ∷ es) =
    neither (nat_eq (email_at e).immutable.thread t) (has_name keyword (email_at e).keywords) (list_any (λ (r : EmailEntry). lacks_in_thread keyword t (email_at r)) es)
    ∙ ap (λ (b : Bool). (not (nat_eq (email_at e).immutable.thread t) || has_name keyword (email_at e).keywords) && b) (all_is keyword t es)
