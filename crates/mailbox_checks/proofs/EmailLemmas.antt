-- The Emails of one folder among those of all.
use Rattle.std.proofs.Common.{◌≡◌, ℕ, ◌<◌, ◌==◌, Bool, true, false, ◌||◌, List, [], ◌∷◌, ◌++◌, Option, Some, None, map, filter, cond, if◌then◌else◌, refl, sym, ap, ◌∙◌, subst, arith, eqb, eqb-true, ne_eqb}
use Rattle.std.proofs.lemmas.List.Folds.{list_any-append}
use Rattle.std.specs.List.{list_any}
use Rattle.told_folder.specs.Folders.{folder_number, held_in, messages_of, messages_in}
use Rattle.told_folder.specs.Keyed.{AllAbove, Ascends}
use Rattle.told_folder.specs.declared.message.Message.{Message}
use Rattle.told_folder.specs.declared.message.NumberedFolder.{NumberedFolder}
use Rattle.mail_maps.specs.Visible.{Placed, is_served, is_visible_place, placed_in, visible}
use Rattle.mailbox_checks.specs.Destroy.{has_email}

abbrev is_at : ℕ → Placed → Bool
is_at n p = p.folder == n

abbrev placed : ℕ → Message → Placed
placed m x = record { folder = m; message = x }

abbrev those : ℕ → List Message → List Placed
those m xs = filter is_visible_place (map (placed m) xs)

here : (m n : ℕ) (xs : List Message) → (m == n) ≡ true → list_any (is_at n) (those m xs) ≡ list_any is_served xs
here m n [] e = refl
here m n (x ∷ xs) e =
    elim (is_served x) as (λ v. list_any (is_at n) (cond v (placed m x ∷ those m xs) (those m xs)) ≡ (v || list_any is_served xs)) [
      | true ↦ ap (λ b. b || list_any (is_at n) (those m xs)) e
      | false ↦ here m n xs e
    ]

elsewhere : (m n : ℕ) (xs : List Message) → (m == n) ≡ false → list_any (is_at n) (those m xs) ≡ false
elsewhere m n [] e = refl
elsewhere m n (x ∷ xs) e =
    elim (is_served x) as (λ v. list_any (is_at n) (cond v (placed m x ∷ those m xs) (those m xs)) ≡ false) [
      | true ↦ ap (λ b. b || list_any (is_at n) (those m xs)) e ∙ elsewhere m n xs e
      | false ↦ elsewhere m n xs e
    ]

or_none : (b : Bool) → (b || false) ≡ b
or_none true = refl
or_none false = refl

-- none is in a folder with a lower number than all have
none_above : (n : ℕ) (hs : List NumberedFolder) → AllAbove folder_number n hs → list_any (is_at n) (visible hs) ≡ false
none_above n [] above = refl
none_above n (h ∷ hs) above =
    list_any-append (is_at n) (those (folder_number h) h.messages) (visible hs)
    ∙ ap (λ b. b || list_any (is_at n) (visible hs)) (elsewhere (folder_number h) n h.messages (ne_eqb _ _ (λ e. omega (arith, e, above.0))))
    ∙ none_above n hs above.1

-- they are the messages of the folder that are served
pub has_email_is : (hs : List NumberedFolder) (n : ℕ) → Ascends folder_number hs → list_any is_served (messages_in hs n) ≡ has_email hs n
has_email_is [] n up = refl
has_email_is (h ∷ hs) n up =
    elim (folder_number h == n) as (λ b. (folder_number h == n) ≡ b → list_any is_served (messages_of (if b then Some h else held_in hs n)) ≡ has_email (h ∷ hs) n) [
      | true ↦ λ e.
          let above : AllAbove folder_number n hs = (let P : ℕ → Type 0 = λ k. AllAbove folder_number k hs in subst P (eqb-true _ _ e) up.0) in
          sym (list_any-append (is_at n) (those (folder_number h) h.messages) (visible hs)
          ∙ ap (λ b. list_any (is_at n) (those (folder_number h) h.messages) || b) (none_above n hs above)
          ∙ or_none (list_any (is_at n) (those (folder_number h) h.messages))
          ∙ here (folder_number h) n h.messages e)
      | false ↦ λ e.
          has_email_is hs n up.1
          ∙ sym (list_any-append (is_at n) (those (folder_number h) h.messages) (visible hs)
          ∙ ap (λ b. b || list_any (is_at n) (visible hs)) (elsewhere (folder_number h) n h.messages e))
    ] refl
