-- What the lists of a reply have, and what is served of Mailboxes.
use Rattle.std.proofs.Common.{rules, ◌≡◌, ℕ, List, [], ◌∷◌, true, false, cond, Option, Some, None, is_some, option_map, length, String, Global, BTreeMap, nat_cmp, refl, sym, ap, ◌∙◌}
use Rattle.std.specs.BTreeMap.{is_at}
use Rattle.std.specs.Cmp.Lexicographic.{slice_cmp}
use Rattle.std.specs.Map.{lookup}
use Rattle.std.specs.String.{string_bytes}
use Rattle.serde_json.specs.Data.{Data, null, object}
use Rattle.serde_json.specs.Find.{get_member}
use Rattle.serde_json.specs.View.{view, members_view}
use Rattle.serde_json.specs.declared.value.Value.{Value, Null, Object, the_lemmas}
use Rattle.serde_json.proofs.Views.{view-lookup, view-Object}
use Rattle.change_list.specs.Advance.{row_at}
use Rattle.mail_maps.specs.Serve.{mailbox_of}
use Rattle.mail_maps.specs.declared.row.MailboxRow.{MailboxRow}
use Rattle.served_maps.specs.Past.{served}
use Rattle.set_replies.specs.Replies.{object_or_null}

abbrev Entry : Type 0
Entry = String Global × Value

-- nothing as data
pub view_null : view Null ≡ null
view_null = search (rules, the_lemmas)

-- what is served of the row of a number
pub served_at : (rows : List (ℕ × MailboxRow)) (n : ℕ) → row_at (served mailbox_of rows) n ≡ option_map mailbox_of (row_at rows n)
served_at [] n = refl
served_at (e ∷ es) n =
    elim (is_at (nat_cmp n) e.0) as (λ b. cond b (Some (mailbox_of e.1)) (row_at (served mailbox_of es) n) ≡ option_map mailbox_of (cond b (Some e.1) (row_at es n))) [
      | true ↦ refl
      | false ↦ served_at es n
    ]

some_too : (o : Option Value) → is_some (option_map view o) ≡ is_some o
some_too None = refl
some_too (Some v) = refl

-- whether the members have the name
pub has_member : (name : List ℕ) (es : List Entry)
    → is_some (lookup (is_at (λ (k : String Global). slice_cmp nat_cmp name (string_bytes k))) es) ≡ is_some (get_member name (members_view es))
has_member name es =
    sym (some_too (lookup (is_at (λ (k : String Global). slice_cmp nat_cmp name (string_bytes k))) es)) ∙ ap (λ (o : Option Data). is_some o) (view-lookup name es)

there_is_one : (es : List Entry) → (length es ≡ 0 → ⊥) → object (members_view es) ≡ object_or_null (members_view es)
there_is_one [] some = absurd (some refl)
there_is_one (e ∷ es) some = refl

-- members that are there are an object
pub object_is : (m : BTreeMap (String Global) Value) → (length m.entries ≡ 0 → ⊥) → view (Object m) ≡ object_or_null (members_view m.entries)
object_is m some = view-Object m ∙ there_is_one m.entries some
