-- What texts name.
use Rattle.std.proofs.Common.{◌≡◌, ℕ, ◌==◌, ◌<◌, ◌&&◌, Bool, true, false, cond, is_some, List, [], ◌∷◌, length, Option, Some, None, Result, Ok, Err, String, Global, string_bytes, refl, sym, ap, ◌∙◌, arith, eq-eqb}
use Rattle.std.specs.Prelude.{slice_get}
use Rattle.std.specs.List.{list_all, filter_map, cons_option}
use Rattle.std.specs.Option.{option_map_or}
use Rattle.serde_json.specs.declared.value.Value.{Value}
use Rattle.serde_json.specs.View.{members_view}
use Rattle.serde_json.proofs.Views.{Entry}
use Rattle.told_folder.specs.declared.message.Folder.{Folder}
use Rattle.set_jobs.specs.declared.done.SetError.{SetError}
use Rattle.set_jobs.specs.declared.done.SetError.TheVariants.{TooManyMailboxes}
use Rattle.set_given.specs.Given.{Given, folder_named}
use Rattle.set_patches.specs.Patches.{member_keys}
use Rattle.email_checks.specs.Asked.{names_folder}
use Rattle.email_checks.specs.Emails.{no_folder}
use Rattle.email_creation.specs.Asked.{mailbox_named, one_mailbox}
use Rattle.email_creation.specs.reading.Named.{first_named, names_no_other}

-- ---- the first key

no_entry : (e : Entry) → None ≡ Some e → ⊥
no_entry e is = cc

one_entry : (a b : Entry) → Some a ≡ Some b → a ≡ b
one_entry a b is = cc

pub first_key : (es : List Entry) (k : String Global) (v : Value) (g : Given) → slice_get es 0 ≡ Some (k, v) → first_named g (member_keys (members_view es)) ≡ folder_named g (string_bytes k)
first_key [] k v g is = absurd (no_entry (k, v) is)
first_key (e ∷ es) k v g is = ap (λ (x : Entry). folder_named g (string_bytes x.0)) (one_entry e (k, v) is)

pub no_key : (es : List Entry) (g : Given) → (0 < length es → ⊥) → first_named g (member_keys (members_view es)) ≡ None
no_key [] g none = refl
no_key (e ∷ es) g none = absurd (none (omega arith))

-- ---- the one Mailbox

-- texts that name none are passed over
no_other : (g : Given) (n : ℕ) (texts : List (List ℕ)) → list_all (names_no_other g n) texts ≡ list_all (λ (f : Folder). f.number == n) (filter_map (folder_named g) texts)
no_other g n [] = refl
no_other g n (t ∷ ts) = by (folder_named g t) (no_other g n ts)
  where
    by : (o : Option Folder) → list_all (names_no_other g n) ts ≡ list_all (λ (f : Folder). f.number == n) (filter_map (folder_named g) ts)
        → (option_map_or (λ (f : Folder). f.number == n) o true && list_all (names_no_other g n) ts)
        ≡ list_all (λ (f : Folder). f.number == n) (cons_option o (filter_map (folder_named g) ts))
    by None is = is
    by (Some f) is = ap (λ (b : Bool). (f.number == n) && b) is

pub named_nowhere : (g : Given) (texts : List (List ℕ)) → list_all (names_folder g) texts ≡ false → mailbox_named g texts ≡ Err no_folder
named_nowhere g texts is = ap (λ (b : Bool). cond b (one_mailbox (filter_map (folder_named g) texts)) (Err no_folder)) is

pub named_none : (g : Given) (texts : List (List ℕ)) → first_named g texts ≡ None → mailbox_named g texts ≡ Err no_folder
named_none g [] is = refl
named_none g (t ∷ ts) is = named_nowhere g (t ∷ ts) (ap (λ (o : Option Folder). is_some o && list_all (names_folder g) ts) is)

no_first : (f : Folder) → None ≡ Some f → ⊥
no_first f is = cc

named_some : (g : Given) (texts : List (List ℕ)) (f : Folder) → list_all (names_folder g) texts ≡ true → first_named g texts ≡ Some f
    → mailbox_named g texts ≡ cond (list_all (names_no_other g f.number) texts) (Ok f) (Err TooManyMailboxes)
named_some g [] f all is = absurd (no_first f is)
named_some g (t ∷ ts) f all is =
    let fs : List Folder = filter_map (folder_named g) ts in
    let others : Bool = list_all (names_no_other g f.number) ts in
    let itself : (option_map_or (λ (x : Folder). x.number == f.number) (folder_named g t) true && others) ≡ others =
    ap (λ (o : Option Folder). option_map_or (λ (x : Folder). x.number == f.number) o true && others) is ∙ ap (λ (b : Bool). b && others) (eq-eqb f.number f.number refl) in
    ap (λ (b : Bool). cond b (one_mailbox (filter_map (folder_named g) (t ∷ ts))) (Err no_folder)) all
    ∙ ap (λ (o : Option Folder). one_mailbox (cons_option o fs)) is
    ∙ ap (λ (b : Bool). cond b (Ok f) (Err TooManyMailboxes)) (sym (itself ∙ no_other g f.number ts))

pub named_as : (g : Given) (texts : List (List ℕ)) (f : Folder) (b : Bool) → true ≡ list_all (names_folder g) texts → Some f ≡ first_named g texts
    → b ≡ list_all (names_no_other g f.number) texts → cond b (Ok f) (Err TooManyMailboxes) ≡ mailbox_named g texts
named_as g texts f b all first others = ap (λ (x : Bool). cond x (Ok f) (Err TooManyMailboxes)) others ∙ sym (named_some g texts f (sym all) (sym first))
