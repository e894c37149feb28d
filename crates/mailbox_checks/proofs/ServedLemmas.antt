-- A Mailbox as it was served, by the history that a state stands for.
use Rattle.std.proofs.Common.{◌≡◌, ℕ, Bool, true, false, ◌||◌, ◌&&◌, not, List, [], ◌∷◌, Option, Some, None, cond, if◌then◌else◌, is_some, refl, sym, ap, ◌∙◌, nat_cmp}
use Rattle.std.specs.BTreeMap.{is_at}
use Rattle.std.specs.Option.{option_map, option_and_then}
use Rattle.serde_json.specs.Data.{Data}
use Rattle.serde_json.specs.Find.{get}
use Rattle.change_list.specs.Advance.{row_at}
use Rattle.served_maps.specs.Past.{served}
use Rattle.told_mail.specs.Mail.{folder_in}
use Rattle.told_folder.specs.declared.message.Folder.{Folder}
use Rattle.mail_maps.specs.declared.row.MailboxRow.{MailboxRow}
use Rattle.mail_maps.specs.Serve.{ServedMailbox, mailbox_of}
use Rattle.mail_state.specs.History.{MailHistory, served_mailboxes}
use Rattle.mail_state.specs.State.{IsStateOf, ServedState, ServedRows}
use Rattle.mail_state.proofs.FolderLemmas.{mailboxes_have}
use Rattle.read_methods.specs.Mailboxes.{mailbox_data, mailbox_properties}
use Rattle.set_given.specs.Given.{Given, was_served, was_numbered}
use Rattle.set_patches.specs.declared.patches.Pointer.{Pointer}
use Rattle.set_patches.specs.declared.patches.Pointer.TheVariants.{Whole}
use Rattle.mailbox_checks.specs.Properties.{can_be_set, can_be_made, was_made_with, was_value, is_value, is_right_change, served_data}

-- what is served of a row
row_served : {R V : Type 0} (serve : R → V) (rows : List (ℕ × R)) (q : ℕ) → row_at (served serve rows) q ≡ option_map serve (row_at rows q)
row_served serve [] q = refl
row_served {R} {V} serve (e ∷ es) q =
    elim (is_at (nat_cmp q) e.0) as (λ b. cond b (Some (serve e.1)) (row_at (served serve es) q) ≡ option_map serve (cond b (Some e.1) (row_at es q))) [
      | true ↦ refl
      | false ↦ row_served serve es q
    ]

abbrev data_of : ℕ → ServedMailbox → Data
data_of n s = mailbox_data mailbox_properties (n, s)

-- the row that the state has is the Mailbox that was served
pub served_is : (g : Given) (s : ServedState) (n : ℕ) (o : Option MailboxRow) → IsStateOf g.history s → o ≡ row_at s.rows.mailboxes n
    → option_map (λ (r : MailboxRow). mailbox_data mailbox_properties (n, mailbox_of r)) o ≡ served_data g n
served_is g s n o is row =
    twice o
    ∙ ap (λ (p : Option MailboxRow). option_map (data_of n) (option_map mailbox_of p)) row
    ∙ ap (option_map (data_of n)) (sym (row_served mailbox_of s.rows.mailboxes n))
    ∙ ap (λ (rows : List (ℕ × ServedMailbox)). option_map (data_of n) (row_at rows n)) is.mailboxes.now
  where
    twice : (p : Option MailboxRow) → option_map (λ (r : MailboxRow). data_of n (mailbox_of r)) p ≡ option_map (data_of n) (option_map mailbox_of p)
    twice None = refl
    twice (Some r) = refl

some_data : (n : ℕ) (o : Option ServedMailbox) → is_some (option_map (data_of n) o) ≡ is_some o
some_data n None = refl
some_data n (Some s) = refl

-- a Mailbox was served where its folder was there
pub served_where : (g : Given) (s : ServedState) (n : ℕ) → IsStateOf g.history s → is_some (served_data g n) ≡ was_numbered g n
served_where g s n is =
    some_data n (row_at g.history.mailboxes.now n)
    ∙ ap (λ (rows : List (ℕ × ServedMailbox)). is_some (row_at rows n)) (sym is.mailboxes.now ∙ ap (λ (r : ServedRows). served mailbox_of r.mailboxes) is.rows)
    ∙ mailboxes_have g.history.mail g.history.numbered.rows n

-- ---- the parts of an update

or_none : (b : Bool) → (b || false) ≡ b
or_none true = refl
or_none false = refl

abbrev value_in : Option Data → List ℕ → Data → Bool
value_in served p d = is_value d (option_and_then (get p) served)

-- a value that a client sets
pub right_set : (g : Given) (f : Folder) (p : List ℕ) (d : Data) → true ≡ can_be_set g p d → true ≡ is_right_change g f (Whole p) d
right_set g f p d set = ap (λ b. b || was_made_with g f p d || was_value g f p d) set

-- of a Mailbox that wasn't served, one that a new one has
pub right_made : (g : Given) (f : Folder) (p : List ℕ) (d : Data) → was_served g f ≡ false → served_data g f.number ≡ None → false ≡ can_be_set g p d
    → can_be_made g p d ≡ is_right_change g f (Whole p) d
right_made g f p d new none set =
    sym (or_none (can_be_made g p d))
    ∙ ap (λ (o : Option Data). can_be_made g p d || value_in o p d) (sym none)
    ∙ ap (λ b. (not b && can_be_made g p d) || was_value g f p d) (sym new)
    ∙ ap (λ b. b || was_made_with g f p d || was_value g f p d) set

-- of one that was served, the one that it had
pub right_served : (g : Given) (f : Folder) (p : List ℕ) (d : Data) → was_served g f ≡ true → false ≡ can_be_set g p d → was_value g f p d ≡ is_right_change g f (Whole p) d
right_served g f p d was set =
    ap (λ b. (not b && can_be_made g p d) || was_value g f p d) (sym was) ∙ ap (λ b. b || was_made_with g f p d || was_value g f p d) set

-- what a part is tested by
pub right_by : (g : Given) (f : Folder) (test : Pointer → Data → Bool) (pointer : Pointer) (p q : List ℕ) (d : Data) (b : Bool)
    → ((x : Pointer) (e : Data) → test x e ≡ is_right_change g f x e) → pointer ≡ Whole p → q ≡ p → b ≡ is_right_change g f (Whole q) d → b ≡ test pointer d
right_by g f test pointer p q d b same is name right =
    right ∙ ap (λ (n : List ℕ). is_right_change g f (Whole n) d) name ∙ ap (λ (x : Pointer). is_right_change g f x d) (sym is) ∙ sym (same pointer d)

-- of a Mailbox that wasn't served
pub made_by : (g : Given) (s : ServedState) (f : Folder) (p : List ℕ) (d : Data) → IsStateOf g.history s → None ≡ served_data g f.number → false ≡ can_be_set g p d
    → can_be_made g p d ≡ is_right_change g f (Whole p) d
made_by g s f p d is none set = right_made g f p d (sym (served_where g s f.number is) ∙ ap is_some (sym none)) (sym none) set

-- of one that was served as this
pub served_by : (g : Given) (s : ServedState) (f : Folder) (p : List ℕ) (d was : Data) → IsStateOf g.history s → Some was ≡ served_data g f.number → false ≡ can_be_set g p d
    → is_value d (get p was) ≡ is_right_change g f (Whole p) d
served_by g s f p d was is some set =
    ap (λ (o : Option Data). value_in o p d) some ∙ right_served g f p d (sym (served_where g s f.number is) ∙ ap is_some (sym some)) set
