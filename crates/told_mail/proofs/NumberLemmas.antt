-- What holds of the numbers of folders as mail is told, and of mail that can follow.
use Rattle.std.proofs.Common.{◌≡◌, ℕ, ◌+◌, ◌<◌, ◌≤◌, zero, suc, Bool, true, false, List, [], ◌∷◌, ◌++◌, Option, Some, None, Result, Ok, Err, OnOk, OnErr, length, get_or, set}
use Rattle.std.proofs.Common.{filter, refl, sym, ap, ◌∙◌, subst, arith, eqb, eqb-true, ne_eqb, leb, ltb, ltb-true, ltb-false, if◌then◌else◌}
use Rattle.std.specs.Option.{option_map}
use Rattle.std.specs.declared.alloc.AllocError.{AllocError}
use Rattle.imap_types.specs.declared.command.Command.{Command}
use Rattle.imap_types.specs.declared.command.Command.TheVariants as command
use Rattle.imap_types.specs.declared.response.Response.{Response}
use Rattle.imap_types.specs.declared.response.Status.{Status}
use Rattle.imap_types.specs.declared.response.Status.TheVariants as status
use Rattle.told_folder.specs.Folders.{folder_number, held_in, folder_in}
use Rattle.told_folder.specs.ToldBy.{told_by}
use Rattle.told_folder.specs.declared.exchange.Exchange.{Exchange}
use Rattle.told_folder.specs.declared.message.Folder.{Folder}
use Rattle.told_folder.specs.declared.message.NumberedFolder.{NumberedFolder}
use Rattle.told_folder.proofs.KeyedLemmas.{some_is_not_none}
use Rattle.told_mail.specs.Exchanges.{with_held, tell_held, tell_named, tell_ok, tell_as, tell, responses_of, target}
use Rattle.told_mail.specs.Lists as lists
use Rattle.told_mail.specs.Lists.{line_for, put_listed, listed, with_line, new_folder, new_names, with_new_folder, with_new_folders, tell_list}
use Rattle.told_mail.specs.Mail.{Mail, named, IsMail, IsNextMail}
use Rattle.told_mail.specs.Told.{Told}
use Rattle.told_mail.specs.declared.mirror.listing.TheConstants.{MAX_FOLDER_NUMBER}
use Rattle.told_mail.specs.reading.Lines.{with_pushed}
use Rattle.told_mail.specs.reading.Numbers.{NumbersGoOn}

-- a number is no more than itself
pub same_least : (n : ℕ) → n ≤ n
same_least n = omega arith

-- a number is no more than the next one
pub one_more_least : (n : ℕ) → n ≤ n + 1
one_more_least n = omega arith

-- ---- numbers that go on

-- numbers go on in the same mail
pub numbers_stay : (m : Mail) → NumbersGoOn m m
numbers_stay m = record { counter = same_least m.next_folder; ended = λ n less e. e }

-- where numbers go on in two steps, they do in both together
pub numbers_on : (a b c : Mail) → NumbersGoOn a b → NumbersGoOn b c → NumbersGoOn a c
numbers_on a b c f g =
    let k : a.next_folder ≤ b.next_folder = f.counter in
    let l : b.next_folder ≤ c.next_folder = g.counter in
    record {
      counter = omega (arith, k, l);
      ended = λ n less e. let more : n < b.next_folder = omega (arith, k, less) in g.ended n more (f.ended n less e);
    }

folder_none : (o : Option NumberedFolder) → option_map (λ (h : NumberedFolder). h.folder) o ≡ None → o ≡ None
folder_none None e = refl
folder_none (Some h) e = absurd (some_is_not_none h.folder e)

-- mail in which the numbers go on can follow
pub next_by : (a b : Mail) → IsMail b → NumbersGoOn a b → IsNextMail a b
next_by a b is g = record {
  is_mail = is;
  counter = g.counter;
  new_folders = λ n f there gone.
      elim (ltb n a.next_folder) as (λ v. ltb n a.next_folder ≡ v → a.next_folder ≤ n) [
        | true ↦ λ e.
            let none : held_in b.folders n ≡ None = g.ended n (ltb-true _ _ e) (folder_none (held_in a.folders n) gone) in
            absurd (some_is_not_none f (sym there ∙ ap (option_map (λ (h : NumberedFolder). h.folder)) none))
        | false ↦ λ e. ltb-false _ _ e
      ] refl;
}

-- what can follow mail that can follow other mail can follow that, too
pub next_mail_joins : (a b c : Mail) → IsNextMail a b → IsNextMail b c → IsNextMail a c
next_mail_joins a b c f g =
    let k : a.next_folder ≤ b.next_folder = f.counter in
    let l : b.next_folder ≤ c.next_folder = g.counter in
    record {
      is_mail = g.is_mail;
      counter = omega (arith, k, l);
      new_folders = λ n x there gone.
          elim (folder_in b.folders n) as (λ (o : Option Folder). folder_in b.folders n ≡ o → a.next_folder ≤ n) [
            | None ↦ λ e. let new : b.next_folder ≤ n = g.new_folders n x there e in omega (arith, k, new)
            | Some y ↦ λ e. f.new_folders n y e gone
          ] refl;
    }

-- ---- a number that no folder has

none_here : (h k : NumberedFolder) (hs : List NumberedFolder) (n : ℕ) → folder_number k ≡ folder_number h → held_in (h ∷ hs) n ≡ None → held_in (k ∷ hs) n ≡ None
none_here h k hs n same e =
    ap (λ m. if eqb m n then Some k else held_in hs n) same
    ∙ elim (eqb (folder_number h) n) as (λ b. (if b then Some h else held_in hs n) ≡ None → (if b then Some k else held_in hs n) ≡ None) [
      | true ↦ λ f. absurd (some_is_not_none _ f)
      | false ↦ λ f. f
    ] e

none_behind : (h : NumberedFolder) (hs ks : List NumberedFolder) (n : ℕ) → (held_in hs n ≡ None → held_in ks n ≡ None) → held_in (h ∷ hs) n ≡ None → held_in (h ∷ ks) n ≡ None
none_behind h hs ks n more e =
    elim (eqb (folder_number h) n) as (λ b. (if b then Some h else held_in hs n) ≡ None → (if b then Some h else held_in ks n) ≡ None) [
      | true ↦ λ f. f
      | false ↦ λ f. more f
    ] e

none_left : (h : NumberedFolder) (hs : List NumberedFolder) (n : ℕ) → held_in (h ∷ hs) n ≡ None → held_in hs n ≡ None
none_left h hs n e =
    elim (eqb (folder_number h) n) as (λ b. (if b then Some h else held_in hs n) ≡ None → held_in hs n ≡ None) [
      | true ↦ λ f. absurd (some_is_not_none _ f)
      | false ↦ λ f. f
    ] e

none_set : (hs : List NumberedFolder) (at : ℕ) (h k : NumberedFolder) (n : ℕ) → at < length hs → h ≡ get_or hs at h → folder_number k ≡ folder_number h → held_in hs n ≡ None
    → held_in (set hs at k) n ≡ None
none_set [] at h k n within is same e = absurd (omega arith)
none_set (x ∷ hs) zero h k n within is same e = none_here x k hs n (same ∙ ap folder_number is) e
none_set (x ∷ hs) (suc at) h k n within is same e = none_behind x hs (set hs at k) n (λ f. none_set hs at h k n (omega arith) is same f) e

-- numbers go on where another folder of the same number is set at a place
pub numbers_set : (hs : List NumberedFolder) (at : ℕ) (h k : NumberedFolder) (a b nf : ℕ) → at < length hs → h ≡ get_or hs at h → folder_number k ≡ folder_number h
    → NumbersGoOn (record { folders = hs; next_mark = a; next_folder = nf }) (record { folders = set hs at k; next_mark = b; next_folder = nf })
numbers_set hs at h k a b nf within is same = record { counter = same_least nf; ended = λ n less e. none_set hs at h k n within is same e }

none_filter : (p : NumberedFolder → Bool) (hs : List NumberedFolder) (n : ℕ) → held_in hs n ≡ None → held_in (filter p hs) n ≡ None
none_filter p [] n e = e
none_filter p (h ∷ hs) n e =
    elim (p h) as (λ v. held_in (if v then h ∷ filter p hs else filter p hs) n ≡ None) [
      | true ↦ none_behind h hs (filter p hs) n (none_filter p hs n) e
      | false ↦ none_filter p hs n (none_left h hs n e)
    ]

-- numbers go on where some folders are taken out
pub numbers_filter : (m : Mail) (p : NumberedFolder → Bool) → NumbersGoOn m (record m { folders = filter p m.folders })
numbers_filter m p = record { counter = same_least m.next_folder; ended = λ n less e. none_filter p m.folders n e }

none_pushed : (hs : List NumberedFolder) (h : NumberedFolder) (n : ℕ) → n < folder_number h → held_in hs n ≡ None → held_in (hs ++ h ∷ []) n ≡ None
none_pushed [] h n less e = ap (λ b. if b then Some h else None) (ne_eqb _ _ (λ f. omega (arith, f, less)))
none_pushed (x ∷ hs) h n less e = none_behind x hs (hs ++ h ∷ []) n (none_pushed hs h n less) e

-- numbers go on where a folder comes after the others that has the next number
pub numbers_pushed : (m : Mail) (f : Folder) → f.number ≡ m.next_folder → NumbersGoOn m (with_pushed m f)
numbers_pushed m f same = record {
  counter = one_more_least m.next_folder;
  ended = λ n less e. none_pushed m.folders (record { folder = f; messages = [] }) n (subst (λ k. n < k) (sym same) less) e;
}

-- numbers go on where a folder that has the next number comes after the others, or nothing changes
pub numbers_push : (old new : Told) (f : Folder) (result : Result (Unit {0}) AllocError) → f.number ≡ old.mail.next_folder → OnOk result (new.mail ≡ with_pushed old.mail f)
    → OnErr result (new ≡ old) → NumbersGoOn old.mail new.mail
numbers_push old new f (Ok x) same ok err = subst (λ (m : Mail). NumbersGoOn old.mail m) (sym ok) (numbers_pushed old.mail f same)
numbers_push old new f (Err e) same ok err = subst (λ (t : Told). NumbersGoOn old.mail t.mail) (sym err) (numbers_stay old.mail)

-- ---- what is told

none_with : (hs : List NumberedFolder) (k : NumberedFolder) (n : ℕ) → held_in hs n ≡ None → held_in (with_held hs k) n ≡ None
none_with [] k n e = e
none_with (h ∷ hs) k n e =
    elim (eqb (folder_number h) (folder_number k)) as (λ b. eqb (folder_number h) (folder_number k) ≡ b → held_in (if b then k ∷ hs else h ∷ with_held hs k) n ≡ None) [
      | true ↦ λ t. none_here h k hs n (sym (eqb-true _ _ t)) e
      | false ↦ λ t. none_behind h hs (with_held hs k) n (none_with hs k n) e
    ] refl

-- a number that no folder has is that of none that a LIST leaves
pub none_listed : (rs : List Response) (hs : List NumberedFolder) (n : ℕ) → held_in hs n ≡ None → held_in (listed rs hs) n ≡ None
none_listed rs [] n e = e
none_listed rs (h ∷ hs) n e =
    elim (line_for h.folder.name rs) as (λ o. held_in (put_listed o h (listed rs hs)) n ≡ None) [
      | None ↦ none_listed rs hs n (none_left h hs n e)
      | Some l ↦ none_here h (with_line l h) (listed rs hs) n refl (none_behind h hs (listed rs hs) n (none_listed rs hs n) e)
    ]

numbers_held : (m : Mail) (c : Command) (rs : List Response) (o : Option NumberedFolder) → NumbersGoOn m (tell_held m c rs o)
numbers_held m c rs None = numbers_stay m
numbers_held m c rs (Some h) = record { counter = same_least m.next_folder; ended = λ n less e. none_with m.folders (told_by c rs m.next_mark h) n e }

numbers_named : (m : Mail) (c : Command) (rs : List Response) (name : Option (List ℕ)) → NumbersGoOn m (tell_named m c rs name)
numbers_named m c rs None = numbers_stay m
numbers_named m c rs (Some name) = numbers_held m c rs (named m.folders name)

numbers_more : (m : Mail) (o : Option lists.Line) → NumbersGoOn m (with_new_folder m o)
numbers_more m None = numbers_stay m
numbers_more m (Some l) =
    elim (leb m.next_folder MAX_FOLDER_NUMBER) as (λ b. NumbersGoOn m (if b then record {
      folders = m.folders ++ new_folder m.next_folder l ∷ [];
      next_mark = m.next_mark;
      next_folder = m.next_folder + 1;
    } else m)) [
      | true ↦ record { counter = one_more_least m.next_folder; ended = λ n less e. none_pushed m.folders (new_folder m.next_folder l) n less e }
      | false ↦ numbers_stay m
    ]

numbers_added : (rs : List Response) (m : Mail) (names : List (List ℕ)) → NumbersGoOn m (with_new_folders rs m names)
numbers_added rs m [] = numbers_stay m
numbers_added rs m (name ∷ names) =
    let now : Mail = with_new_folder m (line_for name rs) in
    numbers_on m now (with_new_folders rs now names) (numbers_more m (line_for name rs)) (numbers_added rs now names)

numbers_list : (m : Mail) (rs : List Response) → NumbersGoOn m (tell_list m rs)
numbers_list m rs =
    let left : Mail = record m { folders = listed rs m.folders } in
    let cut : NumbersGoOn m left = record { counter = same_least m.next_folder; ended = λ n less e. none_listed rs m.folders n e } in
    numbers_on m left (with_new_folders rs left (new_names m.folders rs)) cut (numbers_added rs left (new_names m.folders rs))

numbers_ok : (m : Mail) (c : Command) (rs : List Response) (selected : Option (List ℕ)) → NumbersGoOn m (tell_ok m c rs selected)
numbers_ok m (command.List special_use) rs selected =
    let told : Mail = tell_named m (command.List special_use) rs selected in
    numbers_on m told (tell_list told rs) (numbers_named m (command.List special_use) rs selected) (numbers_list told rs)
numbers_ok m c rs selected = numbers_named m c (responses_of c rs) (target c selected)

-- numbers go on as an exchange is told
pub numbers_told : (m : Mail) (x : Exchange) → NumbersGoOn m (tell m x)
numbers_told m x = by x.status
  where
    by : (s : Status) → NumbersGoOn m (tell_as s m x)
    by status.Ok = numbers_ok m x.command x.responses x.selected
    by _ = numbers_stay m
