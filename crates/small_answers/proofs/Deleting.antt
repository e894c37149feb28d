-- Answers to DELETE are honest, and leave the small store's mail.
use Rattle.std.proofs.Common.{◌≡◌, ◌≢◌, ℕ, Bool, true, false, not, cond, List, [], ◌∷◌, Option, Some, None, filter, bytes_eq, refl, sym, ap, ◌∙◌, subst, append-nil, eq-eqb}
use Rattle.std.proofs.Common.{eqb-true, All, Contains, ◌==◌}
use Rattle.std.specs.List.{AllByRecursion}
use Rattle.std.proofs.lemmas.Bool.{false≢true}
use Rattle.std.proofs.lemmas.List.Elements.{All-filter, All-nil}
use Rattle.std.proofs.lemmas.List.Kept.{AllPairs-filter}
use Rattle.std.proofs.lemmas.Option.{same_Some}
use Rattle.std.proofs.lemmas.Slice.Eq.{bytes_eq-Decides}
use Rattle.imap_types.specs.declared.code.Code.TheVariants as code
use Rattle.imap_types.specs.declared.command.Command.TheVariants as command
use Rattle.imap_types.specs.Folders.{folder_name}
use Rattle.honest_store.specs.StoreMail.{StoreFolder, UnselectableName, StoreMail, folder_called, folder_numbered}
use Rattle.honest_store.specs.WellFormed.{IsStoreFolder, IsUnselectableName, IsStoreMail, use_of}
use Rattle.honest_store.specs.Sessions.{StoreSession}
use Rattle.honest_store.specs.Honest.{Deletes}
use Rattle.small_answers.specs.Changes.{mail_deleted}
use Rattle.small_answers.specs.Causes.{RefusalCause, NotThere, IsInbox}
use Rattle.small_answers.specs.Answers.{over_mail}
use Rattle.small_answers.specs.SmallMail.{IsSmallFolder, IsSmallMail}
use Rattle.small_answers.proofs.Elements.{any_head, each_both}
use Rattle.small_answers.proofs.Reading.{late_answer}
use Rattle.small_answers.proofs.FoldersFound.{called_numbered, each_named, each_numbered, name_found, named, other_text}
use Rattle.small_answers.proofs.Replies.{IsOkGood}

deleted_small : (mail : StoreMail) (name : List ℕ) → IsSmallMail mail → IsSmallMail (mail_deleted mail name)
deleted_small mail name small =
    let whole : IsStoreMail mail = small.well_formed in let after : StoreMail = mail_deleted mail name in let stays : StoreFolder → Bool = λ f. not (bytes_eq f.name name) in
    record {
      well_formed = record {
        folders = All-filter stays IsStoreFolder mail.folders whole.folders;
        unselectable = subst (λ (ns : List UnselectableName). All (IsUnselectableName after) ns) (sym small.all_selectable) (All-nil (IsUnselectableName after));
        numbers = AllPairs-filter (λ (x y : StoreFolder). x.number ≢ y.number) stays mail.folders whole.numbers;
        names = AllPairs-filter (λ (x y : StoreFolder). x.name ≢ y.name) stays mail.folders whole.names;
        unselectable_names = whole.unselectable_names;
        uses = All-filter stays (λ x. Contains mail.uses (use_of x)) mail.folders whole.uses;
        agree = whole.agree;
      };
      folders = All-filter stays IsSmallFolder mail.folders small.folders;
      numbers = small.numbers;
      all_selectable = small.all_selectable;
    }

-- ---- by name and by number

filter_same : {X : Type 0} (p q : X → Bool) (xs : List X) → AllByRecursion (λ x. p x ≡ q x) xs → filter p xs ≡ filter q xs
filter_same p q [] all = refl
filter_same p q (x ∷ xs) all = ap (λ (b : Bool). cond b (x ∷ filter p xs) (filter p xs)) all.0 ∙ ap (λ ys. cond (q x) (x ∷ ys) ys) (filter_same p q xs all.1)

module _ (mail : StoreMail) (name : List ℕ) (f : StoreFolder) (whole : IsStoreMail mail) (called : folder_called mail.folders name ≡ Some f) where
  passes_as : (x : StoreFolder) → folder_numbered mail.folders x.number ≡ Some x → named mail.folders x.name ≡ Some x → (b : Bool) → (x.number == f.number) ≡ b
      → bytes_eq x.name (folder_name name) ≡ b
  passes_as x numbered by_name true e =
      let same : x ≡ f =
      same_Some x f (sym numbered ∙ (ap (λ (n : ℕ). folder_numbered mail.folders n) (eqb-true x.number f.number e) ∙ called_numbered mail name f whole called)) in
      (bytes_eq-Decides x.name (folder_name name)).1 (ap (λ (g : StoreFolder). g.name) same ∙ name_found mail.folders name f called)
  passes_as x numbered by_name false e = other_text x.name (folder_name name) (λ same.
      let both : x ≡ f = same_Some x f (sym by_name ∙ (ap (λ (t : List ℕ). named mail.folders t) same ∙ called)) in
      false≢true (sym e ∙ eq-eqb x.number f.number (ap (λ (g : StoreFolder). g.number) both)))

  pub left_by_number : filter (λ x. not (bytes_eq x.name (folder_name name))) mail.folders ≡ filter (λ x. not (x.number == f.number)) mail.folders
  left_by_number =
      filter_same (λ x. not (bytes_eq x.name (folder_name name))) (λ x. not (x.number == f.number)) mail.folders
      (each_both (λ x. folder_numbered mail.folders x.number ≡ Some x) (λ x. named mail.folders x.name ≡ Some x)
      (λ x. not (bytes_eq x.name (folder_name name)) ≡ not (x.number == f.number))
      (λ x numbered by_name. ap not (passes_as x numbered by_name (x.number == f.number) refl)) mail.folders (each_numbered mail.folders whole.numbers)
      (each_named mail.folders whole.names))

-- ---- the answer

module _ (s : StoreSession) (name : List ℕ) (small : IsSmallMail s.mail) (free : RefusalCause s (command.Delete name) → ⊥) where
  abbrev after : StoreMail
  after = mail_deleted s.mail (folder_name name)

  deletes : (q : Option StoreFolder) → folder_called s.mail.folders name ≡ q → Deletes s.mail name after q
  deletes None e = absurd (free (NotThere (any_head (λ k. folder_called s.mail.folders k ≡ None) name [] e)))
  deletes (Some f) e = (
    λ is_inbox. free (IsInbox (sym (name_found s.mail.folders name f e) ∙ is_inbox)),
    record {
      there = called_numbered s.mail name f small.well_formed e;
      changes = record { folders_are = left_by_number s.mail name f small.well_formed e; uses_are = sym (append-nil s.mail.uses) };
    },
  )

  pub delete_good : IsOkGood s (command.Delete name)
  delete_good = record {
    honest = late_answer s (over_mail s after) (command.Delete name) [] code.Absent (deleted_small s.mail (folder_name name) small).well_formed tt tt
        (refl, deletes (folder_called s.mail.folders name) refl);
    small = deleted_small s.mail (folder_name name) small;
  }
