-- A batch leads from mail to mail that can follow it.
use Rattle.std.proofs.Common.{◌≡◌, ◌≢◌, ◌≤◌, ◌+◌, ℕ, Bool, cond, List, [], ◌∷◌, max, Option, Some, None, refl, sym, ap, ◌∙◌, inl, inr, arith, eq-eqb, ne_eqb}
use Rattle.std.specs.Prelude.{nat_eq, IsSome}
use Rattle.std.specs.Map.{update}
use Rattle.told_folder.specs.declared.message.Folder.{Folder}
use Rattle.told_mail.specs.Mail.{Mail, IsNextMail}
use Rattle.mail_batches.specs.declared.item.Item.{Item}
use Rattle.mail_batches.specs.declared.item.Item.TheVariants.{MessageGone, FolderGone, FolderPut, MessagePut, MessageSet}
use Rattle.mail_batches.specs.Batches.{IsBatch}
use Rattle.mail_batches.specs.Tables.{Tables}
use Rattle.mail_batches.specs.Steps.{Makes, Lead}
use Rattle.mail_batches.proofs.Found.{same_or_other, some_none}

-- the counter didn't fall, and each folder was there before or has a new number
pub record GoesOn (before now : Tables) : Type 0 where
  pub counter : before.next_folder ≤ now.next_folder
  pub fresh : (n : ℕ) (f : Folder) → now.folders n ≡ Some f → before.folders n ≡ None → before.next_folder ≤ n

pub at_key : {X : Type 0} (f : ℕ → Option X) (k : ℕ) (w : Option X) (q : ℕ) → k ≡ q → update nat_eq f k w q ≡ w
at_key f k w q same = ap (λ (b : Bool). cond b w (f q)) (eq-eqb k q same)

pub off_key : {X : Type 0} (f : ℕ → Option X) (k : ℕ) (w : Option X) (q : ℕ) → k ≢ q → update nat_eq f k w q ≡ f q
off_key f k w q other = ap (λ (b : Bool). cond b w (f q)) (ne_eqb k q other)

stays : (t now : Tables) → now.folders ≡ t.folders → now.next_folder ≡ t.next_folder → GoesOn t now
stays t now folders counter = record {
  counter = omega (arith, counter);
  fresh = λ n f e none. absurd (some_none f (sym e ∙ ap (λ (g : ℕ → Option Folder). g n) folders ∙ none));
}

pub not_some : {X : Type 0} (o : Option X) → IsSome o → o ≡ None → ⊥
not_some None is e = absurd (cc is)
not_some (Some x) is e = some_none x e

made_on : (t : Tables) (i : Item) (now : Tables) → Makes t i now → GoesOn t now
made_on t (MessageGone mark) now p = stays t now (ap (λ (x : Tables). x.folders) p.1) (ap (λ (x : Tables). x.next_folder) p.1)
made_on t (FolderGone number) now p = record {
  counter = let e = ap (λ (x : Tables). x.next_folder) p.1 in omega (arith, e);
  fresh = λ n f e none. elim (same_or_other number n) [
    | inl same ↦ absurd (some_none f (sym e ∙ ap (λ (x : Tables). x.folders n) p.1 ∙ at_key t.folders number None n same))
    | inr other ↦ absurd (some_none f (sym e ∙ ap (λ (x : Tables). x.folders n) p.1 ∙ off_key t.folders number None n other ∙ none))
  ];
}
made_on t (FolderPut x) now p = record {
  counter = let e : now.next_folder ≡ max t.next_folder (x.number + 1) = ap (λ (y : Tables). y.next_folder) p.2 in omega (arith, e);
  fresh = λ n f e none. elim (same_or_other x.number n) [
    | inl same ↦ elim p.1 [
      | inl there ↦ absurd (not_some (t.folders x.number) there (ap t.folders same ∙ none))
      | inr new ↦ omega (arith, new, same)
    ]
    | inr other ↦ absurd (some_none f (sym e ∙ ap (λ (y : Tables). y.folders n) p.2 ∙ off_key t.folders x.number (Some x) n other ∙ none))
  ];
}
made_on t (MessagePut folder x) now p = stays t now (ap (λ (y : Tables). y.folders) p.2) (ap (λ (y : Tables). y.next_folder) p.2)
made_on t (MessageSet mark folder uid flags) now p = stays t now (ap (λ (y : Tables). y.folders) p.2.set) (ap (λ (y : Tables). y.next_folder) p.2.set)

goes_both : (a b c : Tables) → GoesOn a b → GoesOn b c → GoesOn a c
goes_both a b c p q = record {
  counter = let l = p.counter in let r = q.counter in omega (arith, l, r);
  fresh = λ n f e none. by n f e none (b.folders n) refl;
}
  where
    by : (n : ℕ) (f : Folder) → c.folders n ≡ Some f → a.folders n ≡ None → (o : Option Folder) → b.folders n ≡ o → a.next_folder ≤ n
    by n f e none None is = let l = p.counter in let r = q.fresh n f e is in omega (arith, l, r)
    by n f e none (Some g) is = p.fresh n g is none

pub lead_on : (last : Option Item) (t : Tables) (is : List Item) (now : Tables) → Lead last t is now → GoesOn t now
lead_on last t [] now p = stays t now (ap (λ (x : Tables). x.folders) p) (ap (λ (x : Tables). x.next_folder) p)
lead_on last t (i ∷ is) now p = goes_both t p.1.0 now (made_on t i p.1.0 p.1.1) (lead_on (Some i) p.1.0 is now p.1.2)

pub batch_is_next : (m after : Mail) (batch : List ℕ) → IsBatch m batch after → IsNextMail m after
batch_is_next m after batch b =
    let on : GoesOn b.before b.now = lead_on None b.before b.items b.now b.lead in
    record {
      is_mail = b.raised.is_mail;
      counter = let le = on.counter in let l = b.laid.next_folder in let r = b.raised.next_folder in omega (arith, le, l, r);
      new_folders = λ n f e none.
          let le = on.fresh n f (b.raised.folders n ∙ e) (b.laid.folders n ∙ none) in
          let l = b.laid.next_folder in
          omega (arith, le, l);
    }
