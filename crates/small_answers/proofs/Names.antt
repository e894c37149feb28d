-- Names as they are told, and uses of names.
use Rattle.std.proofs.Common.{◌≡◌, ◌≢◌, ℕ, ◌+◌, ◌<◌, ◌≤◌, max, fold, Bool, true, false, List, [], ◌∷◌, None, map, bytes_eq, codes, refl, sym, ap, ◌∙◌, arith, All}
use Rattle.std.proofs.Common.{AllPairs, Contains, if◌then◌else◌}
use Rattle.std.specs.List.{AllByRecursion}
use Rattle.std.proofs.lemmas.Bool.{false≢true}
use Rattle.std.proofs.lemmas.List.Elements.{All-contains, recursion_from_All}
use Rattle.std.proofs.lemmas.Slice.Eq.{bytes_eq-Decides}
use Rattle.imap_types.specs.Folders.{folder_name}
use Rattle.imap_types.specs.Octets.{is_text, lower}
use Rattle.imap_types.specs.Texts.{Each}
use Rattle.honest_store.specs.StoreMail.{StoreFolder, NameUse, StoreMail, folder_called}
use Rattle.honest_store.specs.WellFormed.{AgreeOnFolder, IsToldName, use_of}
use Rattle.small_answers.specs.SmallMail.{IsSmallMail}
use Rattle.small_answers.proofs.Elements.{each_weaker}
use Rattle.small_answers.proofs.Searches.{nothing_found}

-- ---- as they are told

told_if : (name : List ℕ) (b : Bool) → bytes_eq (map lower name) (codes "inbox") ≡ b → folder_name (if b then codes "INBOX" else name) ≡ (if b then codes "INBOX" else name)
told_if name true e = refl
told_if name false e = ap (λ (b : Bool). if b then codes "INBOX" else name) e

text_if : (name : List ℕ) (b : Bool) → Each is_text name → Each is_text (if b then codes "INBOX" else name)
text_if name true text = (refl, (refl, (refl, (refl, (refl, tt)))))
text_if name false text = text

pub told_name : (name : List ℕ) → Each is_text name → IsToldName (folder_name name)
told_name name text = record {
  as_told = told_if name (bytes_eq (map lower name) (codes "inbox")) refl;
  octets = text_if name (bytes_eq (map lower name) (codes "inbox")) text;
}

-- no folder has a name that none is found by
pub each_not_called : (fs : List StoreFolder) (name : List ℕ) → folder_called fs name ≡ None → AllByRecursion (λ f. f.name ≢ folder_name name) fs
each_not_called fs name none =
    each_weaker (λ f. bytes_eq f.name (folder_name name) ≡ false) (λ f. f.name ≢ folder_name name)
    (λ f fails same. false≢true (sym fails ∙ (bytes_eq-Decides f.name (folder_name name)).1 same)) fs
    (nothing_found (λ f. bytes_eq f.name (folder_name name)) fs none)

-- ---- uses

-- where each number is the UIDVALIDITY
pub agree_by_number : (us : List NameUse) → All (λ u. u.number ≡ u.validity) us → AllPairs AgreeOnFolder us
agree_by_number us same i j d l m name validity = same i d (omega (arith, l, m)) ∙ (validity ∙ sym (same j d m))

pub each_own_number : (mail : StoreMail) → IsSmallMail mail → AllByRecursion (λ f. f.number ≡ f.validity) mail.folders
each_own_number mail small =
    each_weaker (λ f. Contains mail.uses (use_of f)) (λ f. f.number ≡ f.validity)
    (λ f used. All-contains (λ u. u.number ≡ u.validity) mail.uses (use_of f) small.numbers used) mail.folders
    (recursion_from_All (λ f. Contains mail.uses (use_of f)) mail.folders small.well_formed.uses)

-- ---- a UIDVALIDITY that none has

-- above n and each of these
abbrev validity_from : ℕ → List NameUse → ℕ
validity_from n us = fold (λ k u. max k (u.validity + 1)) n us

pub validity_grows : (n : ℕ) (us : List NameUse) → n ≤ validity_from n us
validity_grows n [] = omega arith
validity_grows n (u ∷ us) = omega (arith, validity_grows (max n (u.validity + 1)) us)

pub each_used_below : (n : ℕ) (us : List NameUse) → AllByRecursion (λ u. u.validity < validity_from n us) us
each_used_below n [] = tt
each_used_below n (u ∷ us) = (omega (arith, validity_grows (max n (u.validity + 1)) us), each_used_below (max n (u.validity + 1)) us)
