-- A name that a RENAME gives is looked up: by it stands the one folder that has it.
use Rattle.std.proofs.Common.{◌≡◌, ℕ, ◌<◌, Bool, true, false, ◌&&◌, not, List, [], ◌∷◌, Option, Some, None, refl, sym, ap, ◌∙◌, inl, inr, arith, if◌then◌else◌, eq-eqb, ne_eqb}
use Rattle.std.specs.List.{list_any}
use Rattle.told_folder.specs.Folders.{folder_number, held_in}
use Rattle.told_folder.specs.Keyed.{Ascends}
use Rattle.told_folder.specs.declared.message.NumberedFolder.{NumberedFolder}
use Rattle.told_folder.proofs.KeyedLemmas.{some_same}
use Rattle.told_mail.specs.Mail.{is_same, named}
use Rattle.told_mail.specs.Renames.{renamed_name, names_given, has_one_named}
use Rattle.told_mail.proofs.NameLemmas.{is_self, same_name, named_name, found_above}
use Rattle.mailbox_names.specs.Renames.{is_renamed, clashes}
use Rattle.mailbox_names.specs.reading.Stays.{is_staying, stays_at, gives_clash}
use Rattle.mailbox_names.proofs.MemberLemmas.{IsIn, same_truth, one_passes, Passes, passing, given_in, GivenBy, in_given}

-- each folder is found by its name
abbrev pub AreFound : List NumberedFolder → Type 0
AreFound hs = (n : ℕ) (h : NumberedFolder) → held_in hs n ≡ Some h → named hs h.folder.name ≡ Some h

in_named : (hs : List NumberedFolder) (q : List ℕ) (k : NumberedFolder) → named hs q ≡ Some k → IsIn k hs
in_named [] q k e = absurd (let f : None ≡ Some k = e in cc)
in_named (x ∷ hs) q k e =
    elim (is_same x.folder.name q) as (λ b. (if b then Some x else named hs q) ≡ Some k → IsIn k (x ∷ hs)) [
      | true ↦ λ f. inl (some_same _ _ f)
      | false ↦ λ f. inr (in_named hs q k f)
    ] e

in_held : (hs : List NumberedFolder) (k : NumberedFolder) → Ascends folder_number hs → IsIn k hs → held_in hs (folder_number k) ≡ Some k
in_held [] k up i = absurd i
in_held (x ∷ hs) k up (inl e) = ap (λ b. if b then Some x else held_in hs (folder_number k)) (eq-eqb _ _ (ap folder_number e)) ∙ ap (λ (h : NumberedFolder). Some h) e
in_held (x ∷ hs) k up (inr i) =
    let r : held_in hs (folder_number k) ≡ Some k = in_held hs k up.1 i in
    let less : folder_number x < folder_number k = found_above (folder_number x) (folder_number k) hs k up.0 r in
    ap (λ b. if b then Some x else held_in hs (folder_number k)) (ne_eqb _ _ (λ e. omega (arith, e, less))) ∙ r

both : (a b : Bool) → (a && b) ≡ true → (a ≡ true) × (b ≡ true)
both true b e = (refl, e)
both false b e = absurd (let f : false ≡ true = e in cc)

joined : (a b : Bool) → a ≡ true → b ≡ true → (a && b) ≡ true
joined true b s t = t
joined false b s t = s

module _ (from to : List ℕ) (hs : List NumberedFolder) where
  abbrev looked_up : NumberedFolder → Bool
  looked_up h = gives_clash from to hs h.folder

  abbrev is_met : NumberedFolder → Bool
  is_met h = not (is_renamed from to h) && has_one_named h.folder.name (names_given from to hs)

  -- a look-up that finds one
  found_clash : (h : NumberedFolder) → IsIn h hs → looked_up h ≡ true → list_any is_met hs ≡ true
  found_clash h there t = by (renamed_name from to h.folder) refl t
    where
      stay : (n : List ℕ) → renamed_name from to h.folder ≡ Some n → (o : Option NumberedFolder) → named hs n ≡ o → is_staying from to o ≡ true → list_any is_met hs ≡ true
      stay n is None e s = absurd (let f : false ≡ true = s in cc)
      stay n is (Some k) e s =
          let name : k.folder.name ≡ n = named_name hs n k e in
          let given : IsIn n (names_given from to hs) = given_in (λ (x : NumberedFolder). renamed_name from to x.folder) h n hs there is in
          let has : has_one_named k.folder.name (names_given from to hs) ≡ true =
          one_passes (is_same k.folder.name) n (names_given from to hs) given (ap (λ (q : List ℕ). is_same q n) name ∙ is_self n) in
          one_passes is_met k hs (in_named hs n k e) (joined (not (is_renamed from to k)) (has_one_named k.folder.name (names_given from to hs)) s has)

      by : (o : Option (List ℕ)) → renamed_name from to h.folder ≡ o → stays_at from to hs o ≡ true → list_any is_met hs ≡ true
      by None e s = absurd (let f : false ≡ true = s in cc)
      by (Some n) e s = stay n e (named hs n) refl s

  -- a folder that has a name which is given
  met_clash : Ascends folder_number hs → AreFound hs → (k : NumberedFolder) → IsIn k hs → is_met k ≡ true → list_any looked_up hs ≡ true
  met_clash up found k there t =
      let b = both (not (is_renamed from to k)) (has_one_named k.folder.name (names_given from to hs)) t in
      let p : Passes (is_same k.folder.name) (names_given from to hs) = passing (is_same k.folder.name) (names_given from to hs) b.1 in
      let g : GivenBy (λ (x : NumberedFolder). renamed_name from to x.folder) hs p.one = in_given (λ (x : NumberedFolder). renamed_name from to x.folder) hs p.one p.there in
      let name : k.folder.name ≡ p.one = same_name k.folder.name p.one p.passes in
      let at : named hs p.one ≡ Some k = ap (named hs) (sym name) ∙ found (folder_number k) k (in_held hs k up there) in
      one_passes looked_up g.one hs g.there (ap (stays_at from to hs) g.gives ∙ ap (is_staying from to) at ∙ b.0)

-- some folder's new name is that of one that stays, or isn't: either way it is looked at
pub looked_up_clashes : (from to : List ℕ) (hs : List NumberedFolder) → Ascends folder_number hs → AreFound hs
    → list_any (λ (h : NumberedFolder). gives_clash from to hs h.folder) hs ≡ clashes from to hs
looked_up_clashes from to hs up found =
    same_truth (list_any (looked_up from to hs) hs) (list_any (is_met from to hs) hs)
    (λ t. let p : Passes (looked_up from to hs) hs = passing (looked_up from to hs) hs t in found_clash from to hs p.one p.there p.passes)
    (λ t. let p : Passes (is_met from to hs) hs = passing (is_met from to hs) hs t in met_clash from to hs up found p.one p.there p.passes)
