-- Folders that are kept without what no Mailbox shows of them, beside others.
use Rattle.std.proofs.Common.{◌≡◌, ℕ, zero, suc, ◌≤◌, List, [], ◌∷◌, Bool, true, false, ◌&&◌, Option, Some, None, eqb, nat_eq, length, drop, arith, refl, sym, ap, ◌∙◌}
use Rattle.std.specs.Bool.{Decides}
use Rattle.std.specs.Option.{option_eq}
use Rattle.std.proofs.lemmas.Slice.Eq.{slice_eq-Decides, bytes_eq-Decides}
use Rattle.std.proofs.lemmas.Bool.Decides.{Decides-eqb, Decides-and, Decides-like}
use Rattle.told_folder.specs.declared.message.Folder.{Folder}
use Rattle.told_folder.specs.declared.message.NumberedFolder.{NumberedFolder}
use Rattle.mail_state.specs.reading.Boxes.{is_stripped, are_stripped, stripped, stripped_folders}

some_is : (x y : ℕ) → Some x ≡ Some y → x ≡ y
some_is x y e = cc

option_decides : (o p : Option ℕ) → Decides (option_eq eqb o p) (o ≡ p)
option_decides None None = (λ h. refl, λ e. refl)
option_decides None (Some y) = (λ h. absurd (cc), λ e. absurd (cc))
option_decides (Some x) None = (λ h. absurd (cc), λ e. absurd (cc))
option_decides (Some x) (Some y) = Decides-like _ (λ e. ap (λ z. Some z) e) (λ e. some_is x y e) (Decides-eqb x y)

folder_same : (n m v w q r s t : ℕ) (a b : List ℕ) (d e : Option ℕ) (f g : List (List ℕ)) → n ≡ m → a ≡ b → d ≡ e → f ≡ g → v ≡ w → q ≡ r → s ≡ t
    → ◌≡◌ {A = Folder} (record { number = n; name = a; delimiter = d; attributes = f; validity = v; modseq = q; next = s })
    (record { number = m; name = b; delimiter = e; attributes = g; validity = w; modseq = r; next = t })
folder_same n m v w q r s t a b d e f g h i j k l o p = cc

-- the test is true exactly of the folder without what no Mailbox shows of it
pub stripped_decides : (k f : Folder) → Decides (is_stripped k f) (k ≡ stripped f)
stripped_decides k f =
    Decides-like _ (λ h. folder_same _ _ _ _ _ _ _ _ _ _ _ _ _ _ h.0 h.1.0 h.1.1.0 h.1.1.1.0 h.1.1.1.1.0 h.1.1.1.1.1.0 h.1.1.1.1.1.1)
    (λ e. (
      ap (λ (x : Folder). x.number) e,
      (
        ap (λ (x : Folder). x.name) e,
        (
          ap (λ (x : Folder). x.delimiter) e,
          (
            ap (λ (x : Folder). x.attributes) e,
            (ap (λ (x : Folder). x.validity) e, (ap (λ (x : Folder). x.modseq) e, ap (λ (x : Folder). x.next) e)),
          ),
        ),
      ),
    ))
    (Decides-and _ _ (Decides-eqb k.number f.number) (Decides-and _ _ (bytes_eq-Decides k.name f.name)
    (Decides-and _ _ (option_decides k.delimiter f.delimiter)
    (Decides-and _ _ (slice_eq-Decides bytes_eq-Decides k.attributes f.attributes _ refl)
    (Decides-and _ _ (Decides-eqb k.validity 0) (Decides-and _ _ (Decides-eqb k.modseq 0) (Decides-eqb k.next 0)))))))

-- ---- one after another

both : (a b : Bool) → (a && b) ≡ true → (a ≡ true) × (b ≡ true)
both true b e = (refl, e)
both false b e = absurd (let f : false ≡ true = e in cc)

-- folders that pass the test are those without what no Mailbox shows of them
pub stripped_all : (ks : List Folder) (hs : List NumberedFolder) → are_stripped ks hs ≡ true → ks ≡ stripped_folders hs
stripped_all [] [] e = refl
stripped_all [] (h ∷ hs) e = absurd (let f : false ≡ true = e in cc)
stripped_all (k ∷ ks) [] e = absurd (let f : false ≡ true = e in cc)
stripped_all (k ∷ ks) (h ∷ hs) e =
    let parts = both (is_stripped k h.folder) (are_stripped ks hs) e in
    ap (λ (f : Folder). f ∷ ks) ((stripped_decides k h.folder).0 parts.0) ∙ ap (λ (fs : List Folder). stripped h.folder ∷ fs) (stripped_all ks hs parts.1)

-- the same of folders that are lent
pub kept_all : (ks lent : List Folder) (hs mail : List NumberedFolder) (b : Bool) → lent ≡ ks → mail ≡ hs → b ≡ are_stripped lent mail → b ≡ true → ks ≡ stripped_folders hs
kept_all ks lent hs mail b same there tested is =
    stripped_all ks hs
    (ap (λ (fs : List Folder). are_stripped fs hs) (sym same) ∙ ap (are_stripped lent) (sym there) ∙ sym tested ∙ is)

one_more : (n : ℕ) → nat_eq (suc n) 0 ≡ false
one_more n = grind arith

-- where no folder is left, nothing is left of what is kept
pub none_left : (ks : List Folder) (hs : List NumberedFolder) (i : ℕ) → length hs ≤ i → nat_eq (length ks) 0 ≡ are_stripped ks (drop i hs)
none_left [] [] zero within = refl
none_left [] [] (suc i) within = refl
none_left (k ∷ ks) [] zero within = one_more (length ks)
none_left (k ∷ ks) [] (suc i) within = one_more (length ks)
none_left ks (h ∷ hs) zero within = absurd (let l : suc (length hs) ≤ 0 = within in omega (arith, l))
none_left ks (h ∷ hs) (suc i) within = none_left ks hs i (let l : suc (length hs) ≤ suc i = within in omega (arith, l))
