-- What `==` says of messages and folders.
use Rattle.std.proofs.Common.{◌≡◌, ℕ, ℤ, List, Option, Some, None, Bool, eqb, refl, ap}
use Rattle.std.specs.Bool.{Decides}
use Rattle.std.specs.Option.{option_eq}
use Rattle.std.specs.Cmp.Lexicographic.{pointwise}
use Rattle.told_folder.proofs.KeyedLemmas.{some_same}
use Rattle.told_folder.proofs.FolderLemmas.{held_same}
use Rattle.std.proofs.lemmas.Slice.Eq.{slice_eq-Decides}
use Rattle.std.proofs.lemmas.Bool.Decides.{Decides-eqb, Decides-int_eq, Decides-and, Decides-like}
use Rattle.told_folder.specs.declared.message.Message.{Message}
use Rattle.told_folder.specs.declared.message.Folder.{Folder}
use Rattle.told_folder.specs.declared.message.NumberedFolder.{NumberedFolder}
use Rattle.told_folder.specs.contracts.message.MessagePartialEq.TheImpl.{eq-value as message}
use Rattle.told_folder.specs.contracts.message.FolderPartialEq.TheImpl.{eq-value as folder}
use Rattle.told_folder.specs.contracts.message.NumberedFolderPartialEq.TheImpl.{eq-value as held}

message_same : (u v m n s t : ℕ) (f g : List (List ℕ)) (d e : ℤ) (h k : List ℕ) → u ≡ v → m ≡ n → f ≡ g → d ≡ e → s ≡ t → h ≡ k
    → ◌≡◌ {A = Message} (record { uid = u; mark = m; flags = f; date = d; size = s; header = h }) (record { uid = v; mark = n; flags = g; date = e; size = t; header = k })
message_same u v m n s t f g d e h k a b c i j l = cc

-- `==` of two messages is true exactly where they are equal
pub message_decides : (a b : Message) → Decides (message.it a b) (a ≡ b)
message_decides a b =
    Decides-like _ (λ h. message_same _ _ _ _ _ _ _ _ _ _ _ _ h.0 h.1.0 h.1.1.0 h.1.1.1.0 h.1.1.1.1.0 h.1.1.1.1.1)
    (λ e. (
      ap (λ (x : Message). x.uid) e,
      (
        ap (λ (x : Message). x.mark) e,
        (ap (λ (x : Message). x.flags) e, (ap (λ (x : Message). x.date) e, (ap (λ (x : Message). x.size) e, ap (λ (x : Message). x.header) e))),
      ),
    ))
    (Decides-and _ _ (Decides-eqb a.uid b.uid) (Decides-and _ _ (Decides-eqb a.mark b.mark)
    (Decides-and _ _ (slice_eq-Decides (λ (x y : List ℕ). slice_eq-Decides Decides-eqb x y _ refl) a.flags b.flags _ refl)
    (Decides-and _ _ (Decides-int_eq a.date b.date) (Decides-and _ _ (Decides-eqb a.size b.size) (slice_eq-Decides Decides-eqb a.header b.header _ refl))))))

option_decides : (o p : Option ℕ) → Decides (option_eq eqb o p) (o ≡ p)
option_decides None None = (λ h. refl, λ e. refl)
option_decides None (Some y) = (λ h. absurd (cc), λ e. absurd (cc))
option_decides (Some x) None = (λ h. absurd (cc), λ e. absurd (cc))
option_decides (Some x) (Some y) = Decides-like _ (λ e. ap (λ z. Some z) e) (λ e. some_same x y e) (Decides-eqb x y)

folder_same : (n m v w q r s t : ℕ) (a b : List ℕ) (d e : Option ℕ) (f g : List (List ℕ)) → n ≡ m → a ≡ b → d ≡ e → f ≡ g → v ≡ w → q ≡ r → s ≡ t
    → ◌≡◌ {A = Folder} (record { number = n; name = a; delimiter = d; attributes = f; validity = v; modseq = q; next = s })
    (record { number = m; name = b; delimiter = e; attributes = g; validity = w; modseq = r; next = t })
folder_same n m v w q r s t a b d e f g h i j k l o p = cc

-- `==` of two folders is true exactly where they are equal
pub folder_decides : (a b : Folder) → Decides (folder.it a b) (a ≡ b)
folder_decides a b =
    Decides-like _ (λ h. folder_same _ _ _ _ _ _ _ _ _ _ _ _ _ _ h.0 h.1.0 h.1.1.0 h.1.1.1.0 h.1.1.1.1.0 h.1.1.1.1.1.0 h.1.1.1.1.1.1)
    (λ e. (
      ap (λ (x : Folder). x.number) e,
      (
        ap (λ (x : Folder). x.name) e,
        (
          ap (λ (x : Folder). x.delimiter) e,
          (
            ap (λ (x : Folder). x.attributes) e,
            (ap (λ (x : Folder). x.validity) e, (ap (λ (x : Folder). x.modseq) e, ap (λ (x : Folder). x.next) e)),
          ),
        ),
      ),
    ))
    (Decides-and _ _ (Decides-eqb a.number b.number) (Decides-and _ _ (slice_eq-Decides Decides-eqb a.name b.name _ refl)
    (Decides-and _ _ (option_decides a.delimiter b.delimiter)
    (Decides-and _ _ (slice_eq-Decides (λ (x y : List ℕ). slice_eq-Decides Decides-eqb x y _ refl) a.attributes b.attributes _ refl)
    (Decides-and _ _ (Decides-eqb a.validity b.validity) (Decides-and _ _ (Decides-eqb a.modseq b.modseq) (Decides-eqb a.next b.next)))))))

-- `==` of two folders with their messages is true exactly where they are equal
pub held_decides : (a b : NumberedFolder) → Decides (held.it a b) (a ≡ b)
held_decides a b =
    Decides-like _ (λ h. held_same _ _ _ _ h.0 h.1) (λ e. (ap (λ (x : NumberedFolder). x.folder) e, ap (λ (x : NumberedFolder). x.messages) e))
    (Decides-and _ _ (folder_decides a.folder b.folder) (slice_eq-Decides message_decides a.messages b.messages _ refl))

-- `==` of two lists of folders, one by one, is true exactly where they are equal
pub mail_decides : (hs ks : List NumberedFolder) (r : Bool) → r ≡ pointwise held.it hs ks → Decides r (hs ≡ ks)
mail_decides hs ks r e = slice_eq-Decides held_decides hs ks r e
