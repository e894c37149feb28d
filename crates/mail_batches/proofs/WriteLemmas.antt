-- Octets are added one part after the other.
use Rattle.std.proofs.Common.{◌≡◌, ℕ, List, [], ◌∷◌, ◌++◌, Result, Ok, Err, ap, ◌∙◌, append_assoc}
use Rattle.std.specs.Prelude.{OnOk}
use Rattle.told_folder.specs.declared.message.Folder.{Folder}
use Rattle.told_folder.specs.declared.message.Message.{Message}
use Rattle.mail_batches.specs.Items.{half, long, signed, text, texts, optional, folder_text, set_text, put_text}

two_added : (o m n a b : List ℕ) → m ≡ o ++ a → n ≡ m ++ b → n ≡ o ++ (a ++ b)
two_added o m n a b p q = q ∙ ap (λ (l : List ℕ). l ++ b) p ∙ append_assoc o a b

pub folder_added : (f : Folder) (a b c d e g h i : List ℕ) → b ≡ a ++ long f.number → c ≡ b ++ text f.name → d ≡ c ++ optional f.delimiter → e ≡ d ++ texts f.attributes
    → g ≡ e ++ half f.validity → h ≡ g ++ long f.modseq → i ≡ h ++ long f.next → i ≡ a ++ folder_text f
folder_added f a b c d e g h i number name delimiter attributes validity modseq next =
    let six : List ℕ = long f.modseq ++ long f.next in
    let five : List ℕ = half f.validity ++ six in
    let four : List ℕ = texts f.attributes ++ five in
    let three : List ℕ = optional f.delimiter ++ four in
    two_added a b i (long f.number) (text f.name ++ three) number
    (two_added b c i (text f.name) three name
    (two_added c d i (optional f.delimiter) four delimiter
    (two_added d e i (texts f.attributes) five attributes
    (two_added e g i (half f.validity) six validity
    (two_added g h i (long f.modseq) (long f.next) modseq next)))))

pub message_added : (folder : ℕ) (x : Message) (a b c d e : List ℕ) → b ≡ a ++ set_text x.mark folder x.uid x.flags → c ≡ b ++ signed x.date → d ≡ c ++ long x.size
    → e ≡ d ++ text x.header → e ≡ a ++ put_text folder x
message_added folder x a b c d e place date size header =
    two_added a b e (set_text x.mark folder x.uid x.flags) (signed x.date ++ (long x.size ++ text x.header)) place
    (two_added b c e (signed x.date) (long x.size ++ text x.header) date
    (two_added c d e (long x.size) (text x.header) size header))

-- an octet, and then the rest
pub tagged_added : {T E : Type 0} (r : Result T E) (o m n : List ℕ) (tag : ℕ) (t : List ℕ) → m ≡ o ++ tag ∷ [] → OnOk r (n ≡ m ++ t) → OnOk r (n ≡ o ++ (tag ∷ t))
tagged_added (Ok u) o m n tag t p h = h ∙ ap (λ (l : List ℕ). l ++ t) p ∙ append_assoc o (tag ∷ []) t
tagged_added (Err e) o m n tag t p h = h
