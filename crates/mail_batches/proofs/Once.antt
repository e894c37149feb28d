-- A batch has one reading, and so leads to one mail.
use Rattle.std.proofs.Common.{◌≡◌, ℕ, List, [], ◌∷◌, ◌++◌, Option, Some, None, option_map, refl, sym, ap, subst, ◌∙◌, inl, inr}
use Rattle.std.specs.List.{flat_map, AllByRecursion}
use Rattle.std.specs.Map.{update}
use Rattle.std.specs.Prelude.{nat_eq}
use Rattle.std.proofs.lemmas.List.Concat.{flat_map-cons}
use Rattle.told_folder.specs.Index.{AllAscend}
use Rattle.told_folder.specs.Keyed.{Ascends, with_key}
use Rattle.told_folder.proofs.KeyedLemmas.{same_found}
use Rattle.told_folder.specs.declared.message.Folder.{Folder}
use Rattle.told_folder.specs.declared.message.Message.{Message}
use Rattle.told_folder.specs.declared.message.NumberedFolder.{NumberedFolder}
use Rattle.told_mail.specs.Mail.{Mail, folder_in, folder_number, held_in, message_in, messages_of, uid_of}
use Rattle.mail_batches.specs.declared.item.Item.{Item}
use Rattle.mail_batches.specs.declared.placed.Placed.{Placed}
use Rattle.mail_batches.specs.declared.item.Item.TheVariants.{MessageGone, FolderGone, FolderPut, MessagePut, MessageSet}
use Rattle.mail_batches.specs.Items.{item_text, Fits}
use Rattle.mail_batches.specs.Batches.{IsBatch, batch_text}
use Rattle.mail_batches.specs.Tables.{Tables, StandsAs, AreTablesOf}
use Rattle.mail_batches.specs.Steps.{Makes, Lead, moved}
use Rattle.mail_batches.specs.reading.Reading.{item_at}
use Rattle.mail_batches.proofs.Again.{item_again}
use Rattle.mail_batches.proofs.Found.{found_key, one_some, passed, same_option, same_or_other, some_none, taken}

-- ---- items

-- an item has octets
pub some_octet : (i : Item) (rest : List ℕ) → item_text i ++ rest ≡ [] → ⊥
some_octet (MessageGone mark) rest e = cc
some_octet (FolderGone number) rest e = cc
some_octet (FolderPut f) rest e = cc
some_octet (MessagePut folder x) rest e = cc
some_octet (MessageSet mark folder uid flags) rest e = cc

abbrev pub ItemAndRest : Type 0
ItemAndRest = Item × List ℕ

one_pair : (x y : ItemAndRest) → Some x ≡ Some y → x ≡ y
one_pair x y e = cc

-- two items that begin the same octets are one, and so are the rests
pub one_item : (i j : Item) (r s : List ℕ) → Fits i → Fits j → item_text i ++ r ≡ item_text j ++ s → ◌≡◌ {A = ItemAndRest} (i, r) (j, s)
one_item i j r s f g e = one_pair (i, r) (j, s) (sym (item_again i r f) ∙ ap item_at e ∙ item_again j s g)

pub one_list : (a b : List Item) → AllByRecursion Fits a → AllByRecursion Fits b → flat_map item_text a ≡ flat_map item_text b → a ≡ b
one_list [] [] f g e = refl
one_list [] (j ∷ js) f g e = absurd (some_octet j (flat_map item_text js) (sym (flat_map-cons item_text j js) ∙ sym e))
one_list (i ∷ is) [] f g e = absurd (some_octet i (flat_map item_text is) (sym (flat_map-cons item_text i is) ∙ e))
one_list (i ∷ is) (j ∷ js) f g e =
    let both = one_item i j (flat_map item_text is) (flat_map item_text js) f.0 g.0 (sym (flat_map-cons item_text i is) ∙ e ∙ flat_map-cons item_text j js) in
    let first : i ≡ j = ap (λ (p : ItemAndRest). p.0) both in
    let others : is ≡ js = one_list is js f.1 g.1 (ap (λ (p : ItemAndRest). p.1) both) in
    λ k. first k ∷ others k

pub tails : (v w : ℕ) (x y : List ℕ) → v ∷ (1 ∷ x) ≡ w ∷ (1 ∷ y) → x ≡ y
tails v w x y e = cc

pub one_reading : (v w : ℕ) (a b : List Item) → AllByRecursion Fits a → AllByRecursion Fits b → batch_text v a ≡ batch_text w b → a ≡ b
one_reading v w a b f g e = one_list a b f g (tails v w (flat_map item_text a) (flat_map item_text b) e)

-- ---- what items make

pub one_made : (t : Tables) (i : Item) (a b : Tables) → Makes t i a → Makes t i b → a ≡ b
one_made t (MessageGone mark) a b p q = p.1 ∙ sym q.1
one_made t (FolderGone number) a b p q = p.1 ∙ sym q.1
one_made t (FolderPut f) a b p q = p.2 ∙ sym q.2
one_made t (MessagePut folder x) a b p q = p.2 ∙ sym q.2
one_made t (MessageSet mark folder uid flags) a b p q =
    let same : p.2.was ≡ q.2.was = one_some p.2.was q.2.was (sym p.2.there ∙ q.2.there) in
    p.2.set ∙ ap (λ (w : Placed). record t { messages = update nat_eq t.messages mark (Some (moved w folder uid flags)) }) same ∙ sym q.2.set

pub one_lead : (last : Option Item) (t : Tables) (is : List Item) (a b : Tables) → Lead last t is a → Lead last t is b → a ≡ b
one_lead last t [] a b p q = p ∙ sym q
one_lead last t (i ∷ is) a b p q =
    let mids : p.1.0 ≡ q.1.0 = one_made t i p.1.0 q.1.0 p.1.1 q.1.1 in
    one_lead (Some i) q.1.0 is a b (subst (λ (m : Tables). Lead (Some i) m is a) mids p.1.2) q.1.2

-- ---- mail and its tables

pub one_tables : (m : Mail) (s t : Tables) → AreTablesOf m s → AreTablesOf m t → s ≡ t
one_tables m s t p q =
    let folders : (n : ℕ) → s.folders n ≡ t.folders n = λ n. p.folders n ∙ sym (q.folders n) in
    let messages : (k : ℕ) → s.messages k ≡ t.messages k =
    λ k. same_option (s.messages k) (t.messages k) (λ x e. (q.messages k x).1 ((p.messages k x).0 e)) (λ x e. (p.messages k x).1 ((q.messages k x).0 e)) in
    let marks : s.next_mark ≡ t.next_mark = p.next_mark ∙ sym q.next_mark in
    let numbers : s.next_folder ≡ t.next_folder = p.next_folder ∙ sym q.next_folder in
    λ i. record { folders = λ n. folders n i; messages = λ k. messages k i; next_mark = marks i; next_folder = numbers i }

pub ascends_found : (hs : List NumberedFolder) → AllAscend hs → (n : ℕ) (h : NumberedFolder) → held_in hs n ≡ Some h → Ascends uid_of h.messages
ascends_found [] up n h e = absurd (some_none h (sym e))
ascends_found (k ∷ hs) up n h e = elim (same_or_other (folder_number k) n) [
  | inl same ↦ subst (λ (x : NumberedFolder). Ascends uid_of x.messages) (one_some k h (sym (taken folder_number n k hs same) ∙ e)) up.0
  | inr other ↦ ascends_found hs up.1 n h (sym (passed folder_number n k hs other) ∙ e)
]

abbrev folder_of : NumberedFolder → Folder
folder_of h = h.folder

-- a message that stands in a folder of one mail stands there in the other
stands_too : (a b : Mail) (t : Tables) → AreTablesOf a t → AreTablesOf b t → (n u : ℕ) (x : Message) → message_in a.folders n u ≡ Some x → message_in b.folders n u ≡ Some x
stands_too a b t p q n u x e =
    let uid : x.uid ≡ u = found_key uid_of u (messages_of (held_in a.folders n)) x e in
    let here : Placed = record { folder = n; message = x } in
    let stands : StandsAs a x.mark here = record { there = ap (λ (v : ℕ). message_in a.folders n v) uid ∙ e; marked = refl } in
    let too : StandsAs b x.mark here = (q.messages x.mark here).0 ((p.messages x.mark here).1 stands) in
    ap (λ (v : ℕ). message_in b.folders n v) (sym uid) ∙ too.there

pub one_raised : (a b : Mail) (t : Tables) → AreTablesOf a t → AreTablesOf b t → a ≡ b
one_raised a b t p q =
    let folders : a.folders ≡ b.folders = same_found folder_number a.folders b.folders p.is_mail.numbers q.is_mail.numbers
    (λ n. by n (held_in a.folders n) (held_in b.folders n) refl refl (sym (p.folders n) ∙ q.folders n)) in
    let marks : a.next_mark ≡ b.next_mark = sym p.next_mark ∙ q.next_mark in
    let numbers : a.next_folder ≡ b.next_folder = sym p.next_folder ∙ q.next_folder in
    λ i. record { folders = folders i; next_mark = marks i; next_folder = numbers i }
  where
    both : (n : ℕ) (h k : NumberedFolder) → held_in a.folders n ≡ Some h → held_in b.folders n ≡ Some k → h.folder ≡ k.folder → h ≡ k
    both n h k at_a at_b same =
        let messages : h.messages ≡ k.messages = same_found uid_of h.messages k.messages
        (ascends_found a.folders p.is_mail.uids n h at_a) (ascends_found b.folders q.is_mail.uids n k at_b)
        (λ u. same_option (with_key uid_of u h.messages) (with_key uid_of u k.messages)
        (λ x e. ap (λ (o : Option NumberedFolder). with_key uid_of u (messages_of o)) (sym at_b)
        ∙ stands_too a b t p q n u x (ap (λ (o : Option NumberedFolder). with_key uid_of u (messages_of o)) at_a ∙ e))
        (λ x e. ap (λ (o : Option NumberedFolder). with_key uid_of u (messages_of o)) (sym at_a)
        ∙ stands_too b a t q p n u x (ap (λ (o : Option NumberedFolder). with_key uid_of u (messages_of o)) at_b ∙ e))) in
        λ i. record { folder = same i; messages = messages i }

    by : (n : ℕ) (o r : Option NumberedFolder) → held_in a.folders n ≡ o → held_in b.folders n ≡ r → folder_in a.folders n ≡ folder_in b.folders n
        → held_in a.folders n ≡ held_in b.folders n
    by n None None at_a at_b e = at_a ∙ sym at_b
    by n None (Some k) at_a at_b e = absurd (some_none k.folder (sym (ap (option_map folder_of) at_b) ∙ sym e ∙ ap (option_map folder_of) at_a))
    by n (Some h) None at_a at_b e = absurd (some_none h.folder (sym (ap (option_map folder_of) at_a) ∙ e ∙ ap (option_map folder_of) at_b))
    by n (Some h) (Some k) at_a at_b e =
        let same : h.folder ≡ k.folder = one_some h.folder k.folder (sym (ap (option_map folder_of) at_a) ∙ e ∙ ap (option_map folder_of) at_b) in
        at_a ∙ ap (λ (x : NumberedFolder). Some x) (both n h k at_a at_b same) ∙ sym at_b

-- ---- batches

pub one_batch : (m a b : Mail) (batch : List ℕ) → IsBatch m batch a → IsBatch m batch b → a ≡ b
one_batch m a b batch p q =
    let items : p.items ≡ q.items = one_reading p.version q.version p.items q.items p.fit q.fit (sym p.spelled ∙ q.spelled) in
    let befores : p.before ≡ q.before = one_tables m p.before q.before p.laid q.laid in
    let lead : Lead None q.before q.items p.now = subst (λ (t : Tables). Lead None t q.items p.now) befores (subst (λ (is : List Item). Lead None p.before is p.now) items p.lead) in
    let nows : p.now ≡ q.now = one_lead None q.before q.items p.now q.now lead q.lead in
    one_raised a b q.now (subst (AreTablesOf a) nows p.raised) q.raised
