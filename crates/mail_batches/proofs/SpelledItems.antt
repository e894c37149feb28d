-- An item that is read was spelled so.
use Rattle.std.proofs.Common.{eqb, eqb-true, ◌≡◌, ℕ, suc, Bool, true, false, List, [], ◌∷◌, ◌++◌, Option, Some, None, refl, sym, ap, subst, if◌then◌else◌}
use Rattle.std.specs.Int.{w32, w64, cast_signed, to_be_bytes}
use Rattle.std.specs.Prelude.{◌==◌}
use Rattle.std.proofs.lemmas.Int.{of_z-to_z}
use borrow.Author.Gap.{read_sfits}
use Rattle.told_folder.specs.declared.message.Folder.{Folder}
use Rattle.told_folder.specs.declared.message.Message.{Message}
use Rattle.mail_batches.specs.declared.item.Item.{Item}
use Rattle.mail_batches.specs.declared.item.Item.TheVariants.{MessageGone, FolderGone, FolderPut, MessagePut, MessageSet}
use Rattle.mail_batches.specs.Items.{half, long, signed, text, texts, optional, folder_text, set_text, put_text, item_text, Fits, FitsFolder, FitsSet, FitsPut}
use Rattle.mail_batches.specs.reading.Reading.{number_at, text_at, texts_at, optional_at, folder_at, SetFields, set_at, put_at, folder_item_at, set_item_at, message_gone_at, folder_gone_at, item_at, item_by}
use Rattle.mail_batches.proofs.Found.{one_some, some_none}
use Rattle.mail_batches.proofs.Spelled.{AreOctets, Stands, both, bound, half_spelled, long_spelled, optional_spelled, text_spelled, texts_spelled}

-- a folder is spelled by fields that stand one after the other
folder_spelled : (s : List ℕ) (f : Folder) (rest : List ℕ) → AreOctets s → folder_at s ≡ Some (f, rest) → FitsFolder f × Stands s (folder_text f) rest
unfolding folder_at
folder_spelled s f rest a e =
    let n = bound (number_at w64 s) _ (f, rest) e in
    let number = long_spelled s n.0.0 n.0.1 a n.1 in
    let t = bound (text_at n.0.1) _ (f, rest) n.2 in
    let name = text_spelled n.0.1 t.0.0 t.0.1 number.1.octets t.1 in
    let d = bound (optional_at t.0.1) _ (f, rest) t.2 in
    let delimiter = optional_spelled t.0.1 d.0.0 d.0.1 name.1.octets d.1 in
    let l = bound (texts_at d.0.1) _ (f, rest) d.2 in
    let attributes = texts_spelled d.0.1 l.0.0 l.0.1 delimiter.1.octets l.1 in
    let v = bound (number_at w32 l.0.1) _ (f, rest) l.2 in
    let validity = half_spelled l.0.1 v.0.0 v.0.1 attributes.1.octets v.1 in
    let m = bound (number_at w64 v.0.1) _ (f, rest) v.2 in
    let modseq = long_spelled v.0.1 m.0.0 m.0.1 validity.1.octets m.1 in
    let x = bound (number_at w64 m.0.1) _ (f, rest) m.2 in
    let next = long_spelled m.0.1 x.0.0 x.0.1 modseq.1.octets x.1 in
    let made : Folder = record { number = n.0.0; name = t.0.0; delimiter = d.0.0; attributes = l.0.0; validity = v.0.0; modseq = m.0.0; next = x.0.0 } in
    let pair : ◌≡◌ {A = Folder × List ℕ} (made, x.0.1) (f, rest) = one_some _ _ x.2 in
    let ends : x.0.1 ≡ rest = ap (λ (p : Folder × List ℕ). p.1) pair in
    let same : made ≡ f = ap (λ (p : Folder × List ℕ). p.0) pair in
    let stands : Stands s (folder_text made) x.0.1 =
    both s (long n.0.0) (text t.0.0 ++ (optional d.0.0 ++ (texts l.0.0 ++ (half v.0.0 ++ (long m.0.0 ++ long x.0.0))))) n.0.1 x.0.1 number.1
    (both n.0.1 (text t.0.0) (optional d.0.0 ++ (texts l.0.0 ++ (half v.0.0 ++ (long m.0.0 ++ long x.0.0)))) t.0.1 x.0.1 name.1
    (both t.0.1 (optional d.0.0) (texts l.0.0 ++ (half v.0.0 ++ (long m.0.0 ++ long x.0.0))) d.0.1 x.0.1 delimiter.1
    (both d.0.1 (texts l.0.0) (half v.0.0 ++ (long m.0.0 ++ long x.0.0)) l.0.1 x.0.1 attributes.1
    (both l.0.1 (half v.0.0) (long m.0.0 ++ long x.0.0) v.0.1 x.0.1 validity.1
    (both v.0.1 (long m.0.0) (long x.0.0) m.0.1 x.0.1 modseq.1 next.1))))) in
    let fits : FitsFolder made = record {
      number = number.0;
      name = name.0;
      delimiter = delimiter.0;
      attributes = attributes.0;
      validity = validity.0;
      modseq = modseq.0;
      next = next.0;
    } in
    subst (λ (g : Folder). FitsFolder g × Stands s (folder_text g) rest) same (fits, subst (Stands s (folder_text made)) ends stands)

-- where a message stands, and its flags
set_spelled : (s : List ℕ) (x : SetFields) (rest : List ℕ) → AreOctets s → set_at s ≡ Some (x, rest)
    → FitsSet x.mark x.folder x.uid x.flags × Stands s (set_text x.mark x.folder x.uid x.flags) rest
unfolding set_at
set_spelled s x rest a e =
    let m = bound (number_at w64 s) _ (x, rest) e in
    let mark = long_spelled s m.0.0 m.0.1 a m.1 in
    let n = bound (number_at w64 m.0.1) _ (x, rest) m.2 in
    let folder = long_spelled m.0.1 n.0.0 n.0.1 mark.1.octets n.1 in
    let u = bound (number_at w32 n.0.1) _ (x, rest) n.2 in
    let uid = half_spelled n.0.1 u.0.0 u.0.1 folder.1.octets u.1 in
    let l = bound (texts_at u.0.1) _ (x, rest) u.2 in
    let flags = texts_spelled u.0.1 l.0.0 l.0.1 uid.1.octets l.1 in
    let made : SetFields = record { mark = m.0.0; folder = n.0.0; uid = u.0.0; flags = l.0.0 } in
    let pair : ◌≡◌ {A = SetFields × List ℕ} (made, l.0.1) (x, rest) = one_some _ _ l.2 in
    let ends : l.0.1 ≡ rest = ap (λ (p : SetFields × List ℕ). p.1) pair in
    let same : made ≡ x = ap (λ (p : SetFields × List ℕ). p.0) pair in
    let stands : Stands s (set_text m.0.0 n.0.0 u.0.0 l.0.0) l.0.1 =
    both s (long m.0.0) (long n.0.0 ++ (half u.0.0 ++ texts l.0.0)) m.0.1 l.0.1 mark.1
    (both m.0.1 (long n.0.0) (half u.0.0 ++ texts l.0.0) n.0.1 l.0.1 folder.1
    (both n.0.1 (half u.0.0) (texts l.0.0) u.0.1 l.0.1 uid.1 flags.1)) in
    let fits : FitsSet made.mark made.folder made.uid made.flags = record { mark_fits = mark.0; folder_fits = folder.0; uid_fits = uid.0; flags_fit = flags.0 } in
    subst (λ (g : SetFields). FitsSet g.mark g.folder g.uid g.flags × Stands s (set_text g.mark g.folder g.uid g.flags) rest) same
    (fits, subst (Stands s (set_text m.0.0 n.0.0 u.0.0 l.0.0)) ends stands)

-- ---- items

abbrev ItemAndRest : Type 0
ItemAndRest = Item × List ℕ

tagged : (tag : ℕ) (s front rest : List ℕ) → Stands s front rest → Stands (tag ∷ s) (tag ∷ front) rest
tagged tag s front rest p = record { whole = ap (λ (l : List ℕ). tag ∷ l) p.whole; octets = p.octets }

-- a message is spelled by its place, and then the other fields
put_spelled : (s : List ℕ) (i : Item) (rest : List ℕ) → AreOctets s → put_at s ≡ Some (i, rest) → Fits i × Stands (3 ∷ s) (item_text i) rest
unfolding put_at
put_spelled s i rest a e =
    let p = bound (set_at s) _ (i, rest) e in
    let place = set_spelled s p.0.0 p.0.1 a p.1 in
    let d = bound (number_at w64 p.0.1) _ (i, rest) p.2 in
    let date = long_spelled p.0.1 d.0.0 d.0.1 place.1.octets d.1 in
    let z = bound (number_at w64 d.0.1) _ (i, rest) d.2 in
    let size = long_spelled d.0.1 z.0.0 z.0.1 date.1.octets z.1 in
    let h = bound (text_at z.0.1) _ (i, rest) z.2 in
    let header = text_spelled z.0.1 h.0.0 h.0.1 size.1.octets h.1 in
    let folder : ℕ = p.0.0.folder in
    let made : Message = record { uid = p.0.0.uid; mark = p.0.0.mark; flags = p.0.0.flags; date = cast_signed w64 d.0.0; size = z.0.0; header = h.0.0 } in
    let pair : ◌≡◌ {A = ItemAndRest} (MessagePut folder made, h.0.1) (i, rest) = one_some _ _ h.2 in
    let ends : h.0.1 ≡ rest = ap (λ (q : ItemAndRest). q.1) pair in
    let same : MessagePut folder made ≡ i = ap (λ (q : ItemAndRest). q.0) pair in
    let again : long d.0.0 ≡ signed made.date = ap (to_be_bytes w64) (sym (of_z-to_z w64 d.0.0 date.0)) in
    let stands : Stands s (put_text folder made) h.0.1 =
    both s (set_text p.0.0.mark folder p.0.0.uid p.0.0.flags) (signed made.date ++ (long z.0.0 ++ text h.0.0)) p.0.1 h.0.1 place.1
    (both p.0.1 (signed made.date) (long z.0.0 ++ text h.0.0) d.0.1 h.0.1 (subst (λ (l : List ℕ). Stands p.0.1 l d.0.1) again date.1)
    (both d.0.1 (long z.0.0) (text h.0.0) z.0.1 h.0.1 size.1 header.1)) in
    let fits : FitsPut folder made = record { place = place.0; date = read_sfits w64 d.0.0; size = size.0; header = header.0 } in
    subst (λ (x : Item). Fits x × Stands (3 ∷ s) (item_text x) rest) same (fits, tagged 3 s (put_text folder made) rest (subst (Stands s (put_text folder made)) ends stands))

folder_item_spelled : (s : List ℕ) (i : Item) (rest : List ℕ) → AreOctets s → folder_item_at s ≡ Some (i, rest) → Fits i × Stands (1 ∷ s) (item_text i) rest
unfolding folder_item_at
folder_item_spelled s i rest a e =
    let b = bound (folder_at s) _ (i, rest) e in
    let folder = folder_spelled s b.0.0 b.0.1 a b.1 in
    let pair : ◌≡◌ {A = ItemAndRest} (FolderPut b.0.0, b.0.1) (i, rest) = one_some _ _ b.2 in
    let ends : b.0.1 ≡ rest = ap (λ (q : ItemAndRest). q.1) pair in
    let same : FolderPut b.0.0 ≡ i = ap (λ (q : ItemAndRest). q.0) pair in
    subst (λ (x : Item). Fits x × Stands (1 ∷ s) (item_text x) rest) same
    (folder.0, tagged 1 s (folder_text b.0.0) rest (subst (Stands s (folder_text b.0.0)) ends folder.1))

set_item_spelled : (s : List ℕ) (i : Item) (rest : List ℕ) → AreOctets s → set_item_at s ≡ Some (i, rest) → Fits i × Stands (4 ∷ s) (item_text i) rest
unfolding set_item_at
set_item_spelled s i rest a e =
    let b = bound (set_at s) _ (i, rest) e in
    let place = set_spelled s b.0.0 b.0.1 a b.1 in
    let made : Item = MessageSet b.0.0.mark b.0.0.folder b.0.0.uid b.0.0.flags in
    let front : List ℕ = set_text b.0.0.mark b.0.0.folder b.0.0.uid b.0.0.flags in
    let pair : ◌≡◌ {A = ItemAndRest} (made, b.0.1) (i, rest) = one_some _ _ b.2 in
    let ends : b.0.1 ≡ rest = ap (λ (q : ItemAndRest). q.1) pair in
    let same : made ≡ i = ap (λ (q : ItemAndRest). q.0) pair in
    subst (λ (x : Item). Fits x × Stands (4 ∷ s) (item_text x) rest) same (place.0, tagged 4 s front rest (subst (Stands s front) ends place.1))

message_gone_spelled : (s : List ℕ) (i : Item) (rest : List ℕ) → AreOctets s → message_gone_at s ≡ Some (i, rest) → Fits i × Stands (5 ∷ s) (item_text i) rest
unfolding message_gone_at
message_gone_spelled s i rest a e =
    let b = bound (number_at w64 s) _ (i, rest) e in
    let number = long_spelled s b.0.0 b.0.1 a b.1 in
    let pair : ◌≡◌ {A = ItemAndRest} (MessageGone b.0.0, b.0.1) (i, rest) = one_some _ _ b.2 in
    let ends : b.0.1 ≡ rest = ap (λ (q : ItemAndRest). q.1) pair in
    let same : MessageGone b.0.0 ≡ i = ap (λ (q : ItemAndRest). q.0) pair in
    subst (λ (x : Item). Fits x × Stands (5 ∷ s) (item_text x) rest) same (number.0, tagged 5 s (long b.0.0) rest (subst (Stands s (long b.0.0)) ends number.1))

folder_gone_spelled : (s : List ℕ) (i : Item) (rest : List ℕ) → AreOctets s → folder_gone_at s ≡ Some (i, rest) → Fits i × Stands (2 ∷ s) (item_text i) rest
unfolding folder_gone_at
folder_gone_spelled s i rest a e =
    let b = bound (number_at w64 s) _ (i, rest) e in
    let number = long_spelled s b.0.0 b.0.1 a b.1 in
    let pair : ◌≡◌ {A = ItemAndRest} (FolderGone b.0.0, b.0.1) (i, rest) = one_some _ _ b.2 in
    let ends : b.0.1 ≡ rest = ap (λ (q : ItemAndRest). q.1) pair in
    let same : FolderGone b.0.0 ≡ i = ap (λ (q : ItemAndRest). q.0) pair in
    subst (λ (x : Item). Fits x × Stands (2 ∷ s) (item_text x) rest) same (number.0, tagged 2 s (long b.0.0) rest (subst (Stands s (long b.0.0)) ends number.1))

-- ---- by the first octet

abbrev IsSpelled : Item → List ℕ → ℕ → List ℕ → Type 0
IsSpelled i rest tag s = Fits i × Stands (tag ∷ s) (item_text i) rest

-- the item begins with this octet, or those that are left begin with another one
step : (tag k : ℕ) (s : List ℕ) (i : Item) (rest : List ℕ) (o r : Option ItemAndRest) → (if tag == k then o else r) ≡ Some (i, rest) → (o ≡ Some (i, rest) → IsSpelled i rest k s)
    → (r ≡ Some (i, rest) → IsSpelled i rest tag s) → IsSpelled i rest tag s
step tag k s i rest o r e here others = by (eqb tag k) refl e
  where
    by : (b : Bool) → eqb tag k ≡ b → (if b then o else r) ≡ Some (i, rest) → IsSpelled i rest tag s
    by true same h = subst (λ (n : ℕ). IsSpelled i rest n s) (sym (eqb-true tag k same)) (here h)
    by false other h = others h

abbrev from_5 : ℕ → List ℕ → Option ItemAndRest
from_5 tag s = if tag == 5 then message_gone_at s else None

abbrev from_4 : ℕ → List ℕ → Option ItemAndRest
from_4 tag s = if tag == 4 then set_item_at s else from_5 tag s

abbrev from_3 : ℕ → List ℕ → Option ItemAndRest
from_3 tag s = if tag == 3 then put_at s else from_4 tag s

abbrev from_2 : ℕ → List ℕ → Option ItemAndRest
from_2 tag s = if tag == 2 then folder_gone_at s else from_3 tag s

item_spelled_by : (tag : ℕ) (s : List ℕ) (i : Item) (rest : List ℕ) → AreOctets s → item_by tag s ≡ Some (i, rest) → IsSpelled i rest tag s
item_spelled_by tag s i rest a e =
    step tag 1 s i rest (folder_item_at s) (from_2 tag s) e (folder_item_spelled s i rest a) (λ b.
    step tag 2 s i rest (folder_gone_at s) (from_3 tag s) b (folder_gone_spelled s i rest a) (λ c.
    step tag 3 s i rest (put_at s) (from_4 tag s) c (put_spelled s i rest a) (λ d.
    step tag 4 s i rest (set_item_at s) (from_5 tag s) d (set_item_spelled s i rest a) (λ f.
    step tag 5 s i rest (message_gone_at s) None f (message_gone_spelled s i rest a) (λ g. absurd (some_none _ (sym g)))))))

pub item_spelled : (s : List ℕ) (i : Item) (rest : List ℕ) → AreOctets s → item_at s ≡ Some (i, rest) → Fits i × Stands s (item_text i) rest
item_spelled [] i rest a e = absurd (some_none _ (sym e))
item_spelled (tag ∷ s) i rest a e = item_spelled_by tag s i rest (record { small = λ k. a.small (suc k) }) e
