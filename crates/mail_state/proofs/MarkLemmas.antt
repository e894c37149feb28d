-- Visible messages have marks of their own, so the rows have, and each is as its message is.
use Rattle.std.proofs.Common.{
  ◌≡◌,
  ◌≢◌,
  ◌⊎◌,
  inl,
  inr,
  ℕ,
  ◌+◌,
  ◌<◌,
  ◌≤◌,
  List,
  [],
  ◌∷◌,
  ◌++◌,
  Bool,
  true,
  false,
  not,
  ◌||◌,
  cond,
  nat_eq,
  map,
  filter,
  refl,
  sym,
  ap,
  ◌∙◌,
  subst,
  arith,
  Option,
  Some,
  None,
  All,
  eqb-true,
  eq-eqb,
}
use Rattle.std.specs.Option.{option_map}
use Rattle.std.proofs.lemmas.List.Elements.{All-nil, All-cons, All-head, All-tail}
use Rattle.told_folder.specs.Keyed.{Ascends, AllAbove}
use Rattle.told_folder.specs.Folders.{uid_of, folder_number, mark_in, message_in}
use Rattle.told_folder.specs.Index.{AllAscend}
use Rattle.told_folder.specs.declared.message.Message.{Message}
use Rattle.told_folder.specs.declared.message.NumberedFolder.{NumberedFolder}
use Rattle.told_mail.specs.Mail.{Mail, IsMail}
use Rattle.mail_maps.specs.declared.row.EmailRow.{EmailRow}
use Rattle.mail_maps.specs.declared.envelope.Envelope.{Envelope}
use Rattle.mail_maps.specs.Envelope.{IsEnvelopeOf}
use Rattle.mail_maps.specs.Rows.{Rows}
use Rattle.mail_maps.specs.Visible.{Placed, is_served, is_visible_place, placed_in, visible, shown}
use Rattle.mail_rows.specs.NumberedRows.{NumberedRows, has_row_mark, knows, MarksApart}
use Rattle.mail_rows.specs.Remaining.{updated, put_remaining, remaining}
use Rattle.mail_rows.specs.Taking.{TakesMail, is_newcomer, taken, left, arrivals, with_row, with_rows, new_row, AreEnvelopes}
use Rattle.mail_rows.specs.reading.RowPass.{if_served, served_if, served_at}
use Rattle.mail_rows.proofs.VisibleLemmas.{IsSeen, AllSeen, all_seen, marked_at, shown_at}
use Rattle.mail_state.specs.Sound.{IsRowOf}

-- ---- visible messages come in order

-- by folder number, and then UID
abbrev pub IsBefore : Placed → Placed → Type 0
IsBefore p q = (p.folder < q.folder) ⊎ ((p.folder ≡ q.folder) × (p.message.uid < q.message.uid))

abbrev pub AllBehind : Placed → List Placed → Type 0
AllBehind p [] = Unit {0}
AllBehind p (q ∷ qs) = IsBefore p q × AllBehind p qs

abbrev pub IsOrdered : List Placed → Type 0
IsOrdered [] = Unit {0}
IsOrdered (p ∷ ps) = AllBehind p ps × IsOrdered ps

abbrev FoldersAbove : ℕ → List Placed → Type 0
FoldersAbove k [] = Unit {0}
FoldersAbove k (p ∷ ps) = (k < p.folder) × FoldersAbove k ps

abbrev AllInFolder : ℕ → List Placed → Type 0
AllInFolder k [] = Unit {0}
AllInFolder k (p ∷ ps) = (p.folder ≡ k) × AllInFolder k ps

abbrev placed : ℕ → List Message → List Placed
placed n xs = map {B = Placed} (λ x. record { folder = n; message = x }) xs

behind_filtered : (f : Placed → Bool) (p : Placed) (ps : List Placed) → AllBehind p ps → AllBehind p (filter f ps)
behind_filtered f p [] a = tt
behind_filtered f p (q ∷ ps) a = elim (f q) as (λ (b : Bool). AllBehind p (cond b (q ∷ filter f ps) (filter f ps)))
    [ true ↦ (a.0, behind_filtered f p ps a.1) | false ↦ behind_filtered f p ps a.1 ]

filtered : (f : Placed → Bool) (ps : List Placed) → IsOrdered ps → IsOrdered (filter f ps)
filtered f [] o = tt
filtered f (p ∷ ps) o = elim (f p) as (λ (b : Bool). IsOrdered (cond b (p ∷ filter f ps) (filter f ps)))
    [ true ↦ (behind_filtered f p ps o.0, filtered f ps o.1) | false ↦ filtered f ps o.1 ]

in_folder_filtered : (f : Placed → Bool) (k : ℕ) (ps : List Placed) → AllInFolder k ps → AllInFolder k (filter f ps)
in_folder_filtered f k [] a = tt
in_folder_filtered f k (p ∷ ps) a = elim (f p) as (λ (b : Bool). AllInFolder k (cond b (p ∷ filter f ps) (filter f ps)))
    [ true ↦ (a.0, in_folder_filtered f k ps a.1) | false ↦ in_folder_filtered f k ps a.1 ]

above_filtered : (f : Placed → Bool) (k : ℕ) (ps : List Placed) → FoldersAbove k ps → FoldersAbove k (filter f ps)
above_filtered f k [] a = tt
above_filtered f k (p ∷ ps) a = elim (f p) as (λ (b : Bool). FoldersAbove k (cond b (p ∷ filter f ps) (filter f ps)))
    [ true ↦ (a.0, above_filtered f k ps a.1) | false ↦ above_filtered f k ps a.1 ]

uids_behind : (n : ℕ) (x : Message) (xs : List Message) → AllAbove uid_of x.uid xs → AllBehind (record { folder = n; message = x }) (placed n xs)
uids_behind n x [] a = tt
uids_behind n x (y ∷ xs) a = (inr (refl, a.0), uids_behind n x xs a.1)

folder_in_order : (n : ℕ) (xs : List Message) → Ascends uid_of xs → IsOrdered (placed n xs)
folder_in_order n [] a = tt
folder_in_order n (x ∷ xs) a = (uids_behind n x xs a.0, folder_in_order n xs a.1)

all_in_folder : (n : ℕ) (xs : List Message) → AllInFolder n (placed n xs)
all_in_folder n [] = tt
all_in_folder n (x ∷ xs) = (refl, all_in_folder n xs)

above_placed : (k n : ℕ) (xs : List Message) → k < n → FoldersAbove k (placed n xs)
above_placed k n [] l = tt
above_placed k n (x ∷ xs) l = (l, above_placed k n xs l)

above_joined : (k : ℕ) (ps qs : List Placed) → FoldersAbove k ps → FoldersAbove k qs → FoldersAbove k (ps ++ qs)
above_joined k [] qs f g = g
above_joined k (p ∷ ps) qs f g = (f.0, above_joined k ps qs f.1 g)

visible_above : (k : ℕ) (hs : List NumberedFolder) → AllAbove folder_number k hs → FoldersAbove k (visible hs)
visible_above k [] a = tt
visible_above k (h ∷ hs) a =
    above_joined k (filter is_visible_place (placed_in h)) (visible hs) (above_filtered is_visible_place k (placed_in h) (above_placed k h.folder.number h.messages a.0))
    (visible_above k hs a.1)

behind_above : (p : Placed) (k : ℕ) (qs : List Placed) → p.folder ≡ k → FoldersAbove k qs → AllBehind p qs
behind_above p k [] e a = tt
behind_above p k (q ∷ qs) e a = (inl (let l : k < q.folder = a.0 in omega (arith, e, l)), behind_above p k qs e a.1)

behind_joined : (p : Placed) (ps qs : List Placed) → AllBehind p ps → AllBehind p qs → AllBehind p (ps ++ qs)
behind_joined p [] qs f g = g
behind_joined p (x ∷ ps) qs f g = (f.0, behind_joined p ps qs f.1 g)

order_joined : (k : ℕ) (ps qs : List Placed) → AllInFolder k ps → FoldersAbove k qs → IsOrdered ps → IsOrdered qs → IsOrdered (ps ++ qs)
order_joined k [] qs i a o r = r
order_joined k (p ∷ ps) qs i a o r = (behind_joined p ps qs o.0 (behind_above p k qs i.0 a), order_joined k ps qs i.1 a o.1 r)

visible_in_order : (hs : List NumberedFolder) → Ascends folder_number hs → AllAscend hs → IsOrdered (visible hs)
visible_in_order [] numbers uids = tt
visible_in_order (h ∷ hs) numbers uids =
    order_joined h.folder.number (filter is_visible_place (placed_in h)) (visible hs)
    (in_folder_filtered is_visible_place h.folder.number (placed_in h) (all_in_folder h.folder.number h.messages))
    (visible_above h.folder.number hs numbers.0)
    (filtered is_visible_place (placed_in h) (folder_in_order h.folder.number h.messages uids.0))
    (visible_in_order hs numbers.1 uids.1)

-- ---- so they have marks of their own

abbrev pub has_its_mark : List Placed → ℕ → Bool
has_its_mark [] q = false
has_its_mark (p ∷ ps) q = nat_eq p.message.mark q || has_its_mark ps q

-- no two of these have one mark
abbrev AreApart : List Placed → Type 0
AreApart [] = Unit {0}
AreApart (p ∷ ps) = (has_its_mark ps p.message.mark ≡ false) × AreApart ps

never_both : (a b : ℕ) → a < b → a ≡ b → ⊥
never_both a b l e = omega (arith, l, e)

not_before_itself : (m : Mail) (p q : Placed) → IsMail m → IsSeen m.folders p → IsSeen m.folders q → IsBefore p q → q.message.mark ≡ p.message.mark → ⊥
not_before_itself m p q is f g before same =
    let at : (p.folder, p.message.uid) ≡ (q.folder, q.message.uid) =
    is.marks (p.folder, p.message.uid) (q.folder, q.message.uid) p.message.mark (marked_at m.folders p.folder p.message.uid p.message f.at)
    (marked_at m.folders q.folder q.message.uid q.message g.at ∙ ap (λ (n : ℕ). Some n) same) in
    let folder : p.folder ≡ q.folder = ap (λ (r : ℕ × ℕ). r.0) at in
    let uid : p.message.uid ≡ q.message.uid = ap (λ (r : ℕ × ℕ). r.1) at in
    elim before [ inl l ↦ never_both p.folder q.folder l folder | inr r ↦ never_both p.message.uid q.message.uid r.1 uid ]

apart_behind : (m : Mail) (p : Placed) (ps : List Placed) → IsMail m → IsSeen m.folders p → AllSeen m.folders ps → AllBehind p ps → has_its_mark ps p.message.mark ≡ false
apart_behind m p [] is f seen before = refl
apart_behind m p (q ∷ ps) is f seen before =
    elim (nat_eq q.message.mark p.message.mark) as (λ (b : Bool). nat_eq q.message.mark p.message.mark ≡ b → (b || has_its_mark ps p.message.mark) ≡ false) [
      | true ↦ λ same. absurd (not_before_itself m p q is f seen.0 before.0 (eqb-true q.message.mark p.message.mark same))
      | false ↦ λ other. apart_behind m p ps is f seen.1 before.1
    ] refl

apart : (m : Mail) (ps : List Placed) → IsMail m → AllSeen m.folders ps → IsOrdered ps → AreApart ps
apart m [] is seen order = tt
apart m (p ∷ ps) is seen order = (apart_behind m p ps is seen.0 seen.1 order.0, apart m ps is seen.1 order.1)

seen_filtered : (hs : List NumberedFolder) (f : Placed → Bool) (ps : List Placed) → AllSeen hs ps → AllSeen hs (filter f ps)
seen_filtered hs f [] s = tt
seen_filtered hs f (p ∷ ps) s = elim (f p) as (λ (b : Bool). AllSeen hs (cond b (p ∷ filter f ps) (filter f ps)))
    [ true ↦ (s.0, seen_filtered hs f ps s.1) | false ↦ seen_filtered hs f ps s.1 ]

-- each message that comes stands at its place
pub arrivals_seen : (m : Mail) (n : NumberedRows) → IsMail m → AllSeen m.folders (arrivals n m.folders)
arrivals_seen m n is = seen_filtered m.folders (is_newcomer (remaining m.folders n.rows)) (visible m.folders) (all_seen m.folders is.numbers is.uids)

-- new Emails come by folder number, and then UID
pub arrivals_ordered : (m : Mail) (n : NumberedRows) → IsMail m → IsOrdered (arrivals n m.folders)
arrivals_ordered m n is = filtered (is_newcomer (remaining m.folders n.rows)) (visible m.folders) (visible_in_order m.folders is.numbers is.uids)

arrivals_apart : (m : Mail) (n : NumberedRows) → IsMail m → AreApart (arrivals n m.folders)
arrivals_apart m n is = apart m (arrivals n m.folders) is (arrivals_seen m n is) (arrivals_ordered m n is)

-- ---- rows as their messages are

-- the mark of a visible message shows it
seen_is_shown : (m : Mail) (p : Placed) → IsMail m → IsSeen m.folders p → shown m.folders p.message.mark ≡ Some p
seen_is_shown m p is seen =
    sym (shown_at m p.message.mark (p.folder, p.message.uid) is (marked_at m.folders p.folder p.message.uid p.message seen.at))
    ∙ ap (served_if p.folder) seen.at
    ∙ ap (λ (b : Bool). cond b (Some (record { folder = p.folder; message = p.message })) None) seen.served

abbrev RowsAre : List NumberedFolder → Rows → Type 0
RowsAre hs [] = Unit {0}
RowsAre hs (e ∷ es) = IsRowOf hs e × RowsAre hs es

to_rows : (hs : List NumberedFolder) (rows : Rows) → All (IsRowOf hs) rows → RowsAre hs rows
to_rows hs [] a = tt
to_rows hs (e ∷ rows) a = (All-head (IsRowOf hs) e rows a, to_rows hs rows (All-tail (IsRowOf hs) e rows a))

from_rows : (hs : List NumberedFolder) (rows : Rows) → RowsAre hs rows → All (IsRowOf hs) rows
from_rows hs [] a = All-nil (IsRowOf hs)
from_rows hs (e ∷ rows) a = All-cons (IsRowOf hs) e rows a.0 (from_rows hs rows a.1)

rows_joined : (hs : List NumberedFolder) (a b : Rows) → RowsAre hs a → RowsAre hs b → RowsAre hs (a ++ b)
rows_joined hs [] b f g = g
rows_joined hs (e ∷ a) b f g = (f.0, rows_joined hs a b f.1 g)

put_are : (old hs : List NumberedFolder) (e : ℕ × EmailRow) (o : Option Placed) (more : Rows) → shown hs e.1.mark ≡ o → IsRowOf old e → RowsAre hs more
    → RowsAre hs (put_remaining e.0 (option_map (updated e.1) o) more)
put_are old hs e None more is row are = are
put_are old hs e (Some p) more is row are = (record { number = row.number; message = p; there = is; placed = refl; read = row.read }, are)

remaining_are : (old hs : List NumberedFolder) (rows : Rows) → RowsAre old rows → RowsAre hs (remaining hs rows)
remaining_are old hs [] are = tt
remaining_are old hs (e ∷ rows) are = put_are old hs e (shown hs e.1.mark) (remaining hs rows) refl are.0 (remaining_are old hs rows are.1)

all_are : (m : Mail) (n : NumberedRows) (ps : List Placed) (es : List Envelope) → IsMail m → RowsAre m.folders n.rows → AllSeen m.folders ps → AreEnvelopes ps es
    → RowsAre m.folders (with_rows n ps es).rows
all_are m n [] es is are seen read = are
all_are m n (p ∷ ps) [] is are seen read = are
all_are m n (p ∷ ps) (e ∷ es) is are seen read =
    all_are m (with_row n p e) ps es is
    (rows_joined m.folders n.rows ((n.next, new_row n p e) ∷ []) are
    ((record { number = refl; message = p; there = seen_is_shown m p is seen.0; placed = refl; read = read.0 }), tt))
    seen.1 read.1

-- after a step each row is as its message is
pub rows_are : (old : List NumberedFolder) (m : Mail) (n after : NumberedRows) → IsMail m → All (IsRowOf old) n.rows → TakesMail n m.folders after → All (IsRowOf m.folders) after.rows
rows_are old m n after is are takes =
    let P : NumberedRows → Type 0 = λ x. RowsAre m.folders x.rows in
    from_rows m.folders after.rows (subst P (sym takes.after_is)
    (all_are m (left n m.folders) (arrivals n m.folders) takes.envelopes is (remaining_are old m.folders n.rows (to_rows old n.rows are)) (arrivals_seen m n is) takes.are_read))

-- ---- rows with marks of their own

swapped : (a b : ℕ) → nat_eq a b ≡ false → nat_eq b a ≡ false
swapped a b e = grind arith

split : (a b : Bool) → (a || b) ≡ false → (a ≡ false) × (b ≡ false)
split true b e = absurd (let k : true ≡ false = e in cc)
split false b e = (refl, e)

neither : (a b : Bool) → a ≡ false → b ≡ false → (a || b) ≡ false
neither a b e f = ap (λ (c : Bool). c || b) e ∙ f

-- none of these messages has a row
abbrev AllUnknown : Rows → List Placed → Type 0
AllUnknown rows [] = Unit {0}
AllUnknown rows (p ∷ ps) = (knows rows p.message.mark ≡ false) × AllUnknown rows ps

put_knows : (e : ℕ × EmailRow) (to : Option Placed) (more rest : Rows) (q : ℕ) → (knows rest q ≡ false → knows more q ≡ false)
    → knows (e ∷ rest) q ≡ false → knows (put_remaining e.0 (option_map (updated e.1) to) more) q ≡ false
put_knows e None more rest q f k = f (split (nat_eq e.1.mark q) (knows rest q) k).1
put_knows e (Some p) more rest q f k = let s = split (nat_eq e.1.mark q) (knows rest q) k in neither (nat_eq e.1.mark q) (knows more q) s.0 (f s.1)

remaining_knows : (hs : List NumberedFolder) (rows : Rows) (q : ℕ) → knows rows q ≡ false → knows (remaining hs rows) q ≡ false
remaining_knows hs [] q k = refl
remaining_knows hs (e ∷ rows) q k = put_knows e (shown hs e.1.mark) (remaining hs rows) rows q (remaining_knows hs rows q) k

put_apart : (e : ℕ × EmailRow) (to : Option Placed) (more : Rows) → knows more e.1.mark ≡ false → MarksApart more
    → MarksApart (put_remaining e.0 (option_map (updated e.1) to) more)
put_apart e None more none a = a
put_apart e (Some p) more none a = (none, a)

remaining_apart : (hs : List NumberedFolder) (rows : Rows) → MarksApart rows → MarksApart (remaining hs rows)
remaining_apart hs [] a = tt
remaining_apart hs (e ∷ rows) a = put_apart e (shown hs e.1.mark) (remaining hs rows) (remaining_knows hs rows e.1.mark a.0) (remaining_apart hs rows a.1)

last_knows : (rows : Rows) (number : ℕ) (row : EmailRow) (q : ℕ) → knows rows q ≡ false → nat_eq row.mark q ≡ false → knows (rows ++ (number, row) ∷ []) q ≡ false
last_knows [] number row q e f = neither (nat_eq row.mark q) false f refl
last_knows (r ∷ rows) number row q e f =
    let s = split (nat_eq r.1.mark q) (knows rows q) e in
    neither (nat_eq r.1.mark q) (knows (rows ++ (number, row) ∷ []) q) s.0 (last_knows rows number row q s.1 f)

last_apart : (rows : Rows) (number : ℕ) (row : EmailRow) → MarksApart rows → knows rows row.mark ≡ false → MarksApart (rows ++ (number, row) ∷ [])
last_apart [] number row a e = (refl, tt)
last_apart (r ∷ rows) number row a e =
    let s = split (nat_eq r.1.mark row.mark) (knows rows row.mark) e in
    (last_knows rows number row r.1.mark a.0 (swapped r.1.mark row.mark s.0), last_apart rows number row a.1 s.1)

still_unknown : (rows : Rows) (number : ℕ) (row : EmailRow) (ps : List Placed) → AllUnknown rows ps → has_its_mark ps row.mark ≡ false → AllUnknown (rows ++ (number, row) ∷ []) ps
still_unknown rows number row [] u e = tt
still_unknown rows number row (p ∷ ps) u e =
    let s = split (nat_eq p.message.mark row.mark) (has_its_mark ps row.mark) e in
    (last_knows rows number row p.message.mark u.0 (swapped p.message.mark row.mark s.0), still_unknown rows number row ps u.1 s.1)

all_apart : (n : NumberedRows) (ps : List Placed) (es : List Envelope) → MarksApart n.rows → AreApart ps → AllUnknown n.rows ps → MarksApart (with_rows n ps es).rows
all_apart n [] es a b u = a
all_apart n (p ∷ ps) [] a b u = a
all_apart n (p ∷ ps) (e ∷ es) a b u =
    all_apart (with_row n p e) ps es (last_apart n.rows n.next (new_row n p e) a u.0) b.1 (still_unknown n.rows n.next (new_row n p e) ps u.1 b.0)

unknown : (rows : Rows) (ps : List Placed) → AllUnknown rows (filter (is_newcomer rows) ps)
unknown rows [] = tt
unknown rows (p ∷ ps) =
    elim (knows rows p.message.mark) as (λ (b : Bool). knows rows p.message.mark ≡ b
    → AllUnknown rows (cond (not b) (p ∷ filter (is_newcomer rows) ps) (filter (is_newcomer rows) ps))) [
      | true ↦ λ is. unknown rows ps
      | false ↦ λ is. (is, unknown rows ps)
    ] refl

-- after a step no two rows have one mark
pub marks_apart : (m : Mail) (n after : NumberedRows) → IsMail m → MarksApart n.rows → TakesMail n m.folders after → MarksApart after.rows
marks_apart m n after is a takes =
    let P : NumberedRows → Type 0 = λ x. MarksApart x.rows in
    subst P (sym takes.after_is)
    (all_apart (left n m.folders) (arrivals n m.folders) takes.envelopes (remaining_apart m.folders n.rows a) (arrivals_apart m n is)
    (unknown (remaining m.folders n.rows) (visible m.folders)))
