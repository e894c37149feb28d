-- One turn of a loop over what is left of a list.
use Rattle.std.proofs.Common.{◌≡◌, ℕ, ◌+◌, ◌-◌, ◌<◌, ◌≤◌, List, [], ◌∷◌, ◌++◌, Bool, true, false, cond, nat_eq, map, filter, drop, length, get_or, refl, sym, ap, ◌∙◌, arith}
use Rattle.std.proofs.Common.{nat_cmp, append_assoc, add-one, suc, Option, None, BTreeMap}
use Rattle.std.proofs.Math.Seq.{drop-cons}
use Rattle.std.specs.Map.{remove_entry}
use Rattle.std.specs.BTreeMap.{is_at}
use Rattle.std.proofs.lemmas.Grind.{common_steps}
use Rattle.thread_rule.specs.Threads.{Members}
use Rattle.change_list.specs.declared.entries.Entry.{Entry}
use Rattle.told_folder.specs.declared.message.Message.{Message}
use Rattle.told_folder.specs.declared.message.NumberedFolder.{NumberedFolder}
use Rattle.mail_maps.specs.Visible.{Placed, placed_in}
use Rattle.mail_rows.specs.declared.remaining.RemovedEmail.{RemovedEmail}
use Rattle.mail_rows.specs.reading.RowPass.{is_new_message, is_unmarked, unmarked, touch_of_addition}
use Rattle.mail_rows.specs.reading.Indexes.{number_left, members_left, numbers_from}

-- what is left at a place is the element there and what is left after it
pub next_left : {X : Type 0} (xs : List X) (i : ℕ) (x : X) → i < length xs → x ≡ get_or xs i x → drop i xs ≡ x ∷ drop (i + 1) xs
next_left {X} xs i x within is = rw add-one (drop-cons xs i x within ∙ ap (λ (y : X). y ∷ drop (suc i) xs) (sym is))

-- ---- messages of a folder

abbrev pub in_folder : ℕ → List Message → List Placed
in_folder n xs = map {B = Placed} (λ x. record { folder = n; message = x }) xs

module _ (marks : BTreeMap ℕ ℕ) (n : ℕ) (xs : List Message) (i : ℕ) (x : Message) (b : List Placed) where
  abbrev rest : List Placed
  rest = filter (is_unmarked marks) (in_folder n (drop (i + 1) xs))

  next_is : (a : List Placed) → i < length xs → x ≡ get_or xs i x → a ++ filter (is_unmarked marks) (in_folder n (drop i xs)) ≡ b
      → a ++ cond (is_new_message marks x) ((record { folder = n; message = x }) ∷ rest) rest ≡ b
  next_is a within is all = sym (ap (λ (ys : List Message). a ++ filter (is_unmarked marks) (in_folder n ys)) (next_left xs i x within is)) ∙ all

  -- one message more that has no row
  pub message_taken : (a c : List Placed) → i < length xs → x ≡ get_or xs i x → is_new_message marks x ≡ true → c ≡ a ++ (record { folder = n; message = x }) ∷ []
      → a ++ filter (is_unmarked marks) (in_folder n (drop i xs)) ≡ b → c ++ rest ≡ b
  message_taken a c within is new made all =
      ap (λ (ps : List Placed). ps ++ rest) made ∙ append_assoc a ((record { folder = n; message = x }) ∷ []) rest
      ∙ sym (ap (λ (t : Bool). a ++ cond t ((record { folder = n; message = x }) ∷ rest) rest) new) ∙ next_is a within is all

  -- one message that has a row or is hidden
  pub message_passed : (a : List Placed) → i < length xs → x ≡ get_or xs i x → is_new_message marks x ≡ false
      → a ++ filter (is_unmarked marks) (in_folder n (drop i xs)) ≡ b → a ++ rest ≡ b
  message_passed a within is old all = sym (ap (λ (t : Bool). a ++ cond t ((record { folder = n; message = x }) ∷ rest) rest) old) ∙ next_is a within is all

-- ---- folders

-- one folder more
pub folder_taken : (marks : BTreeMap ℕ ℕ) (hs : List NumberedFolder) (i : ℕ) (h : NumberedFolder) (a c b : List Placed) → i < length hs → h ≡ get_or hs i h
    → c ≡ a ++ filter (is_unmarked marks) (placed_in h) → a ++ unmarked marks (drop i hs) ≡ b → c ++ unmarked marks (drop (i + 1) hs) ≡ b
folder_taken marks hs i h a c b within is made all =
    ap (λ (ps : List Placed). ps ++ unmarked marks (drop (i + 1) hs)) made
    ∙ append_assoc a (filter (is_unmarked marks) (placed_in h)) (unmarked marks (drop (i + 1) hs))
    ∙ sym (ap (λ (ks : List NumberedFolder). a ++ unmarked marks ks) (next_left hs i h within is)) ∙ all

-- ---- indexes

mark_test : (a b : ℕ) → is_at (nat_cmp a) b ≡ nat_eq a b
mark_test a b = grind (arith, common_steps)

-- one mark less
pub mark_forgotten : (gone : List RemovedEmail) (i : ℕ) (g : RemovedEmail) (q : ℕ) (old new r : Option ℕ) → i < length gone → g ≡ get_or gone i g
    → new ≡ cond (is_at (nat_cmp g.mark) q) None old → number_left (drop i gone) q old ≡ r → number_left (drop (i + 1) gone) q new ≡ r
mark_forgotten gone i g q old new r within is made all =
    ap (number_left (drop (i + 1) gone) q) (made ∙ ap (λ (t : Bool). cond t None old) (mark_test g.mark q))
    ∙ sym (ap (λ (gs : List RemovedEmail). number_left gs q old) (next_left gone i g within is)) ∙ all

-- one member less
pub member_forgotten : (gone : List RemovedEmail) (i : ℕ) (g : RemovedEmail) (old new r : Members) → i < length gone → g ≡ get_or gone i g
    → new ≡ remove_entry (is_at (nat_cmp g.number)) old → members_left (drop i gone) old ≡ r → members_left (drop (i + 1) gone) new ≡ r
member_forgotten gone i g old new r within is made all =
    ap (members_left (drop (i + 1) gone)) made ∙ sym (ap (λ (gs : List RemovedEmail). members_left gs old) (next_left gone i g within is)) ∙ all

-- ---- numbers

next_number : (number next : ℕ) → number < next → numbers_from number (next - number) ≡ number ∷ numbers_from (number + 1) (next - (number + 1))
next_number number next l = let e : next - number ≡ suc (next - (number + 1)) = omega arith in ap (numbers_from number) e

-- one addition more
pub number_added : (number next : ℕ) (a c b : List Entry) → number < next → c ≡ a ++ touch_of_addition number ∷ []
    → a ++ map touch_of_addition (numbers_from number (next - number)) ≡ b → c ++ map touch_of_addition (numbers_from (number + 1) (next - (number + 1))) ≡ b
number_added number next a c b l made all =
    let rest : List Entry = map touch_of_addition (numbers_from (number + 1) (next - (number + 1))) in
    ap (λ (es : List Entry). es ++ rest) made ∙ append_assoc a (touch_of_addition number ∷ []) rest
    ∙ sym (ap (λ (ns : List ℕ). a ++ map touch_of_addition ns) (next_number number next l)) ∙ all

append_none : {A : Type 0} (xs : List A) → xs ++ [] ≡ xs
append_none [] = refl
append_none {A} (x ∷ xs) = ap (λ (r : List A). x ∷ r) (append_none xs)

-- no number is left
pub numbers_end : (number next : ℕ) (a b : List Entry) → next ≤ number → a ++ map touch_of_addition (numbers_from number (next - number)) ≡ b → a ≡ b
numbers_end number next a b l all =
    let e : next - number ≡ 0 = omega arith in
    sym (append_none a) ∙ sym (ap (λ (k : ℕ). a ++ map touch_of_addition (numbers_from number k)) e) ∙ all
