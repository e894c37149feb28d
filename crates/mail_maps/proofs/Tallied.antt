-- Counting one Email after another gives the counts.
use Rattle.std.proofs.Common.{◌≡◌, ℕ, ◌+◌, List, [], ◌∷◌, Bool, true, false, cond, ◌&&◌, map, filter, length, nat_cmp, nat_eq, count_by, Option, Some, None}
use Rattle.std.proofs.Common.{refl, sym, ap, ◌∙◌, arith}
use Rattle.std.specs.BTreeMap.{get, is_at}
use Rattle.std.specs.BTreeSet.{BTreeSet, contains}
use Rattle.std.specs.List.{list_any}
use Rattle.std.specs.Map.{keys_of}
use Rattle.std.specs.Option.{option_map}
use Rattle.std.proofs.lemmas.List.Elements.{filter_agree}
use Rattle.std.proofs.lemmas.List.Sums.{sum_by-cons}
use Rattle.change_list.specs.Advance.{row_at}
use Rattle.mail_maps.specs.declared.row.EmailRow.{EmailRow}
use Rattle.mail_maps.specs.declared.tally.FolderCounts.{FolderCounts}
use Rattle.mail_maps.specs.Rows.{Rows, in_folder, in_thread, unread}
use Rattle.mail_maps.specs.Counts.{in_unread_thread, total_emails, unread_emails, total_threads, unread_threads}
use Rattle.mail_maps.specs.Keywords.{sorted_into}
use Rattle.mail_maps.specs.Mailboxes.{counts_in, counts_at}
use Rattle.mail_maps.specs.Threads.{distinct}
use Rattle.mail_maps.specs.reading.Tallies.{Tallied, none_tallied, tally_one, tally_in, tally_after, tallied_at, counts_told}
use Rattle.mail_maps.proofs.KeptKeys.{count_distinct}

-- ---- one folder

module _ (f : ℕ) where
  total_is : (c : Tallied) (es : Rows) → (tally_after f c es).total ≡ c.total + count_by (in_folder f) es
  total_is c [] = omega arith
  total_is c (e ∷ es) =
      total_is (tally_in f c e) es
      ∙ elim (nat_eq e.1.folder f) as (λ b. (cond b (tally_one c e.1) c).total + count_by (in_folder f) es ≡ c.total + (cond b 1 0 + count_by (in_folder f) es)) [
        | true ↦ omega arith
        | false ↦ omega arith
      ] ∙ ap (λ (n : ℕ). c.total + n) (sym (sum_by-cons (λ (d : ℕ × EmailRow). cond (in_folder f d) 1 0) e es))

  unread_is : (c : Tallied) (es : Rows) → (tally_after f c es).unread ≡ c.unread + count_by (λ e. in_folder f e && unread e) es
  unread_is c [] = omega arith
  unread_is c (e ∷ es) =
      let n = count_by (λ e. in_folder f e && unread e) es in
      unread_is (tally_in f c e) es
      ∙ elim (nat_eq e.1.folder f) as (λ b. (cond b (tally_one c e.1) c).unread + n ≡ c.unread + (cond (b && unread e) 1 0 + n)) [
        | true ↦ elim (unread e) as (λ u. cond u (c.unread + 1) c.unread + n ≡ c.unread + (cond u 1 0 + n)) [ true ↦ omega arith | false ↦ omega arith ]
        | false ↦ omega arith
      ] ∙ ap (λ (n : ℕ). c.unread + n) (sym (sum_by-cons (λ (d : ℕ × EmailRow). cond (in_folder f d && unread d) 1 0) e es))

  threads_are : (c : Tallied) (es : Rows) → (tally_after f c es).threads ≡ sorted_into nat_cmp c.threads (map (λ e. e.1.thread) (filter (in_folder f) es))
  threads_are c [] = refl
  threads_are c (e ∷ es) =
      threads_are (tally_in f c e) es
      ∙ elim (nat_eq e.1.folder f) as (λ b. sorted_into nat_cmp (cond b (tally_one c e.1) c).threads (map (λ e. e.1.thread) (filter (in_folder f) es))
      ≡ sorted_into nat_cmp c.threads (map (λ e. e.1.thread) (cond b (e ∷ filter (in_folder f) es) (filter (in_folder f) es)))) [ true ↦ refl | false ↦ refl ]

-- ---- Threads with an unread Email

passing_threads : (p : ℕ → Bool) (q : ℕ × EmailRow → Bool) (es : Rows)
    → filter p (map (λ (e : ℕ × EmailRow). e.1.thread) (filter q es)) ≡ map (λ (e : ℕ × EmailRow). e.1.thread) (filter (λ e. q e && p e.1.thread) es)
passing_threads p q [] = refl
passing_threads p q (e ∷ es) =
    elim (q e) as (λ (b : Bool). filter p (map (λ (d : ℕ × EmailRow). d.1.thread) (cond b (e ∷ filter q es) (filter q es)))
    ≡ map (λ (d : ℕ × EmailRow). d.1.thread) (cond (b && p e.1.thread) (e ∷ filter (λ d. q d && p d.1.thread) es) (filter (λ d. q d && p d.1.thread) es))) [
      | true ↦ elim (p e.1.thread) as (λ (u : Bool). cond u (e.1.thread ∷ filter p (map (λ (d : ℕ × EmailRow). d.1.thread) (filter q es)))
          (filter p (map (λ (d : ℕ × EmailRow). d.1.thread) (filter q es)))
          ≡ map (λ (d : ℕ × EmailRow). d.1.thread) (cond u (e ∷ filter (λ d. q d && p d.1.thread) es) (filter (λ d. q d && p d.1.thread) es))) [
            | true ↦ ap (λ (ts : List ℕ). e.1.thread ∷ ts) (passing_threads p q es)
            | false ↦ passing_threads p q es
          ]
      | false ↦ passing_threads p q es
    ]

-- of a folder's Threads so many have an unread Email anywhere
unread_threads_are : (ids : BTreeSet ℕ) (all : Rows) (f : ℕ) → ((t : ℕ) → contains nat_cmp ids t ≡ list_any (λ d. in_thread t d && unread d) all)
    → count_by (contains nat_cmp ids) (distinct (map (λ (e : ℕ × EmailRow). e.1.thread) (filter (in_folder f) all))) ≡ unread_threads all f
unread_threads_are ids all f are =
    count_distinct (contains nat_cmp ids) (map (λ (e : ℕ × EmailRow). e.1.thread) (filter (in_folder f) all))
    ∙ ap (λ (ts : List ℕ). length (distinct ts)) (passing_threads (contains nat_cmp ids) (in_folder f) all)
    ∙ ap (λ (es : Rows). length (distinct (map (λ (e : ℕ × EmailRow). e.1.thread) es)))
    (filter_agree (λ e. in_folder f e && contains nat_cmp ids e.1.thread) (λ e. in_folder f e && in_unread_thread all e)
    (λ e. ap (λ (b : Bool). in_folder f e && b) (are e.1.thread)) all)

-- ---- the counts

counts_same : (a b c d e f g h : ℕ) → a ≡ b → c ≡ d → e ≡ f → g ≡ h
    → ◌≡◌ {A = FolderCounts} (record { total_emails = a; unread_emails = c; total_threads = e; unread_threads = g })
    (record { total_emails = b; unread_emails = d; total_threads = f; unread_threads = h })
counts_same a b c d e f g h e0 e1 e2 e3 = cc

told_is : (ids : BTreeSet ℕ) (o : Option Tallied) → counts_at (option_map (counts_told ids) o) ≡ counts_told ids (tallied_at o)
told_is ids None = refl
told_is ids (Some c) = refl

-- a folder's tally after all Emails has its counts
pub counts_are : (ids : BTreeSet ℕ) (all : Rows) (f : ℕ) (counts : Option FolderCounts) (tally : Option Tallied)
    → ((t : ℕ) → contains nat_cmp ids t ≡ list_any (λ d. in_thread t d && unread d) all) → counts ≡ option_map (counts_told ids) tally
    → tallied_at tally ≡ tally_after f none_tallied all → counts_at counts ≡ counts_in all f
counts_are ids all f counts tally are told after =
    let c : Tallied = tally_after f none_tallied all in
    ap counts_at told ∙ told_is ids tally ∙ ap (counts_told ids) after
    ∙ counts_same _ _ _ _ _ _ _ _ (let t = total_is f none_tallied all in omega (arith, t)) (let u = unread_is f none_tallied all in omega (arith, u))
    (ap (λ (ts : List ℕ). length ts) (threads_are f none_tallied all))
    (ap (count_by (contains nat_cmp ids)) (threads_are f none_tallied all) ∙ unread_threads_are ids all f are)

-- ---- all folders

-- the counts of each folder that has a tally
abbrev pub told_rows : BTreeSet ℕ → List (ℕ × Tallied) → List (ℕ × FolderCounts)
told_rows ids es = map {B = ℕ × FolderCounts} (λ (e : ℕ × Tallied). (e.0, counts_told ids e.1)) es

-- they have the numbers of those folders
pub keys_of-told_rows : (ids : BTreeSet ℕ) (es : List (ℕ × Tallied)) → keys_of (told_rows ids es) ≡ keys_of es
keys_of-told_rows ids [] = refl
keys_of-told_rows ids (e ∷ es) = ap (λ (ks : List ℕ). e.0 ∷ ks) (keys_of-told_rows ids es)

-- what is found in them
pub told_row_at : (ids : BTreeSet ℕ) (es : List (ℕ × Tallied)) (f : ℕ) → row_at (told_rows ids es) f ≡ option_map (counts_told ids) (row_at es f)
told_row_at ids [] f = refl
told_row_at ids (e ∷ es) f =
    elim (is_at (nat_cmp f) e.0) as (λ (b : Bool). cond b (Some (counts_told ids e.1)) (row_at (told_rows ids es) f)
    ≡ option_map (counts_told ids) (cond b (Some e.1) (row_at es f))) [
      | true ↦ refl
      | false ↦ told_row_at ids es f
    ]
