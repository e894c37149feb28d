-- Rows that are taken out and updated by what the pass found are those that remain.
use Rattle.std.proofs.Common.{◌≡◌, ℕ, ◌+◌, ◌<◌, ◌⊎◌, inl, inr, List, [], ◌∷◌, ◌++◌, Bool, true, false, not, ◌||◌, cond, nat_eq, map, filter, drop, length, get_or, refl, sym, ap}
use Rattle.std.proofs.Common.{◌∙◌, subst, nat_cmp, arith, is_some, Option, Some, None, eqb-true}
use Rattle.std.specs.declared.cmp.Ordering.TheVariants.{Less}
use Rattle.std.specs.List.{AllByRecursion}
use Rattle.std.specs.List.Sorted.{IsStrictlySortedBy}
use Rattle.std.specs.Map.{keys_of}
use Rattle.std.specs.Option.{option_map}
use Rattle.std.specs.BTreeMap.{is_at}
use Rattle.std.proofs.lemmas.Grind.{common_steps}
use Rattle.std.proofs.lemmas.Map.Keys.{sorted_head, sorted_tail}
use Rattle.std.proofs.lemmas.Slice.Eq.{bytes_eq-Decides, slice_eq-Decides}
use Rattle.change_list.specs.Advance.{row_at}
use Rattle.told_folder.specs.declared.message.NumberedFolder.{NumberedFolder}
use Rattle.told_folder.proofs.KeyedLemmas.{lt_same_gt}
use Rattle.mail_maps.specs.declared.row.EmailRow.{EmailRow}
use Rattle.mail_maps.specs.Keywords.{keywords_of}
use Rattle.mail_maps.specs.Rows.{Rows}
use Rattle.mail_maps.specs.Serve.{same_names}
use Rattle.mail_maps.specs.Visible.{Placed, shown}
use Rattle.mail_rows.specs.Remaining.{updated, remaining}
use Rattle.mail_rows.specs.declared.remaining.RemovedEmail.{RemovedEmail}
use Rattle.mail_rows.specs.declared.remaining.Update.{Update}
use Rattle.mail_rows.specs.reading.RowPass.{is_moved, is_another, update_of, update_where, updates_where, updates_in, gone_of, is_hidden, gone_in, row_left, with_update, row_if}
use Rattle.mail_rows.specs.reading.RowPass.{row_updated}
use Rattle.mail_rows.proofs.RowLemmas.{is_here, less_is_below, below_is_less, found_is, none_above}
use Rattle.mail_rows.proofs.LoopLemmas.{next_left}
use Rattle.mail_rows.proofs.PassLemmas.{sorted_remaining}
use Rattle.mail_rows.proofs.TouchLemmas.{remaining_if, remaining_at}

abbrev InOrder : Rows → Type 0
InOrder es = IsStrictlySortedBy nat_cmp (keys_of es)

number_test : (k q : ℕ) → is_at (nat_cmp k) q ≡ nat_eq k q
number_test k q = grind (arith, common_steps)

turned_test : (k q : ℕ) → is_at (nat_cmp q) k ≡ nat_eq k q
turned_test k q = grind (arith, common_steps)

-- ---- one row

-- the row of the number is written
pub row_written : (rows : ℕ → Option EmailRow) (u : Update) (row : EmailRow) (q : ℕ) (new : Option EmailRow) → Some row ≡ rows u.number
    → new ≡ cond (is_at (nat_cmp u.number) q) (Some (with_update u row)) (rows q) → new ≡ row_if u q (rows q)
row_written rows u row q new there put =
    put ∙ ap (λ (b : Bool). cond b (Some (with_update u row)) (rows q)) (number_test u.number q) ∙ by (nat_eq u.number q) refl
  where
    by : (b : Bool) → nat_eq u.number q ≡ b → cond b (Some (with_update u row)) (rows q) ≡ cond b (option_map (with_update u) (rows q)) (rows q)
    by true same = ap (option_map (with_update u)) (there ∙ ap rows (eqb-true u.number q same))
    by false other = refl

-- there is no row of the number
pub row_absent : (rows : ℕ → Option EmailRow) (u : Update) (q : ℕ) → None ≡ rows u.number → rows q ≡ row_if u q (rows q)
row_absent rows u q none = by (nat_eq u.number q) refl
  where
    by : (b : Bool) → nat_eq u.number q ≡ b → rows q ≡ cond b (option_map (with_update u) (rows q)) (rows q)
    by true same =
        let here : None ≡ rows q = none ∙ ap rows (eqb-true u.number q same) in
        sym here ∙ ap (option_map (with_update u)) here
    by false other = refl

-- ---- loops

-- one row less
pub row_forgotten : (gone : List RemovedEmail) (i : ℕ) (g : RemovedEmail) (q : ℕ) (old new r : Option EmailRow) → i < length gone → g ≡ get_or gone i g
    → new ≡ cond (is_at (nat_cmp g.number) q) None old → row_left (drop i gone) q old ≡ r → row_left (drop (i + 1) gone) q new ≡ r
row_forgotten gone i g q old new r within is made all =
    ap (row_left (drop (i + 1) gone) q) (made ∙ ap (λ (t : Bool). cond t None old) (number_test g.number q))
    ∙ sym (ap (λ (gs : List RemovedEmail). row_left gs q old) (next_left gone i g within is)) ∙ all

-- one update more
pub update_taken : (us rest : List Update) (u : Update) (q : ℕ) (old new r : Option EmailRow) → us ≡ u ∷ rest → new ≡ row_if u q old
    → row_updated us q old ≡ r → row_updated rest q new ≡ r
update_taken us rest u q old new r is made all = ap (row_updated rest q) made ∙ sym (ap (λ (vs : List Update). row_updated vs q old) is) ∙ all

-- no update is left
pub updates_end : (us : List Update) (q : ℕ) (now r : Option EmailRow) → length us ≡ 0 → row_updated us q now ≡ r → now ≡ r
updates_end [] q now r none all = all
updates_end (u ∷ us) q now r none all = absurd (omega (arith, none))

-- ---- a row that is as its message is

neither : (a b : Bool) → (a || b) ≡ false → (a ≡ false) × (b ≡ false)
neither true b e = absurd (let f : true ≡ false = e in cc)
neither false b e = (refl, e)

it_is : (b : Bool) → not b ≡ false → b ≡ true
it_is true e = refl
it_is false e = absurd (let f : true ≡ false = e in cc)

same_row : (row : EmailRow) (p : Placed) → is_another row p ≡ false → row ≡ updated row p
same_row row p e =
    let ks : List (List ℕ) = keywords_of p.message.flags in
    let m = neither (is_moved row p) (not (nat_eq row.uid p.message.uid)) e in
    let k = neither (not (nat_eq row.folder p.folder)) (not (same_names row.keywords ks)) m.0 in
    let folder : row.folder ≡ p.folder = eqb-true row.folder p.folder (it_is (nat_eq row.folder p.folder) k.0) in
    let uid : row.uid ≡ p.message.uid = eqb-true row.uid p.message.uid (it_is (nat_eq row.uid p.message.uid) m.1) in
    let keywords : row.keywords ≡ ks = (slice_eq-Decides bytes_eq-Decides row.keywords ks (same_names row.keywords ks) refl).0 (it_is (same_names row.keywords ks) k.1) in
    ap (λ (f : ℕ). record row { folder = f }) folder ∙ ap (λ (u : ℕ). record row { folder = p.folder; uid = u }) uid
    ∙ ap (λ (ns : List (List ℕ)). record row { folder = p.folder; uid = p.message.uid; keywords = ns }) keywords

-- ---- all rows

none_left : (gs : List RemovedEmail) (q : ℕ) → row_left gs q None ≡ None
none_left [] q = refl
none_left (g ∷ gs) q = elim (nat_eq g.number q) as (λ (b : Bool). row_left gs q (cond b None None) ≡ None) [ true ↦ none_left gs q | false ↦ none_left gs q ]

none_updated : (us : List Update) (q : ℕ) → row_updated us q None ≡ None
none_updated [] q = refl
none_updated (u ∷ us) q =
    elim (nat_eq u.number q) as (λ (b : Bool). row_updated us q (cond b (option_map (with_update u) None) None) ≡ None) [
      | true ↦ none_updated us q
      | false ↦ none_updated us q
    ]

module _ (hs : List NumberedFolder) (q : ℕ) where
  -- a number at no row neither goes nor is updated
  left_alone : (es : Rows) (o : Option EmailRow) → row_at es q ≡ None → row_left (gone_in hs es) q o ≡ o
  left_alone [] o none = refl
  left_alone (e ∷ es) o none = by (is_at (nat_cmp q) e.0) refl none (left_alone es o)
    where
      by : (b : Bool) → is_at (nat_cmp q) e.0 ≡ b → cond b (Some e.1) (row_at es q) ≡ None → (row_at es q ≡ None → row_left (gone_in hs es) q o ≡ o)
          → row_left (gone_in hs (e ∷ es)) q o ≡ o
      by true here f later = absurd (let g : Some e.1 ≡ None = f in cc)
      by false other f later =
          elim (shown hs e.1.mark) as (λ (w : Option Placed). row_left (map gone_of (cond (not (is_some w)) (e ∷ filter (is_hidden hs) es) (filter (is_hidden hs) es))) q o ≡ o) [
            | Some p ↦ later f
            | None ↦ ap (λ (t : Bool). row_left (gone_in hs es) q (cond t None o)) (sym (turned_test e.0 q) ∙ other) ∙ later f
          ]

  updated_alone : (es : Rows) (o : Option EmailRow) → row_at es q ≡ None → row_updated (updates_in hs es) q o ≡ o
  updated_alone [] o none = refl
  updated_alone (e ∷ es) o none = by (is_at (nat_cmp q) e.0) refl none (updated_alone es o)
    where
      one : (p : Placed) (t : Bool) → nat_eq e.0 q ≡ false → row_updated (updates_in hs es) q o ≡ o → row_updated (update_where t e.0 p ++ updates_in hs es) q o ≡ o
      one p true other later = ap (λ (b : Bool). row_updated (updates_in hs es) q (cond b (option_map (with_update (update_of e.0 p)) o) o)) other ∙ later
      one p false other later = later

      by : (b : Bool) → is_at (nat_cmp q) e.0 ≡ b → cond b (Some e.1) (row_at es q) ≡ None → (row_at es q ≡ None → row_updated (updates_in hs es) q o ≡ o)
          → row_updated (updates_in hs (e ∷ es)) q o ≡ o
      by true here f later = absurd (let g : Some e.1 ≡ None = f in cc)
      by false other f later =
          elim (shown hs e.1.mark) as (λ (w : Option Placed). row_updated (updates_where w e ++ updates_in hs es) q o ≡ o) [
            | None ↦ later f
            | Some p ↦ one p (is_another e.1 p) (sym (turned_test e.0 q) ∙ other) (later f)
          ]

  -- what becomes of the row of the number
  updated_at : (es : Rows) → InOrder es → row_updated (updates_in hs es) q (row_left (gone_in hs es) q (row_at es q)) ≡ remaining_if hs (row_at es q)
  updated_at [] sorted = refl
  updated_at (e ∷ es) sorted = by (is_at (nat_cmp q) e.0) refl (shown hs e.1.mark) refl (updated_at es (sorted_tail nat_cmp e.0 (keys_of es) sorted))
    where
      none : q ≡ e.0 → row_at es q ≡ None
      none same = ap (row_at es) same ∙ none_above e.0 es (sorted_head nat_cmp e.0 (keys_of es) sorted)

      -- its own row, which stays
      kept : (p : Placed) (t : Bool) → nat_eq e.0 q ≡ true → row_at es q ≡ None → is_another e.1 p ≡ t
          → row_updated (update_where t e.0 p ++ updates_in hs es) q (Some e.1) ≡ Some (updated e.1 p)
      kept p true here lone is =
          ap (λ (b : Bool). row_updated (updates_in hs es) q (cond b (Some (updated e.1 p)) (Some e.1))) here ∙ updated_alone es (Some (updated e.1 p)) lone
      kept p false here lone is = updated_alone es (Some e.1) lone ∙ ap (λ (r : EmailRow). Some r) (same_row e.1 p is)

      -- another row
      passed : (p : Placed) (t : Bool) (o : Option EmailRow) → nat_eq e.0 q ≡ false
          → row_updated (update_where t e.0 p ++ updates_in hs es) q o ≡ row_updated (updates_in hs es) q o
      passed p true o other = ap (λ (b : Bool). row_updated (updates_in hs es) q (cond b (option_map (with_update (update_of e.0 p)) o) o)) other
      passed p false o other = refl

      by : (b : Bool) → is_at (nat_cmp q) e.0 ≡ b → (w : Option Placed) → shown hs e.1.mark ≡ w
          → row_updated (updates_in hs es) q (row_left (gone_in hs es) q (row_at es q)) ≡ remaining_if hs (row_at es q)
          → row_updated (updates_where w e ++ updates_in hs es) q
          (row_left (map gone_of (cond (not (is_some w)) (e ∷ filter (is_hidden hs) es) (filter (is_hidden hs) es))) q (cond b (Some e.1) (row_at es q)))
          ≡ remaining_if hs (cond b (Some e.1) (row_at es q))
      by true here None is rest =
          ap (λ (t : Bool). row_updated (updates_in hs es) q (row_left (gone_in hs es) q (cond t None (Some e.1)))) (sym (turned_test e.0 q) ∙ here)
          ∙ ap (row_updated (updates_in hs es) q) (none_left (gone_in hs es) q) ∙ none_updated (updates_in hs es) q
          ∙ sym (ap (option_map (updated e.1)) is)
      by true here (Some p) is rest =
          ap (row_updated (update_where (is_another e.1 p) e.0 p ++ updates_in hs es) q) (left_alone es (Some e.1) (none (found_is q e.0 here)))
          ∙ kept p (is_another e.1 p) (sym (turned_test e.0 q) ∙ here) (none (found_is q e.0 here)) refl
          ∙ sym (ap (option_map (updated e.1)) is)
      by false other None is rest =
          ap (λ (t : Bool). row_updated (updates_in hs es) q (row_left (gone_in hs es) q (cond t None (row_at es q)))) (sym (turned_test e.0 q) ∙ other) ∙ rest
      by false other (Some p) is rest =
          passed p (is_another e.1 p) (row_left (gone_in hs es) q (row_at es q)) (sym (turned_test e.0 q) ∙ other) ∙ rest

-- ---- rows in order are known by their numbers

pair_same : (a b : ℕ) (u v : EmailRow) → a ≡ b → u ≡ v → ◌≡◌ {A = ℕ × EmailRow} (a, u) (b, v)
pair_same a b u v e f = cc

here_is : (x : ℕ × EmailRow) (xs : Rows) → row_at (x ∷ xs) x.0 ≡ Some x.1
here_is x xs = ap (λ (b : Bool). cond b (Some x.1) (row_at xs x.0)) (is_here x.0)

all_less : (k j : ℕ) (es : Rows) → k < j → AllByRecursion (λ y. nat_cmp j y ≡ Less) (keys_of es) → AllByRecursion (λ y. nat_cmp k y ≡ Less) (keys_of es)
all_less k j [] l a = tt
all_less k j (e ∷ es) l a = (below_is_less k e.0 (let m = less_is_below j e.0 a.0 in omega (arith, l, m)), all_less k j es l a.1)

-- the first number of the one isn't below the first of the other
not_below : (x y : ℕ × EmailRow) (xs ys : Rows) → InOrder (y ∷ ys) → row_at (x ∷ xs) x.0 ≡ row_at (y ∷ ys) x.0 → x.0 < y.0 → ⊥
not_below x y xs ys sorted same l =
    let none : row_at (y ∷ ys) x.0 ≡ None =
    none_above x.0 (y ∷ ys) (below_is_less x.0 y.0 l, all_less x.0 y.0 ys l (sorted_head nat_cmp y.0 (keys_of ys) sorted)) in
    let f : Some x.1 ≡ None = sym (here_is x xs) ∙ same ∙ none in cc

one_first : (x y : ℕ × EmailRow) (xs ys : Rows) → InOrder (x ∷ xs) → InOrder (y ∷ ys) → ((q : ℕ) → row_at (x ∷ xs) q ≡ row_at (y ∷ ys) q) → x ≡ y
one_first x y xs ys s t same = by (lt_same_gt x.0 y.0)
  where
    by : (x.0 < y.0) ⊎ ((y.0 < x.0) ⊎ (x.0 ≡ y.0)) → x ≡ y
    by (inl l) = absurd (not_below x y xs ys t (same x.0) l)
    by (inr (inl l)) = absurd (not_below y x ys xs s (sym (same y.0)) l)
    by (inr (inr e)) =
        let f : Some x.1 ≡ Some y.1 = sym (here_is x xs) ∙ same x.0 ∙ ap (row_at (y ∷ ys)) e ∙ here_is y ys in
        pair_same x.0 y.0 x.1 y.1 e cc

one_later : (x : ℕ × EmailRow) (xs ys : Rows) → InOrder (x ∷ xs) → InOrder (x ∷ ys) → ((q : ℕ) → row_at (x ∷ xs) q ≡ row_at (x ∷ ys) q) → (q : ℕ) → row_at xs q ≡ row_at ys q
one_later x xs ys s t same q = by (is_at (nat_cmp q) x.0) refl (same q)
  where
    by : (b : Bool) → is_at (nat_cmp q) x.0 ≡ b → cond b (Some x.1) (row_at xs q) ≡ cond b (Some x.1) (row_at ys q) → row_at xs q ≡ row_at ys q
    by true here f =
        ap (row_at xs) (found_is q x.0 here) ∙ none_above x.0 xs (sorted_head nat_cmp x.0 (keys_of xs) s)
        ∙ sym (ap (row_at ys) (found_is q x.0 here) ∙ none_above x.0 ys (sorted_head nat_cmp x.0 (keys_of ys) t))
    by false other f = f

same_rows : (xs ys : Rows) → InOrder xs → InOrder ys → ((q : ℕ) → row_at xs q ≡ row_at ys q) → xs ≡ ys
same_rows [] [] s t same = refl
same_rows [] (y ∷ ys) s t same = absurd (let f : None ≡ Some y.1 = same y.0 ∙ here_is y ys in cc)
same_rows (x ∷ xs) [] s t same = absurd (let f : Some x.1 ≡ None = sym (here_is x xs) ∙ same x.0 in cc)
same_rows (x ∷ xs) (y ∷ ys) s t same =
    let first : x ≡ y = one_first x y xs ys s t same in
    let P : ℕ × EmailRow → Type 0 = λ z. InOrder (z ∷ xs) in
    let Q : ℕ × EmailRow → Type 0 = λ z. (q : ℕ) → row_at (z ∷ xs) q ≡ row_at (y ∷ ys) q in
    ap (λ (z : ℕ × EmailRow). z ∷ xs) first
    ∙ ap (λ (zs : Rows). y ∷ zs)
    (same_rows xs ys (sorted_tail nat_cmp x.0 (keys_of xs) s) (sorted_tail nat_cmp y.0 (keys_of ys) t) (one_later y xs ys (subst P first s) t (subst Q first same)))

-- rows in order that have at each number what the pass leaves there are those that remain
pub rows_remain : (hs : List NumberedFolder) (es after : Rows) (gone : List RemovedEmail) (updates : List Update) → InOrder es → InOrder after → gone ≡ gone_in hs es → updates ≡ updates_in hs es
    → ((q : ℕ) → row_at after q ≡ row_updated updates q (row_left gone q (row_at es q))) → after ≡ remaining hs es
rows_remain hs es after gone updates sorted ordered go up made =
    same_rows after (remaining hs es) ordered (sorted_remaining hs es sorted)
    (λ q. made q ∙ ap (λ (us : List Update). row_updated us q (row_left gone q (row_at es q))) up
    ∙ ap (λ (gs : List RemovedEmail). row_updated (updates_in hs es) q (row_left gs q (row_at es q))) go
    ∙ updated_at hs q es sorted ∙ sym (remaining_at hs es sorted q))
