-- Emails that are put into the groups of their Threads, and the Threads that come of these.
use Rattle.std.proofs.Common.{◌≡◌, ℕ, ℤ, List, [], ◌∷◌, ◌++◌, Bool, true, false, cond, nat_eq, map, filter, refl, sym, ap, ◌∙◌, nat_cmp, Option, Some, None, eqb-true}
use Rattle.std.specs.Option.{option_map, unwrap_or}
use Rattle.std.specs.Map.{keys_of}
use Rattle.std.specs.BTreeMap.{is_at}
use Rattle.std.specs.BTreeSet.{BTreeSet, contains, insert_key}
use Rattle.change_list.specs.Advance.{row_at}
use Rattle.mail_maps.specs.declared.row.EmailRow.{EmailRow}
use Rattle.mail_maps.specs.Keywords.{sorted_into}
use Rattle.mail_maps.specs.Rows.{Rows, in_thread}
use Rattle.mail_maps.specs.Threads.{pair_cmp, pairs_in, where_any, thread_at}
use Rattle.mail_maps.specs.reading.Groups.{keys_listed, keys_at, grouped, pairs_among}

abbrev Pair : Type 0
Pair = ℤ × ℕ

abbrev pair_of : ℕ × EmailRow → Pair
pair_of e = (e.1.received, e.0)

-- ---- one Email

module _ (among : BTreeSet ℕ) (old : ℕ → Option (BTreeSet Pair)) (number : ℕ) (row : EmailRow) where
  abbrev one : ℕ → List Pair
  one t = pairs_among among ((number, row) ∷ []) t

  listed_is : (o : Option (BTreeSet Pair)) → keys_listed o ≡ unwrap_or (keys_at o) []
  listed_is None = refl
  listed_is (Some s) = refl

  -- the groups after an Email of one of these Threads
  pub put_in : contains nat_cmp among row.thread ≡ true → (t : ℕ) (new : Option (List Pair))
      → new ≡ cond (nat_eq row.thread t) (Some (insert_key pair_cmp (keys_listed (old row.thread)) (row.received, number))) (keys_at (old t))
      → new ≡ grouped (keys_at (old t)) (one t)
  put_in is t new made = made ∙ by (nat_eq row.thread t) refl
    where
      by : (b : Bool) → nat_eq row.thread t ≡ b → cond b (Some (insert_key pair_cmp (keys_listed (old row.thread)) (row.received, number))) (keys_at (old t))
          ≡ grouped (keys_at (old t)) (cond (contains nat_cmp among t) (map {B = Pair} pair_of (cond b ((number, row) ∷ []) [])) [])
      by true same =
          let at : row.thread ≡ t = eqb-true row.thread t same in
          ap (λ (k : ℕ). Some (insert_key pair_cmp (keys_listed (old k)) (row.received, number))) at
          ∙ ap (λ (ks : List Pair). Some (insert_key pair_cmp ks (row.received, number))) (listed_is (old t))
          ∙ ap (λ (b : Bool). grouped (keys_at (old t)) (cond b ((row.received, number) ∷ []) [])) (sym (ap (contains nat_cmp among) (sym at) ∙ is))
      by false other =
          elim (contains nat_cmp among t) as (λ (b : Bool). keys_at (old t) ≡ grouped (keys_at (old t)) (cond b [] [])) [ true ↦ refl | false ↦ refl ]

  -- those after another one are the same
  pub passed : contains nat_cmp among row.thread ≡ false → (t : ℕ) → keys_at (old t) ≡ grouped (keys_at (old t)) (one t)
  passed is t = by (nat_eq row.thread t) refl
    where
      by : (b : Bool) → nat_eq row.thread t ≡ b → keys_at (old t)
          ≡ grouped (keys_at (old t)) (cond (contains nat_cmp among t) (map {B = Pair} pair_of (cond b ((number, row) ∷ []) [])) [])
      by true same =
          ap (λ (b : Bool). grouped (keys_at (old t)) (cond b ((row.received, number) ∷ []) []))
          (sym (ap (contains nat_cmp among) (sym (eqb-true row.thread t same)) ∙ is))
      by false other =
          elim (contains nat_cmp among t) as (λ (b : Bool). keys_at (old t) ≡ grouped (keys_at (old t)) (cond b [] [])) [ true ↦ refl | false ↦ refl ]

-- ---- one after another

grouped-append : (group : Option (List Pair)) (ps qs : List Pair) → grouped group (ps ++ qs) ≡ grouped (grouped group ps) qs
grouped-append group [] qs = refl
grouped-append group (p ∷ ps) qs = grouped-append (Some (insert_key pair_cmp (unwrap_or group []) p)) ps qs

first_pair : (e : ℕ × EmailRow) (es : Rows) (t : ℕ) → pairs_in (e ∷ es) t ≡ pairs_in (e ∷ []) t ++ pairs_in es t
first_pair e es t =
    elim (nat_eq e.1.thread t) as (λ (b : Bool). map {B = Pair} pair_of (cond b (e ∷ filter (in_thread t) es) (filter (in_thread t) es))
    ≡ map {B = Pair} pair_of (cond b (e ∷ []) []) ++ map {B = Pair} pair_of (filter (in_thread t) es)) [ true ↦ refl | false ↦ refl ]

-- the groups after one Email more, beside those after all
pub grouped_next : (among : BTreeSet ℕ) (e : ℕ × EmailRow) (es : Rows) (t : ℕ) (group now : Option (List Pair)) → now ≡ grouped group (pairs_among among (e ∷ []) t)
    → grouped now (pairs_among among es t) ≡ grouped group (pairs_among among (e ∷ es) t)
grouped_next among e es t group now is =
    ap (λ (g : Option (List Pair)). grouped g (pairs_among among es t)) is
    ∙ elim (contains nat_cmp among t) as (λ (b : Bool). grouped (grouped group (cond b (pairs_in (e ∷ []) t) [])) (cond b (pairs_in es t) [])
    ≡ grouped group (cond b (pairs_in (e ∷ es) t) [])) [
      | true ↦ sym (grouped-append group (pairs_in (e ∷ []) t) (pairs_in es t)) ∙ ap (grouped group) (sym (first_pair e es t))
      | false ↦ refl
    ]

-- where no Email is left, the groups stay
pub grouped_end : (among : BTreeSet ℕ) (t : ℕ) (group : Option (List Pair)) → grouped group (pairs_among among [] t) ≡ group
grouped_end among t group = elim (contains nat_cmp among t) as (λ (b : Bool). grouped group (cond b [] []) ≡ group) [ true ↦ refl | false ↦ refl ]

-- ---- Threads of groups

abbrev pub seconds : List Pair → List ℕ
seconds ps = map {A = Pair} {B = ℕ} (λ p. p.1) ps

-- a Thread for each group
abbrev pub thread_rows : List (ℕ × BTreeSet Pair) → List (ℕ × List ℕ)
thread_rows es = map {B = ℕ × List ℕ} (λ (e : ℕ × BTreeSet Pair). (e.0, seconds e.1.keys)) es

-- they have the groups' numbers
pub keys_of-thread_rows : (es : List (ℕ × BTreeSet Pair)) → keys_of (thread_rows es) ≡ keys_of es
keys_of-thread_rows [] = refl
keys_of-thread_rows (e ∷ es) = ap (λ (ks : List ℕ). e.0 ∷ ks) (keys_of-thread_rows es)

-- what is found in them
pub thread_row_at : (es : List (ℕ × BTreeSet Pair)) (t : ℕ) → row_at (thread_rows es) t ≡ option_map seconds (keys_at (row_at es t))
thread_row_at [] t = refl
thread_row_at (e ∷ es) t =
    elim (is_at (nat_cmp t) e.0) as (λ (b : Bool). cond b (Some (seconds e.1.keys)) (row_at (thread_rows es) t) ≡ option_map seconds (keys_at (cond b (Some e.1) (row_at es t)))) [
      | true ↦ refl
      | false ↦ thread_row_at es t
    ]

grouped_some : (ks ps : List Pair) → grouped (Some ks) ps ≡ Some (sorted_into pair_cmp ks ps)
grouped_some ks [] = refl
grouped_some ks (p ∷ ps) = grouped_some (insert_key pair_cmp ks p) ps

seconds_grouped : (ps : List Pair) → option_map seconds (grouped None ps) ≡ where_any ps (seconds (sorted_into pair_cmp [] ps))
seconds_grouped [] = refl
seconds_grouped (p ∷ ps) = ap (option_map seconds) (grouped_some (insert_key pair_cmp [] p) ps)

-- the Threads among these that have Emails
pub among_is : (among : BTreeSet ℕ) (rows : Rows) (t : ℕ) → option_map seconds (grouped None (pairs_among among rows t)) ≡ cond (contains nat_cmp among t) (thread_at rows t) None
among_is among rows t =
    elim (contains nat_cmp among t) as (λ (b : Bool). option_map seconds (grouped None (cond b (pairs_in rows t) [])) ≡ cond b (thread_at rows t) None) [
      | true ↦ seconds_grouped (pairs_in rows t)
      | false ↦ refl
    ]
