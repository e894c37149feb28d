-- What ids name, by their numbers.
use Rattle.std.proofs.Common.{◌≡◌, ◌≢◌, ◌==◌, ◌<◌, ◌^◌, inl, inr, ℕ, List, [], ◌∷◌, Bool, true, false, ◌||◌, cond, map, filter, find, bytes_eq, nat_eq, Option, Some, None}
use Rattle.std.proofs.Common.{nat_cmp, refl, sym, ap, ◌∙◌, arith, eqb-true}
use Rattle.std.specs.BTreeMap.{is_at}
use Rattle.std.specs.List.{All, list_any}
use Rattle.std.specs.Map.{keys_of, lookup}
use Rattle.std.specs.Option.{option_map}
use Rattle.std.proofs.lemmas.Bool.Decides.{eqb_tells}
use Rattle.std.proofs.lemmas.Fmt.{decimal_injective}
use Rattle.std.proofs.lemmas.Grind.{common_steps}
use Rattle.std.proofs.lemmas.List.Elements.{All-head, All-tail}
use Rattle.std.proofs.lemmas.Slice.Eq.{bytes_eq-Decides}
use Rattle.jmap_arguments.specs.Ids.{id_text}
use Rattle.told_folder.specs.declared.message.Folder.{Folder}
use Rattle.told_folder.specs.declared.message.NumberedFolder.{NumberedFolder}
use Rattle.told_mail.specs.Mail.{folder_in, held_in}
use Rattle.mail_maps.specs.declared.row.EmailRow.{EmailRow}

abbrev rest_of : List ℕ → List ℕ
rest_of [] = []
rest_of (c ∷ cs) = cs

key_test : (q k : ℕ) → is_at (nat_cmp q) k ≡ nat_eq k q
key_test q k = grind (arith, common_steps)

-- a number among small ones is small
pub small_among : (ns : List ℕ) (q : ℕ) → All (λ n. n < 2 ^ 64) ns → list_any (λ n. n == q) ns ≡ true → q < 2 ^ 64
small_among [] q small there = absurd (let f : false ≡ true = there in cc)
small_among (n ∷ ns) q small there =
    elim (nat_eq n q) as (λ (b : Bool). nat_eq n q ≡ b → (b || list_any (λ k. nat_eq k q) ns) ≡ true → q < 2 ^ 64) [
      | true ↦ λ same t. let is : n ≡ q = eqb-true n q same in let fits = All-head (λ k. k < 2 ^ 64) n ns small in omega (arith, is, fits)
      | false ↦ λ other t. small_among ns q (All-tail (λ k. k < 2 ^ 64) n ns small) t
    ] refl there

module _ (letter : ℕ) where
  is_not : (k : ℕ) (id : List ℕ) → id ≢ id_text letter k → bytes_eq (id_text letter k) id ≡ false
  is_not k id other = elim (bytes_eq (id_text letter k) id) as (λ b. bytes_eq (id_text letter k) id ≡ b → b ≡ false) [
    | true ↦ λ is. absurd (other (sym ((bytes_eq-Decides (id_text letter k) id).0 is)))
    | false ↦ λ is. refl
  ] refl

  -- ids are equal as their numbers are
  same_id : (k n : ℕ) → k < 2 ^ 64 → n < 2 ^ 64 → bytes_eq (id_text letter k) (id_text letter n) ≡ nat_eq k n
  same_id k n small fits = elim (eqb_tells k n) [
    | inl is ↦ (bytes_eq-Decides (id_text letter k) (id_text letter n)).1 (ap (λ (m : ℕ). id_text letter m) is.1) ∙ sym is.0
    | inr is ↦ is_not k (id_text letter n) (λ same. is.1 (sym (decimal_injective n k fits small (ap rest_of same)))) ∙ sym is.0
  ]

  -- ---- folders

  module _ (has : ℕ → Bool) (small : (n : ℕ) → has n ≡ true → n < 2 ^ 64) where
    abbrev by_id : List ℕ → List NumberedFolder → Option Folder
    by_id id hs = find (λ (f : Folder). bytes_eq (id_text letter f.number) id) (filter (λ (f : Folder). has f.number) (map (λ (h : NumberedFolder). h.folder) hs))

    abbrev by_number : ℕ → List NumberedFolder → Option Folder
    by_number n hs = cond (has n) (folder_in hs n) None

    -- of a folder that has an id
    first_found : (n : ℕ) (h : NumberedFolder) (hs : List NumberedFolder) (same : Bool) → nat_eq h.folder.number n ≡ same → has h.folder.number ≡ true → by_id (id_text letter n) hs ≡ by_number n hs
        → cond same (Some h.folder) (by_id (id_text letter n) hs) ≡ cond (has n) (option_map (λ (x : NumberedFolder). x.folder) (cond same (Some h) (held_in hs n))) None
    first_found n h hs true same there rest =
        sym (ap (λ b. cond b (Some h.folder) None) (sym (ap has (eqb-true h.folder.number n same)) ∙ there))
    first_found n h hs false other there rest = rest

    -- of one that has none
    first_left : (n : ℕ) (h : NumberedFolder) (hs : List NumberedFolder) (same : Bool) → nat_eq h.folder.number n ≡ same → has h.folder.number ≡ false → by_id (id_text letter n) hs ≡ by_number n hs
        → by_id (id_text letter n) hs ≡ cond (has n) (option_map (λ (x : NumberedFolder). x.folder) (cond same (Some h) (held_in hs n))) None
    first_left n h hs true same none rest =
        let lacks : has n ≡ false = sym (ap has (eqb-true h.folder.number n same)) ∙ none in
        rest ∙ ap (λ b. cond b (folder_in hs n) None) lacks ∙ sym (ap (λ b. cond b (Some h.folder) None) lacks)
    first_left n h hs false other none rest = rest

    pub folder_found : (n : ℕ) (hs : List NumberedFolder) → n < 2 ^ 64 → by_id (id_text letter n) hs ≡ by_number n hs
    folder_found n [] fits = elim (has n) as (λ b. None ≡ cond b (folder_in [] n) None) [ true ↦ refl | false ↦ refl ]
    folder_found n (h ∷ hs) fits =
        let k : ℕ = h.folder.number in
        let rest = folder_found n hs fits in
        elim (has k) as (λ b. has k ≡ b
        → find (λ (f : Folder). bytes_eq (id_text letter f.number) (id_text letter n)) (cond b (h.folder ∷ filter (λ (f : Folder). has f.number) (map (λ (x : NumberedFolder). x.folder) hs)) (filter (λ (f : Folder). has f.number) (map (λ (x : NumberedFolder). x.folder) hs)))
        ≡ by_number n (h ∷ hs)) [
          | true ↦ λ there.
              ap (λ b. cond b (Some h.folder) (by_id (id_text letter n) hs)) (same_id k n (small k there) fits)
              ∙ first_found n h hs (nat_eq k n) refl there rest
          | false ↦ λ none. first_left n h hs (nat_eq k n) refl none rest
        ] refl

    pub folder_missed : (id : List ℕ) (hs : List NumberedFolder) → ((n : ℕ) → n < 2 ^ 64 → id ≢ id_text letter n) → by_id id hs ≡ None
    folder_missed id [] never = refl
    folder_missed id (h ∷ hs) never =
        let k : ℕ = h.folder.number in
        elim (has k) as (λ b. has k ≡ b
        → find (λ (f : Folder). bytes_eq (id_text letter f.number) id) (cond b (h.folder ∷ filter (λ (f : Folder). has f.number) (map (λ (x : NumberedFolder). x.folder) hs)) (filter (λ (f : Folder). has f.number) (map (λ (x : NumberedFolder). x.folder) hs)))
        ≡ None) [
          | true ↦ λ there. ap (λ b. cond b (Some h.folder) (by_id id hs)) (is_not k id (never k (small k there))) ∙ folder_missed id hs never
          | false ↦ λ none. folder_missed id hs never
        ] refl

  -- ---- rows

  abbrev row_by : List ℕ → List (ℕ × EmailRow) → Option (ℕ × EmailRow)
  row_by id rows = find (λ (e : ℕ × EmailRow). bytes_eq (id_text letter e.0) id) rows

  abbrev keyed : ℕ → EmailRow → ℕ × EmailRow
  keyed n row = (n, row)

  row_here : (n : ℕ) (e : ℕ × EmailRow) (rows : List (ℕ × EmailRow)) (same : Bool) → nat_eq e.0 n ≡ same
      → cond same (Some e) (option_map (keyed n) (lookup (is_at (nat_cmp n)) rows)) ≡ option_map (keyed n) (cond same (Some e.1) (lookup (is_at (nat_cmp n)) rows))
  row_here n e rows true same = ap (λ (k : ℕ). let o : Option (ℕ × EmailRow) = Some (k, e.1) in o) (eqb-true e.0 n same)
  row_here n e rows false other = refl

  pub row_found : (n : ℕ) (rows : List (ℕ × EmailRow)) → n < 2 ^ 64 → All (λ k. k < 2 ^ 64) (keys_of rows) → row_by (id_text letter n) rows ≡ option_map (keyed n) (lookup (is_at (nat_cmp n)) rows)
  row_found n [] fits small = refl
  row_found n (e ∷ rows) fits small =
      ap (λ b. cond b (Some e) (row_by (id_text letter n) rows)) (same_id e.0 n (All-head (λ k. k < 2 ^ 64) e.0 (keys_of rows) small) fits)
      ∙ ap (λ o. cond (nat_eq e.0 n) (Some e) o) (row_found n rows fits (All-tail (λ k. k < 2 ^ 64) e.0 (keys_of rows) small))
      ∙ row_here n e rows (nat_eq e.0 n) refl
      ∙ sym (ap (λ b. option_map (keyed n) (cond b (Some e.1) (lookup (is_at (nat_cmp n)) rows))) (key_test n e.0))

  pub row_missed : (id : List ℕ) (rows : List (ℕ × EmailRow)) → ((n : ℕ) → n < 2 ^ 64 → id ≢ id_text letter n) → All (λ k. k < 2 ^ 64) (keys_of rows) → row_by id rows ≡ None
  row_missed id [] never small = refl
  row_missed id (e ∷ rows) never small =
      ap (λ b. cond b (Some e) (row_by id rows)) (is_not e.0 id (never e.0 (All-head (λ k. k < 2 ^ 64) e.0 (keys_of rows) small)))
      ∙ row_missed id rows never (All-tail (λ k. k < 2 ^ 64) e.0 (keys_of rows) small)

-- ---- a number more in a set

at_test : (k q : ℕ) → is_at (nat_cmp k) q ≡ nat_eq k q
at_test k q = grind (arith, common_steps)

put_in : (b x : Bool) → cond b true x ≡ (b || x)
put_in true x = refl
put_in false x = refl

pub number_put : (k q : ℕ) (x : Bool) → cond (is_at (nat_cmp k) q) true x ≡ (nat_eq k q || x)
number_put k q x = ap (λ b. cond b true x) (at_test k q) ∙ put_in (nat_eq k q) x
