-- Groups, each once: those seen, and the rows that are left.
use Rattle.std.proofs.Common.{◌≡◌, ℕ, List, [], ◌∷◌, ◌++◌, Bool, true, false, not, ◌||◌, cond, filter, nat_eq, eqb-true, refl, sym, ap, ◌∙◌, append_assoc, nat_cmp, BTreeSet}
use Rattle.std.specs.BTreeMap.{is_at}
use Rattle.std.specs.BTreeSet.{contains}
use Rattle.std.specs.List.{list_any}
use Rattle.std.proofs.lemmas.Bool.{or_right}
use Rattle.std.proofs.lemmas.List.Folds.{list_any-append}
use Rattle.query_lists.specs.Groups.{first_of_each, is_of_other}
use Rattle.query_lists.specs.declared.groups.GroupedRow.{GroupedRow}

-- one of the rows is of the group
abbrev pub has_group : List GroupedRow → ℕ → Bool
has_group first group = list_any (λ (row : GroupedRow). nat_eq row.group group) first

-- those whose group none of these has
abbrev pub rows_left : List GroupedRow → List GroupedRow → List GroupedRow
rows_left first rows = filter (λ (row : GroupedRow). not (has_group first row.group)) rows

-- of none, all are left
pub none_left : (rows : List GroupedRow) → rows_left [] rows ≡ rows
none_left [] = refl
none_left (x ∷ xs) = ap (λ (rest : List GroupedRow). x ∷ rest) (none_left xs)

or_none : (b : Bool) → (b || false) ≡ b
or_none true = refl
or_none false = refl

-- what one of these has anyhow needs not be left out
passed_by : (first : List GroupedRow) (group : ℕ) (rows : List GroupedRow) → has_group first group ≡ true → rows_left first (filter (is_of_other group) rows) ≡ rows_left first rows
passed_by first group [] there = refl
passed_by first group (x ∷ xs) there =
    elim (nat_eq group x.group) as (λ b. nat_eq group x.group ≡ b
    → rows_left first (cond (not b) (x ∷ filter (is_of_other group) xs) (filter (is_of_other group) xs))
    ≡ cond (not (has_group first x.group)) (x ∷ rows_left first xs) (rows_left first xs)) [
      | true ↦ λ is.
          let there_too : has_group first x.group ≡ true = ap (has_group first) (sym (eqb-true group x.group is)) ∙ there in
          passed_by first group xs there ∙ sym (ap (λ (b : Bool). cond (not b) (x ∷ rows_left first xs) (rows_left first xs)) there_too)
      | false ↦ λ is. ap (λ (rest : List GroupedRow). cond (not (has_group first x.group)) (x ∷ rest) rest) (passed_by first group xs there)
    ] refl

-- what is left of one more is what is left of the others
taken_by : (first : List GroupedRow) (row : GroupedRow) (rows : List GroupedRow) → rows_left first (filter (is_of_other row.group) rows) ≡ rows_left (first ++ row ∷ []) rows
taken_by first row [] = refl
taken_by first row (x ∷ xs) =
    let more : List GroupedRow = rows_left (first ++ row ∷ []) xs in
    let among : has_group (first ++ row ∷ []) x.group ≡ (has_group first x.group || (nat_eq row.group x.group || false)) =
    list_any-append (λ (r : GroupedRow). nat_eq r.group x.group) first (row ∷ []) in
    elim (nat_eq row.group x.group) as (λ b. has_group (first ++ row ∷ []) x.group ≡ (has_group first x.group || (b || false))
    → rows_left first (cond (not b) (x ∷ filter (is_of_other row.group) xs) (filter (is_of_other row.group) xs))
    ≡ cond (not (has_group (first ++ row ∷ []) x.group)) (x ∷ more) more) [
      | true ↦ λ is. taken_by first row xs ∙ sym (ap (λ (b : Bool). cond (not b) (x ∷ more) more) (is ∙ or_right (has_group first x.group) true refl))
      | false ↦ λ is.
          ap (λ (rest : List GroupedRow). cond (not (has_group first x.group)) (x ∷ rest) rest) (taken_by first row xs)
          ∙ sym (ap (λ (b : Bool). cond (not b) (x ∷ more) more) (is ∙ or_none (has_group first x.group)))
    ] among

module _ (all rest first : List GroupedRow) (row : GroupedRow) (so_far : first_of_each all ≡ first ++ rows_left first (first_of_each (row ∷ rest))) where
  -- a row of a group that one has already
  pub seen_before : has_group first row.group ≡ true → first_of_each all ≡ first ++ rows_left first (first_of_each rest)
  seen_before there =
      so_far
      ∙ ap (λ (b : Bool). first ++ cond (not b) (row ∷ rows_left first (filter (is_of_other row.group) (first_of_each rest)))
      (rows_left first (filter (is_of_other row.group) (first_of_each rest)))) there
      ∙ ap (λ (l : List GroupedRow). first ++ l) (passed_by first row.group (first_of_each rest) there)

  -- one of a new group
  pub seen_first : has_group first row.group ≡ false → first_of_each all ≡ (first ++ row ∷ []) ++ rows_left (first ++ row ∷ []) (first_of_each rest)
  seen_first new =
      so_far
      ∙ ap (λ (b : Bool). first ++ cond (not b) (row ∷ rows_left first (filter (is_of_other row.group) (first_of_each rest)))
      (rows_left first (filter (is_of_other row.group) (first_of_each rest)))) new
      ∙ ap (λ (l : List GroupedRow). first ++ row ∷ l) (taken_by first row (first_of_each rest))
      ∙ sym (append_assoc first (row ∷ []) (rows_left (first ++ row ∷ []) (first_of_each rest)))

-- what isn't true is false, and the other way
pub not_true : (b : Bool) → not b ≡ true → b ≡ false
not_true true is = absurd (cc)
not_true false is = refl

pub not_false : (b : Bool) → not b ≡ false → b ≡ true
not_false true is = refl
not_false false is = absurd (cc)

-- ---- the groups seen

pub none_seen : (seen : BTreeSet ℕ) (first : List GroupedRow) → seen.keys ≡ [] → first ≡ [] → (group : ℕ) → contains nat_cmp seen group ≡ has_group first group
none_seen seen first no_keys no_rows group =
    ap (λ (ks : List ℕ). list_any (is_at (nat_cmp group)) ks) no_keys ∙ sym (ap (λ (rows : List GroupedRow). has_group rows group) no_rows)

or_last : (a b : Bool) → (a || b) ≡ (a || (b || false))
or_last a true = refl
or_last a false = refl

-- with one row more
pub seen_too : (first : List GroupedRow) (row : GroupedRow) (group : ℕ) (seen : Bool) → seen ≡ has_group first group
    → (seen || nat_eq row.group group) ≡ has_group (first ++ row ∷ []) group
seen_too first row group seen same =
    ap (λ (b : Bool). b || nat_eq row.group group) same ∙ or_last (has_group first group) (nat_eq row.group group)
    ∙ sym (list_any-append (λ (r : GroupedRow). nat_eq r.group group) first (row ∷ []))

-- a group that was seen already changes nothing
pub seen_still : (first : List GroupedRow) (its group : ℕ) (seen : Bool) → has_group first its ≡ true → seen ≡ has_group first group
    → (seen || nat_eq its group) ≡ has_group first group
seen_still first its group seen there same =
    elim (nat_eq its group) as (λ b. nat_eq its group ≡ b → (seen || b) ≡ has_group first group) [
      | true ↦ λ is. or_right seen true refl ∙ sym there ∙ ap (has_group first) (eqb-true its group is)
      | false ↦ λ is. or_none seen ∙ same
    ] refl
