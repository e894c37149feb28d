-- Texts, each once: a set of those seen, and those that are left.
use Rattle.std.proofs.Common.{◌≡◌, ℕ, List, [], ◌∷◌, ◌++◌, map, Bool, true, false, not, ◌||◌, cond, Bor, Ordering, Less, Equal, Greater, nat_cmp}
use Rattle.std.proofs.Common.{refl, sym, ap, ◌∙◌, append_assoc}
use Rattle.std.specs.Bool.{one_answer}
use Rattle.std.specs.BTreeMap.{is_at}
use Rattle.std.specs.BTreeSet.{insert_key}
use Rattle.std.specs.Cmp.Lexicographic.{slice_cmp}
use Rattle.std.specs.List.{filter, list_any}
use Rattle.std.specs.Ordering.{match_ordering}
use Rattle.std.specs.Str.{bytes_eq}
use Rattle.std.proofs.lemmas.Bool.{or_right}
use Rattle.std.proofs.lemmas.List.Folds.{list_any-append}
use Rattle.std.proofs.lemmas.Map.Lookups.{exact_bytes}
use Rattle.std.proofs.lemmas.Map.Text.{is_eq-slice_cmp}
use Rattle.std.proofs.lemmas.Slice.Eq.{bytes_eq-Decides}
use Rattle.jmap_arguments.specs.Arguments.{is_among}
use Rattle.jmap_arguments.specs.Gets.{distinct_ids}

-- what isn't true is false, and the other way
pub not_true : (b : Bool) → not b ≡ true → b ≡ false
not_true true is = absurd (cc)
not_true false is = refl

pub not_false : (b : Bool) → not b ≡ false → b ≡ true
not_false true is = refl
not_false false is = absurd (cc)

or_none : (b : Bool) → (b || false) ≡ b
or_none true = refl
or_none false = refl

or_twice : (a b : Bool) → (a || b) ≡ (a || (a || b))
or_twice true b = refl
or_twice false b = refl

or_turned : (a b c : Bool) → (a || (b || c)) ≡ (b || (a || c))
or_turned true true c = refl
or_turned true false c = refl
or_turned false true c = refl
or_turned false false c = refl

or_last : (a b : Bool) → (a || b) ≡ (b || (a || false))
or_last true true = refl
or_last true false = refl
or_last false true = refl
or_last false false = refl

bytes_eq-turned : (a b : List ℕ) → bytes_eq a b ≡ bytes_eq b a
bytes_eq-turned a b =
    one_answer {P = a ≡ b} (bytes_eq a b) (bytes_eq b a) (bytes_eq-Decides a b)
    (λ same. sym ((bytes_eq-Decides b a).0 same), λ is. (bytes_eq-Decides b a).1 (sym is))

-- ---- a set of texts

abbrev text_cmp : Bor (List ℕ) → Bor (List ℕ) → Ordering
text_cmp a b = slice_cmp nat_cmp a.now b.now

-- it has a text where one of its keys is the text
pub any_key : (text : List ℕ) (keys : List (Bor (List ℕ)))
    → list_any (is_at (λ (k : Bor (List ℕ)). slice_cmp nat_cmp text k.now)) keys ≡ is_among text (map (λ (k : Bor (List ℕ)). k.now) keys)
any_key text [] = refl
any_key text (k ∷ ks) =
    ap (λ (b : Bool). b || list_any (is_at (λ (x : Bor (List ℕ)). slice_cmp nat_cmp text x.now)) ks) (is_eq-slice_cmp text k.now ∙ bytes_eq-turned text k.now)
    ∙ ap (λ (b : Bool). bytes_eq k.now text || b) (any_key text ks)

-- a key that is put in is there beside those that were
pub key_put : (text : List ℕ) (key : Bor (List ℕ)) (keys : List (Bor (List ℕ)))
    → is_among text (map (λ (k : Bor (List ℕ)). k.now) (insert_key text_cmp keys key)) ≡ (bytes_eq key.now text || is_among text (map (λ (k : Bor (List ℕ)). k.now) keys))
key_put text key [] = refl
key_put text key (k ∷ ks) = by (slice_cmp nat_cmp key.now k.now) refl (key_put text key ks)
  where
    by : (o : Ordering) → slice_cmp nat_cmp key.now k.now ≡ o
        → is_among text (map (λ (x : Bor (List ℕ)). x.now) (insert_key text_cmp ks key)) ≡ (bytes_eq key.now text || is_among text (map (λ (x : Bor (List ℕ)). x.now) ks))
        → is_among text (map (λ (x : Bor (List ℕ)). x.now) (match_ordering o (key ∷ k ∷ ks) (k ∷ ks) (k ∷ insert_key text_cmp ks key)))
        ≡ (bytes_eq key.now text || (bytes_eq k.now text || is_among text (map (λ (x : Bor (List ℕ)). x.now) ks)))
    by Less is rest = refl
    by Equal is rest =
        or_twice (bytes_eq k.now text) (is_among text (map (λ (x : Bor (List ℕ)). x.now) ks))
        ∙ ap (λ (t : List ℕ). bytes_eq t text || (bytes_eq k.now text || is_among text (map (λ (x : Bor (List ℕ)). x.now) ks))) (sym (exact_bytes key.now k.now is))
    by Greater is rest =
        ap (λ (b : Bool). bytes_eq k.now text || b) rest
        ∙ or_turned (bytes_eq k.now text) (bytes_eq key.now text) (is_among text (map (λ (x : Bor (List ℕ)). x.now) ks))

-- ---- each text once

-- those that aren't among these
abbrev pub left_of : List (List ℕ) → List (List ℕ) → List (List ℕ)
left_of once ids = filter (λ id. not (is_among id once)) ids

-- of none, all are left
pub none_left : (ids : List (List ℕ)) → left_of [] ids ≡ ids
none_left [] = refl
none_left (x ∷ xs) = ap (λ (rest : List (List ℕ)). x ∷ rest) (none_left xs)

-- those other than this one
abbrev others : List ℕ → List (List ℕ) → List (List ℕ)
others id ids = filter (λ other. not (bytes_eq id other)) ids

-- what is among these anyhow needs not be left out
passed_by : (once : List (List ℕ)) (id : List ℕ) (ids : List (List ℕ)) → is_among id once ≡ true → left_of once (others id ids) ≡ left_of once ids
passed_by once id [] there = refl
passed_by once id (x ∷ xs) there =
    elim (bytes_eq id x) as (λ b. bytes_eq id x ≡ b
    → left_of once (cond (not b) (x ∷ others id xs) (others id xs)) ≡ cond (not (is_among x once)) (x ∷ left_of once xs) (left_of once xs)) [
      | true ↦ λ is.
          let there_too : is_among x once ≡ true = ap (λ (o : List ℕ). is_among o once) (sym ((bytes_eq-Decides id x).0 is)) ∙ there in
          passed_by once id xs there ∙ sym (ap (λ (b : Bool). cond (not b) (x ∷ left_of once xs) (left_of once xs)) there_too)
      | false ↦ λ is. ap (λ (rest : List (List ℕ)). cond (not (is_among x once)) (x ∷ rest) rest) (passed_by once id xs there)
    ] refl

-- what is left of one more is what is left of the others
taken_by : (once : List (List ℕ)) (id : List ℕ) (ids : List (List ℕ)) → left_of once (others id ids) ≡ left_of (once ++ id ∷ []) ids
taken_by once id [] = refl
taken_by once id (x ∷ xs) =
    let more : List (List ℕ) = left_of (once ++ id ∷ []) xs in
    let among : is_among x (once ++ id ∷ []) ≡ (is_among x once || (bytes_eq id x || false)) = list_any-append (λ (n : List ℕ). bytes_eq n x) once (id ∷ []) in
    elim (bytes_eq id x) as (λ b. is_among x (once ++ id ∷ []) ≡ (is_among x once || (b || false))
    → left_of once (cond (not b) (x ∷ others id xs) (others id xs)) ≡ cond (not (is_among x (once ++ id ∷ []))) (x ∷ more) more) [
      | true ↦ λ is. taken_by once id xs ∙ sym (ap (λ (b : Bool). cond (not b) (x ∷ more) more) (is ∙ or_right (is_among x once) true refl))
      | false ↦ λ is.
          ap (λ (rest : List (List ℕ)). cond (not (is_among x once)) (x ∷ rest) rest) (taken_by once id xs)
          ∙ sym (ap (λ (b : Bool). cond (not b) (x ∷ more) more) (is ∙ or_none (is_among x once)))
    ] among

module _ (all rest : List (List ℕ)) (id : List ℕ) (once : List (List ℕ)) (so_far : distinct_ids all ≡ once ++ left_of once (distinct_ids (id ∷ rest))) where
  -- an id that was there already
  pub seen_before : is_among id once ≡ true → distinct_ids all ≡ once ++ left_of once (distinct_ids rest)
  seen_before there =
      so_far
      ∙ ap (λ (b : Bool). once ++ cond (not b) (id ∷ left_of once (others id (distinct_ids rest))) (left_of once (others id (distinct_ids rest)))) there
      ∙ ap (λ (l : List (List ℕ)). once ++ l) (passed_by once id (distinct_ids rest) there)

  -- one that is new
  pub seen_first : is_among id once ≡ false → distinct_ids all ≡ (once ++ id ∷ []) ++ left_of (once ++ id ∷ []) (distinct_ids rest)
  seen_first new =
      so_far
      ∙ ap (λ (b : Bool). once ++ cond (not b) (id ∷ left_of once (others id (distinct_ids rest))) (left_of once (others id (distinct_ids rest)))) new
      ∙ ap (λ (l : List (List ℕ)). once ++ id ∷ l) (taken_by once id (distinct_ids rest))
      ∙ sym (append_assoc once (id ∷ []) (left_of (once ++ id ∷ []) (distinct_ids rest)))

-- the set has what was seen
pub seen_too : (keys once : List (List ℕ)) (id text : List ℕ) → is_among text keys ≡ is_among text once
    → (bytes_eq id text || is_among text keys) ≡ is_among text (once ++ id ∷ [])
seen_too keys once id text same =
    ap (λ (b : Bool). bytes_eq id text || b) same ∙ or_last (bytes_eq id text) (is_among text once)
    ∙ sym (list_any-append (λ (n : List ℕ). bytes_eq n text) once (id ∷ []))

-- so one that was seen already changes nothing
pub seen_still : (keys once : List (List ℕ)) (id text : List ℕ) → is_among id keys ≡ true → is_among text keys ≡ is_among text once
    → (bytes_eq id text || is_among text keys) ≡ is_among text once
seen_still keys once id text there same =
    elim (bytes_eq id text) as (λ b. bytes_eq id text ≡ b → (b || is_among text keys) ≡ is_among text once) [
      | true ↦ λ is. sym there ∙ ap (λ (t : List ℕ). is_among t keys) ((bytes_eq-Decides id text).0 is) ∙ same
      | false ↦ λ is. same
    ] refl
