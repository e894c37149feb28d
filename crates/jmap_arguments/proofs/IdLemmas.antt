-- Ids and the numbers that they name.
use Rattle.std.proofs.Common.{◌≡◌, ◌≢◌, ◌<◌, ◌^◌, inl, inr, ℕ, List, [], ◌∷◌, Bool, true, false, ◌||◌, cond, Option, Some, None, decimal}
use Rattle.std.proofs.Common.{nat_cmp, refl, sym, ap, ◌∙◌, arith}
use Rattle.std.specs.BTreeMap.{is_at}
use Rattle.std.specs.List.{All, find}
use Rattle.std.specs.Option.{IfSome}
use Rattle.std.specs.Str.{bytes_eq}
use Rattle.std.proofs.lemmas.Bool.Decides.{eqb_tells}
use Rattle.std.proofs.lemmas.Fmt.{decimal_injective}
use Rattle.std.proofs.lemmas.Grind.{common_steps}
use Rattle.std.proofs.lemmas.List.Elements.{All-head, All-tail}
use Rattle.std.proofs.lemmas.Slice.Eq.{bytes_eq-Decides}
use Rattle.jmap_arguments.specs.Gets.{is_number}
use Rattle.jmap_arguments.specs.Ids.{id_text}

abbrev rest_of : List ℕ → List ℕ
rest_of [] = []
rest_of (c ∷ cs) = cs

-- the number after the letter is the one that the id names
pub named_by : (letter : ℕ) (text digits : List ℕ) (r : Option ℕ) → text ≡ letter ∷ digits → IfSome r (λ n. digits ≡ decimal n) → IfSome r (λ n. text ≡ id_text letter n)
named_by letter text digits None cut is = tt
named_by letter text digits (Some n) cut is = cut ∙ ap (λ (ds : List ℕ). letter ∷ ds) is

-- what stands after the letter
pub digits_of : (letter n : ℕ) (text digits : List ℕ) → text ≡ letter ∷ digits → text ≡ id_text letter n → digits ≡ decimal n
digits_of letter n text digits cut is = ap rest_of (sym cut ∙ is)

-- an id names one number
one_number : (letter k n : ℕ) → k < 2 ^ 64 → n < 2 ^ 64 → id_text letter k ≡ id_text letter n → k ≡ n
one_number letter k n small fits is = decimal_injective k n small fits (ap rest_of is)

-- a number is at its equal alone
pub found_is : (n k : ℕ) → is_at (nat_cmp n) k ≡ true → k ≡ n
found_is n k is = grind (arith, common_steps)

-- and there it is
pub is_here : (n k : ℕ) → k ≡ n → is_at (nat_cmp n) k ≡ true
is_here n k is = grind (arith, common_steps)

is_not : (letter k : ℕ) (id : List ℕ) → id ≢ id_text letter k → bytes_eq (id_text letter k) id ≡ false
is_not letter k id other = elim (bytes_eq (id_text letter k) id) as (λ b. bytes_eq (id_text letter k) id ≡ b → b ≡ false) [
  | true ↦ λ is. absurd (other (sym ((bytes_eq-Decides (id_text letter k) id).0 is)))
  | false ↦ λ is. refl
] refl

-- by its id a number is found where it is there
found_by_id : (letter n : ℕ) (ks : List ℕ) → n < 2 ^ 64 → All (λ k. k < 2 ^ 64) ks
    → find (λ k. bytes_eq (id_text letter k) (id_text letter n)) ks ≡ cond (is_number ks n) (Some n) None
found_by_id letter n [] fits small = refl
found_by_id letter n (k ∷ ks) fits small =
    let rest : Option ℕ = find (λ m. bytes_eq (id_text letter m) (id_text letter n)) ks in
    elim (eqb_tells k n) [
      | inl is ↦
          ap (λ (b : Bool). cond b (Some k) rest) ((bytes_eq-Decides (id_text letter k) (id_text letter n)).1 (ap (λ (m : ℕ). id_text letter m) is.1))
          ∙ ap (λ (m : ℕ). let o : Option ℕ = Some m in o) is.1
          ∙ sym (ap (λ (b : Bool). cond (b || is_number ks n) (Some n) None) is.0)
      | inr is ↦
          ap (λ (b : Bool). cond b (Some k) rest)
          (is_not letter k (id_text letter n) (λ same. is.1 (sym (one_number letter n k fits (All-head (λ m. m < 2 ^ 64) k ks small) same))))
          ∙ found_by_id letter n ks fits (All-tail (λ m. m < 2 ^ 64) k ks small)
          ∙ sym (ap (λ (b : Bool). cond (b || is_number ks n) (Some n) None) is.0)
    ]

-- so a number that is there is found by its id
pub number_found : (letter n : ℕ) (id : List ℕ) (ks : List ℕ) → n < 2 ^ 64 → All (λ k. k < 2 ^ 64) ks → id ≡ id_text letter n → is_number ks n ≡ true
    → Some n ≡ find (λ k. bytes_eq (id_text letter k) id) ks
number_found letter n id ks fits small named there =
    sym (ap (λ (text : List ℕ). find (λ k. bytes_eq (id_text letter k) text) ks) named ∙ found_by_id letter n ks fits small
    ∙ ap (λ (b : Bool). cond b (Some n) None) there)

-- one that isn't there is not
pub number_missed : (letter n : ℕ) (id : List ℕ) (ks : List ℕ) → n < 2 ^ 64 → All (λ k. k < 2 ^ 64) ks → id ≡ id_text letter n → is_number ks n ≡ false
    → None ≡ find (λ k. bytes_eq (id_text letter k) id) ks
number_missed letter n id ks fits small named none =
    sym (ap (λ (text : List ℕ). find (λ k. bytes_eq (id_text letter k) text) ks) named ∙ found_by_id letter n ks fits small
    ∙ ap (λ (b : Bool). cond b (Some n) None) none)

-- and no number is found by a text that is none's id
pub none_by_id : (letter : ℕ) (id : List ℕ) (ks : List ℕ) → ((n : ℕ) → n < 2 ^ 64 → id ≢ id_text letter n) → All (λ k. k < 2 ^ 64) ks
    → find (λ k. bytes_eq (id_text letter k) id) ks ≡ None
none_by_id letter id [] never small = refl
none_by_id letter id (k ∷ ks) never small =
    ap (λ (b : Bool). cond b (Some k) (find (λ m. bytes_eq (id_text letter m) id) ks)) (is_not letter k id (never k (All-head (λ m. m < 2 ^ 64) k ks small)))
    ∙ none_by_id letter id ks never (All-tail (λ m. m < 2 ^ 64) k ks small)
