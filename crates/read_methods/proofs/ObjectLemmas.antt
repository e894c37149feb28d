-- Rows that are shown as objects, and what is answered of them.
use Rattle.std.proofs.Common.{◌≡◌, ◌⊎◌, inl, inr, ℕ, List, [], ◌∷◌, map, true, false, cond, Option, Some, None, Result, Ok, Err, option_map, nat_cmp, refl, sym, ap, ◌∙◌}
use Rattle.std.proofs.Common.{subst}
use Rattle.std.specs.BTreeMap.{is_at}
use Rattle.std.specs.List.Sorted.{IsStrictlySortedBy}
use Rattle.std.specs.Map.{lookup, keys_of}
use Rattle.serde_json.specs.Data.{Data, string}
use Rattle.jmap_arguments.specs.Gets.{GetAsked, NumbersAsked, FoundObjects, shown_as, numbers_asked, found_in, get_data, get_answer, get_answered}
use Rattle.jmap_arguments.specs.declared.method_error.MethodError.{MethodError}
use Rattle.jmap_arguments.specs.declared.method_error.MethodError.TheVariants.{Memory}
use Rattle.jmap_arguments.proofs.GetLemmas.{at_numbers, found_by_numbers, refused_by_numbers}
use Rattle.jmap_arguments.proofs.IdLemmas.{found_is}
use Rattle.served_maps.specs.Past.{served}

module _ {R V : Type 0} (serve : R → V) (show : ℕ × V → Data) where
  -- the object of a number is that of its row
  pub object_at : (rows : List (ℕ × R)) (n : ℕ)
      → lookup (is_at (nat_cmp n)) (shown_as show (served serve rows)) ≡ option_map (λ r. show (n, serve r)) (lookup (is_at (nat_cmp n)) rows)
  object_at [] n = refl
  object_at (e ∷ es) n =
      let shown : Option R → Option Data = option_map (λ r. show (n, serve r)) in
      let rest = lookup (is_at (nat_cmp n)) es in
      ap (λ (o : Option Data). cond (is_at (nat_cmp n) e.0) (Some (show (e.0, serve e.1))) o) (object_at es n)
      ∙ elim (is_at (nat_cmp n) e.0) as (λ b. is_at (nat_cmp n) e.0 ≡ b → cond b (Some (show (e.0, serve e.1))) (shown rest) ≡ shown (cond b (Some e.1) rest)) [
        | true ↦ λ here. ap (λ (k : ℕ). let o : Option Data = Some (show (k, serve e.1)) in o) (found_is n e.0 here)
        | false ↦ λ other. refl
      ] refl

  -- no object where there is no row
  pub none_at : (rows : List (ℕ × R)) (n : ℕ) → None ≡ lookup (is_at (nat_cmp n)) rows → None ≡ lookup (is_at (nat_cmp n)) (shown_as show (served serve rows))
  none_at rows n is = ap (λ (o : Option R). option_map (λ r. show (n, serve r)) o) is ∙ sym (object_at rows n)

  -- the object of a row that is there
  pub some_at : (rows : List (ℕ × R)) (n : ℕ) (row : R) (d : Data) → Some row ≡ lookup (is_at (nat_cmp n)) rows → d ≡ show (n, serve row)
      → Some d ≡ lookup (is_at (nat_cmp n)) (shown_as show (served serve rows))
  some_at rows n row d is same =
      ap (λ (e : Data). let o : Option Data = Some e in o) same ∙ ap (λ (o : Option R). option_map (λ r. show (n, serve r)) o) is ∙ sym (object_at rows n)

  -- objects have the numbers of their rows
  pub keys_of_objects : (rows : List (ℕ × R)) → keys_of (shown_as show (served serve rows)) ≡ keys_of rows
  keys_of_objects [] = refl
  keys_of_objects (e ∷ es) = ap (λ (ks : List ℕ). e.0 ∷ ks) (keys_of_objects es)

-- ---- answers

module _ {W : Type 0} (letter : ℕ) (state : List ℕ) (objects : W → List (ℕ × Data)) (asked : Result (GetAsked W) MethodError) where
  -- what is asked of the objects is answered
  pub get_given : (ids : Option (List (List ℕ))) (wanted shown : W) (there : List ℕ) (numbers : NumbersAsked) (list : List Data) (text : List ℕ) (d : Data)
      → asked ≡ Ok (record { ids = ids; wanted = wanted }) → shown ≡ wanted → there ≡ keys_of (objects shown) → IsStrictlySortedBy nat_cmp there
      → numbers_asked letter there ids ≡ Ok numbers → list ≡ at_numbers (objects shown) numbers.numbers → text ≡ state → d ≡ get_data text list (map string numbers.missing)
      → get_answered letter state objects asked ≡ Ok d
  get_given ids wanted shown there numbers list text d is same there_is sorted numbers_are list_is text_is d_is =
      let S : List ℕ → Type 0 = λ ks. IsStrictlySortedBy nat_cmp ks in
      let asked_there = ap (λ (ks : List ℕ). numbers_asked letter ks ids) (sym there_is) ∙ numbers_are in
      let found = found_by_numbers letter (objects shown) ids numbers list (subst S there_is sorted) asked_there list_is in
      let answer : List ℕ → Result Data MethodError = λ t. Ok (get_data t list (map string numbers.missing)) in
      ap (λ (a : Result (GetAsked W) MethodError). get_answered letter state objects a) is
      ∙ ap (λ (w : W). get_answer state (found_in letter (objects w) ids)) (sym same)
      ∙ ap (λ (r : Result FoundObjects MethodError). get_answer state r) found
      ∙ ap answer (sym text_is)
      ∙ ap (λ (o : Data). let a : Result Data MethodError = Ok o in a) (sym d_is)

  -- what is refused of the numbers is refused
  pub get_refused : (ids : Option (List (List ℕ))) (wanted : W) (there : List ℕ) (e : MethodError)
      → asked ≡ Ok (record { ids = ids; wanted = wanted }) → there ≡ keys_of (objects wanted) → (e ≡ Memory) ⊎ (numbers_asked letter there ids ≡ Err e)
      → (e ≡ Memory) ⊎ (get_answered letter state objects asked ≡ Err e)
  get_refused ids wanted there e is there_is (inl memory) = inl memory
  get_refused ids wanted there e is there_is (inr refused) =
      inr (ap (λ (a : Result (GetAsked W) MethodError). get_answered letter state objects a) is
      ∙ ap (λ (r : Result FoundObjects MethodError). get_answer state r)
      (refused_by_numbers letter (objects wanted) ids e (ap (λ (ks : List ℕ). numbers_asked letter ks ids) (sym there_is) ∙ refused)))
