-- What a map and a queue of ids stand for after an upload has come or gone.
use Rattle.std.proofs.Common.{◌≡◌, ◌≢◌, ℕ, ◌+◌, true, false, cond, if◌then◌else◌, List, [], ◌∷◌, ◌++◌, length, Option, None, Some, option_to_list, refl, sym, ap, subst}
use Rattle.std.proofs.Common.{◌∙◌, true≢false, arith}
use Rattle.std.specs.Str.{bytes_eq}
use Rattle.std.proofs.lemmas.Slice.Eq.{bytes_eq-Decides}
use Rattle.std.specs.Cmp.Lexicographic.{unequal}
use Rattle.std.specs.Prelude.{nat_eq}
use Rattle.sha2.specs.Sha256.{sha256}
use Rattle.sha2.proofs.Facts256.{length-sha256}
use Rattle.hex.specs.Hex.{lower_digits}
use Rattle.hex.proofs.HexLemmas.{length-encode_with}
use Rattle.blob_store.specs.Uploads.{blob_id, upload_with, octets_in_all}
use Rattle.blob_store.specs.reading.Kept.{gathered, AreNamed, AreDistinct, AreKept}

-- an id has 65 octets
pub length-blob_id : (u : List ℕ) → length (blob_id u) ≡ 65
unfolding blob_id
length-blob_id u = omega (arith, length-encode_with lower_digits (sha256 u), length-sha256 u)

-- texts that differ do so either way
other_way : (a b : List ℕ) → bytes_eq a b ≡ false → bytes_eq b a ≡ false
other_way a b differ = elim (bytes_eq b a) as (λ t. bytes_eq b a ≡ t
    → t ≡ false) [ true ↦ λ is. absurd (true≢false (sym ((bytes_eq-Decides a b).1 (sym ((bytes_eq-Decides b a).0 is))) ∙ differ)) | false ↦ λ _. refl ] refl

-- where no upload has an id, the first has another, and none of the others has it
missing : (id u : List ℕ) (us : List (List ℕ)) → upload_with id (u ∷ us) ≡ None → (bytes_eq id (blob_id u) ≡ false) × (upload_with id us ≡ None)
missing id u us none = elim (bytes_eq id (blob_id u)) as (λ t. (if t then Some u else upload_with id us) ≡ None → (t ≡ false)
    × (upload_with id us ≡ None)) [ true ↦ λ e. absurd (cc) | false ↦ λ e. (refl, e) ] none

-- the first of two that is there
abbrev else_this : Option (List ℕ) → Option (List ℕ) → Option (List ℕ)
else_this None o = o
else_this (Some u) o = Some u

-- an upload at the end is found where no other has its id
with_last : (id u : List ℕ) (us : List (List ℕ)) → upload_with id (us ++ u ∷ []) ≡ else_this (upload_with id us) (if bytes_eq id (blob_id u) then Some u else None)
with_last id u [] = refl
with_last id u (v ∷ us) = elim (bytes_eq id (blob_id v)) as (λ t. (if t then Some v else upload_with id (us ++ u ∷ []))
    ≡ else_this (if t then Some v else upload_with id us) (if bytes_eq id (blob_id u) then Some u else None)) [ true ↦ refl | false ↦ with_last id u us ]

else_none : (o : Option (List ℕ)) → else_this o None ≡ o
else_none None = refl
else_none (Some u) = refl

-- uploads stay distinct with a further one at the end
distinct_with : (u : List ℕ) (us : List (List ℕ)) → AreDistinct us → upload_with (blob_id u) us ≡ None → AreDistinct (us ++ u ∷ [])
distinct_with u [] _ _ = (refl, tt)
distinct_with u (v ∷ us) d none =
    let m = missing (blob_id u) v us none in (
      with_last (blob_id v) u us ∙ ap (λ o. else_this o (if bytes_eq (blob_id v) (blob_id u) then Some u else None)) d.0
          ∙ ap (λ t. if t then Some u else None) (other_way (blob_id u) (blob_id v) m.0),
      distinct_with u us d.1 m.1,
    )

-- the octets of uploads and one more
pub octets_of-push : (us : List (List ℕ)) (u : List ℕ) → octets_in_all (us ++ u ∷ []) ≡ octets_in_all us + length u
octets_of-push [] u = omega arith
octets_of-push (v ∷ us) u = omega (arith, octets_of-push us u)

module _ (before after : List ℕ → Option (List ℕ)) (key : List ℕ) where
  -- what other ids have stays
  others_stay : ((id : List ℕ) → bytes_eq key id ≡ false → after id ≡ before id) → (ids : List (List ℕ)) → AreNamed before ids → upload_with key (gathered before ids) ≡ None
      → AreNamed after ids × (gathered after ids ≡ gathered before ids)
  others_stay other [] named none = (tt, refl)
  others_stay other (id ∷ ids) named none =
      let u = named.0.0 in
      let here : gathered before (id ∷ ids) ≡ u ∷ gathered before ids = ap (λ o. option_to_list o ++ gathered before ids) named.0.1 in
      let m = missing key u (gathered before ids) (ap (upload_with key) (sym here) ∙ none) in
      let same = other id (ap (bytes_eq key) (sym named.0.2) ∙ m.0) in
      let rest = others_stay other ids named.1 m.1 in
      (((u, same ∙ named.0.1, named.0.2), rest.0), λ i. option_to_list (same i) ++ rest.1 i)

  -- the oldest upload, and what stands without it
  pub record Without (ids : List (List ℕ)) : Type 0 where
    pub oldest : List ℕ
    pub had : before key ≡ Some oldest
    pub all : gathered before (key ∷ ids) ≡ oldest ∷ gathered after ids
    pub kept : AreKept after ids

  pub popped : (ids : List (List ℕ)) → AreKept before (key ∷ ids) → ((id : List ℕ) → after id ≡ cond (bytes_eq key id) None (before id)) → Without ids
  popped ids kept gone =
      let u = kept.named.0.0 in
      let own = kept.named.0.2 in
      let rest = gathered before ids in
      let all : gathered before (key ∷ ids) ≡ u ∷ rest = ap (λ o. option_to_list o ++ rest) kept.named.0.1 in
      let distinct = subst AreDistinct all kept.distinct in
      let none : upload_with key rest ≡ None = ap (λ id. upload_with id rest) (sym own) ∙ distinct.0 in
      let other : (id : List ℕ) → bytes_eq key id ≡ false → after id ≡ before id = λ id differ. gone id ∙ ap (λ t. cond t None (before id)) differ in
      let stay = others_stay other ids kept.named.1 none in
      record {
        oldest = u;
        had = kept.named.0.1;
        all = all ∙ ap (λ us. u ∷ us) (sym stay.1);
        kept = record {
          named = stay.0;
          distinct = subst AreDistinct (sym stay.1) distinct.1;
          found = λ id. elim (bytes_eq key id) as (λ t. bytes_eq key id ≡ t → after id ≡ upload_with id (gathered after ids)) [
            | true ↦ λ is. gone id ∙ ap (λ t. cond t None (before id)) is ∙ sym none ∙ ap (λ x. upload_with x rest) ((bytes_eq-Decides key id).0 is)
                ∙ ap (upload_with id) (sym stay.1)
            | false ↦ λ differ. other id differ ∙ kept.found id ∙ ap (upload_with id) all
                ∙ ap (λ t. if t then Some u else upload_with id rest) (ap (bytes_eq id) own ∙ other_way key id differ) ∙ ap (upload_with id) (sym stay.1)
          ] refl;
        };
      }

module _ (before after : List ℕ → Option (List ℕ)) (u : List ℕ) where
  -- an id more at the end is an upload more at the end
  named_with : after (blob_id u) ≡ Some u → (ids : List (List ℕ)) → AreNamed after ids
      → AreNamed after (ids ++ blob_id u ∷ []) × (gathered after (ids ++ blob_id u ∷ []) ≡ gathered after ids ++ u ∷ [])
  named_with is [] named = (((u, is, refl), tt), ap (λ o. option_to_list o ++ []) is)
  named_with is (id ∷ ids) named =
      let rest = named_with is ids named.1 in
      let here = ap (λ o. option_to_list o) named.0.1 in
      ((named.0, rest.0), (λ i. here i ++ rest.1 i) ∙ ap (λ us. (us ++ gathered after ids) ++ u ∷ []) (sym here))

  -- what stands with a further upload
  pub record With (ids : List (List ℕ)) : Type 0 where
    pub all : gathered after (ids ++ blob_id u ∷ []) ≡ gathered before ids ++ u ∷ []
    pub kept : AreKept after (ids ++ blob_id u ∷ [])

  pub pushed : (ids : List (List ℕ)) → AreKept before ids → upload_with (blob_id u) (gathered before ids) ≡ None
      → ((id : List ℕ) → after id ≡ cond (bytes_eq (blob_id u) id) (Some u) (before id)) → With ids
  pushed ids kept none more =
      let key = blob_id u in
      let us = gathered before ids in
      let other : (id : List ℕ) → bytes_eq key id ≡ false → after id ≡ before id = λ id differ. more id ∙ ap (λ t. cond t (Some u) (before id)) differ in
      let stay = others_stay before after key other ids kept.named none in
      let is : after key ≡ Some u = more key ∙ ap (λ t. cond t (Some u) (before key)) ((bytes_eq-Decides key key).1 refl) in
      let grown = named_with is ids stay.0 in
      let all = grown.1 ∙ ap (λ xs. xs ++ u ∷ []) stay.1 in
      record {
        all = all;
        kept = record {
          named = grown.0;
          distinct = subst AreDistinct (sym all) (distinct_with u us kept.distinct none);
          found = λ id. elim (bytes_eq key id) as (λ t. bytes_eq key id ≡ t → after id ≡ upload_with id (gathered after (ids ++ key ∷ []))) [
            | true ↦ λ same.
                let eq = (bytes_eq-Decides key id).0 same in
                more id ∙ ap (λ t. cond t (Some u) (before id)) same
                ∙ sym (ap (λ t. if t then Some u else None) ((bytes_eq-Decides id key).1 (sym eq)))
                ∙ sym (ap (λ o. else_this o (if bytes_eq id key then Some u else None)) (ap (λ x. upload_with x us) (sym eq) ∙ none))
                ∙ sym (with_last id u us) ∙ ap (upload_with id) (sym all)
            | false ↦ λ differ.
                other id differ ∙ kept.found id ∙ sym (else_none (upload_with id us))
                ∙ sym (ap (λ t. else_this (upload_with id us) (if t then Some u else None)) (other_way key id differ))
                ∙ sym (with_last id u us) ∙ ap (upload_with id) (sym all)
          ] refl;
        };
      }

-- no upload has an id of another length than 65
pub no_other_length : (id : List ℕ) (us : List (List ℕ)) → (length id ≢ 65) → upload_with id us ≡ None
no_other_length id [] other = refl
no_other_length id (u ∷ us) other =
    let differ : bytes_eq id (blob_id u) ≡ false = unequal nat_eq id (blob_id u) (λ same. other (same ∙ length-blob_id u)) in
    ap (λ t. if t then Some u else upload_with id us) differ ∙ no_other_length id us other
