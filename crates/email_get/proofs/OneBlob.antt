-- A blob id names one thing for one list of answers.
use Rattle.std.proofs.Common.{◌≡◌, ◌∙◌, ℕ, List, [], ◌∷◌, ◌++◌, Option, Some, None, Ok, refl, sym, ap, subst}
use Rattle.change_list.specs.Advance.{row_at}
use Rattle.email_bodies.specs.Asking.{BodyAsk}
use Rattle.mail_maps.specs.Rows.{Rows}
use Rattle.mail_maps.specs.declared.row.EmailRow.{EmailRow}
use Rattle.message_blobs.specs.BlobIds.{BlobRoot}
use Rattle.message_blobs.proofs.IdLemmas.{one_root_of, one_leaves_of}
use Rattle.message_blobs.proofs.LeafLemmas.{one_named}
use Rattle.email_get.specs.Asked.{ask_for}
use Rattle.email_get.specs.Blobs.{OctetsFound, FindsRoot, OfTheUploads, NoSuchEmail, BodyComes, BodyLacks, FindsLeaf, NoBody, NoRoot, NoLeaf, Named}
use Rattle.email_get.specs.Blobs.{FindsOctets, FindsBlob, NoBlobId, OfBlobId}

-- ---- one ask at the front

pub one_ask : (a b : BodyAsk) (more later : List BodyAsk) → (a ∷ []) ++ more ≡ (b ∷ []) ++ later → a ≡ b
one_ask a b more later is = let same : a ∷ more ≡ b ∷ later = is in cc

-- a body that came isn't one that didn't
pub came_or_not : (row other : EmailRow) (octets : List ℕ) (more later : List BodyAsk) → (ask_for row (Some octets) ∷ []) ++ more ≡ (ask_for other None ∷ []) ++ later → ⊥
came_or_not row other octets more later is =
    let same : Some octets ≡ None = ap (λ (a : BodyAsk). a.body) (one_ask (ask_for row (Some octets)) (ask_for other None) more later is) in
    cc

-- the same body came
pub same_body : (row other : EmailRow) (octets others : List ℕ) (more later : List BodyAsk)
    → (ask_for row (Some octets) ∷ []) ++ more ≡ (ask_for other (Some others) ∷ []) ++ later → octets ≡ others
same_body row other octets others more later is =
    let same : Some octets ≡ Some others = ap (λ (a : BodyAsk). a.body) (one_ask (ask_for row (Some octets)) (ask_for other (Some others)) more later is) in
    cc

alone : (a b : BodyAsk) → a ≡ b → a ∷ [] ≡ b ∷ []
alone a b same = ap (λ (c : BodyAsk). c ∷ []) same

-- ---- roots

module _ (emails : Rows) (uploads : List (List ℕ)) where
  gone_or_there : (n : ℕ) (row : EmailRow) → row_at emails n ≡ None → row_at emails n ≡ Some row → ⊥
  gone_or_there n row gone there = let never : None ≡ Some row = sym gone ∙ there in cc

  one_root_found : (root : BlobRoot) (asks more also later : List BodyAsk) (r s : OctetsFound) → FindsRoot emails uploads root asks r → FindsRoot emails uploads root also s
      → asks ++ more ≡ also ++ later → (asks ≡ also) × (r ≡ s)
  one_root_found _ _ more _ later _ _ (OfTheUploads id found is) (OfTheUploads _ other is_too) same =
      (refl, ap (λ (o : Option (List ℕ)). let r : OctetsFound = Ok o in r) (sym is ∙ is_too))
  one_root_found _ _ more _ later _ _ (NoSuchEmail n gone) (NoSuchEmail _ gone_too) same = (refl, refl)
  one_root_found _ _ more _ later _ _ (NoSuchEmail n gone) (BodyComes _ row octets there) same = absurd (gone_or_there n row gone there)
  one_root_found _ _ more _ later _ _ (NoSuchEmail n gone) (BodyLacks _ row there) same = absurd (gone_or_there n row gone there)
  one_root_found _ _ more _ later _ _ (BodyComes n row octets there) (NoSuchEmail _ gone) same = absurd (gone_or_there n row gone there)
  one_root_found _ _ more _ later _ _ (BodyComes n row octets there) (BodyComes _ other others there_too) same = (
    alone (ask_for row (Some octets)) (ask_for other (Some others)) (one_ask (ask_for row (Some octets)) (ask_for other (Some others)) more later same),
    ap (λ (o : List ℕ). let r : OctetsFound = Ok (Some o) in r) (same_body row other octets others more later same),
  )
  one_root_found _ _ more _ later _ _ (BodyComes n row octets there) (BodyLacks _ other there_too) same = absurd (came_or_not row other octets more later same)
  one_root_found _ _ more _ later _ _ (BodyLacks n row there) (NoSuchEmail _ gone) same = absurd (gone_or_there n row gone there)
  one_root_found _ _ more _ later _ _ (BodyLacks n row there) (BodyComes _ other others there_too) same = absurd (came_or_not other row others later more (sym same))
  one_root_found _ _ more _ later _ _ (BodyLacks n row there) (BodyLacks _ other there_too) same =
      (alone (ask_for row None) (ask_for other None) (one_ask (ask_for row None) (ask_for other None) more later same), refl)

  -- ---- leaves

  one_leaf_found : (leaves : List ℕ) (root r s : OctetsFound) → FindsLeaf leaves root r → FindsLeaf leaves root s → r ≡ s
  one_leaf_found leaves _ _ _ (NoBody e) (NoBody _) = refl
  one_leaf_found leaves _ _ _ NoRoot NoRoot = refl
  one_leaf_found leaves _ _ _ (NoLeaf octets none) (NoLeaf _ none_too) = refl
  one_leaf_found leaves _ _ _ (NoLeaf octets none) (Named _ named is) = absurd (none named is)
  one_leaf_found leaves _ _ _ (Named octets named is) (NoLeaf _ none) = absurd (none named is)
  one_leaf_found leaves _ _ _ (Named octets named is) (Named _ other is_too) =
      ap (λ (o : List ℕ). let r : OctetsFound = Ok (Some o) in r) (one_named leaves octets named other is is_too)

  one_octets_found : (root : BlobRoot) (leaves : List ℕ) (asks more also later : List BodyAsk) (r s : OctetsFound) → FindsOctets emails uploads root leaves asks r
      → FindsOctets emails uploads root leaves also s → asks ++ more ≡ also ++ later → (asks ≡ also) × (r ≡ s)
  one_octets_found root leaves asks more also later r s f g same =
      let roots = one_root_found root asks more also later f.of_root g.of_root f.finds_root g.finds_root same in
      let P : OctetsFound → Type 0 = λ o. FindsLeaf leaves o r in
      (roots.0, one_leaf_found leaves g.of_root r s (subst P roots.1 f.finds_leaf) g.finds_leaf)

  -- ---- ids

  -- what is found of an id
  pub one_blob_found : (id : List ℕ) (asks more also later : List BodyAsk) (r s : OctetsFound) → FindsBlob emails uploads id asks r → FindsBlob emails uploads id also s
      → asks ++ more ≡ also ++ later → (asks ≡ also) × (r ≡ s)
  one_blob_found id _ more _ later _ _ (NoBlobId none) (NoBlobId none_too) same = (refl, refl)
  one_blob_found id _ more also later _ s (NoBlobId none) (OfBlobId root leaves is finds) same = absurd (none root leaves is)
  one_blob_found id asks more _ later r _ (OfBlobId root leaves is finds) (NoBlobId none) same = absurd (none root leaves is)
  one_blob_found id asks more also later r s (OfBlobId root leaves is finds) (OfBlobId other others is_too finds_too) same =
      let P : BlobRoot → Type 0 = λ o. FindsOctets emails uploads o leaves asks r in
      let Q : List ℕ → Type 0 = λ ls. FindsOctets emails uploads other ls asks r in
      one_octets_found other others asks more also later r s
      (subst Q (one_leaves_of root other leaves others id is is_too) (subst P (one_root_of root other leaves others id is is_too) finds)) finds_too same
