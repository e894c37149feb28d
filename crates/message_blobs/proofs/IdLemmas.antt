-- Blob ids: where one is cut, that it is one alone, and those of leaves.
use Rattle.std.proofs.Common.{arith, ◌≡◌, ◌≢◌, ℕ, ◌<◌, ◌≤◌, ◌^◌, true, List, [], ◌∷◌, ◌++◌, length, decimal, refl, sym, ap, ◌∙◌, subst, append_assoc}
use Rattle.std.specs.List.{flat_map}
use Rattle.std.proofs.lemmas.Fmt.{decimal_injective}
use Rattle.std.proofs.lemmas.Grind.{flat_map-append}
use Rattle.std.proofs.lemmas.List.{append-nil, length-append}
use Rattle.text_words.specs.Cuts.{Each, front, back}
use Rattle.text_words.specs.Sequence.{Sequence}
use Rattle.text_words.proofs.CutLemmas.{SameCut, front_back, front_is, back_is}
use Rattle.text_words.proofs.SequenceLemmas.{one_reading}
use Rattle.message_blobs.specs.BlobIds.{BlobRoot, OfEmail, OfUpload, root_text, leaf_text, is_lower_hex, IsUploadId, IsRoot, AreLeafNumbers, IsBlobId}
use Rattle.message_blobs.specs.declared.leaf_numbers.TheConstants.{MAX_LEAVES}
use Rattle.message_blobs.specs.reading.NumberReading.{is_no_mark, IsNumberBefore}
use Rattle.message_blobs.proofs.NumberLemmas.{decimal_no_mark, stops_number, numbers_determined, numbers_row, row_text, row_numbers, first_of, rest_of}

-- ---- roots

hex_no_mark : (c : ℕ) → is_lower_hex c ≡ true → is_no_mark c ≡ true
hex_no_mark c h = grind arith

digits_no_mark : (ds : List ℕ) → Each is_lower_hex ds → Each is_no_mark ds
digits_no_mark [] h = tt
digits_no_mark (c ∷ cs) h = (hex_no_mark c h.0, digits_no_mark cs h.1)

-- no root has a mark
root_no_mark : (root : BlobRoot) → IsRoot root → Each is_no_mark (root_text root)
root_no_mark (OfEmail n) fits = (refl, decimal_no_mark n fits)
root_no_mark (OfUpload id) is = let P : List ℕ → Type 0 = λ u. Each is_no_mark u in subst P (sym is.whole) (refl, digits_no_mark is.digits is.are_lower_hex)

-- a text is one root's
one_root : (r s : BlobRoot) → IsRoot r → IsRoot s → root_text r ≡ root_text s → r ≡ s
one_root (OfEmail m) (OfEmail n) i j e = ap OfEmail (decimal_injective m n i j (ap rest_of e))
one_root (OfEmail m) (OfUpload id) i j e = absurd (let w = ap first_of (e ∙ j.whole) in omega (arith, w))
one_root (OfUpload id) (OfEmail n) i j e = absurd (let w = ap first_of (sym i.whole ∙ e) in omega (arith, w))
one_root (OfUpload a) (OfUpload b) i j e = ap OfUpload e

-- a text that is no upload's id and no Email's number is no root's
pub no_root : (t : List ℕ) → (IsUploadId t → ⊥) → ((n : ℕ) → n < 2 ^ 64 → t ≢ 114 ∷ decimal n) → (root : BlobRoot) → IsRoot root → t ≢ root_text root
no_root t upload number (OfEmail n) fits e = number n fits e
no_root t upload number (OfUpload id) is e = let P : List ℕ → Type 0 = λ u. IsUploadId u in upload (subst P (sym e) is)

-- ---- ids

-- a blob id is cut where its numbers begin
pub id_cut : (root : BlobRoot) (ns text : List ℕ) → IsBlobId root ns text → SameCut (front is_no_mark text) (root_text root) (back is_no_mark text) (flat_map leaf_text ns)
id_cut root ns text i = record {
  front = ap (front is_no_mark) i.spelled ∙ front_is is_no_mark (root_text root) (flat_map leaf_text ns) (root_no_mark root i.is_root) (stops_number ns);
  back = ap (back is_no_mark) i.spelled ∙ back_is is_no_mark (root_text root) (flat_map leaf_text ns) (root_no_mark root i.is_root) (stops_number ns);
}

-- a row of numbers stands behind the root of a blob id
pub id_row : (root : BlobRoot) (ns text rest : List ℕ) → IsBlobId root ns text → rest ≡ back is_no_mark text → Sequence IsNumberBefore ns rest
id_row root ns text rest i e =
    let S : List ℕ → Type 0 = λ u. Sequence IsNumberBefore ns u in
    subst S (sym (e ∙ (id_cut root ns text i).back)) (numbers_row ns i.are_numbers)

-- a root and a row of numbers are a blob id
pub id_from : (root : BlobRoot) (ns text front_text rest : List ℕ) → front_text ≡ front is_no_mark text → rest ≡ back is_no_mark text → IsRoot root → front_text ≡ root_text root
    → Sequence IsNumberBefore ns rest → length ns ≤ MAX_LEAVES → IsBlobId root ns text
id_from root ns text front_text rest f b is e s few = record {
  spelled = front_back is_no_mark text ∙ ap (λ (u : List ℕ). u ++ back is_no_mark text) (sym f ∙ e) ∙ ap (λ (u : List ℕ). root_text root ++ u) (sym b ∙ row_text ns rest s);
  is_root = is;
  are_numbers = row_numbers ns rest s;
  few = few;
}

-- a text is the blob id of one root
pub one_root_of : (r s : BlobRoot) (ns ms text : List ℕ) → IsBlobId r ns text → IsBlobId s ms text → r ≡ s
one_root_of r s ns ms text i j = one_root r s i.is_root j.is_root (sym (id_cut r ns text i).front ∙ (id_cut s ms text j).front)

-- and of one list of leaves
pub one_leaves_of : (r s : BlobRoot) (ns ms text : List ℕ) → IsBlobId r ns text → IsBlobId s ms text → ns ≡ ms
one_leaves_of r s ns ms text i j =
    one_reading numbers_determined ns ms (back is_no_mark text) (id_row r ns text (back is_no_mark text) i refl) (id_row s ms text (back is_no_mark text) j refl)

-- ---- leaves

numbers_more : (ns : List ℕ) (n : ℕ) → AreLeafNumbers ns → 1 ≤ n → n < 2 ^ 64 → AreLeafNumbers (ns ++ n ∷ [])
numbers_more [] n are some fits = (some, fits, tt)
numbers_more (m ∷ ns) n are some fits = (are.0, are.1, numbers_more ns n are.2 some fits)

-- a leaf's blob id
pub leaf_id : (root : BlobRoot) (ns : List ℕ) (n : ℕ) (text : List ℕ) → IsBlobId root ns text → length ns < MAX_LEAVES → 1 ≤ n → n < 2 ^ 64
    → IsBlobId root (ns ++ n ∷ []) (text ++ leaf_text n)
leaf_id root ns n text i few some fits = record {
  spelled =
      ap (λ (u : List ℕ). u ++ leaf_text n) i.spelled ∙ append_assoc (root_text root) (flat_map leaf_text ns) (leaf_text n)
      ∙ ap (λ (u : List ℕ). root_text root ++ u) (sym (flat_map-append leaf_text ns (n ∷ []) ∙ ap (λ (u : List ℕ). flat_map leaf_text ns ++ u) (append-nil (leaf_text n))));
  is_root = i.is_root;
  are_numbers = numbers_more ns n i.are_numbers some fits;
  few = omega (arith, few, length-append ns (n ∷ []));
}
