-- Previews of texts (RFC 8621 section 4.1.4).
use Rattle.std.specs.Prelude.{◌≡◌, ℕ, zero, suc, Bool, false, not, if◌then◌else◌, List, [], ◌∷◌, ◌++◌}
use Rattle.std.specs.Bool.{MatchBool}
use Rattle.text_words.specs.Cuts.{back}
use Rattle.text_words.specs.Octets.{is_white}
use Rattle.mime_tree.specs.declared.part.Part.{Part}
use Rattle.mime_tree.specs.Roles.{is_plain_part}
use Rattle.body_parts.specs.declared.previews.TheConstants.{MAX_PREVIEW_CHARACTERS}
use Rattle.body_parts.specs.Cuts.{is_continuation}
use Rattle.body_parts.specs.Texts.{HasText}

abbrev pub begins_word : List ℕ → Bool
begins_word [] = false
begins_word (c ∷ t) = not (is_white c)

-- an octet before a text: of a run of white space the last is a space, where a word follows
abbrev pub spaced : ℕ → List ℕ → List ℕ
spaced c t = if is_white c then (if begins_word t then 32 ∷ [] else []) else c ∷ []

-- each run of white space as one space, and none at the end
unfoldable pub single_spaced : List ℕ → List ℕ
single_spaced [] = []
single_spaced (c ∷ t) = spaced c t ++ single_spaced t

-- the first n characters of a text in UTF-8
unfoldable pub first_characters : ℕ → List ℕ → List ℕ
first_characters n [] = []
first_characters zero (c ∷ t) = if is_continuation c then c ∷ first_characters zero t else []
first_characters (suc n) (c ∷ t) = if is_continuation c then c ∷ first_characters (suc n) t else c ∷ first_characters n t

-- the words of a text with one space between two, up to MAX_PREVIEW_CHARACTERS characters
abbrev pub preview_of : List ℕ → List ℕ
preview_of text = first_characters MAX_PREVIEW_CHARACTERS (single_spaced (back is_white text))

-- the preview of a part of the octets b
pub record IsPreviewOf (b : List ℕ) (p : Part) (preview : List ℕ) : Type 0 where
  pub text : List ℕ
  pub problem : Bool
  pub has_text : HasText p b text problem
  pub is : preview ≡ preview_of text

-- the preview is that of the first plain text among the leaves, and empty without one
abbrev pub IsPreview : List ℕ → List Part → List ℕ → Type 0
IsPreview b [] preview = preview ≡ []
IsPreview b (p ∷ ps) preview = MatchBool (is_plain_part p) (IsPreviewOf b p preview) (IsPreview b ps preview)
