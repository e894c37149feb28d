-- The language tags among lexemes, one after another.
use Rattle.std.proofs.Common.{◌≡◌, ◌∙◌, Bool, true, false, cond, List, [], ◌∷◌, ◌++◌, map, refl, sym, ap, append_assoc}
use Rattle.std.specs.List.{filter}
use Rattle.serde_json.specs.Data.{Data}
use Rattle.mime_fields.specs.Parameters.{is_token}
use Rattle.header_tokens.specs.Tokens.{Spelled}
use Rattle.body_parts.specs.Languages.{tags}
use Rattle.json_texts.specs.Texts.{text_data}

tags_both : (s : Spelled) (ts : List Spelled) → map text_data (tags (s ∷ ts)) ≡ map text_data (tags (s ∷ [])) ++ map text_data (tags ts)
tags_both s ts = by (is_token s)
  where
    by : (q : Bool) → map text_data (map (λ (x : Spelled). x.text) (cond q (s ∷ filter is_token ts) (filter is_token ts)))
        ≡ map text_data (map (λ (x : Spelled). x.text) (cond q (s ∷ []) [])) ++ map text_data (tags ts)
    by true = refl
    by false = refl

-- one lexeme more
pub tag_more : (before after : List Data) (s : Spelled) (rest more : List Spelled) (all : List Data) → rest ≡ s ∷ more → after ≡ before ++ map text_data (tags (s ∷ []))
    → before ++ map text_data (tags rest) ≡ all → after ++ map text_data (tags more) ≡ all
tag_more before after s rest more all e f g =
    ap (λ (u : List Data). u ++ map text_data (tags more)) f ∙ append_assoc before (map text_data (tags (s ∷ []))) (map text_data (tags more))
    ∙ ap (λ (u : List Data). before ++ u) (sym (ap (λ (u : List Spelled). map text_data (tags u)) e ∙ tags_both s more)) ∙ g
