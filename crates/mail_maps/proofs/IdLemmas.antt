-- Ids that a header names, in one text.
use Rattle.std.proofs.Common.{◌≡◌, ◌≢◌, ℕ, Bool, true, false, not, ◌||◌, eqb, ◌+◌, ◌<◌, length, get_or, take, List, [], ◌∷◌, ◌++◌, Option, Some, None, option_to_list, refl, sym, ap, ◌∙◌, subst, append_assoc}
use Rattle.std.specs.List.{flat_map}
use Rattle.std.proofs.lemmas.List.{append-nil, take_more}
use Rattle.std.specs.Option.{unwrap_or}
use Rattle.text_words.specs.Cuts.{Each}
use Rattle.text_words.specs.Sequence.{Sequence, Starts}
use Rattle.mail_header.specs.Bracketed.{is_bracketed_octet, IsBracketPiece, HasPieces}
use Rattle.mail_header.specs.Bracketed.IsBracketPiece.{InBrackets, Passed}
use Rattle.thread_rule.specs.Ids.{is_within, ids_in}
use Rattle.thread_rule.proofs.IdLemmas.{id_first, nothing_in}
use Rattle.mail_maps.specs.Envelope.{AreIdsOf}
use Rattle.mail_maps.specs.Envelope.AreIdsOf.{NoIds, Ids}
use Rattle.mail_maps.specs.reading.EndedIds.{ended}

-- none of them has an end inside
abbrev pub AreWithin : List (List ℕ) → Type 0
AreWithin [] = Unit {0}
AreWithin (id ∷ ids) = Each is_within id × AreWithin ids

-- an octet of a piece in brackets is none that ends an id
no_end : (a b c : Bool) → not (a || b || c) ≡ true → not b ≡ true
no_end true b c is = absurd (let f : false ≡ true = is in cc)
no_end false true c is = absurd (let f : false ≡ true = is in cc)
no_end false false c is = refl

within : (x : List ℕ) → Each is_bracketed_octet x → Each is_within x
within [] e = tt
within (c ∷ x) e = (no_end (eqb c 60) (eqb c 62) _ e.0, within x e.1)

-- neither have pieces in brackets
of_pieces : (pieces : List (Option (List ℕ))) (t : List ℕ) → Sequence IsBracketPiece pieces t → AreWithin (flat_map option_to_list pieces)
of_pieces [] t are = tt
of_pieces (piece ∷ pieces) t are = by piece are.unit are.rest are.is (of_pieces pieces are.rest are.more)
  where
    by : (o : Option (List ℕ)) (u rest : List ℕ) → IsBracketPiece o u rest → AreWithin (flat_map option_to_list pieces) → AreWithin (option_to_list o ++ flat_map option_to_list pieces)
    by _ _ _ (InBrackets x rest run) more = (within x run.0, more)
    by _ _ _ (Passed c rest passed) more = more

pieces_within : (names : List (List ℕ)) (t : List ℕ) → HasPieces names t → AreWithin names
pieces_within names t has = subst AreWithin (sym has.names_are) (of_pieces has.pieces t has.are)

-- nor has an id of a field
pub field_within : (raw : Option (List ℕ)) (ids : List (List ℕ)) → AreIdsOf raw ids → AreWithin ids
field_within _ _ NoIds = tt
field_within _ _ (Ids raw None is) = tt
field_within _ _ (Ids raw (Some names) is) = pieces_within names _ is.1

-- the ids of two lists, one after the other
pub both_within : (xs ys : List (List ℕ)) → AreWithin xs → AreWithin ys → AreWithin (xs ++ ys)
both_within [] ys e f = f
both_within (x ∷ xs) ys e f = (e.0, both_within xs ys e.1 f)

pub ended_append : (xs ys : List (List ℕ)) → ended (xs ++ ys) ≡ ended xs ++ ended ys
ended_append [] ys = refl
ended_append (x ∷ xs) ys =
    ap (λ (t : List ℕ). (x ++ 62 ∷ []) ++ t) (ended_append xs ys) ∙ sym (append_assoc (x ++ 62 ∷ []) (ended xs) (ended ys))

-- a text of ids, each with its end, has these ids
pub ids_ended : (ids : List (List ℕ)) → AreWithin ids → ids_in (ended ids) ≡ ids
ids_ended [] e = nothing_in
ids_ended (id ∷ ids) e =
    ap ids_in (append_assoc id (62 ∷ []) (ended ids)) ∙ id_first id (ended ids) e.0 ∙ ap (λ (xs : List (List ℕ)). id ∷ xs) (ids_ended ids e.1)

-- so has that of the ids of three fields
pub three_ended : (p q r : Option (List ℕ)) (xs ys zs : List (List ℕ)) (text : List ℕ) → AreIdsOf p xs → AreIdsOf q ys → AreIdsOf r zs
    → text ≡ ended xs ++ ended ys ++ ended zs → ids_in text ≡ xs ++ ys ++ zs
three_ended p q r xs ys zs text f g h e =
    let ids : List (List ℕ) = xs ++ ys ++ zs in
    let whole : text ≡ ended ids =
    e ∙ ap (λ (t : List ℕ). t ++ ended zs) (sym (ended_append xs ys)) ∙ sym (ended_append (xs ++ ys) zs) in
    ap ids_in whole ∙ ids_ended ids (both_within (xs ++ ys) zs (both_within xs ys (field_within p xs f) (field_within q ys g)) (field_within r zs h))

-- one id more
pub ended_more : (ids : List (List ℕ)) (id : List ℕ) → ended (ids ++ id ∷ []) ≡ ended ids ++ (id ++ 62 ∷ [])
ended_more [] id = append-nil (id ++ 62 ∷ [])
ended_more (x ∷ xs) id = ap (λ (t : List ℕ). (x ++ 62 ∷ []) ++ t) (ended_more xs id) ∙ sym (append_assoc (x ++ 62 ∷ []) (ended xs) (id ++ 62 ∷ []))

-- one turn of a loop over ids: x is the id at i, which was read as y
pub push_turn : (before now after : List ℕ) (ids : List (List ℕ)) (i : ℕ) (x y : List ℕ) → i < length ids → x ≡ get_or ids i x → y ≡ x → now ≡ before ++ ended (take i ids)
    → after ≡ now ++ (y ++ 62 ∷ []) → after ≡ before ++ ended (take (i + 1) ids)
push_turn before now after ids i x y l e is so_far pushed =
    pushed ∙ ap (λ (t : List ℕ). t ++ (y ++ 62 ∷ [])) so_far ∙ append_assoc before (ended (take i ids)) (y ++ 62 ∷ [])
    ∙ ap (λ (t : List ℕ). before ++ t)
    (ap (λ (z : List ℕ). ended (take i ids) ++ (z ++ 62 ∷ [])) is ∙ sym (ended_more (take i ids) x)
    ∙ ap ended (ap (λ (z : List ℕ). take i ids ++ z ∷ []) e ∙ sym (take_more ids i x l)))
