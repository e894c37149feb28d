-- Pieces in angle brackets.
use Rattle.std.proofs.Common.{◌≡◌, ◌≢◌, ℕ, ◌<◌, Bool, true, false, List, [], ◌∷◌, ◌++◌, length, cond, refl, sym, ap, ◌∙◌, append_assoc, Option, Some, None, option_to_list, arith}
use Rattle.std.specs.List.{flat_map}
use Rattle.std.proofs.lemmas.Grind.{flat_map-append}
use Rattle.std.proofs.lemmas.List.{append-nil, append_cancel_left, length-append}
use Rattle.text_words.specs.Cuts.{IsRun}
use Rattle.text_words.specs.Sequence.{SameStart, IsDetermined}
use Rattle.text_words.proofs.CutLemmas.{one_run}
use Rattle.text_words.proofs.SequenceLemmas.{Behind, begins, one_more, all_done, one_reading}
use Rattle.mail_header.specs.Lines.{unfolded}
use Rattle.mail_header.specs.Bracketed.{is_bracketed_octet, IsBracketPiece, InBrackets, Passed, HasPieces}
use Rattle.mail_header.specs.reading.HeaderLines.{TakesBlock, is_of_line_end, kept_header_octet}

-- an octet more is kept, or dropped with its line end
pub kept_more : (c : ℕ) (t old new whole : List ℕ) → old ++ unfolded (c ∷ t) ≡ whole → new ≡ old ++ kept_header_octet c t → new ++ unfolded t ≡ whole
kept_more c t old new whole h e = ap (λ (u : List ℕ). u ++ unfolded t) e ∙ append_assoc old (kept_header_octet c t) (unfolded t)
    ∙ ap (λ (u : List ℕ). old ++ u) (by (is_of_line_end c t)) ∙ h
  where
    by : (q : Bool) → cond q [] (c ∷ []) ++ unfolded t ≡ cond q (unfolded t) (c ∷ unfolded t)
    by true = refl
    by false = refl

closed : (x s : List ℕ) → (60 ∷ (x ++ 62 ∷ [])) ++ s ≡ 60 ∷ (x ++ 62 ∷ s)
closed x s = ap (λ (u : List ℕ). 60 ∷ u) (append_assoc x (62 ∷ []) s)

same : (v w : Option (List ℕ)) (x y s t : List ℕ) → x ++ s ≡ y ++ t → v ≡ w → x ≡ y → SameStart v w x y s t
same v w x y s t e p q = record { value = p; unit = q; rest = append_cancel_left y s t (ap (λ (u : List ℕ). u ++ s) (sym q) ∙ e) }

one_piece : (v w : Option (List ℕ)) (x y s t : List ℕ) → x ++ s ≡ y ++ t → IsBracketPiece v x s → IsBracketPiece w y t → SameStart v w x y s t
one_piece _ _ _ _ s t e (InBrackets x _ r) (InBrackets y _ q) =
    let w : 60 ∷ (x ++ 62 ∷ s) ≡ 60 ∷ (y ++ 62 ∷ t) = sym (closed x s) ∙ e ∙ closed y t in
    let inner : x ++ 62 ∷ s ≡ y ++ 62 ∷ t = cc in
    let c = one_run is_bracketed_octet x s y t 62 r.0 q.0 refl inner in
    same _ _ _ _ s t e (ap (λ (u : List ℕ). Some u) c.front) (ap (λ (u : List ℕ). 60 ∷ (u ++ 62 ∷ [])) c.front)
one_piece _ _ _ _ s t e (InBrackets x _ r) (Passed c _ n) = absurd (n x s r (sym e ∙ closed x s))
one_piece _ _ _ _ s t e (Passed c _ n) (InBrackets x _ r) = absurd (n x t r (e ∙ closed x t))
one_piece _ _ _ _ s t e (Passed c _ n) (Passed d _ m) = let h : c ≡ d = cc in same _ _ _ _ s t e refl (ap (λ (u : ℕ). u ∷ []) h)

some_piece : (v : Option (List ℕ)) (x s : List ℕ) → IsBracketPiece v x s → x ≢ []
some_piece _ _ s (InBrackets x _ r) = λ e. absurd cc
some_piece _ _ s (Passed c _ n) = λ e. absurd cc

-- a text begins with one piece at most: a name in angle brackets, or an octet that is passed over
pub piece_determined : IsDetermined IsBracketPiece
piece_determined = record { one = one_piece; some = some_piece }

-- these pieces were read, and rest is left
pub record Gathered (names : List (List ℕ)) (rest b : List ℕ) : Type 0 where
  pub pieces : List (Option (List ℕ))
  pub behind : Behind IsBracketPiece pieces rest b
  pub names_are : names ≡ flat_map option_to_list pieces

-- before any piece was read, there are no names, and the whole text is left
pub nothing_gathered : (b : List ℕ) → Gathered [] b b
nothing_gathered b = record { pieces = []; behind = begins IsBracketPiece b; names_are = refl }

-- where what stands at the front of the rest was taken, the names are those with what it added, and what follows it is left
pub gathered_more : (old new : List (List ℕ)) (rest more b : List ℕ) → Gathered old rest b → TakesBlock rest more old new → Gathered new more b
gathered_more old new rest more b g t = record {
  pieces = g.pieces ++ t.value ∷ [];
  behind = one_more piece_determined g.pieces t.value t.unit more rest b g.behind t.whole t.is;
  names_are = t.added ∙ ap (λ (u : List (List ℕ)). u ++ option_to_list t.value) g.names_are
      ∙ ap (λ (u : List (List ℕ)). flat_map option_to_list g.pieces ++ u) (sym (append-nil (option_to_list t.value)))
      ∙ sym (flat_map-append option_to_list g.pieces (t.value ∷ []));
}

-- where nothing is left, the names are those that the whole text has
pub gathered_all : (names : List (List ℕ)) (rest b : List ℕ) → Gathered names rest b → rest ≡ [] → HasPieces names b
gathered_all names rest b g e = record { pieces = g.pieces; are = all_done g.pieces rest b g.behind e; names_are = g.names_are }

-- what is left when a piece was taken is shorter than the text
pub takes_some : (text rest : List ℕ) (old new : List (List ℕ)) → TakesBlock text rest old new → length rest < length text
takes_some text rest old new t = by t.unit (some_piece t.value t.unit rest t.is) t.whole
  where
    by : (x : List ℕ) → x ≢ [] → text ≡ x ++ rest → length rest < length text
    by [] n e = absurd (n refl)
    by (c ∷ x) n e = omega (arith, ap length e, length-append (c ∷ x) rest)

-- octets in angle brackets at the front of a text are taken, and added as a name
pub takes_piece : (text x rest : List ℕ) (old new : List (List ℕ)) → IsRun is_bracketed_octet x → text ≡ 60 ∷ (x ++ 62 ∷ rest) → new ≡ old ++ x ∷ [] → TakesBlock text rest old new
takes_piece text x rest old new r e h = record { value = Some x; unit = 60 ∷ (x ++ 62 ∷ []); whole = e ∙ sym (closed x rest); is = InBrackets x rest r; added = h }

-- an octet that begins no name in angle brackets is passed over, and adds no name
pub takes_octet : (text rest : List ℕ) (c : ℕ) (old : List (List ℕ)) → text ≡ c ∷ rest → ((x y : List ℕ) → IsRun is_bracketed_octet x → text ≢ 60 ∷ (x ++ 62 ∷ y))
    → TakesBlock text rest old old
takes_octet text rest c old e n = record { value = None; unit = c ∷ []; whole = e; is = Passed c rest (λ x y r w. n x y r (e ∙ w)); added = sym (append-nil old) }

-- a text has one list of pieces
pub one_names : (m n : List (List ℕ)) (b : List ℕ) → HasPieces m b → HasPieces n b → m ≡ n
one_names m n b h k = h.names_are ∙ ap (flat_map option_to_list) (one_reading piece_determined h.pieces k.pieces b h.are k.are) ∙ sym k.names_are
